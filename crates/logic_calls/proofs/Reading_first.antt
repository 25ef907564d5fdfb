-- Which of the first functions read something.
use Rattle.std.proofs.Common.{◌≡◌, ℕ, zero, suc, ◌+◌, ◌<◌, ◌≤◌, ◌==◌, Bool, true, false, if◌then◌else◌, List, [], ◌∷◌, ◌++◌, length, get_or, refl, sym, ap, ◌∙◌, arith}
use Rattle.std.proofs.lemmas.Bool.{eqb-true, eqb-false}
use Rattle.acsl_trees.specs.Tree.{view_tree}
use Rattle.acsl_expand.specs.declared.expansion.Meant.{Meant}
use Rattle.acsl_expand.specs.Expansion.{view_meant, view_all, definition_at}
use Rattle.acsl_encode.specs.Told.{Asked, reads, reads_first}
use Rattle.logic_trees.specs.Asking.{told_in}

pub told_there : (xs : List Bool) (f : ℕ) (b : Bool) → f < length xs → b ≡ get_or xs f b → b ≡ told_in xs f
told_there [] f b l is = absurd (omega (arith, l))
told_there (x ∷ xs) zero b l is = is
told_there (x ∷ xs) (suc f) b l is = told_there xs f b (omega (arith, l)) is

pub told_past : (xs : List Bool) (f : ℕ) → length xs ≤ f → false ≡ told_in xs f
told_past [] f l = refl
told_past (x ∷ xs) zero l = absurd (omega (arith, l))
told_past (x ∷ xs) (suc f) l = told_past xs f (omega (arith, l))

pub ruleset told_laws = (told_there, told_past)

told_last : (xs : List Bool) (b : Bool) (f : ℕ) → f ≡ length xs → told_in (xs ++ b ∷ []) f ≡ b
told_last [] b zero e = refl
told_last [] b (suc f) e = absurd (omega (arith, e))
told_last (x ∷ xs) b zero e = absurd (omega (arith, e))
told_last (x ∷ xs) b (suc f) e = told_last xs b f (omega (arith, e))

told_other : (xs : List Bool) (b : Bool) (f : ℕ) → (f ≡ length xs → ⊥) → told_in (xs ++ b ∷ []) f ≡ told_in xs f
told_other [] b zero h = absurd (h refl)
told_other [] b (suc f) h = refl
told_other (x ∷ xs) b zero h = refl
told_other (x ∷ xs) b (suc f) h = told_other xs b f (λ e. h (ap suc e))

told_more : (xs : List Bool) (b : Bool) (f : ℕ) → told_in (xs ++ b ∷ []) f ≡ (if f == length xs then b else told_in xs f)
told_more xs b f = by (f == length xs) refl
  where
    by : (t : Bool) → (f == length xs) ≡ t → told_in (xs ++ b ∷ []) f ≡ (if t then b else told_in xs f)
    by true e = told_last xs b f (eqb-true f (length xs) e)
    by false e = told_other xs b f (eqb-false f (length xs) e)

definition_is : (ds : List Meant) (n : ℕ) (d : Meant) → n < length ds → d ≡ get_or ds n d → definition_at (view_all ds) n ≡ view_meant d
definition_is [] n d l is = absurd (omega (arith, l))
definition_is (e ∷ ds) zero d l is = ap view_meant (sym is)
definition_is (e ∷ ds) (suc n) d l is = definition_is ds n d (omega (arith, l)) is

pub first_turn : (own : Asked) (ds : List Meant) (n : ℕ) (d : Meant) (xs ys : List Bool) (b : Bool) → n < length ds → d ≡ get_or ds n d → length xs ≡ n
    → ((f : ℕ) → told_in xs f ≡ reads_first own (view_all ds) n f) → b ≡ reads own (told_in xs) (view_tree d.body) → ys ≡ xs ++ b ∷ [] → (f : ℕ)
    → told_in ys f ≡ reads_first own (view_all ds) (n + 1) f
first_turn own ds n d xs ys b l is many before made pushed f =
    let whole : told_in xs ≡ reads_first own (view_all ds) n = λ i g. before g i in
    let body = definition_is ds n d l is in
    let own_is : b ≡ reads own (reads_first own (view_all ds) n) (definition_at (view_all ds) n).body =
    made ∙ (λ i. reads own (whole i) (sym body i).body) in
    let more : suc n ≡ n + 1 = omega arith in
    ap (λ zs. told_in zs f) pushed ∙ told_more xs b f ∙ (λ i. if f == many i then own_is i else before f i) ∙ ap (λ m. reads_first own (view_all ds) m f) more

-- The names that quantifiers and `\let` bind have numbers one after another.
use Rattle.std.proofs.Common.{◌≡◌, ℕ, suc, ◌<◌, Bool, true, false, List, [], ◌∷◌, ◌++◌, length, Option, Some, refl, ap, sym, ◌∙◌, arith, length-append}
use Rattle.std.specs.Str.{bytes_eq}
use Rattle.std.proofs.lemmas.Slice.Eq.{bytes_eq-Decides}
use Rattle.name_table.specs.Nesting.{meaning_in, declared_in}
use Rattle.name_table.proofs.Hiding.{hides, enters}
use Rattle.acsl_trees.specs.declared.operands.TermType.{TermType}
use Rattle.acsl_names.specs.declared.names.Bound.{Bound}
use Rattle.acsl_preds.specs.Binders.{inside, with_bound, is_new}
use Rattle.acsl_well_typed.specs.Ranges.{AreNumbered}

pub same_bytes : (x y : List ℕ) → bytes_eq x y ≡ true → x ≡ y
same_bytes x y h = (bytes_eq-Decides x y).0 h

pub other_bytes : (x y : List ℕ) → bytes_eq x y ≡ false → x ≡ y → ⊥
other_bytes x y h e = let k : bytes_eq x y ≡ true = (bytes_eq-Decides x y).1 e in absurd cc

pub more_length : (ts : List TermType) (u : TermType) → length (ts ++ u ∷ []) ≡ suc (length ts)
more_length ts u = omega (arith, length-append ts (u ∷ []))

pub some_same : {X : Type 0} (x y : X) → ◌≡◌ {A = Option X} (Some x) (Some y) → x ≡ y
some_same x y h = cc

pub more_numbered : (b : Bound) (x : List ℕ) (u : TermType) → AreNumbered b → is_new b x ≡ true → AreNumbered (with_bound b x u)
more_numbered b x u f new y i h = by_same (bytes_eq y x) refl
  where
    by_same : (q : Bool) → bytes_eq y x ≡ q → i < length (b.types ++ u ∷ [])
    by_same true e =
        let at : Some (length b.types) ≡ Some i = sym ((hides b.scopes x (length b.types)).new new)
        ∙ ap (λ z. meaning_in (declared_in b.scopes x (length b.types)) z) (sym (same_bytes y x e)) ∙ h in
        let is : length b.types ≡ i = some_same _ _ at in
        omega (arith, is, more_length b.types u)
    by_same false e =
        let old : i < length b.types = f y i (sym ((hides b.scopes x (length b.types)).others y (other_bytes y x e)) ∙ h) in
        omega (arith, old, more_length b.types u)

pub inside_numbered : (b : Bound) → AreNumbered b → AreNumbered (inside b)
inside_numbered b f x i h = f x i (sym ((enters b.scopes).same x) ∙ h)

pub new_inside : (b : Bound) (x : List ℕ) → is_new (inside b) x ≡ true
new_inside b x = (enters b.scopes).free x

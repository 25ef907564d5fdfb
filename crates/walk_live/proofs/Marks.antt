-- Temporaries of several expressions and statements, marked one after the other.
use Rattle.std.proofs.Common.{◌≡◌, ◌<◌, ◌≤◌, ℕ, zero, suc, ◌+◌, Bool, true, false, ◌||◌, List, [], ◌∷◌, ◌++◌, map, drop, take, length, get_or, refl, sym, ap, ◌∙◌, arith}
use Rattle.std.proofs.lemmas.List.{at_drop_more}
use Rattle.std.proofs.Math.Bool.{or_assoc}
use Rattle.typed_prog.specs.declared.tree.Value.{Value}
use Rattle.typed_prog.specs.Tree.{values_of}
use Rattle.typed_prog.specs.View.{view_value, view_values}
use Rattle.checked_trees.specs.declared.steps.Step.{Step}
use Rattle.checked_trees.specs.View.{view_step, view_steps}
use Rattle.plain_runs.specs.Kept.{temps, some_temps}
use Rattle.program_steps.specs.Temporaries.{Temporaries, uses, some_use, live, all_live}
use Rattle.walk_live.specs.declared.behind.Behind.{Behind}
use Rattle.walk_live.specs.Bits.{bits, behind_each, unused_behind}
use Rattle.walk_live.proofs.Bitwise.{bits_same}

or_turn : (a b c : Bool) → (a || (b || c)) ≡ (b || (a || c))
or_turn true true c = refl
or_turn true false c = refl
or_turn false b c = refl

pub take_suc : {X : Type 0} (xs : List X) (i : ℕ) (x : X) → i < length xs → x ≡ get_or xs i x → take (suc i) xs ≡ take i xs ++ x ∷ []
take_suc [] i x lt e = absurd (omega (arith, lt))
take_suc (y ∷ ys) zero x lt e = ap (λ z. z ∷ []) (sym e)
take_suc (y ∷ ys) (suc i) x lt e = ap (λ zs. y ∷ zs) (take_suc ys i x (omega (arith, lt)) e)

pub take_next : {X : Type 0} (xs : List X) (i : ℕ) (x : X) → i < length xs → x ≡ get_or xs i x → take (i + 1) xs ≡ take i xs ++ x ∷ []
take_next xs i x lt e = let n : i + 1 ≡ suc i = omega arith in ap (λ n. take n xs) n ∙ take_suc xs i x lt e

-- ---- expressions

some_more : (es : List Value) (e : Value) (n : ℕ) → some_use (values_of (view_values (es ++ e ∷ []))) n ≡ (uses (view_value e) n || some_use (values_of (view_values es)) n)
some_more [] e n = refl
some_more (x ∷ es) e n = ap (λ b. uses (view_value x) n || b) (some_more es e n) ∙ or_turn (uses (view_value x) n) (uses (view_value e) n) (some_use (values_of (view_values es)) n)

pub use_next : (c : ℕ) (f : Temporaries) (es : List Value) (i : ℕ) (e : Value) (new : List Bool) → i < length es → e ≡ get_or es i e
    → new ≡ bits c (λ n. uses (view_value e) n || (some_use (values_of (view_values (take i es))) n || f n)) → new ≡ bits c (λ n. some_use (values_of (view_values (take (i + 1) es))) n || f n)
use_next c f es i e new lt is h = h ∙ bits_same c _ _ (λ n.
    sym (or_assoc (uses (view_value e) n) (some_use (values_of (view_values (take i es))) n) (f n))
    ∙ ap (λ b. b || f n) (sym (some_more (take i es) e n) ∙ ap (λ xs. some_use (values_of (view_values xs)) n) (sym (take_next es i e lt is))))

-- ---- statements

temps_more : (ss : List Step) (s : Step) (n : ℕ) → some_temps (view_steps (ss ++ s ∷ [])) n ≡ (temps (view_step s) n || some_temps (view_steps ss) n)
temps_more [] s n = refl
temps_more (x ∷ ss) s n = ap (λ b. temps (view_step x) n || b) (temps_more ss s n) ∙ or_turn (temps (view_step x) n) (temps (view_step s) n) (some_temps (view_steps ss) n)

pub temps_next : (c : ℕ) (f : Temporaries) (ss : List Step) (i : ℕ) (s : Step) (new : List Bool) → i < length ss → s ≡ get_or ss i s
    → new ≡ bits c (λ n. temps (view_step s) n || (some_temps (view_steps (take i ss)) n || f n)) → new ≡ bits c (λ n. some_temps (view_steps (take (i + 1) ss)) n || f n)
temps_next c f ss i s new lt is h = h ∙ bits_same c _ _ (λ n.
    sym (or_assoc (temps (view_step s) n) (some_temps (view_steps (take i ss)) n) (f n))
    ∙ ap (λ b. b || f n) (sym (temps_more (take i ss) s n) ∙ ap (λ xs. some_temps (view_steps xs) n) (sym (take_next ss i s lt is))))

-- a branch, in the order in which its arms are marked
pub branch_marked : (c : ℕ) (f : Temporaries) (a b : ℕ → Bool) (new : List Bool) → new ≡ bits c (λ n. a n || (b n || f n)) → new ≡ bits c (λ n. (a n || b n) || f n)
branch_marked c f a b new h = h ∙ bits_same c _ _ (λ n. sym (or_assoc (a n) (b n) (f n)))

-- the statement before those that are told
pub one_before : (c : ℕ) (os : List Temporaries) (f : Temporaries) (ss : List Step) (i j : ℕ) (s : Step) (new : List Bool) → i ≡ j + 1 → i ≤ length ss → s ≡ get_or ss j s
    → new ≡ bits c (live (view_step s) os (all_live (view_steps (drop i ss)) os f)) → new ≡ bits c (all_live (view_steps (drop j ss)) os f)
one_before c os f ss i j s new e l is h =
    h ∙ ap (λ k. bits c (live (view_step s) os (all_live (view_steps (drop k ss)) os f))) e
    ∙ ap (λ x. bits c (live (view_step x) os (all_live (view_steps (drop (j + 1) ss)) os f))) is
    ∙ sym (at_drop_more (λ xs. bits c (all_live (view_steps xs) os f)) ss j s (omega (arith, e, l)))

-- and what is behind it
pub behind_before : (c : ℕ) (os : List Temporaries) (f : Temporaries) (ss : List Step) (i j : ℕ) (s : Step) (made new : List Behind) (b u : List Bool) → i ≡ j + 1 → i ≤ length ss → s ≡ get_or ss j s
    → made ≡ behind_each c os f (map view_step (drop i ss)) → b ≡ bits c (all_live (view_steps (drop i ss)) os f)
    → u ≡ bits c (unused_behind (view_step s) os (all_live (view_steps (drop i ss)) os f)) → new ≡ made ++ record { live = b; unused = u } ∷ []
    → new ≡ behind_each c os f (map view_step (drop j ss))
behind_before c os f ss i j s made new b u e l is hm hb hu push =
    let at : List Step → Step → List Behind = λ xs x.
    behind_each c os f (map view_step xs) ++ record { live = bits c (all_live (view_steps xs) os f); unused = bits c (unused_behind (view_step x) os (all_live (view_steps xs) os f)) } ∷ [] in
    push ∙ (λ k. hm k ++ record { live = hb k; unused = hu k } ∷ []) ∙ ap (λ n. at (drop n ss) s) e ∙ ap (at (drop (j + 1) ss)) is
    ∙ sym (at_drop_more (λ xs. behind_each c os f (map view_step xs)) ss j s (omega (arith, e, l)))

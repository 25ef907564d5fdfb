-- Variables that typed core statements set are in scope, or declared inside of them.
use Rattle.std.proofs.Common.{◌≡◌, ℕ, ◌≤◌, Bool, true, false, ◌||◌, List, [], ◌∷◌, Option, Some, None, refl, sym, ap, ◌∙◌, inl, inr, subst, arith}
use Rattle.std.specs.Prelude.{◌⊎◌, ◌==◌}
use Rattle.std.proofs.lemmas.Bool.{false≢true}
use Rattle.std.proofs.lemmas.Bool.Decides.{nat_tests}
use Rattle.wp_base.specs.declared.kinds.Kind.{Kind}
use Rattle.typed_prog.specs.declared.operators.Path.{Path}
use Rattle.c_runs.specs.Program.{Facts, Function}
use Rattle.c_runs.specs.Core.{Target, Core, set, store, start, call, branch, repeat, around, exit, give, claim, scope, Cores, end, then_}
use Rattle.c_runs.specs.Tree.{Goal}
use Rattle.c_runs.specs.Adding.{goal_of, step_of, steps_of}
use Rattle.plain_runs.specs.Touched.{is_local, goal_sets, sets, some_sets}
use Rattle.plain_runs.specs.Fitting.{Shape, LeadsTo, to_local, to_global, Takes, Declares, Receives, by_temporary, by_place, by_variable, with_name, with_names}
use Rattle.plain_normal.specs.Typed.{IsReceived, none_received, dropped, received, CoreIsTyped, CoresAreTyped}

same_number : (x y : ℕ) → (x == y) ≡ true → x ≡ y
same_number x y e = grind (arith, nat_tests, e)

module _ (p : Facts) (s : Shape) where
  -- in scope, or from this number on
  abbrev IsThere : (ℕ → Bool) → ℕ → ℕ → Type 0
  IsThere f low x = (f x ≡ true) ⊎ (low ≤ x)

  -- what a block declares
  declared_there : (f : ℕ → Bool) (low : ℕ) (ys : List ℕ) → Declares p s f low ys → (x : ℕ) → with_names ys f x ≡ true → IsThere f low x
  declared_there f low [] h x e = inl e
  declared_there f low (y ∷ ys) h x e = by (declared_there (with_name y f) low ys h.3 x e) where
    named : (b : Bool) → (y == x) ≡ b → (b || f x) ≡ true → IsThere f low x
    named true e k = inr (subst (λ z. low ≤ z) (same_number y x e) h.1)
    named false e k = inl k

    by : IsThere (with_name y f) low x → IsThere f low x
    by (inl k) = named (y == x) refl k
    by (inr le) = inr le

  path_there : (f : ℕ → Bool) (path : Path) (k : Kind) → LeadsTo p s f path k → (x : ℕ) → is_local path.root x ≡ true → f x ≡ true
  path_there f path k (to_local y v root ss found kind so) x e = subst (λ z. f z ≡ true) (same_number y x (sym (ap (λ r. is_local r x) root) ∙ e)) so
  path_there f path k (to_global y v root ss found kind) x e = absurd (false≢true (sym (ap (λ r. is_local r x) root) ∙ e))

  taken_there : (f : ℕ → Bool) (low y : ℕ) (k : Kind) → Takes p s f low y k → (x : ℕ) → (y == x) ≡ true → f x ≡ true
  taken_there f low y k h x e = subst (λ z. f z ≡ true) (same_number y x e) h.3

  receives_there : (f : ℕ → Bool) (low : ℕ) (k : Kind) (to : Goal) → Receives p s f low k to → (x : ℕ) → goal_sets to x ≡ true → f x ≡ true
  receives_there f low k to (by_temporary below same) x e = absurd (false≢true e)
  receives_there f low k to (by_place {path = path} way) x e = path_there f path k way x e
  receives_there f low k to (by_variable {x = y} takes) x e = taken_there f low y k takes x e

  goal_there : (f : ℕ → Bool) (low : ℕ) (g : Function Cores) (to : Target) → IsReceived p s f low g to → (x : ℕ) → goal_sets (goal_of s.variables to) x ≡ true → f x ≡ true
  goal_there f low g to (none_received none below) x e = absurd (false≢true e)
  goal_there f low g to dropped x e = absurd (false≢true e)
  goal_there f low g to (received {k = k} result way) x e = receives_there f low k (goal_of s.variables to) way x e

  in_either : {P : Type 0} (a b : Bool) → (a ≡ true → P) → (b ≡ true → P) → (a || b) ≡ true → P
  in_either true b f g e = f refl
  in_either false b f g e = g e

  module _ (functions : ℕ → Option (Function Cores)) where
    mutual
      core_there : (f : ℕ → Bool) (low : ℕ) (c : Core) → CoreIsTyped p s functions f low c → (x : ℕ) → sets (step_of s.variables c) x ≡ true → IsThere f low x
      core_there f low (set n e) h x k = absurd (false≢true k)
      core_there f low (store type l path es) h x k = inl (path_there f path h.0 h.1 x k)
      core_there f low (start y e) h x k = inl (taken_there f low y h.0 h.1 x k)
      core_there f low (call to n l es) h x k = inl (goal_there f low h.0 to h.3 x k)
      core_there f low (branch e a b) h x k =
          in_either (some_sets (steps_of s.variables a) x) (some_sets (steps_of s.variables b) x) (cores_there f low a h.2 x) (cores_there f low b h.3 x) k
      core_there f low (repeat l ss) h x k = wider l.declared low h.0 (cores_there f l.declared ss h.2 x k) where
        wider : (n low : ℕ) → low ≤ n → IsThere f n x → IsThere f low x
        wider n low le (inl e) = inl e
        wider n low le (inr g) = inr (omega (arith, le, g))
      core_there f low (around ss) h x k = cores_there f low ss h x k
      core_there f low (exit n) h x k = absurd (false≢true k)
      core_there f low (give None) h x k = absurd (false≢true k)
      core_there f low (give (Some e)) h x k = absurd (false≢true k)
      core_there f low (claim c) h x k = absurd (false≢true k)
      core_there f low (scope ys ss) h x k = by (cores_there (with_names ys f) low ss h.1 x k) where
        by : IsThere (with_names ys f) low x → IsThere f low x
        by (inl e) = declared_there f low ys h.0 x e
        by (inr le) = inr le

      pub cores_there : (f : ℕ → Bool) (low : ℕ) (cs : Cores) → CoresAreTyped p s functions f low cs → (x : ℕ) → some_sets (steps_of s.variables cs) x ≡ true → IsThere f low x
      cores_there f low end h x k = absurd (false≢true k)
      cores_there f low (then_ c cs) h x k = in_either (sets (step_of s.variables c) x) (some_sets (steps_of s.variables cs) x) (core_there f low c h.0 x) (cores_there f low cs h.1 x) k

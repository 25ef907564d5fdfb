-- What is put into a temporary, or it is used as, is of its kind.
use Rattle.std.proofs.Common.{◌≡◌, ℕ, Bool, true, false, nat_lt, ◌&&◌, if◌then◌else◌, Option, Some, None, sym, ap, subst, ◌∙◌, ◌⊎◌, inl, inr}
use Rattle.wp_base.specs.declared.kinds.CellKind.{CellKind}
use Rattle.typed_prog.specs.Tree as t
use Rattle.c_runs.specs.Program.{Function, Facts}
use Rattle.c_runs.specs.Core.{Target, nowhere, temporary, place, variable, Core, set, store, start, call, branch, repeat, around, exit, give, claim, scope, Cores, end, then_}
use Rattle.c_runs.specs.Adding.{goal_of, step_of, steps_of}
use Rattle.value_terms.specs.Typed.{kind_given, IsTyped, AreTyped}
use Rattle.goal_segments.specs.Told.{with_names}
use Rattle.typed_runs.specs.Fitting.{Shape, InScope}
use Rattle.typed_normal.specs.Typed.{core_scope, IsReceived, temporary_gets, place_gets, CoreIsTyped, CoresAreTyped}
use Rattle.temporary_kinds.specs.Kinds.{or_else, only_if, value_kind, values_kind, goal_kind, step_kind, steps_kind}
use Rattle.temporary_kinds.specs.Laws.{MentionedKindsAreTheirs}
use Rattle.temporary_kinds.proofs.Counted.{either, this_one}

same_some : {X : Type 0} (x y : X) → Some x ≡ Some y → x ≡ y
same_some x y h = cc

no_kind : (k : CellKind) → None ≡ Some k → ⊥
no_kind k e = absurd cc

module _ (p : Facts) (s : Shape) where
  used_kind : (n : ℕ) (b : Bool) (k : CellKind) → (if b then Some (s.temp_kind n) else None) ≡ Some k → s.temp_kind n ≡ k
  used_kind n true k is = same_some (s.temp_kind n) k is
  used_kind n false k is = absurd cc

  -- this temporary has this kind
  put_kind : (m n : ℕ) (l k : CellKind) → s.temp_kind m ≡ l → only_if m n (Some l) ≡ Some k → s.temp_kind n ≡ k
  put_kind m n l k same is =
      let there : (m ≡ n) × (Some l ≡ Some k) = this_one m n (Some l) k is in subst (λ i. s.temp_kind i ≡ k) there.0 (same ∙ same_some l k there.1)

  abbrev Theirs : (ℕ → Option CellKind) → Type 0
  Theirs kinds = (n : ℕ) (k : CellKind) → kinds n ≡ Some k → s.temp_kind n ≡ k

  either_theirs : (g h : ℕ → Option CellKind) → Theirs g → Theirs h → Theirs (λ n. or_else (g n) (h n))
  either_theirs g h first second n k is = by (either (g n) (h n) k is) where
    by : (g n ≡ Some k) ⊎ (h n ≡ Some k) → s.temp_kind n ≡ k
    by (inl here) = first n k here
    by (inr there) = second n k there

  module _ (f : InScope) where
    mutual
      value_theirs : (e : t.Value) → IsTyped p s.variables (core_scope p s f) e → (n : ℕ) (k : CellKind) → value_kind e n ≡ Some k → s.temp_kind n ≡ k
      value_theirs (t.typed (t.temporary m) type line) h n k is =
          put_kind m n (kind_given type) k (used_kind m (nat_lt m s.temporaries && true) (kind_given type) h) is
      value_theirs (t.typed (t.apply o es) type line) h n k is = values_theirs es h.0 n k is
      value_theirs (t.typed (t.constant z) type line) h n k is = absurd cc
      value_theirs (t.typed t.null type line) h n k is = absurd cc
      value_theirs (t.typed (t.logic c a b) type line) h n k is = elim h [ ]
      value_theirs (t.typed (t.choose c a b) type line) h n k is = elim h [ ]
      value_theirs (t.typed (t.effect e es) type line) h n k is = elim h [ ]

      values_theirs : (es : t.Values) → AreTyped p s.variables (core_scope p s f) es → (n : ℕ) (k : CellKind) → values_kind es n ≡ Some k → s.temp_kind n ≡ k
      values_theirs t.stop h n k is = absurd cc
      values_theirs (t.more e es) h n k is = either_theirs (value_kind e) (values_kind es) (value_theirs e h.0) (values_theirs es h.1) n k is

  -- where the result of a call goes
  goal_theirs : (f : InScope) (low : ℕ) (r : Option CellKind) (to : Target) → IsReceived p s f low r to → Theirs (goal_kind (goal_of s.variables to) r)
  goal_theirs f low r nowhere h n k is = absurd cc
  goal_theirs f low r (variable x) h n k is = absurd cc
  goal_theirs f low None (temporary m) h n k is = absurd (no_kind k (this_one m n None k is).1)
  goal_theirs f low (Some l) (temporary m) (temporary_gets same) n k is = put_kind m n l k same is
  goal_theirs f low r (place type l path es) (place_gets typed way) n k is = values_theirs f es typed n k is

  module _ (functions : ℕ → Option (Function Cores)) (results : ℕ → Option CellKind) (given : (n : ℕ) (g : Function Cores) → functions n ≡ Some g → results n ≡ g.result) where
    abbrev kinds_by : Core → ℕ → Option CellKind
    kinds_by a n = step_kind results (step_of s.variables a) n

    abbrev kinds_in : Cores → ℕ → Option CellKind
    kinds_in ss n = steps_kind results (steps_of s.variables ss) n

    mutual
      step_theirs : (f : InScope) (low : ℕ) (a : Core) → CoreIsTyped p s functions f low a → Theirs (kinds_by a)
      step_theirs f low (set m e) h n k is =
          either_theirs (value_kind e) (λ n. only_if m n (Some (kind_given (t.type_of e)))) (value_theirs f e h.0)
          (λ n k is. put_kind m n (kind_given (t.type_of e)) k (sym h.1) is) n k is
      step_theirs f low (store type l path es) h n k is = values_theirs f es h.typed n k is
      step_theirs f low (start x e) h n k is = value_theirs f e h.2.0 n k is
      step_theirs f low (call to g l es) h n k is =
          either_theirs (values_kind es) (goal_kind (goal_of s.variables to) (results g)) (values_theirs f es h.2.typed)
          (λ n k is. goal_theirs f low h.0.result to h.3 n k (ap (λ r. goal_kind (goal_of s.variables to) r n) (sym (given g h.0 h.1)) ∙ is)) n k is
      step_theirs f low (branch e a b) h n k is =
          either_theirs (value_kind e) (λ n. or_else (kinds_in a n) (kinds_in b n)) (value_theirs f e h.0)
          (either_theirs (kinds_in a) (kinds_in b) (steps_theirs f low a h.1) (steps_theirs f low b h.2)) n k is
      step_theirs f low (repeat l ss) h n k is = steps_theirs f l.declared ss h.2 n k is
      step_theirs f low (around ss) h n k is = steps_theirs f low ss h n k is
      step_theirs f low (exit j) h n k is = absurd cc
      step_theirs f low (give None) h n k is = absurd cc
      step_theirs f low (give (Some e)) h n k is = value_theirs f e h.2.0 n k is
      step_theirs f low (claim c) h n k is = absurd cc
      step_theirs f low (scope ys ss) h n k is = steps_theirs (with_names ys f) low ss h.1 n k is

      steps_theirs : (f : InScope) (low : ℕ) (ss : Cores) → CoresAreTyped p s functions f low ss → Theirs (kinds_in ss)
      steps_theirs f low end h n k is = absurd cc
      steps_theirs f low (then_ a ss) h n k is = either_theirs (kinds_by a) (kinds_in ss) (step_theirs f low a h.0) (steps_theirs f low ss h.1) n k is

pub mentioned_kinds_are_theirs : MentionedKindsAreTheirs
mentioned_kinds_are_theirs p s functions results given f low ss h = steps_theirs p s functions results given f low ss h

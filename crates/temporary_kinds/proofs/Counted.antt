-- What is set or used is counted.
use Rattle.std.proofs.Common.{◌≡◌, ◌<◌, ℕ, suc, ◌==◌, nat_lt, if◌then◌else◌, Bool, true, false, Option, Some, None, refl, ◌⊎◌, inl, inr, arith}
use Rattle.std.proofs.lemmas.Bool.Decides.{nat_tests}
use Rattle.wp_base.specs.declared.kinds.CellKind.{CellKind}
use Rattle.typed_prog.specs.declared.types.CoreType.{CoreType}
use Rattle.typed_prog.specs.Tree as t
use Rattle.c_runs.specs.Tree.{Goal, nowhere, temporary, place, variable, Step, set, store, start, call, branch, repeat, around, exit, give, claim, scope, Steps, end, then_}
use Rattle.value_terms.specs.Typed.{kind_given}
use Rattle.temporary_kinds.specs.Kinds.{or_else, only_if, node_kind, value_kind, values_kind, given_kind, goal_kind, step_kind, steps_kind, greater, node_count, value_count, values_count, given_count, goal_count, step_count, steps_count}
use Rattle.temporary_kinds.specs.Laws.{MentionedAreCounted}

-- ---- numbers

in_first : (n a b : ℕ) → n < a → n < greater a b
in_first n a b h = by (nat_lt a b) refl where
  by : (c : Bool) → nat_lt a b ≡ c → n < (if c then b else a)
  by true is = grind (arith, nat_tests, is, h)
  by false is = h

in_second : (n a b : ℕ) → n < b → n < greater a b
in_second n a b h = by (nat_lt a b) refl where
  by : (c : Bool) → nat_lt a b ≡ c → n < (if c then b else a)
  by true is = h
  by false is = grind (arith, nat_tests, is, h)

-- ---- kinds that are there

pub either : (o u : Option CellKind) (k : CellKind) → or_else o u ≡ Some k → (o ≡ Some k) ⊎ (u ≡ Some k)
either (Some l) u k h = inl h
either None u k h = inr h

pub this_one : (m n : ℕ) (o : Option CellKind) (k : CellKind) → only_if m n o ≡ Some k → (m ≡ n) × (o ≡ Some k)
this_one m n o k h = by (m == n) refl h where
  by : (c : Bool) → (m == n) ≡ c → (if c then o else None) ≡ Some k → (m ≡ n) × (o ≡ Some k)
  by true is found = (grind (arith, nat_tests, is), found)
  by false is found = absurd cc

counted : (m n : ℕ) → m ≡ n → n < suc m
counted m n is = omega (arith, is)

both_below : (o u : Option CellKind) (k : CellKind) (n a b : ℕ) → (o ≡ Some k → n < a) → (u ≡ Some k → n < b) → or_else o u ≡ Some k → n < greater a b
both_below o u k n a b first second h = by (either o u k h) where
  by : (o ≡ Some k) ⊎ (u ≡ Some k) → n < greater a b
  by (inl is) = in_first n a b (first is)
  by (inr is) = in_second n a b (second is)

-- ---- expressions

mutual
  node_counted : (type : CoreType) (e : t.ValueNode) (n : ℕ) (k : CellKind) → node_kind type e n ≡ Some k → n < node_count e
  node_counted type (t.temporary m) n k h = counted m n (this_one m n (Some (kind_given type)) k h).0
  node_counted type (t.apply o es) n k h = values_counted es n k h
  node_counted type (t.constant z) n k h = absurd cc
  node_counted type t.null n k h = absurd cc
  node_counted type (t.logic c a b) n k h = absurd cc
  node_counted type (t.choose c a b) n k h = absurd cc
  node_counted type (t.effect e es) n k h = absurd cc

  value_counted : (e : t.Value) (n : ℕ) (k : CellKind) → value_kind e n ≡ Some k → n < value_count e
  value_counted (t.typed node type line) n k h = node_counted type node n k h

  values_counted : (es : t.Values) (n : ℕ) (k : CellKind) → values_kind es n ≡ Some k → n < values_count es
  values_counted t.stop n k h = absurd cc
  values_counted (t.more e es) n k h =
      both_below (value_kind e n) (values_kind es n) k n (value_count e) (values_count es) (value_counted e n k) (values_counted es n k) h

given_counted : (e : Option t.Value) (n : ℕ) (k : CellKind) → given_kind e n ≡ Some k → n < given_count e
given_counted None n k h = absurd cc
given_counted (Some e) n k h = value_counted e n k h

-- ---- statements

goal_counted : (to : Goal) (r : Option CellKind) (n : ℕ) (k : CellKind) → goal_kind to r n ≡ Some k → n < goal_count to
goal_counted nowhere r n k h = absurd cc
goal_counted (temporary m) r n k h = counted m n (this_one m n r k h).0
goal_counted (place cs type l path es) r n k h = values_counted es n k h
goal_counted (variable x) r n k h = absurd cc

module _ (results : ℕ → Option CellKind) where
  mutual
    step_counted : (s : Step) (n : ℕ) (k : CellKind) → step_kind results s n ≡ Some k → n < step_count s
    step_counted (set cs m e) n k h =
        both_below (value_kind e n) (only_if m n (Some (kind_given (t.type_of e)))) k n (value_count e) (suc m) (value_counted e n k)
        (λ is. counted m n (this_one m n (Some (kind_given (t.type_of e))) k is).0) h
    step_counted (store cs type l path es) n k h = values_counted es n k h
    step_counted (start cs x e) n k h = value_counted e n k h
    step_counted (call cs to g l es) n k h =
        both_below (values_kind es n) (goal_kind to (results g) n) k n (values_count es) (goal_count to) (values_counted es n k)
        (goal_counted to (results g) n k) h
    step_counted (branch cs e a b) n k h =
        both_below (value_kind e n) (or_else (steps_kind results a n) (steps_kind results b n)) k n (value_count e) (greater (steps_count a) (steps_count b))
        (value_counted e n k) (both_below (steps_kind results a n) (steps_kind results b n) k n (steps_count a) (steps_count b) (steps_counted a n k) (steps_counted b n k)) h
    step_counted (repeat l ss) n k h = steps_counted ss n k h
    step_counted (around ss) n k h = steps_counted ss n k h
    step_counted (exit j) n k h = absurd cc
    step_counted (give cs e) n k h = given_counted e n k h
    step_counted (claim c) n k h = absurd cc
    step_counted (scope ys ss) n k h = steps_counted ss n k h

    steps_counted : (ss : Steps) (n : ℕ) (k : CellKind) → steps_kind results ss n ≡ Some k → n < steps_count ss
    steps_counted end n k h = absurd cc
    steps_counted (then_ s ss) n k h =
        both_below (step_kind results s n) (steps_kind results ss n) k n (step_count s) (steps_count ss) (step_counted s n k) (steps_counted ss n k) h

pub mentioned_are_counted : MentionedAreCounted
mentioned_are_counted results ss n k h = steps_counted results ss n k h

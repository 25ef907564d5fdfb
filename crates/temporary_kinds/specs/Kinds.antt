-- Temporaries of a function, told by its statements: how many there are, and of which kind each is: that of what is put into it, or that it is used as.
use Rattle.std.specs.Prelude.{ℕ, zero, suc, ◌==◌, nat_lt, if◌then◌else◌, List, [], ◌∷◌, Option, Some, None}
use Rattle.wp_base.specs.declared.kinds.CellKind.{CellKind}
use Rattle.wp_base.specs.declared.kinds.CellKind.TheVariants as cell
use Rattle.wp_base.specs.declared.kinds.Kind.TheVariants as kind
use Rattle.typed_prog.specs.declared.types.CoreType.{CoreType}
use Rattle.typed_prog.specs.Tree as t
use Rattle.c_runs.specs.Program.{Function, Program}
use Rattle.c_runs.specs.Tree.{Goal, nowhere, temporary, place, variable, Step, set, store, start, call, branch, repeat, around, exit, give, claim, scope, Steps, end, then_}
use Rattle.value_terms.specs.Typed.{kind_given}

-- the first of two, where it is there
abbrev pub or_else : {X : Type 0} → Option X → Option X → Option X
or_else (Some x) o = Some x
or_else None o = o

abbrev pub only_if : {X : Type 0} → (m n : ℕ) → Option X → Option X
only_if m n o = if m == n then o else None

-- ---- expressions: the kind that a temporary is used as

abbrev mutual
  pub node_kind : CoreType → t.ValueNode → (number : ℕ) → Option CellKind
  node_kind type (t.temporary m) n = only_if m n (Some (kind_given type))
  node_kind type (t.apply o es) n = values_kind es n
  node_kind type _ n = None

  pub value_kind : t.Value → (number : ℕ) → Option CellKind
  value_kind (t.typed node type line) n = node_kind type node n

  pub values_kind : t.Values → (number : ℕ) → Option CellKind
  values_kind t.stop n = None
  values_kind (t.more e es) n = or_else (value_kind e n) (values_kind es n)

abbrev pub given_kind : Option t.Value → (number : ℕ) → Option CellKind
given_kind None n = None
given_kind (Some e) n = value_kind e n

-- ---- statements

-- what a call gives, which goes there
abbrev pub goal_kind : Goal → (given : Option CellKind) → (number : ℕ) → Option CellKind
goal_kind (temporary m) r n = only_if m n r
goal_kind (place cs type l path es) r n = values_kind es n
goal_kind nowhere r n = None
goal_kind (variable x) r n = None

-- a temporary gets a value
abbrev pub set_kind : (m : ℕ) → t.Value → (number : ℕ) → Option CellKind
set_kind m e n = or_else (value_kind e n) (only_if m n (Some (kind_given (t.type_of e))))

abbrev pub call_kind : Goal → (given : Option CellKind) → t.Values → (number : ℕ) → Option CellKind
call_kind to r es n = or_else (values_kind es n) (goal_kind to r n)

-- what functions give
module _ (results : (function : ℕ) → Option CellKind) where
  abbrev mutual
    pub step_kind : Step → (number : ℕ) → Option CellKind
    step_kind (set cs m e) n = set_kind m e n
    step_kind (store cs type l path es) n = values_kind es n
    step_kind (start cs x e) n = value_kind e n
    step_kind (call cs to k l es) n = call_kind to (results k) es n
    step_kind (branch cs e a b) n = or_else (value_kind e n) (or_else (steps_kind a n) (steps_kind b n))
    step_kind (repeat l ss) n = steps_kind ss n
    step_kind (around ss) n = steps_kind ss n
    step_kind (exit k) n = None
    step_kind (give cs e) n = given_kind e n
    step_kind (claim c) n = None
    step_kind (scope ys ss) n = steps_kind ss n

    pub steps_kind : Steps → (number : ℕ) → Option CellKind
    steps_kind end n = None
    steps_kind (then_ s ss) n = or_else (step_kind s n) (steps_kind ss n)

-- ---- how many there are: one more than the greatest number of one that is set or used

abbrev pub greater : ℕ → ℕ → ℕ
greater n k = if nat_lt n k then k else n

abbrev mutual
  pub node_count : t.ValueNode → ℕ
  node_count (t.temporary m) = suc m
  node_count (t.apply o es) = values_count es
  node_count _ = 0

  pub value_count : t.Value → ℕ
  value_count (t.typed node type line) = node_count node

  pub values_count : t.Values → ℕ
  values_count t.stop = 0
  values_count (t.more e es) = greater (value_count e) (values_count es)

abbrev pub given_count : Option t.Value → ℕ
given_count None = 0
given_count (Some e) = value_count e

abbrev pub goal_count : Goal → ℕ
goal_count (temporary m) = suc m
goal_count (place cs type l path es) = values_count es
goal_count nowhere = 0
goal_count (variable x) = 0

abbrev pub set_count : (m : ℕ) → t.Value → ℕ
set_count m e = greater (value_count e) (suc m)

abbrev pub call_count : Goal → t.Values → ℕ
call_count to es = greater (values_count es) (goal_count to)

abbrev mutual
  pub step_count : Step → ℕ
  step_count (set cs m e) = set_count m e
  step_count (store cs type l path es) = values_count es
  step_count (start cs x e) = value_count e
  step_count (call cs to k l es) = call_count to es
  step_count (branch cs e a b) = greater (value_count e) (greater (steps_count a) (steps_count b))
  step_count (repeat l ss) = steps_count ss
  step_count (around ss) = steps_count ss
  step_count (exit k) = 0
  step_count (give cs e) = given_count e
  step_count (claim c) = 0
  step_count (scope ys ss) = steps_count ss

  pub steps_count : Steps → ℕ
  steps_count end = 0
  steps_count (then_ s ss) = greater (step_count s) (steps_count ss)

-- ---- those of a function

abbrev pub or_int : Option CellKind → CellKind
or_int (Some k) = k
or_int None = cell.Of kind.Int

-- the kinds of temporaries from this number on
abbrev pub kinds_from : (found : ℕ → Option CellKind) → (first count : ℕ) → List CellKind
kinds_from f n zero = []
kinds_from f n (suc k) = or_int (f n) ∷ kinds_from f (suc n) k

abbrev pub temporary_kinds : (results : (function : ℕ) → Option CellKind) → Steps → List CellKind
temporary_kinds results ss = kinds_from (steps_kind results ss) 0 (steps_count ss)

-- what the functions of a program give
abbrev pub result_of : Option (Function Steps) → Option CellKind
result_of (Some g) = g.result
result_of None = None

abbrev pub results_of : Program Steps → (function : ℕ) → Option CellKind
results_of q n = result_of (q.functions n)

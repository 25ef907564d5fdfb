-- Small functions with their checks, in order, worked out by hand from the table of what may be undefined.
use Rattle.std.specs.Prelude.{◌≡◌, ℕ, Bool, true, false, pos, List, [], ◌∷◌, ◌++◌, map, Some}
use Rattle.wp_base.specs.declared.kinds.Kind.TheVariants as kind
use Rattle.typed_prog.specs.declared.types.CoreType.{CoreType}
use Rattle.typed_prog.specs.declared.operators.Arithmetic.{Arithmetic}
use Rattle.typed_prog.specs.declared.operators.Arithmetic.TheVariants as ar
use Rattle.typed_prog.specs.declared.operators.Connective.TheVariants as connective
use Rattle.typed_prog.specs.declared.operators.Effect.TheVariants as effect
use Rattle.typed_prog.specs.declared.operators.Op.TheVariants as op
use Rattle.typed_prog.specs.declared.operators.Path.{Path}
use Rattle.typed_prog.specs.declared.operators.Root.TheVariants as root
use Rattle.typed_prog.specs.declared.operators.Step.TheVariants as walk
use Rattle.typed_prog.specs.declared.operators.Variable.TheVariants as variable
use Rattle.typed_prog.specs.Types.{of_kind, pointer_to}
use Rattle.typed_prog.specs.Tree as t
use Rattle.c_runs.specs.Program.{Variable, Stmt, evaluate, return_of, stop, more}
use Rattle.c_runs.specs.Operators.{Undefined, init, overflow, divzero, shift, access, index}
use Rattle.c_runs.specs.Normal.{stmts}
use Rattle.c_runs.specs.NormalTold.{Check}
use Rattle.c_runs.specs.Tree.{Goal, place, Step, set, store, start, call, branch, repeat, around, exit, give, claim, scope, Steps, end, then_}
use Rattle.c_runs.specs.Adding.{steps_of}

-- ---- what is looked at: the checks, the arms that they stand in, and where blocks are left

pub data Mark : Type 0 where
  asks : (u : Undefined) → Mark
  leaves : (blocks : ℕ) → Mark
  first_arm : Mark
  second_arm : Mark
  behind_arms : Mark

abbrev pub marks_of : List Check → List Mark
marks_of cs = map (λ (c : Check). asks c.kind) cs

abbrev pub goal_marks : Goal → List Mark
goal_marks (place cs type line path es) = marks_of cs
goal_marks to = []

abbrev mutual
  pub step_marks : Step → List Mark
  step_marks (set cs n e) = marks_of cs
  step_marks (store cs type line path es) = marks_of cs
  step_marks (start cs x e) = marks_of cs
  step_marks (call cs to f line es) = marks_of cs ++ goal_marks to
  step_marks (branch cs e a b) = marks_of cs ++ (first_arm ∷ (steps_marks a ++ (second_arm ∷ (steps_marks b ++ (behind_arms ∷ [])))))
  step_marks (repeat l ss) = steps_marks ss
  step_marks (around ss) = steps_marks ss
  step_marks (exit k) = leaves k ∷ []
  step_marks (give cs e) = marks_of cs
  step_marks (claim c) = []
  step_marks (scope ys ss) = steps_marks ss

  pub steps_marks : Steps → List Mark
  steps_marks end = []
  steps_marks (then_ s ss) = step_marks s ++ steps_marks ss

-- ---- words to write functions with: variables are parameters or have no value

abbrev pub scalar : (has_value : Bool) → Variable
scalar b = record { layout = record { count = 1; cells = []; writable = true }; is_plain = true; has_value = b }

abbrev pub int : CoreType
int = of_kind kind.Int

abbrev pub local : (variable : ℕ) → Path
local x = record { root = root.Variable (variable.Local x); steps = []; line = 1 }

abbrev pub at : (type : CoreType) → (variable : ℕ) → t.Value
at type x = t.typed (t.apply (op.Read (local x)) t.stop) type 1

abbrev pub calc : (type : CoreType) → Arithmetic → t.Value → t.Value → t.Value
calc type o a b = t.typed (t.apply (op.Arithmetic o) (t.more a (t.more b t.stop))) type 1

-- `p[i]`
abbrev pub moved : Path
moved = record { root = root.Pointed 0; steps = walk.Moved 1 1 ∷ []; line = 1 }

abbrev pub moved_operands : t.Values
moved_operands = t.more (at (pointer_to int false) 0) (t.more (at int 1) t.stop)

-- `a[i]`, of an array of four
abbrev pub element : Path
element = record { root = root.Variable (variable.Global 0); steps = walk.Element 0 1 4 1 ∷ []; line = 1 }

abbrev pub checks_in : List Variable → Stmt → List Mark
checks_in xs s = steps_marks (steps_of xs (stmts xs 0 0 0 (more s stop)).did)

abbrev pub two : List Variable
two = scalar true ∷ scalar true ∷ []

abbrev pub returning : t.Value → Stmt
returning e = return_of (Some e)

pub record ChecksInOrder : Type 0 where
  -- int f(int a, int b) { return a / b; }
  pub quotient : checks_in two (returning (calc int ar.Div (at int 0) (at int 1))) ≡ asks divzero ∷ asks overflow ∷ []
  -- unsigned f(unsigned a, unsigned b) { return a / b; }
  pub unsigned_quotient : checks_in two (returning (calc (of_kind kind.UInt) ar.Div (at (of_kind kind.UInt) 0) (at (of_kind kind.UInt) 1))) ≡ asks divzero ∷ []
  -- int f(int a, int b) { return a / 2; }
  pub half : checks_in two (returning (calc int ar.Div (at int 0) (t.typed (t.constant (pos 2)) int 1))) ≡ []
  -- int f(int a, int b) { return a && b / a; }, where the block is left before both if a is 0
  pub guarded : checks_in two (returning (t.typed (t.logic connective.And (at int 0) (calc int ar.Div (at int 1) (at int 0))) int 1))
      ≡ first_arm ∷ second_arm ∷ leaves 0 ∷ behind_arms ∷ asks divzero ∷ asks overflow
      ∷ first_arm ∷ second_arm ∷ leaves 0 ∷ behind_arms ∷ leaves 1 ∷ []
  -- unsigned f(unsigned a, unsigned b) { return a << b; }
  pub shifted : checks_in two (returning (calc (of_kind kind.UInt) ar.Shl (at (of_kind kind.UInt) 0) (at (of_kind kind.UInt) 1))) ≡ asks shift ∷ []
  -- int f(int *p, int i) { return p[i]; }
  pub followed : checks_in two (returning (t.typed (t.apply (op.Read moved) moved_operands) int 1)) ≡ asks access ∷ []
  -- int f(int a, int b) { return -a + b; }
  pub opposite : checks_in two (returning (calc int ar.Add (t.typed (t.apply op.Negate (t.more (at int 0) t.stop)) int 1) (at int 1))) ≡ asks overflow ∷ asks overflow ∷ []
  -- void f(void) { int i; a[i] = i; }, where i has no value: the value, then the index, and then whether it is one
  pub written : checks_in (scalar false ∷ []) (evaluate (t.typed (t.effect (effect.Assign element) (t.more (at int 0) (t.more (at int 0) t.stop))) int 1))
      ≡ asks init ∷ asks init ∷ asks index ∷ []

-- Which variables of its function a text sets.
use Rattle.std.specs.Prelude.{ℕ, ◌==◌, Bool, false, ◌||◌}
use Rattle.typed_prog.specs.declared.operators.Root.{Root}
use Rattle.typed_prog.specs.declared.operators.Root.TheVariants as root
use Rattle.typed_prog.specs.declared.operators.Variable.TheVariants as variable
use Rattle.c_runs.specs.Tree.{Goal, nowhere, temporary, place, variable as to_variable, Step, set, store, start, call, branch, repeat, around, exit, give, claim, scope, Steps, end, then_}

abbrev pub is_local : Root → (variable : ℕ) → Bool
is_local (root.Variable (variable.Local y)) x = y == x
is_local r x = false

abbrev pub goal_sets : Goal → (variable : ℕ) → Bool
goal_sets nowhere x = false
goal_sets (temporary n) x = false
goal_sets (place cs type l path es) x = is_local path.root x
goal_sets (to_variable y) x = y == x

abbrev mutual
  -- variables of the function
  pub sets : Step → (variable : ℕ) → Bool
  sets (store cs type l path es) x = is_local path.root x
  sets (start cs y e) x = y == x
  sets (call cs to f l es) x = goal_sets to x
  sets (branch cs e a b) x = some_sets a x || some_sets b x
  sets (repeat l ss) x = some_sets ss x
  sets (around ss) x = some_sets ss x
  sets (scope ys ss) x = some_sets ss x
  sets (set cs n e) x = false
  sets (exit k) x = false
  sets (give cs e) x = false
  sets (claim c) x = false

  pub some_sets : Steps → (variable : ℕ) → Bool
  some_sets end x = false
  some_sets (then_ s ss) x = sets s x || some_sets ss x

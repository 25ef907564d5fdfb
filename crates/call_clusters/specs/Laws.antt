-- What is so of functions that reach each other.
use Rattle.std.specs.Prelude.{◌≡◌, ℕ, true, ◌↔◌, List, Option, Some}
use Rattle.c_runs.specs.Program.{Stmts, Function, Facts, Program}
use Rattle.c_runs.specs.Reach.{stmts_call, Reaches}
use Rattle.c_programs.specs.Clusters.{at, reaches}

-- a program with these functions
abbrev pub program_with : Facts → List (Option (Function Stmts)) → Program Stmts
program_with facts fs = record { facts = facts; functions = at fs }

-- a function calls one that reaches the other
pub record CallsOn (p : Program Stmts) (f g : ℕ) : Type 0 where
  pub called : ℕ
  pub caller : Function Stmts
  pub is_there : p.functions f ≡ Some caller
  pub calls : stmts_call called caller.body ≡ true
  pub on : Reaches p called g

-- One function reaches another exactly where it calls one that does, in whatever number of calls.
abbrev pub ReachingIsByCalls : Type 0
ReachingIsByCalls = (facts : Facts) (fs : List (Option (Function Stmts))) (f g : ℕ) → (reaches fs f g ≡ true) ↔ CallsOn (program_with facts fs) f g

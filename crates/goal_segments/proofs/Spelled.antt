-- The modular law of programs as they are spelled.
use Rattle.std.proofs.Common.{◌≡◌, ℕ, List, Option, Some, refl, sym, ap, subst}
use Rattle.std.specs.Option.{option_map}
use Rattle.c_runs.specs.TruthStates.{Value}
use Rattle.c_runs.specs.Program.{Stmts, Function, Program}
use Rattle.c_runs.specs.States.{Memory}
use Rattle.c_runs.specs.Entry.{Enters}
use Rattle.c_runs.specs.CheckedTold.{normal_function, normal}
use Rattle.c_runs.specs.Adding.{function_of, add_checks}
use Rattle.goal_segments.proofs.Whole.{spelled_is}
use Rattle.goal_segments.specs.Laws.{GoesWell, ModularAsSpelled}
use Rattle.goal_segments.proofs.Runs.{modular}

-- it is entered in the same states
enters_core : (p : Program Stmts) (f : Function Stmts) (vs : List Value) (m : Memory) → Enters p f vs m → Enters (add_checks (normal p)) (function_of (normal_function f)) vs m
enters_core p f vs m e = record { state = e.state; arguments = e.arguments; required = e.required; pointers = e.pointers; cells = e.cells }

pub modular_as_spelled : ModularAsSpelled
modular_as_spelled p fits reached closed none_fails n f among e vs m enters turns contents =
    subst GoesWell (sym (spelled_is p n vs m turns contents))
    (modular (add_checks (normal p)) fits reached closed none_fails n (function_of (normal_function f)) among (ap (λ o. option_map function_of (option_map normal_function o)) e) vs m
    (enters_core p f vs m enters) turns contents)

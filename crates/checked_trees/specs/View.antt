-- The plain statements with checks of those in memory.
use Rattle.std.specs.Prelude.{List, [], ◌∷◌, map}
use Rattle.std.specs.Option.{option_map}
use Rattle.typed_prog.specs.Tree.{values_of}
use Rattle.typed_prog.specs.View.{view_value, view_values}
use Rattle.c_runs.specs.Program as p
use Rattle.core_trees.specs.View.{view_claim, view_loop, view_variables}
use Rattle.c_runs.specs.Tree as k
use Rattle.program_trees.specs.Files.{at}
use Rattle.program_trees.specs.View.{view_contract, view_facts}
use Rattle.check_lists.specs.View.{view_checks}
use Rattle.checked_trees.specs.declared.steps.Goal.{Goal}
use Rattle.checked_trees.specs.declared.steps.Goal.TheVariants as goal
use Rattle.checked_trees.specs.declared.steps.Step.{Step, Step-F, fold-Step}
use Rattle.checked_trees.specs.declared.files.CheckedFunction.{CheckedFunction}
use Rattle.checked_trees.specs.declared.files.CheckedProgram.{CheckedProgram}

abbrev pub view_goal : Goal → k.Goal
view_goal goal.Nowhere = k.nowhere
view_goal (goal.Temporary n) = k.temporary n
view_goal (goal.Place cs type line path operands) = k.place (view_checks cs) type.now line path.now (values_of (view_values operands.now))
view_goal (goal.Variable x) = k.variable x

abbrev pub steps_of : List k.Step → k.Steps
steps_of [] = k.end
steps_of (s ∷ ss) = k.then_ s (steps_of ss)

abbrev pub step_layer : Step-F k.Step → k.Step
step_layer (Step-F.Set cs n e) = k.set (view_checks cs) n (view_value e.now)
step_layer (Step-F.Store cs type line path es) = k.store (view_checks cs) type.now line path.now (values_of (view_values es.now))
step_layer (Step-F.Start cs x e) = k.start (view_checks cs) x (view_value e.now)
step_layer (Step-F.Call cs to function line es) = k.call (view_checks cs) (view_goal to) function line (values_of (view_values es.now))
step_layer (Step-F.Branch cs test first second) = k.branch (view_checks cs) (view_value test.now) (steps_of first) (steps_of second)
step_layer (Step-F.Repeat l body) = k.repeat (view_loop l.now) (steps_of body)
step_layer (Step-F.Around body) = k.around (steps_of body)
step_layer (Step-F.Exit n) = k.exit n
step_layer (Step-F.Give cs e) = k.give (view_checks cs) (option_map view_value e.now)
step_layer (Step-F.Claim x) = k.claim (view_claim x.now)
step_layer (Step-F.Scope variables body) = k.scope variables.now (steps_of body)

unfoldable pub view_step : Step → k.Step
view_step = fold-Step k.Step step_layer

abbrev pub view_steps : List Step → k.Steps
view_steps ss = steps_of (map view_step ss)

-- ---- functions and files

abbrev pub view_checked_function : CheckedFunction → p.Function k.Steps
view_checked_function x = record {
  params = x.params;
  variables = view_variables x.variables.now;
  result = x.result;
  contract = view_contract x.contract.now;
  body = view_steps x.body;
  end = x.end;
}

abbrev pub view_checked_program : CheckedProgram → p.Program k.Steps
view_checked_program x = record { facts = view_facts x.facts.now; functions = at (map (option_map view_checked_function) x.functions) }

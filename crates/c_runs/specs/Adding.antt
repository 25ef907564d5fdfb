-- The checks of a core program, each put before the statement that has its operation.
use Rattle.std.specs.Prelude.{ℕ, List, [], ◌++◌, Option, Some, None, option_map}
use Rattle.typed_prog.specs.declared.operators.Path.{Path}
use Rattle.typed_prog.specs.Tree as t
use Rattle.c_runs.specs.Program.{Variable, Function, Program}
use Rattle.c_runs.specs.Operators.{access}
use Rattle.c_runs.specs.Objects.{plain_root, is_pointed}
use Rattle.c_runs.specs.Core as core
use Rattle.c_runs.specs.Core.{Target, Core, Cores}
use Rattle.c_runs.specs.NormalTold.{Check, one_if, index_checks, checks_of, all_checks}
use Rattle.c_runs.specs.Tree.{Goal, nowhere, temporary, place, variable, Step, set, store, start, call, branch, repeat, around, exit, give, claim, scope, Steps, end, then_}

-- ---- an object that is written: the index checks of its way, and then the access

abbrev pub way_checks_by : Option ℕ → Path → List Check
way_checks_by (Some x) path = []
way_checks_by None path = index_checks 0 path.steps ++ one_if (is_pointed path.root) access path.line

abbrev pub way_checks : List Variable → Path → List Check
way_checks xs path = way_checks_by (plain_root xs path.root) path

-- behind those of all operands
abbrev pub place_checks : List Variable → Path → t.Values → List Check
place_checks xs path es = all_checks xs es ++ way_checks xs path

-- ---- statements

abbrev pub given_checks : List Variable → Option t.Value → List Check
given_checks xs None = []
given_checks xs (Some e) = checks_of xs e

abbrev pub goal_of : List Variable → Target → Goal
goal_of xs core.nowhere = nowhere
goal_of xs (core.temporary n) = temporary n
goal_of xs (core.place type line path es) = place (place_checks xs path es) type line path es
goal_of xs (core.variable x) = variable x

module _ (xs : List Variable) where
  abbrev mutual
    pub step_of : Core → Step
    step_of (core.set n e) = set (checks_of xs e) n e
    step_of (core.store type line path es) = store (place_checks xs path es) type line path es
    step_of (core.start x e) = start (checks_of xs e) x e
    step_of (core.call to f line es) = call (all_checks xs es) (goal_of xs to) f line es
    step_of (core.branch e a b) = branch (checks_of xs e) e (steps_of a) (steps_of b)
    step_of (core.repeat l ss) = repeat l (steps_of ss)
    step_of (core.around ss) = around (steps_of ss)
    step_of (core.exit k) = exit k
    step_of (core.give e) = give (given_checks xs e) e
    step_of (core.claim c) = claim c
    step_of (core.scope ys ss) = scope ys (steps_of ss)

    pub steps_of : Cores → Steps
    steps_of core.end = end
    steps_of (core.then_ s ss) = then_ (step_of s) (steps_of ss)

-- ---- functions and programs

abbrev pub function_of : Function Cores → Function Steps
function_of f = record {
  params = f.params;
  variables = f.variables;
  result = f.result;
  contract = f.contract;
  body = steps_of f.variables f.body;
  end = f.end;
}

abbrev pub add_checks : Program Cores → Program Steps
add_checks p = record { facts = p.facts; functions = λ f. option_map function_of (p.functions f) }

use Rattle.std.proofs.Common.{◌≡◌, ◌++◌, ℕ, Bool, List, drop, length, map}
use Rattle.std.specs.Option.{option_map}
use Rattle.acsl_trees.specs.Tree.{view_trees}
use Rattle.c_runs.specs.Program.{Variable}
use Rattle.qed_terms.specs.Tree.{Tree}
use Rattle.qed_terms.specs.View.{formula_tree}
use Rattle.program_steps.specs.Leaves.{fill}
use Rattle.program_steps.specs.Staying as spec
use Rattle.step_walks.specs.View.{view_state}
use Rattle.step_walks.specs.Walks.{states}
use Rattle.walk_live.specs.Bits.{bits}
use Rattle.loop_walks.proofs.heads.add_stays.Given as goal

abbrev pub invariant-loop-variable : goal.invariant-loop-variable
invariant-loop-variable l =
    (a : Tree) (f : ℕ → Bool) (vs : List Variable) → formula_tree l.assumed ≡ fill (states (view_state l.state)) a → l.changing ≡ bits (length vs) f
    → map formula_tree l.made ++ map (fill (states (view_state l.state))) (spec.stays_from a (option_map view_trees l.assigns) f l.variable (drop l.variable vs))
    ≡ map formula_tree l.initial.made ++ map (fill (states (view_state l.state))) (spec.stays_from a (option_map view_trees l.assigns) f 0 vs)

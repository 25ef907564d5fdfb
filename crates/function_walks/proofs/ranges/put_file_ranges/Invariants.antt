use Rattle.std.proofs.Common.{◌≡◌, ◌++◌, ◌∷◌, [], map, drop}
use Rattle.core_trees.specs.View.{view_variables}
use Rattle.plain_runs.specs.Fitting.{Shape}
use Rattle.program_steps.specs.Leaves.{fill}
use Rattle.program_steps.specs.Starting.{file_ranges}
use Rattle.program_steps.specs.Terms.{Texts}
use Rattle.program_trees.specs.View.{view_facts}
use Rattle.qed_terms.specs.Meaning as sense
use Rattle.qed_terms.specs.View.{formula_tree, term_tree}
use Rattle.function_walks.proofs.ranges.put_file_ranges.Given as goal

abbrev pub invariant-loop-number : goal.invariant-loop-number
invariant-loop-number l =
    (m : sense.World) (s : Shape) (texts : Texts) → map formula_tree l.known.items
    ++ map (fill (map term_tree l.slots ∷ [])) (file_ranges m (view_facts l.facts) s texts l.number (view_variables (drop l.number l.facts.globals)))
    ≡ map formula_tree l.fn.known.items ++ map (fill (map term_tree l.slots ∷ [])) (file_ranges m (view_facts l.facts) s texts 0 (view_variables l.facts.globals))

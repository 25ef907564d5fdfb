use Rattle.std.proofs.Common.{◌≡◌, ◌++◌, map, length}
use Rattle.program_steps.specs.Functions.{no_two}
use Rattle.qed_terms.specs.View.{formula_tree}
use Rattle.function_walks.proofs.together.no_two.Given as goal

abbrev pub invariant-loop-first : goal.invariant-loop-first
invariant-loop-first l = map formula_tree l.made ++ no_two (map formula_tree l.rest) ≡ no_two (map formula_tree l.parts)

abbrev pub decreases-loop-first : goal.decreases-loop-first
decreases-loop-first l = length l.rest

use Rattle.std.proofs.Common.{map}
use Rattle.qed_terms.specs.View.{term_tree}
use Rattle.core_trees.specs.View.{view_variables}
use Rattle.program_trees.specs.View.{view_facts}
use Rattle.value_words.proofs.Applying.{ordered, moved, subtracted}
use Rattle.value_words.proofs.operations.push_op.Goals as goal

pub returns-in-ComparePointers : goal.returns-in-ComparePointers
returns-in-ComparePointers c = ordered _ _ _ _ _ _ _ _ _ _ _ _ c.in-ComparePointers.is (c.push_ordered.ensures (view_facts c.args.facts.now) (view_variables c.args.variables.now) (map term_tree c.args.slots.now))

pub returns-in-Offset : goal.returns-in-Offset
returns-in-Offset c = moved _ _ _ _ _ _ _ _ _ _ _ _ _ _ _ c.in-Offset.is (c.push_moved.ensures (view_facts c.args.facts.now) (view_variables c.args.variables.now) (map term_tree c.args.slots.now))

pub returns-in-Difference : goal.returns-in-Difference
returns-in-Difference c = subtracted _ _ _ _ _ _ _ _ _ _ _ _ c.in-Difference.is (c.push_comparing.ensures (view_facts c.args.facts.now) (view_variables c.args.variables.now) (map term_tree c.args.slots.now))

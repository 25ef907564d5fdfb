use Rattle.std.specs.Prelude.{map}
use Rattle.core_trees.specs.View.{view_variables}
use Rattle.program_trees.specs.View.{view_facts}
use Rattle.qed_terms.specs.View.{term_tree}
use Rattle.value_words.specs.OverSlots.{reading_of}
use Rattle.value_words.proofs.Making.{OperandsLeft}
use Rattle.value_words.proofs.words.+words.Given as goal

abbrev pub invariant-make_all-loop-value : goal.invariant-make_all-loop-value
invariant-make_all-loop-value l =
    OperandsLeft (view_facts l.facts) (view_variables l.variables) (reading_of (view_facts l.facts) (view_variables l.variables) (map term_tree l.slots)) l.fn.items.items l.items.items l.terms.items l.values l.value-index

use Rattle.std.proofs.Common.{map}
use Rattle.qed_terms.specs.View.{term_tree}
use Rattle.core_trees.specs.View.{view_variables}
use Rattle.program_trees.specs.View.{view_facts}
use Rattle.typed_prog.specs.View.{view_value}
use Rattle.value_words.proofs.Finished.{made_term, made_items}
use Rattle.value_words.proofs.words.word_of.Goals as goal

pub returns-clause-term : goal.returns-clause-term
returns-clause-term c = λ olds. made_term (view_facts c.args.facts.now) (view_variables c.args.variables.now) (map term_tree c.args.slots.now) olds _ _ (view_value c.args.value.now) _ c.in_ok-made.ensures

pub returns-clause-items : goal.returns-clause-items
returns-clause-items c = λ olds. made_items (view_facts c.args.facts.now) (view_variables c.args.variables.now) (map term_tree c.args.slots.now) olds _ _ (view_value c.args.value.now) _ c.in_ok-made.ensures

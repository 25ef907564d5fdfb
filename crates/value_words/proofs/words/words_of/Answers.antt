use Rattle.std.proofs.Common.{map}
use Rattle.qed_terms.specs.View.{term_tree}
use Rattle.core_trees.specs.View.{view_variables}
use Rattle.program_trees.specs.View.{view_facts}
use Rattle.typed_prog.specs.Tree.{values_of}
use Rattle.typed_prog.specs.View.{view_values}
use Rattle.value_words.proofs.Finished.{all_terms, all_items}
use Rattle.value_words.proofs.words.words_of.Goals as goal

pub returns-clause-terms : goal.returns-clause-terms
returns-clause-terms c = λ olds. all_terms (view_facts c.args.facts.now) (view_variables c.args.variables.now) (map term_tree c.args.slots.now) olds _ _ (values_of (view_values c.args.values.now)) _ c.in_ok-made.ensures

pub returns-clause-items : goal.returns-clause-items
returns-clause-items c = λ olds. all_items (view_facts c.args.facts.now) (view_variables c.args.variables.now) (map term_tree c.args.slots.now) olds _ _ (values_of (view_values c.args.values.now)) _ c.in_ok-made.ensures

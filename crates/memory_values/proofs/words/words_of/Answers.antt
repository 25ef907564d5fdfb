use Rattle.typed_prog.specs.Tree.{values_of}
use Rattle.typed_prog.specs.View.{view_values}
use Rattle.memory_values.specs.View.{facts_in, shape_in, slots_in, table_in}
use Rattle.memory_values.proofs.Finished.{all_terms, all_items}
use Rattle.memory_values.proofs.words.words_of.Goals as goal

pub returns-clause-terms : goal.returns-clause-terms
returns-clause-terms c = λ ss l level.
    all_terms (facts_in c.args.reading) (shape_in c.args.reading) (slots_in c.args.reading) (table_in c.args.reading) ss l level _ _ (values_of (view_values c.args.values.now)) _ c.in_ok-made.ensures

pub returns-clause-items : goal.returns-clause-items
returns-clause-items c = λ ss l level.
    all_items (facts_in c.args.reading) (shape_in c.args.reading) (slots_in c.args.reading) (table_in c.args.reading) ss l level _ _ (values_of (view_values c.args.values.now)) _ c.in_ok-made.ensures

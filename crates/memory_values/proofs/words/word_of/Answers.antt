use Rattle.typed_prog.specs.View.{view_value}
use Rattle.memory_values.specs.View.{facts_in, shape_in, slots_in, table_in}
use Rattle.memory_values.proofs.Finished.{made_term, made_items}
use Rattle.memory_values.proofs.words.word_of.Goals as goal

pub returns-clause-term : goal.returns-clause-term
returns-clause-term c = λ ss l level.
    made_term (facts_in c.args.reading) (shape_in c.args.reading) (slots_in c.args.reading) (table_in c.args.reading) ss l level _ _ (view_value c.args.value.now) _ c.in_ok-made.ensures

pub returns-clause-items : goal.returns-clause-items
returns-clause-items c = λ ss l level.
    made_items (facts_in c.args.reading) (shape_in c.args.reading) (slots_in c.args.reading) (table_in c.args.reading) ss l level _ _ (view_value c.args.value.now) _ c.in_ok-made.ensures

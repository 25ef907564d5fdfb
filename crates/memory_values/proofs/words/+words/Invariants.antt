use Rattle.memory_values.specs.View.{facts_in, shape_in, view_reading}
use Rattle.memory_values.proofs.Making.{OperandsLeft}
use Rattle.memory_values.proofs.words.+words.Given as goal

abbrev pub invariant-make_all-loop-value : goal.invariant-make_all-loop-value
invariant-make_all-loop-value l = OperandsLeft (facts_in l.reading) (shape_in l.reading).variables (view_reading l.reading) l.fn.items.items l.items.items l.terms.items l.values l.value-index

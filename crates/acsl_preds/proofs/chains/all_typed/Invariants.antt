use Rattle.std.proofs.Common.{◌≡◌, drop, map}
use Rattle.c_syntax.specs.View.{view_term}
use Rattle.acsl_trees.specs.Operands.{view_operand}
use Rattle.acsl_names.specs.Names.{view_around}
use Rattle.acsl_preds.specs.Preds as spec
use Rattle.acsl_preds.proofs.chains.all_typed.Given as goal

abbrev pub invariant-loop-term : goal.invariant-loop-term
invariant-loop-term l =
    spec.onto (map view_operand l.operands) (spec.all_typed (view_around l.around) l.names l.reading l.count (map view_term (drop l.term-index l.rest)))
    ≡ spec.onto (map view_operand l.initial.operands) (spec.all_typed (view_around l.around) l.names l.reading l.initial.count (map view_term l.rest))

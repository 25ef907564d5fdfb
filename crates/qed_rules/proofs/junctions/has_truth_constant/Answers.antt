use Rattle.std.proofs.Common.{sym, ◌∙◌, arith}
use Rattle.qed_rules.specs.Rules.{is_truth_constant}
use Rattle.qed_rules.proofs.FormulaPasses.{has_some}
use Rattle.qed_rules.proofs.junctions.has_truth_constant.Goals as goal

pub returns-then-is_truth_constant : goal.returns-then-is_truth_constant
returns-then-is_truth_constant c =
    sym (has_some (is_truth_constant c.args.value) c.args.operands.now c.loop-operand.operand-index c.operand-item.result (omega arith) c.operand-item.is (sym c.is_truth_constant.ensures ∙ c.if-is_truth_constant.true))

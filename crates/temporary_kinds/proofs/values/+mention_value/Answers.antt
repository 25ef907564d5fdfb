use Rattle.std.proofs.Common.{subst}
use Rattle.temporary_kinds.specs.View.{Tells}
use Rattle.temporary_kinds.proofs.Telling.{onward_turn, onward_ends}
use Rattle.temporary_kinds.proofs.Expressions.{code_kind, code_count, operands_told}
use Rattle.temporary_kinds.proofs.values.+mention_value.Goals as goal

pub mention_values-loop-at-preserved : goal.mention_values-loop-at-preserved
mention_values-loop-at-preserved t c =
    onward_turn code_kind code_count c.args.kinds.now.items c.loop-at.kinds.items c.mention_value.new.kinds.items c.args.values.now c.loop-at.at
    c.index-values-at.result c.loop-at-test.true c.loop-at.invariant
    (subst (λ v. Tells c.loop-at.kinds.items c.mention_value.new.kinds.items (code_kind v) (code_count v)) c.index-values-at.is c.in_ok-mention_value.ensures)

pub mention_values-returns : goal.mention_values-returns
mention_values-returns t c =
    operands_told c.args.values.now c.args.kinds.now.items c.loop-at.kinds.items
    (onward_ends code_kind code_count c.args.kinds.now.items c.loop-at.kinds.items c.args.values.now c.loop-at.at c.loop-at-test.false c.loop-at.invariant)

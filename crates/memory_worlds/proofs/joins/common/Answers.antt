use Rattle.std.proofs.Common.{arith, true, false, sym, ◌∙◌}
use Rattle.memory_worlds.proofs.Joined.{front_more, front_left, front_right}
use Rattle.memory_worlds.proofs.joins.common.Goals as goal

pub loop-at-preserved : goal.loop-at-preserved
loop-at-preserved c =
    let h = front_more c.args.left.now c.args.right.now c.loop-at.at c.index-left-at.result c.index-right-at.result true c.loop-at-test.true c.if-at-right.true c.index-left-at.is c.index-right-at.is (sym c.if-is_same.true ∙ c.is_same.ensures.same) in
    record { so_far = omega (arith, h, c.loop-at.invariant.so_far); in_left = omega (arith, c.loop-at-test.true); in_right = omega (arith, c.if-at-right.true) }

pub returns-else-is_same : goal.returns-else-is_same
returns-else-is_same c =
    let h = front_more c.args.left.now c.args.right.now c.loop-at.at c.index-left-at.result c.index-right-at.result false c.loop-at-test.true c.if-at-right.true c.index-left-at.is c.index-right-at.is (sym c.if-is_same.false ∙ c.is_same.ensures.same) in
    record { is = omega (arith, h, c.loop-at.invariant.so_far); in_left = c.loop-at.invariant.in_left; in_right = c.loop-at.invariant.in_right }

pub returns-else-at-right : goal.returns-else-at-right
returns-else-at-right c =
    let h = front_right c.args.left.now c.args.right.now c.loop-at.at (omega (arith, c.if-at-right.false)) in
    record { is = omega (arith, h, c.loop-at.invariant.so_far); in_left = c.loop-at.invariant.in_left; in_right = c.loop-at.invariant.in_right }

pub returns-after-loop-at : goal.returns-after-loop-at
returns-after-loop-at c =
    let h = front_left c.args.left.now c.args.right.now c.loop-at.at (omega (arith, c.loop-at-test.false)) in
    record { is = omega (arith, h, c.loop-at.invariant.so_far); in_left = c.loop-at.invariant.in_left; in_right = c.loop-at.invariant.in_right }

use Rattle.std.proofs.Common.{arith}
use Rattle.wp_io.proofs.Steps.{takes_more, takes_at_most}
use Rattle.wp_io.proofs.reading.read_all.Goals as goal

pub returns-then-count-limit-clause-too_long : goal.returns-then-count-limit-clause-too_long
returns-then-count-limit-clause-too_long g c _ =
    let read = c.in_ok-count.ensures in
    takes_more _ _ _ c.loop-text.text.items c.read.new.into c.in_ok-count.count c.args.limit c.loop-text.invariant.taken read.bytes.0 read.bound.0 (omega arith)

pub returns-in_err-extend_from_slice-clause-not_too_long : goal.returns-in_err-extend_from_slice-clause-not_too_long
returns-in_err-extend_from_slice-clause-not_too_long g c _ =
    takes_at_most _ _ _ c.loop-text.text.items c.read.new.into c.in_ok-count.count c.args.limit c.loop-text.invariant.taken c.in_ok-count.ensures.bytes.0 (omega arith)

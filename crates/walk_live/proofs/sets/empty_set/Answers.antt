use Rattle.std.proofs.Common.{◌≡◌, length, arith}
use Rattle.walk_live.proofs.Bitwise.{none_pushed, none_in_all}
use Rattle.walk_live.proofs.sets.empty_set.Goals as goal

pub loop-bit-preserved : goal.loop-bit-preserved
loop-bit-preserved c = none_pushed c.loop-bit._bit-index c.loop-bit.none.items c.push.new.self.items c.loop-bit.invariant c.in_ok-push.ensures.items

pub returns : goal.returns
returns c k f h =
    let whole : c.loop-bit._bit-index ≡ length c.args.like.now = omega (arith, c.loop-bit-test.false, c.loop-bit.auto._bit-index-end) in
    none_in_all k c.loop-bit._bit-index f c.args.like.now c.loop-bit.none.items h whole c.loop-bit.invariant

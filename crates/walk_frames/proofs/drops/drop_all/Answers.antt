use Rattle.std.proofs.Common.{◌≡◌, arith}
use Rattle.value_words.specs.View.{view_sizes}
use Rattle.walk_frames.proofs.Moving.{next_dropped, every_dropped}
use Rattle.walk_frames.proofs.drops.drop_all.Goals as goal

pub loop-temporary-preserved : goal.loop-temporary-preserved
loop-temporary-preserved c m bases gs =
    next_dropped m (view_sizes c.args.sizes) c.loop-temporary.temporary (c.loop-temporary.invariant m bases gs) (c.in_ok-drop_one.ensures m bases gs)

pub returns : goal.returns
returns c m bases gs =
    let whole : c.loop-temporary.temporary ≡ c.args.count = (let a = c.loop-temporary-test.false in let b = c.loop-temporary.auto.temporary-end in omega (arith, a, b)) in
    every_dropped m (view_sizes c.args.sizes) c.args.count c.loop-temporary.temporary whole (c.loop-temporary.invariant m bases gs)

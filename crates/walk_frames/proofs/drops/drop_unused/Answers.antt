use Rattle.std.proofs.Common.{◌≡◌, length, arith}
use Rattle.value_words.specs.View.{view_sizes}
use Rattle.walk_frames.proofs.Moving.{one_dropped, all_dropped}
use Rattle.walk_frames.proofs.drops.drop_unused.Goals as goal

pub loop-temporary-preserved : goal.loop-temporary-preserved
loop-temporary-preserved c m bases k f gs h =
    one_dropped m (view_sizes c.args.sizes) k f c.args.unused.now c.loop-temporary.temporary _ h c.loop-temporary-test.true (c.loop-temporary.invariant m bases k f gs h) (c.in_ok-drop_one.ensures m bases gs)

pub returns : goal.returns
returns c m bases k f gs h =
    let whole : c.loop-temporary.temporary ≡ length c.args.unused.now = (let a = c.loop-temporary-test.false in let b = c.loop-temporary.auto.temporary-end in omega (arith, a, b)) in
    all_dropped m (view_sizes c.args.sizes) k f c.args.unused.now c.loop-temporary.temporary h whole (c.loop-temporary.invariant m bases k f gs h)

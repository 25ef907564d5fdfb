use Rattle.std.proofs.Common.{◌<◌, length, get_or, arith}
use Rattle.branch_rows.proofs.Marking.{marked_more}
use Rattle.branch_rows.proofs.marks.mark_all.Goals as goal

pub loop-place-preserved : goal.loop-place-preserved
loop-place-preserved c =
    let h = c.requires c.loop-place.place-index 0 c.loop-place-test.true in
    let e = c.loop-place.invariant.all in
    let below : get_or c.args.places.now c.loop-place.place-index 0 < length c.loop-place.marks.items = omega arith in
    marked_more c.args.places.now c.loop-place.place-index c.args.marks.now.items c.loop-place.marks.items c.loop-place-test.true below c.loop-place.invariant

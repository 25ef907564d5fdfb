use Rattle.std.proofs.Common.{◌<◌, length, get_or, arith}
use Rattle.same_places.proofs.Members.{in_at, renamed_more}
use Rattle.same_places.proofs.joins.rename.Goals as goal

pub index_mut-requires : goal.index_mut-requires
index_mut-requires c =
    let h = c.requires (get_or c.args.places.now c.loop-place.place-index 0) (in_at c.args.places.now c.loop-place.place-index c.loop-place-test.true) in
    let e = c.loop-place.invariant.all in
    omega arith

pub loop-place-preserved : goal.loop-place-preserved
loop-place-preserved c =
    let h = c.requires (get_or c.args.places.now c.loop-place.place-index 0) (in_at c.args.places.now c.loop-place.place-index c.loop-place-test.true) in
    let e = c.loop-place.invariant.all in
    let below : get_or c.args.places.now c.loop-place.place-index 0 < length c.loop-place.class_of.items = omega arith in
    renamed_more c.args.places.now c.loop-place.place-index c.args.to c.args.class_of.now.items c.loop-place.class_of.items c.loop-place-test.true below c.loop-place.invariant

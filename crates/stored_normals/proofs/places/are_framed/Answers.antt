use Rattle.std.proofs.Common.{◌≡◌, ◌+◌, ◌&&◌, length, sym, ◌∙◌, arith}
use Rattle.stored_normals.specs.Places.{region_count}
use Rattle.stored_normals.proofs.Fits.{framed, framed_none}
use Rattle.stored_normals.proofs.places.are_framed.Goals as goal

pub returns-then-kids-region_count : goal.returns-then-kids-region_count
returns-then-kids-region_count g c =
    framed_none (g.S.TermStore.tree c.args.store.now) c.args.shapes.now c.args.kids.now (λ e. omega (arith, e, c.if-kids-region_count.true, c.region_count.ensures.count))

pub returns : goal.returns
returns g c =
    let tree = g.S.TermStore.tree c.args.store.now in
    let long : length c.args.kids.now ≡ region_count c.args.shapes.now + 2 = omega (arith, c.if-kids-region_count.false, c.region_count.ensures.count) in
    c.are_all.ensures ∙ (λ i. c.stands-first.ensures i && (c.stands-second.ensures i && c.are_each-others.ensures i))
    ∙ sym (framed tree c.args.shapes.now c.args.kids.now c.index-kids-0.result c.index-kids-1.result long c.index-kids-0.is c.index-kids-1.is)

use Rattle.std.proofs.Common.{arith, length, ◌<◌}
use Rattle.same_ids.proofs.Alike.{smaller_kid, kid_held}
use Rattle.branch_accesses.proofs.names.+kind_under.Goals as goal

pub kind_under-requires : goal.kind_under-requires
kind_under-requires g t c κs within =
    let tree = g.S.TermStore.tree c.args.store.now in
    let held = g.S.TermStore.held c.args.store.now in
    let ks = c.kids-kids.result.now in
    let some : 0 < length ks = omega (arith, c.if-kids-eq0.false) in
    let less = smaller_kid tree (tree c.args.memory) ks 0 c.index-kids-0.result c.kids-kids.ensures.stand some c.index-kids-0.is in
    let d = c.decreases in
    (omega (arith, less, d), (within.0, (within.1, kid_held held ks 0 c.index-kids-0.result c.kids-kids.ensures.held some c.index-kids-0.is)))

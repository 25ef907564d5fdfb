use Rattle.std.proofs.Common.{map}
use Rattle.linear_chains.specs.View.{link_of}
use Rattle.linear_chains.proofs.Lists.{get_mapped}
use Rattle.linear_chains.proofs.Made.{make_none}
use Rattle.linear_chains.proofs.sums.sum_at.Goals as goal

pub returns-in-None : goal.returns-in-None
returns-in-None c =
    let x = get_mapped link_of c.args.links.now c.args.i c.index-links-i.result c.requires.first c.index-links-i.is in
    let y = get_mapped link_of c.args.links.now c.args.j c.index-links-j.result c.requires.second c.index-links-j.is in
    let z = get_mapped link_of c.args.links.now c.args.k c.index-links-k.result c.requires.third c.index-links-k.is in
    make_none (map link_of c.args.links.now) c.args.i c.args.j c.args.k _ _ _ x y z (rw c.in-None.is at c.in_ok-sum_of_three.ensures)

use Rattle.std.proofs.Common.{get_or, ap, rules}
use Rattle.plain_trees.proofs.Reading.{link_turn, link_fault}
use Rattle.plain_trees.proofs.nodes.is_chain.Goals as goal

pub returns-then-not-fits : goal.returns-then-not-fits
returns-then-not-fits c =
    let ks = c.args.kids.now in
    link_fault ks c.loop-at.at (get_or ks c.loop-at.at c.index-kids-at.result) c.role_of.result c.is_link-fits.result _ (search rules)
    (ap (get_or ks c.loop-at.at) c.index-kids-at.is) c.role_of.ensures c.is_link-fits.ensures c.if-not-fits.true c.loop-at.invariant

pub loop-at-preserved : goal.loop-at-preserved
loop-at-preserved c =
    let ks = c.args.kids.now in
    link_turn ks c.loop-at.at (get_or ks c.loop-at.at c.index-kids-at.result) c.role_of.result c.is_link-fits.result _ (search rules)
    (ap (get_or ks c.loop-at.at) c.index-kids-at.is) c.role_of.ensures c.is_link-fits.ensures c.if-not-fits.false c.loop-at.invariant

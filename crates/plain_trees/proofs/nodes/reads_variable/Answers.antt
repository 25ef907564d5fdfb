use Rattle.std.proofs.Common.{get_or, ap}
use Rattle.plain_trees.specs.View.{is_below}
use Rattle.plain_trees.proofs.Reading.{first_read}
use Rattle.plain_trees.proofs.nodes.reads_variable.Goals as goal

pub returns : goal.returns
returns c =
    let ks = c.args.kids.now in
    first_read (is_below c.args.place.globals c.args.place.own) ks (get_or ks 0 c.index-kids-0.result) c.role_of.result c.names_known.result c.if-kids-eq0.false
    (ap (get_or ks 0) c.index-kids-0.is) c.role_of.ensures c.names_known.ensures

use Rattle.std.proofs.Common.{rules}
use Rattle.plain_trees.specs.View.{is_below}
use Rattle.plain_trees.proofs.Regional.{alone_is, kids_below}
use Rattle.plain_trees.proofs.regions.is_alone.Goals as goal

pub returns-then-len-ne0 : goal.returns-then-len-ne0
returns-then-len-ne0 c = kids_below (is_below c.args.place.globals c.args.place.own) c.args.tree.now (search rules)

pub returns : goal.returns
returns c =
    alone_is (is_below c.args.place.globals c.args.place.own) c.args.tree.now c.role_of.result c.names_known.result (search rules) c.role_of.ensures c.names_known.ensures

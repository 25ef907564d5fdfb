use Rattle.std.proofs.Common.{rules}
use Rattle.plain_trees.specs.View.{is_below}
use Rattle.plain_trees.proofs.Regional.{one_is, not_one}
use Rattle.plain_trees.proofs.regions.has_one.Goals as goal

pub returns-then-kids-ne1 : goal.returns-then-kids-ne1
returns-then-kids-ne1 c = not_one (is_below c.args.place.globals c.args.place.own) c.args.kids.now c.if-kids-ne1.true

pub returns : goal.returns
returns c =
    one_is (is_below c.args.place.globals c.args.place.own) c.args.kids.now c.index-kids-0.result c.is_alone.result c.if-kids-ne1.false c.index-kids-0.is c.is_alone.ensures

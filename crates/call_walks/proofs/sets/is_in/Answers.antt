use Rattle.acsl_trees.specs.Tree.{view_trees}
use Rattle.call_walks.proofs.Named_in.{in_one, in_none, in_other}
use Rattle.call_walks.proofs.sets.is_in.Goals as goal

pub returns-then-kids-ne1 : goal.returns-then-kids-ne1
returns-then-kids-ne1 c = in_none (view_trees c.args.around.now) c.args.region.now _ _ c.in-Region.is c.as_slice-kids.ensures c.if-kids-ne1.true

pub returns-else-kids-ne1 : goal.returns-else-kids-ne1
returns-else-kids-ne1 c =
    in_one (view_trees c.args.around.now) c.args.region.now _ c.as_slice-kids.result.now _ _ c.as_slice.result.now _ c.in-Region.is c.as_slice-kids.ensures c.if-kids-ne1.false c.as_slice.ensures c.is_head_in.ensures

pub returns-in_default : goal.returns-in_default
returns-in_default c = in_other (view_trees c.args.around.now) c.args.region.now c.in_default.not-Region

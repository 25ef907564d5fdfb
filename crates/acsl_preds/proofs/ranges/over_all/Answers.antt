use Rattle.std.proofs.Common.{◌-◌, arith, refl, rules}
use Rattle.acsl_trees.specs.Tree.{view_tree}
use Rattle.acsl_preds.specs.Ranges as spec
use Rattle.acsl_preds.proofs.Nesting.{nest_turn}
use Rattle.acsl_preds.proofs.ranges.over_all.Goals as goal

pub loop-left-preserved : goal.loop-left-preserved
loop-left-preserved c = record {
  whole =
      nest_turn c.args.place c.args.for_all (spec.pointed c.args.conjuncts.now) c.args.overs.now (c.loop-left.left - 1) c.loop-left.left _ (view_tree c.loop-left.tree) (view_tree c.in_ok-tree.tree)
      (spec.over_all c.args.place c.args.for_all (spec.pointed c.args.conjuncts.now) c.args.overs.now (view_tree c.args.body)) c.loop-left-test.true c.loop-left.invariant.within refl c.in_ok-tree.ensures (search rules) c.loop-left.invariant.whole;
  within = omega (arith, c.loop-left.invariant.within);
}

use Rattle.std.proofs.Common.{rules, arith}
use Rattle.std.proofs.lemmas.Grind.{common_steps}
use Rattle.acsl_trees.specs.Tree.{view_trees}
use Rattle.acsl_expand.specs.Expansion.{calls_in}
use Rattle.acsl_expand.proofs.Calling.{weighed}
use Rattle.acsl_expand.proofs.Expanding.{call_gives, kid_turn}
use Rattle.acsl_expand.proofs.expansion.+expanding.Goals as goal

pub called-expand-requires : goal.called-expand-requires
called-expand-requires t c =
    let k = weighed c.args.definitions.now c.args.number c.index-definitions-place.result (search rules) (search rules) in
    (omega (arith, k), tt)

pub expand-returns-in_ok-given-in-Call : goal.expand-returns-in_ok-given-in-Call
expand-returns-in_ok-given-in-Call t c =
    call_gives (calls_in c.args.definitions.now) (view_trees c.args.arguments.now) c.args.base c.args.around
    c.in-Call.number c.part_of.result c.args.tree.now (view_trees c.in_ok-given-in-Call.given) c.called.result
    c.part_of.ensures c.in-Call.is (search rules) c.called.ensures

pub expand_kids-loop-kid-preserved : goal.expand_kids-loop-kid-preserved
expand_kids-loop-kid-preserved t c = record {
  count = grind (arith, common_steps);
  so_far =
      kid_turn (calls_in c.args.definitions.now) (view_trees c.args.arguments.now) c.args.base c.args.around c.args.in_binder
      c.args.kids.now c.loop-kid.made c.push.new.self c.loop-kid.kid-index c.in_ok-inside.inside c.kid-item.result c.in_ok-expand.field-0 _
      c.loop-kid-test.true c.kid-item.is c.loop-kid.invariant.count (search rules) (search rules) (search rules) c.loop-kid.invariant.so_far;
}

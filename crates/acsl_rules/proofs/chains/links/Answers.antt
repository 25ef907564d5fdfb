use Rattle.std.proofs.Common.{rules}
use Rattle.acsl_rules.proofs.Turns.{link_turn}
use Rattle.acsl_rules.proofs.chains.links.Goals as goal

pub loop-value-preserved : goal.loop-value-preserved
loop-value-preserved c = record {
  count = search rules;
  so_far = link_turn c.args.line c.loop-value.before c.loop-value.left.now c.other_ops-left.result.now c.first_op.result c.loop-value.kids c.push.new.self c.in_ok-kid.kid c.in-Some.value c.loop-value.value-iterator.rest.items
      c.next.new.self.rest.items _ (search rules) (search rules) (search rules) (search rules) (search rules) c.loop-value.invariant.so_far;
}

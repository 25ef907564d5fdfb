use Rattle.call_instances.proofs.BodyLaws.{argument_found, argument_next, argument_none}
use Rattle.call_instances.proofs.bodies.slot_for.Goals as goal

pub returns-then-at-count : goal.returns-then-at-count
returns-then-at-count c f = argument_none c.args.names.now c.args.count c.args.name.now c.args.sort c.loop-at.at c.if-at-count.true c.loop-at.invariant f

pub returns-then-is_param : goal.returns-then-is_param
returns-then-is_param c f =
    argument_found c.args.names.now c.args.count c.args.name.now c.args.sort c.loop-at.at c.index-names-at.result c.is_param.result c.loop-at-test.true c.if-at-count.false c.index-names-at.is
    c.is_param.ensures c.if-is_param.true c.loop-at.invariant f

pub loop-at-preserved : goal.loop-at-preserved
loop-at-preserved c f =
    argument_next c.args.names.now c.args.count c.args.name.now c.args.sort c.loop-at.at c.index-names-at.result c.is_param.result c.loop-at-test.true c.if-at-count.false c.index-names-at.is
    c.is_param.ensures c.if-is_param.false c.loop-at.invariant f

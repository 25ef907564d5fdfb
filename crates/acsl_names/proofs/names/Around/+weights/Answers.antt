use Rattle.acsl_names.specs.Names.{view_around}
use Rattle.acsl_names.specs.Weights as spec
use Rattle.acsl_names.proofs.Weighing.{each_short}
use Rattle.acsl_names.proofs.names.Around.+weights.Goals as goal

-- src/weights.rt:130:17
pub add_each-returns-then-i-often : goal.add_each-returns-then-i-often
add_each-returns-then-i-often t c =
    each_short (view_around c.args.self.now) c.args.bound.now c.args.number c.as_slice-often.result.now c.args.args.now c.loop-i.i c.loop-i.weight
    (spec.with_each (view_around c.args.self.now) c.args.bound.now c.args.number c.args.definition.now.weight.times (spec.args_of c.args.args.now) c.args.weight.now) c.if-i-often.true c.loop-i.invariant

use Rattle.std.proofs.Common.{◌||◌, take}
use Rattle.typed_prog.specs.Tree.{values_of}
use Rattle.typed_prog.specs.View.{view_values}
use Rattle.program_steps.specs.Temporaries.{some_use}
use Rattle.walk_live.proofs.Marks.{use_next}
use Rattle.walk_live.proofs.uses.+uses.Goals as goal

pub mark_all-loop-value-preserved : goal.mark_all-loop-value-preserved
mark_all-loop-value-preserved t c k f h =
    use_next k f c.args.values.now c.loop-value.value-index c.value-item.result c.mark_uses.new.set.items c.loop-value-test.true c.value-item.is
    (c.mark_uses.ensures k (λ n. some_use (values_of (view_values (take c.loop-value.value-index c.args.values.now))) n || f n) (c.loop-value.invariant k f h))

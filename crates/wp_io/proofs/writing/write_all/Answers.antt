use Rattle.std.proofs.Common.{arith}
use Rattle.wp_io.proofs.Steps.{appends_more}
use Rattle.wp_io.proofs.writing.write_all.Goals as goal

pub loop-at-preserved : goal.loop-at-preserved
loop-at-preserved g c = record {
  within = omega (arith, c.in_ok-at.ensures.bound);
  taken = appends_more _ _ _ c.args.bytes.now c.loop-at.at c.in_ok-at.field-0 c.loop-at.invariant.taken c.in_ok-at.ensures.bytes;
  later = omega arith;
}

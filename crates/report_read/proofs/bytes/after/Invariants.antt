use Rattle.std.proofs.Common.{◌≡◌, length}
use Rattle.report_read.specs.Bytes as spec
use Rattle.report_read.proofs.bytes.after.Given as goal

abbrev pub invariant-loop-wanted : goal.invariant-loop-wanted
invariant-loop-wanted l = spec.after l.first l.rest ≡ spec.after l.fn.first l.fn.bytes

abbrev pub decreases-loop-wanted : goal.decreases-loop-wanted
decreases-loop-wanted l = length l.first

use Rattle.std.proofs.Common.{◌≡◌, ◌-◌, length, take, drop}
use Rattle.report_read.specs.Bytes as spec
use Rattle.report_read.proofs.Fronts.{behind_front}
use Rattle.report_read.proofs.bytes.until.Given as goal

abbrev pub invariant-loop-at : goal.invariant-loop-at
invariant-loop-at l = behind_front (take l.at l.bytes) (spec.until l.end (drop l.at l.bytes)) ≡ spec.until l.end l.bytes

abbrev pub decreases-loop-at : goal.decreases-loop-at
decreases-loop-at l = length l.bytes - l.at

use Rattle.std.proofs.Common.{◌≡◌, ℕ, suc, ◌-◌, false, get_or, length}
use Rattle.branch_occurrences.proofs.marks.mark.Given as goal

-- no place is marked that wasn't
abbrev pub invariant-loop-marks : goal.invariant-loop-marks
invariant-loop-marks l = (k : ℕ) → get_or l.marks.items k false ≡ get_or l.initial.marks.items k false

abbrev pub decreases-loop-marks : goal.decreases-loop-marks
decreases-loop-marks l = suc l.place - length l.marks.items

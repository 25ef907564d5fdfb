use Rattle.std.proofs.Common.{take}
use Rattle.branch_rows.specs.Marks.{AlsoMarked}
use Rattle.branch_rows.proofs.marks.mark_all.Given as goal

abbrev pub invariant-loop-place : goal.invariant-loop-place
invariant-loop-place l = AlsoMarked (take l.place-index l.places) l.initial.marks.items l.marks.items

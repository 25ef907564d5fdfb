use Rattle.std.proofs.Common.{◌≡◌, drop}
use Rattle.c_taken.specs.Marking.{marked}
use Rattle.c_taken.specs.Pieces.{pointed}
use Rattle.c_taken.proofs.marks.Marks.mark_all.Given as goal

-- with the names that are left, all are marked
abbrev pub invariant-loop-name : goal.invariant-loop-name
invariant-loop-name l = marked (pointed (drop l.name-index l.names)) l.self ≡ marked (pointed l.names) l.initial.self

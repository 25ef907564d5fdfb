use Rattle.std.proofs.Common.{take}
use Rattle.call_clusters.specs.Rows.{IsMarked}
use Rattle.call_clusters.proofs.rows.marks.Given as goal

abbrev pub invariant-loop-i : goal.invariant-loop-i
invariant-loop-i l = IsMarked l.count (take l.i l.numbers) l.row.items

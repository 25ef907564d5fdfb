use Rattle.std.proofs.Common.{◌≡◌, length, map}
use Rattle.goal_words.specs.Kinds.{row_of}
use Rattle.goal_words.proofs.kinds.row_of.Given as goal

abbrev pub invariant-loop-table : goal.invariant-loop-table
invariant-loop-table g l = row_of (map (λ row. (row.0.now, row.1)) l.table) l.word ≡ row_of (map (λ row. (row.0.now, row.1)) l.initial.table) l.word

abbrev pub decreases-loop-table : goal.decreases-loop-table
decreases-loop-table g l = length l.table

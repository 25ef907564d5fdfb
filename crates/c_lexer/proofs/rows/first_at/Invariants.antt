use Rattle.std.proofs.Common.{◌≡◌, length, map}
use Rattle.c_lexer.specs.Scan.{first_row}
use Rattle.c_lexer.proofs.rows.first_at.Given as goal

abbrev pub invariant-loop-table : goal.invariant-loop-table
invariant-loop-table g l = first_row (map (λ row. (row.0.now, row.1, row.2)) l.table) l.annotated l.bytes ≡ first_row (map (λ row. (row.0.now, row.1, row.2)) l.initial.table) l.annotated l.bytes

abbrev pub decreases-loop-table : goal.decreases-loop-table
decreases-loop-table g l = length l.table

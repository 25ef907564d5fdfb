use Rattle.std.proofs.Common.{◌≡◌, length, map}
use Rattle.c_lexer.specs.Tables.{meaning_of}
use Rattle.c_lexer.proofs.rows.word_in.Given as goal

abbrev pub invariant-loop-table : goal.invariant-loop-table
invariant-loop-table l = meaning_of (map (λ row. (row.0.now, row.1, row.2)) l.table) l.annotated l.bytes ≡ meaning_of (map (λ row. (row.0.now, row.1, row.2)) l.initial.table) l.annotated l.bytes

abbrev pub decreases-loop-table : goal.decreases-loop-table
decreases-loop-table l = length l.table

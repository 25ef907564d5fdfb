use Rattle.std.proofs.Common.{◌≡◌, map, length}
use Rattle.parse_types.specs.Read.{kind_among}
use Rattle.parse_types.proofs.kinds.kind_in.Given as goal

abbrev pub invariant-loop-table : goal.invariant-loop-table
invariant-loop-table l = kind_among (map (λ row. (row.0.now, row.1)) l.table) l.words ≡ kind_among (map (λ row. (row.0.now, row.1)) l.initial.table) l.words

abbrev pub decreases-loop-table : goal.decreases-loop-table
decreases-loop-table l = length l.table

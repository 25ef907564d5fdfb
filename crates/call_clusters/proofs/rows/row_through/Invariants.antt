use Rattle.std.proofs.Common.{◌&&◌, ◌||◌}
use Rattle.call_clusters.specs.Rows.{entry, IsRow}
use Rattle.call_clusters.proofs.rows.row_through.Given as goal

abbrev pub invariant-loop-g : goal.invariant-loop-g
invariant-loop-g l = IsRow l.g (λ g. entry l.rows l.function g || (entry l.rows l.function l.via && entry l.rows l.via g)) l.row.items

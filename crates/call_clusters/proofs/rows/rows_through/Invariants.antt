use Rattle.std.proofs.Common.{◌&&◌, ◌||◌, length}
use Rattle.call_clusters.specs.Rows.{entry, AreRows}
use Rattle.call_clusters.proofs.rows.rows_through.Given as goal

abbrev pub invariant-loop-f : goal.invariant-loop-f
invariant-loop-f l = AreRows (length l.rows) l.f (λ f g. entry l.rows f g || (entry l.rows f l.via && entry l.rows l.via g)) l.made.items

use Rattle.std.proofs.Common.{◌≡◌, ◌++◌, ℕ, suc, map, length}
use Rattle.memory_worlds.specs.View.{exits_at, view_world}
use Rattle.memory_worlds.proofs.ends.sort_exits.Given as goal

abbrev pub invariant-loop-exit : goal.invariant-loop-exit
invariant-loop-exit l = record {
  count : l.exit-iterator.rest.len ≡ length l.exit-iterator.rest.items;
  here : map view_world l.here.items ++ exits_at l.exit-iterator.rest.items 0 ≡ exits_at l.fn.inner.items 0;
  left : (k : ℕ) → exits_at l.left.items k ++ exits_at l.exit-iterator.rest.items (suc k) ≡ exits_at l.initial.left.items k ++ exits_at l.fn.inner.items (suc k);
}

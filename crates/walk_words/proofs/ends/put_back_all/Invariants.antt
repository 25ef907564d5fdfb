use Rattle.std.proofs.Common.{◌≡◌, ◌++◌, ℕ, map, length}
use Rattle.walk_steps.specs.World.{restored}
use Rattle.walk_words.specs.View.{exits_at, view_world}
use Rattle.walk_words.proofs.ends.put_back_all.Given as goal

abbrev pub invariant-loop-exit : goal.invariant-loop-exit
invariant-loop-exit l = record {
  count : l.exit-iterator.rest.len ≡ length l.exit-iterator.rest.items;
  so_far : (k : ℕ) → exits_at l.left.items k ++ map (restored l.places (view_world l.before)) (exits_at l.exit-iterator.rest.items k) ≡ exits_at l.initial.left.items k ++ map (restored l.places (view_world l.before)) (exits_at l.fn.inner.items k);
}

use Rattle.std.proofs.Common.{◌≡◌, ◌++◌, ℕ, map, length}
use Rattle.qed_terms.specs.View.{term_tree}
use Rattle.memory_worlds.specs.Scopes.{with_saved}
use Rattle.memory_worlds.specs.View.{exits_at}
use Rattle.memory_worlds.proofs.ends.put_back_all.Given as goal

abbrev pub invariant-loop-exit : goal.invariant-loop-exit
invariant-loop-exit l =
    let back = with_saved l.places (map term_tree l.saved) in
    record {
      count : l.exit-iterator.rest.len ≡ length l.exit-iterator.rest.items;
      so_far : (k : ℕ) → exits_at l.left.items k ++ map back (exits_at l.exit-iterator.rest.items k) ≡ exits_at l.initial.left.items k ++ map back (exits_at l.fn.inner.items k);
    }

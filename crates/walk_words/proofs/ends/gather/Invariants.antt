use Rattle.std.proofs.Common.{◌≡◌, map, length, None}
use Rattle.qed_terms.specs.Fresh.{used_in}
use Rattle.walk_words.specs.View.{met_with, used_by_met_with, view_end, view_world}
use Rattle.walk_words.proofs.ends.gather.Given as goal

abbrev pub invariant-loop-world : goal.invariant-loop-world
invariant-loop-world l = record {
  count : l.world-iterator.rest.len ≡ length l.world-iterator.rest.items;
  end : met_with l.bases (used_in l.fresh) (view_end l.so_far) (map view_world l.world-iterator.rest.items) ≡ met_with l.bases (used_in l.initial.fresh) None (map view_world l.fn.worlds.items);
  used : used_by_met_with l.bases (used_in l.fresh) (view_end l.so_far) (map view_world l.world-iterator.rest.items) ≡ used_by_met_with l.bases (used_in l.initial.fresh) None (map view_world l.fn.worlds.items);
}

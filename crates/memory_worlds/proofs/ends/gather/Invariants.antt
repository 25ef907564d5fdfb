use Rattle.std.proofs.Common.{◌≡◌, map, length, None}
use Rattle.memory_worlds.specs.View.{met_with, used_by, used_by_met_with, view_base, view_end, view_world}
use Rattle.memory_worlds.proofs.ends.gather.Given as goal

abbrev pub invariant-loop-world : goal.invariant-loop-world
invariant-loop-world l = record {
  count : l.world-iterator.rest.len ≡ length l.world-iterator.rest.items;
  end : met_with (map view_base l.bases) (used_by l.names) (view_end l.so_far) (map view_world l.world-iterator.rest.items) ≡ met_with (map view_base l.bases) (used_by l.initial.names) None (map view_world l.fn.worlds.items);
  used : used_by_met_with (map view_base l.bases) (used_by l.names) (view_end l.so_far) (map view_world l.world-iterator.rest.items) ≡ used_by_met_with (map view_base l.bases) (used_by l.initial.names) None (map view_world l.fn.worlds.items);
}

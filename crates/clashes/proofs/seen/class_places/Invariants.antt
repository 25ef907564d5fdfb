use Rattle.std.proofs.Common.{◌≤◌, length}
use Rattle.same_places.specs.Same.{at}
use Rattle.clashes.specs.Seen.{place_in, AreSeen}
use Rattle.clashes.proofs.seen.class_places.Given as goal

abbrev pub invariant-loop-place : goal.invariant-loop-place
invariant-loop-place l = record {
  within : l.place-index ≤ length l.places;
  seen : AreSeen (at l.classes) l.places l.place-index (place_in l.seen.entries);
}

use Rattle.std.proofs.Common.{◌≡◌, ℕ, ◌<◌, List, length}
use Rattle.std.specs.Prelude.{Some, slice_get}
use Rattle.same_places.specs.Same.{Row, at}
use Rattle.same_places.specs.Passing.{Sound}
use Rattle.same_places.specs.Members.{class_list, IsKept}
use Rattle.same_places.proofs.classes.join_pairs.Given as goal

abbrev pub invariant-loop-pair : goal.invariant-loop-pair
invariant-loop-pair l = record {
  kept : IsKept l.classes;
  all : length (class_list l.classes) ≡ length (class_list l.initial.classes);
  sound : (rows : List Row) → Sound rows l.pairs (class_list l.initial.classes) → Sound rows l.pairs (class_list l.classes);
  hold : (k i j : ℕ) → k < l.pair-index → slice_get l.pairs k ≡ Some (i, j) → at (class_list l.classes) i ≡ at (class_list l.classes) j;
}

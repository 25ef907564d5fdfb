use Rattle.std.proofs.Common.{◌≡◌, ℕ, ◌<◌, [], ◌∷◌, length, map}
use Rattle.same_places.specs.Same.{at}
use Rattle.same_places.specs.Members.{list_at, place_list}
use Rattle.same_places.proofs.joins.apart.Given as goal

abbrev pub invariant-loop-i : goal.invariant-loop-i
invariant-loop-i l = record {
  all : length l.class_of.items ≡ l.i;
  own : (j : ℕ) → j < l.i → at l.class_of.items j ≡ j;
  lists : length (map place_list l.places_of.items) ≡ l.i;
  singles : (j : ℕ) → j < l.i → list_at (map place_list l.places_of.items) j ≡ j ∷ [];
}

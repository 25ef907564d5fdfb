use Rattle.std.proofs.Common.{ℕ, ◌<◌, get_or}
use Rattle.same_places.specs.Same.{at}
use Rattle.term_forms.specs.Forms.{tree_of}
use Rattle.clashes.specs.Seen.{place_in, DiffersThere}
use Rattle.clashes.proofs.numbers.has_two_numbers.Given as goal

abbrev pub invariant-loop-place : goal.invariant-loop-place
invariant-loop-place l = (i : ℕ) → i < l.place-index → DiffersThere (tree_of l.table) (at l.classes) (place_in l.seen.entries) (get_or l.numbers i 0) → ⊥

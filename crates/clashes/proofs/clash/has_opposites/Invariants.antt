use Rattle.std.proofs.Common.{ℕ, ◌<◌, get_or}
use Rattle.same_places.specs.Same.{at}
use Rattle.term_forms.specs.Forms.{tree_of, count_of}
use Rattle.clashes.specs.Seen.{place_in, IsOppositeThere}
use Rattle.clashes.proofs.clash.has_opposites.Given as goal

abbrev pub invariant-loop-literal : goal.invariant-loop-literal
invariant-loop-literal l = (i : ℕ) → i < l.literal-index → IsOppositeThere (tree_of l.table) (count_of l.table) (at l.classes) (place_in l.seen.entries) (get_or l.literals i 0) → ⊥

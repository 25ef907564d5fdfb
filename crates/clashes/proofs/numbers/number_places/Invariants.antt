use Rattle.term_forms.specs.Forms.{tree_of}
use Rattle.clashes.specs.Seen.{AreNumbers}
use Rattle.clashes.proofs.numbers.number_places.Given as goal

abbrev pub invariant-loop-place : goal.invariant-loop-place
invariant-loop-place l = AreNumbers (tree_of l.table) l.marks l.place l.places.items

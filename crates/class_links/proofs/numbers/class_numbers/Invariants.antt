use Rattle.same_places.specs.Same.{at}
use Rattle.term_forms.specs.Forms.{tree_of}
use Rattle.class_links.specs.ClassForms.{number_for, AreLeast}
use Rattle.class_links.proofs.numbers.class_numbers.Given as goal

abbrev pub invariant-loop-place : goal.invariant-loop-place
invariant-loop-place l = AreLeast l.place (tree_of l.table) (at l.classes) (number_for l.numbers.entries)

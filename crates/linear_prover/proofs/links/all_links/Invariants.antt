use Rattle.std.proofs.Common.{length, map, take}
use Rattle.linear_chains.specs.View.{link_of}
use Rattle.same_places.specs.Same.{at}
use Rattle.term_forms.specs.Forms.{tree_of}
use Rattle.branch_links.specs.Numbered.{TellApart}
use Rattle.class_links.specs.ClassForms.{number_for, AreLeast}
use Rattle.linear_prover.specs.LiteralLinks.{Gathered}
use Rattle.linear_prover.proofs.links.all_links.Given as goal

abbrev pub invariant-loop-i : goal.invariant-loop-i
invariant-loop-i l =
    TellApart (map (tree_of l.table) l.literals) (length l.classes) (tree_of l.table) (at l.classes) →
    AreLeast (length l.classes) (tree_of l.table) (at l.classes) (number_for l.numbers.entries) →
    Gathered (map (tree_of l.table) l.literals) (length l.classes) (tree_of l.table) (at l.classes) (map (tree_of l.table) (take l.i l.literals)) (map link_of l.all.links.items) (map (tree_of l.table) l.all.literals.items)

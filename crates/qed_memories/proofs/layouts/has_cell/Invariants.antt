use Rattle.std.proofs.Common.{◌≡◌, ◌++◌, ◌-◌, map, length, drop}
use Rattle.qed_terms.specs.View.{formula_tree, term_tree}
use Rattle.qed_memories.specs.Memories.{are_at_places, cell_count}
use Rattle.qed_memories.proofs.layouts.has_cell.Given as goal

abbrev pub invariant-loop-place : goal.invariant-loop-place
invariant-loop-place l =
    map formula_tree l.places ++ are_at_places (cell_count l.layout) (length l.layout.cells) l.kind (term_tree l.offset) l.place (drop l.place l.layout.cells)
    ≡ are_at_places (cell_count l.layout) (length l.layout.cells) l.kind (term_tree l.offset) 0 l.layout.cells

abbrev pub decreases-loop-place : goal.decreases-loop-place
decreases-loop-place l = length l.layout.cells - l.place

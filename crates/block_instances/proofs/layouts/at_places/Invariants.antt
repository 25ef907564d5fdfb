use Rattle.std.proofs.Common.{◌≡◌, ℕ, ◌++◌, ◌-◌, map, length, drop}
use Rattle.qed_terms.specs.Tree.{Tree}
use Rattle.qed_memories.specs.Memories.{are_at_places, cell_count}
use Rattle.term_sketches.specs.Sketches.{sketch_tree}
use Rattle.block_instances.proofs.layouts.at_places.Given as goal

-- those so far and those from here on make the whole
abbrev pub invariant-loop-place : goal.invariant-loop-place
invariant-loop-place l =
    (f : ℕ → Tree) → map (sketch_tree f) l.places ++ are_at_places (cell_count l.layout) (length l.layout.cells) l.kind (f l.offset) l.place (drop l.place l.layout.cells)
    ≡ are_at_places (cell_count l.layout) (length l.layout.cells) l.kind (f l.offset) 0 l.layout.cells

abbrev pub decreases-loop-place : goal.decreases-loop-place
decreases-loop-place l = length l.layout.cells - l.place

-- Sketches: trees with slots for other trees.
use Rattle.std.specs.Prelude.{◌≡◌, ℕ, List, [], ◌∷◌, map, get_or, Result, IfOk}
use Rattle.wp_base.specs.declared.memory.NoMemory.{NoMemory}
use Rattle.qed_terms.specs.Tree.{Tree, node, Trees, stop, more, trees_of, true_tree}
use Rattle.term_sketches.specs.declared.sketch.Sketch.{Sketch, Sketch-F, fold-Sketch}

-- ---- the tree of a sketch, with these trees in its slots

abbrev pub sketch_layer : (ℕ → Tree) → Sketch-F Tree → Tree
sketch_layer at (Sketch-F.Slot n) = at n
sketch_layer at (Sketch-F.Over head kids) = node head (trees_of kids)

unfoldable pub sketch_tree : (ℕ → Tree) → Sketch → Tree
sketch_tree at = fold-Sketch Tree (sketch_layer at)

-- a list in slots, from slot 0 on; slots behind it have `true`
abbrev pub slots : List Tree → ℕ → Tree
slots ts n = get_or ts n true_tree

-- ---- drafts: sketches, where there was memory for them

pub record Draws (at : ℕ → Tree) (draft : Result Sketch NoMemory) (t : Tree) : Type 0 where
  pub drawn : IfOk draft (λ s. sketch_tree at s ≡ t)

-- one after the other, as the kids of a node and as a list
abbrev pub DrawAll : (ℕ → Tree) → List (Result Sketch NoMemory) → Trees → Type 0
DrawAll at [] stop = Unit {0}
DrawAll at [] (more t ts) = ⊥
DrawAll at (d ∷ ds) stop = ⊥
DrawAll at (d ∷ ds) (more t ts) = Draws at d t × DrawAll at ds ts

abbrev pub DrawEach : (ℕ → Tree) → List (Result Sketch NoMemory) → List Tree → Type 0
DrawEach at [] [] = Unit {0}
DrawEach at [] (t ∷ ts) = ⊥
DrawEach at (d ∷ ds) [] = ⊥
DrawEach at (d ∷ ds) (t ∷ ts) = Draws at d t × DrawEach at ds ts

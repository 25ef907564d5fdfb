-- Formulas drawn over ids, and what a row gives at a tree.
use Rattle.std.specs.Prelude.{◌≡◌, List, map, All}
use Rattle.qed_terms.specs.declared.head.Head.{Head}
use Rattle.qed_terms.specs.Tree.{Tree, Trees, head_of, kids_in}
use Rattle.term_sketches.specs.declared.sketch.Sketch.{Sketch}
use Rattle.term_sketches.specs.Sketches.{sketch_tree, slots}

-- the store holds the ids; with what they stand for in their slots the sketches are these formulas
pub record AreDrawn {Id : Type 0} (held : Id → Type 0) (tree : Id → Tree) (ids : List Id) (sketches : List Sketch) (formulas : List Tree) : Type 0 where
  pub ids_held : All held ids
  pub drawn : map (sketch_tree (slots (map tree ids))) sketches ≡ formulas

-- what a row, a function of a head and kids, gives at a tree
unfoldable pub row_at : (Head → Trees → List Tree) → Tree → List Tree
row_at row t = row (head_of t) (kids_in t)

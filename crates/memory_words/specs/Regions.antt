-- Sets of cells as formulas (ACSL 2.3.2, 2.3.4): whether a cell, or a region, lies in a set that was taken when there were so many blocks.
use Rattle.std.specs.Prelude.{ℕ, Bool, true, false, if◌then◌else◌, List, [], ◌∷◌, ◌++◌, map}
use Rattle.std.specs.List.{list_any}
use Rattle.wp_base.specs.declared.kinds.CellKind.{CellKind}
use Rattle.wp_base.specs.Blocks.{same_cell}
use Rattle.acsl_trees.specs.Tree as acsl
use Rattle.acsl_encode.specs.Readings as annotation
use Rattle.acsl_encode.specs.Readings.{Terms, region}
use Rattle.acsl_encode.specs.Encode.{terms_of, all_of}
use Rattle.acsl_encode.specs.Told.{every_cell, those}
use Rattle.qed_terms.specs.declared.head.Shape.{Shape}
use Rattle.qed_terms.specs.declared.head.Shape.TheVariants as shape
use Rattle.qed_terms.specs.Tree.{Tree, equal, at_most, less, and_of, or_of, false_tree}

-- the cells of elements with these kinds, of a block, from an offset up to below another one
pub record RegionTree : Type 0 where
  pub cells : List CellKind
  pub block : Tree
  pub low : Tree
  pub high : Tree

abbrev pub region_in : Terms → List RegionTree
region_in (region ks b low high) = record { cells = ks; block = b; low = low; high = high } ∷ []
region_in _ = []

-- those regions of an annotation that have cells
abbrev pub regions_in : (acsl.Tree → annotation.Reading) → List acsl.Tree → List RegionTree
regions_in r [] = []
regions_in r (a ∷ as_) = region_in (terms_of (r a) a) ++ regions_in r as_

abbrev pub has_kind : CellKind → RegionTree → Bool
has_kind k g = list_any (same_cell k) g.cells

abbrev pub of_kind : CellKind → List RegionTree → List RegionTree
of_kind k gs = those (has_kind k) gs

-- one stands alone, and none is `false`
abbrev pub any_of : List Tree → Tree
any_of [] = false_tree
any_of (f ∷ []) = f
any_of (f ∷ g ∷ fs) = or_of (f ∷ g ∷ fs)

-- ---- a cell

abbrev pub cell_in : (block offset : Tree) → RegionTree → Tree
cell_in b o g = and_of (equal b g.block ∷ at_most g.low o ∷ less o g.high ∷ [])

-- of this kind, or in a block that is newer
abbrev pub cell_inside : (since : Tree) → List RegionTree → CellKind → (block offset : Tree) → Tree
cell_inside e gs k b o = any_of (map (cell_in b o) (of_kind k gs) ++ at_most e b ∷ [])

-- ---- a region

abbrev pub region_within : (inner outer : RegionTree) → Tree
region_within r g = and_of (equal r.block g.block ∷ at_most g.low r.low ∷ at_most r.high g.high ∷ [])

-- it has no cells, is newer, or lies in one region that has cells of the kind
abbrev pub region_inside : (since : Tree) → List RegionTree → RegionTree → CellKind → Tree
region_inside e gs r k = or_of (at_most r.high r.low ∷ at_most e r.block ∷ map (region_within r) (of_kind k gs))

-- for each kind of its cells, in the order of kinds
abbrev pub kinds_of : RegionTree → List CellKind
kinds_of r = those (λ k. has_kind k r) every_cell

abbrev pub region_trees : (since : Tree) → List RegionTree → RegionTree → List Tree
region_trees e gs r = map (region_inside e gs r) (kinds_of r)

abbrev pub all_region_trees : (since : Tree) → (around inner : List RegionTree) → List Tree
all_region_trees e gs [] = []
all_region_trees e gs (r ∷ rs) = region_trees e gs r ++ all_region_trees e gs rs

abbrev pub regions_inside : (since : Tree) → (around inner : List RegionTree) → Tree
regions_inside e gs rs = all_of (all_region_trees e gs rs)

-- ---- regions of frames: cells, or all blocks from a number on

abbrev pub shapes_of : (news : List Tree) → List RegionTree → List Shape
shapes_of news gs = map (λ g. shape.Cells) gs ++ map (λ t. shape.New) news

abbrev pub bounds_of : List RegionTree → List Tree
bounds_of [] = []
bounds_of (g ∷ gs) = g.block ∷ g.low ∷ g.high ∷ bounds_of gs

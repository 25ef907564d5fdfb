-- Links of chains, and cells of regions.
use Rattle.std.specs.Prelude.{Option, Some, None}
use Rattle.acsl_trees.specs.declared.heads.Head.{Head}
use Rattle.acsl_trees.specs.declared.heads.Head.TheVariants as h
use Rattle.qed_terms.specs.Tree.{Tree}
use Rattle.qed_terms.specs.View.{term_tree}
use Rattle.acsl_encode.specs.Readings.{Terms, region}
use Rattle.acsl_encode.specs.Encode.{on_two, comparison, pointer_comparison, as_integer, as_pointer, apart_by}
use Rattle.annotation_heads.specs.declared.chains.Link.{Link}
use Rattle.annotation_heads.specs.declared.chains.Link.TheVariants as link
use Rattle.annotation_heads.specs.declared.chains.Cells as code

abbrev pub link_of : Head → Link
link_of (h.Link c) = link.Integers c
link_of (h.LinkPointers c) = link.Pointers c
link_of _ = link.Nothing

abbrev pub linked_by : Link → Terms → Terms → Option Tree
linked_by (link.Integers c) x y = on_two (comparison c) (as_integer x) (as_integer y)
linked_by (link.Pointers c) x y = on_two (pointer_comparison c) (as_pointer x) (as_pointer y)
linked_by link.Nothing x y = None

-- ---- regions

pub record Cells : Type 0 where
  pub block : Tree
  pub low : Tree
  pub high : Tree

abbrev pub view_cells : code.Cells → Cells
view_cells c = record { block = term_tree c.block.now; low = term_tree c.low.now; high = term_tree c.high.now }

abbrev pub cells_in : Terms → Option Cells
cells_in (region cells b low high) = Some (record { block = b; low = low; high = high })
cells_in _ = None

abbrev pub apart_cells : Cells → Cells → Tree
apart_cells a b = apart_by a.block a.low a.high b.block b.low b.high

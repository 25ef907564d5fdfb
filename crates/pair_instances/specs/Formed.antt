-- Memories that are said to be well formed.
use Rattle.std.specs.Prelude.{ℕ, Option, Some, None}
use Rattle.wp_base.specs.declared.kinds.CellKind.{CellKind}
use Rattle.wp_base.specs.declared.kinds.CellKind.TheVariants as cells
use Rattle.qed_terms.specs.declared.head.Head.{Head}
use Rattle.qed_terms.specs.declared.head.Head.TheVariants as h
use Rattle.qed_terms.specs.declared.head.FormOp.TheVariants as form
use Rattle.qed_terms.specs.Tree.{Tree, Trees, stop, more}
use Rattle.qed_memories.specs.Memories.{load_tree}
use Rattle.instance_rows.specs.PairRows.{kind_range, block_range}
use Rattle.pair_instances.specs.declared.ranges.IdFormed.{IdFormed}

-- what the cells are, the table and the memory
pub record Formed : Type 0 where
  pub cell : CellKind
  pub table : Tree
  pub memory : Tree

abbrev pub formed_with : CellKind → (table memory : Tree) → Formed
formed_with k t m = record { cell = k; table = t; memory = m }

abbrev pub formed_cell : Head → Option CellKind
formed_cell (h.Form (form.WellFormed k)) = Some k
formed_cell head = None

-- Where the cells are pointers, the memory of blocks stands before that of offsets.
abbrev pub formed : Head → Trees → Option Formed
formed (h.Form (form.WellFormed (cells.Of k))) (more t (more m stop)) = Some (formed_with (cells.Of k) t m)
formed (h.Form (form.WellFormed cells.Ptr)) (more t (more m (more n stop))) = Some (formed_with cells.Ptr t m)
formed head ts = None

-- the range of what is loaded
abbrev pub cell_range : (long_bits : ℕ) → CellKind → (table memory block offset : Tree) → Tree
cell_range bits (cells.Of k) t m b o = kind_range bits k (load_tree m b o)
cell_range bits cells.Ptr t m b o = block_range t (load_tree m b o)

-- by ids
abbrev pub formed_of : {Id : Type 0} → (Id → Tree) → IdFormed Id → Formed
formed_of tree w = formed_with w.cell (tree w.table) (tree w.memory)

abbrev pub FormedHeld : {Id : Type 0} → (Id → Type 0) → IdFormed Id → Type 0
FormedHeld held w = held w.table × held w.memory

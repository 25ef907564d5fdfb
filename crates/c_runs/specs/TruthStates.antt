-- The states that an annotation is read in, and what terms stand for there (ACSL 2.2, 2.4.3, 2.7). Numbers are of any size, and every term has a value:
-- what is read where no cell of the kind is, and a quotient by 0, are 0.
use Rattle.std.specs.Prelude.{ℕ, zero, suc, Bool, true, false, ◌&&◌, ◌||◌, not, if◌then◌else◌, ℤ, pos, negsuc, ◌+ℤ◌, ◌-ℤ◌, ◌*ℤ◌, List, [], ◌∷◌, length}
use Rattle.std.specs.List.{list_all}
use Rattle.wp_base.specs.declared.kinds.CellKind.{CellKind}
use Rattle.wp_base.specs.declared.kinds.CellKind.TheVariants as cell
use Rattle.wp_base.specs.Blocks.{Table, is_cell, is_writable, to_nat}
use Rattle.c_kinds.specs.declared.models.Machdep.{Machdep}
use Rattle.typed_prog.specs.declared.operators.Variable.{Variable}
use Rattle.qed_terms.specs.Operators.{is_zero, is_equal}
use Rattle.qed_terms.specs.Meaning.{all_from, some_from}
use Rattle.acsl_trees.specs.declared.heads.Content.{Content}
use Rattle.acsl_trees.specs.declared.heads.Content.TheVariants as content
use Rattle.acsl_trees.specs.declared.heads.Label.{Label}
use Rattle.acsl_trees.specs.declared.heads.Label.TheVariants as label

-- ---- values

-- the addresses from `offset + size * low` to `offset + size * high` of a block
pub record Span : Type 0 where
  pub block : ℤ
  pub offset : ℤ
  pub size : ℤ
  pub low : ℤ
  pub high : ℤ

-- A number, a pointer, which is the address of an object too, addresses, or addresses with the cells that stand from each one on.
pub data Value : Type 0 where
  number : (z : ℤ) → Value
  pointer : (block offset : ℤ) → Value
  addresses : (s : Span) → Value
  region : (cells : List CellKind) (s : Span) → Value

-- null points to block 0, which has no cells
abbrev pub null : Value
null = pointer (pos 0) (pos 0)

abbrev pub number_of : Value → ℤ
number_of (number z) = z
number_of _ = pos 0

abbrev pub block_of : Value → ℤ
block_of (pointer b o) = b
block_of _ = pos 0

abbrev pub offset_of : Value → ℤ
offset_of (pointer b o) = o
offset_of _ = pos 0

abbrev pub one_address : (block offset : ℤ) → Span
one_address b o = record { block = b; offset = o; size = pos 0; low = pos 0; high = pos 0 }

abbrev pub span_of : Value → Span
span_of (addresses s) = s
span_of (region cells s) = s
span_of v = one_address (block_of v) (offset_of v)

abbrev pub cells_of : Value → List CellKind
cells_of (region cells s) = cells
cells_of _ = []

-- a truth, which is 1 or 0; what isn't 0 is taken for true
abbrev pub truth : Bool → Value
truth true = number (pos 1)
truth false = number (pos 0)

abbrev pub is_true : Value → Bool
is_true v = not (is_zero (number_of v))

-- ---- states

-- the blocks, what their cells hold, and the block of each variable; that of a variable whose address is never taken has a negative number, and its one
-- cell is no cell of the table
pub record State : Type 0 where
  pub blocks : Table
  pub cells : (block offset : ℤ) → Value
  pub home : Variable → ℤ

-- the state that a term is read in, and those that labels stand for; what `\result` is; the data model, and the cells of each struct
pub record World : Type 0 where
  pub here : State
  pub pre : State
  pub post : State
  pub loop_entry : State
  pub result : Value
  pub model : Machdep
  pub structs : ℕ → List CellKind

-- under a label
abbrev pub state_at : Label → World → State
state_at label.Here w = w.here
state_at label.Pre w = w.pre
state_at label.Post w = w.post
state_at label.LoopEntry w = w.loop_entry

abbrev pub moved_to : Label → World → World
moved_to l w = record w { here = state_at l w }

-- ---- cells

-- the cells of what stands at an address
abbrev pub content_cells : World → Content → List CellKind
content_cells w (content.Integer k) = cell.Of k ∷ []
content_cells w content.Pointer = cell.Ptr ∷ []
content_cells w (content.Struct n) = w.structs n

abbrev pub is_negative : ℤ → Bool
is_negative (pos n) = false
is_negative (negsuc n) = true

-- a cell of this kind, or that of a variable whose address is never taken
abbrev pub may_read : CellKind → State → (block offset : ℤ) → Bool
may_read k s b o = is_negative b || is_cell k s.blocks b o

-- what a cell of a kind holds; a cell that holds something else counts as one of 0
abbrev pub of_kind : CellKind → Value → Value
of_kind (cell.Of k) (number z) = number z
of_kind (cell.Of k) _ = number (pos 0)
of_kind cell.Ptr (pointer b o) = pointer b o
of_kind cell.Ptr _ = null

abbrev pub nothing_of : CellKind → Value
nothing_of (cell.Of k) = number (pos 0)
nothing_of cell.Ptr = null

abbrev pub held : CellKind → State → (block offset : ℤ) → Value
held k s b o = if may_read k s b o then of_kind k (s.cells b o) else nothing_of k

-- a struct isn't a value
abbrev pub read : Content → State → Value → Value
read (content.Integer k) s v = held (cell.Of k) s (block_of v) (offset_of v)
read content.Pointer s v = held cell.Ptr s (block_of v) (offset_of v)
read (content.Struct n) s v = v

-- ---- numbers from one to another one

-- how many there are
abbrev pub count_between : (low high : ℤ) → ℕ
count_between low high = to_nat (high -ℤ low +ℤ pos 1)

abbrev pub every_between : (low high : ℤ) → (ℤ → Bool) → Bool
every_between low high test = all_from low (count_between low high) test

abbrev pub some_between : (low high : ℤ) → (ℤ → Bool) → Bool
some_between low high test = some_from low (count_between low high) test

-- ---- sets of addresses

-- the address with this number
abbrev pub address_at : Span → ℤ → ℤ
address_at s i = s.offset +ℤ s.size *ℤ i

abbrev pub is_good_cell : (writable : Bool) → Table → CellKind → (block offset : ℤ) → Bool
is_good_cell true t k b o = is_writable k t b o
is_good_cell false t k b o = is_cell k t b o

-- the cells from an offset on are of these kinds
abbrev pub are_good_cells : (writable : Bool) → Table → List CellKind → (block offset : ℤ) → Bool
are_good_cells writable t [] b o = true
are_good_cells writable t (k ∷ ks) b o = is_good_cell writable t k b o && are_good_cells writable t ks b (o +ℤ pos 1)

-- at each of the addresses what stands there may be read, or written too
abbrev pub is_valid : (writable : Bool) → Table → List CellKind → Span → Bool
is_valid writable t ks s = every_between s.low s.high (λ i. are_good_cells writable t ks s.block (address_at s i))

-- one of so many cells from an offset on is at this one
abbrev pub is_among : (count : ℕ) → (offset at : ℤ) → Bool
is_among zero o x = false
is_among (suc n) o x = is_equal o x || is_among n (o +ℤ pos 1) x

-- a region has the cell at this address
abbrev pub covers : Value → (block offset : ℤ) → Bool
covers r b o =
    is_equal (span_of r).block b && some_between (span_of r).low (span_of r).high (λ i. is_among (length (cells_of r)) (address_at (span_of r) i) o)

-- none of so many cells from an offset on is in a region
abbrev pub are_outside : Value → (count : ℕ) → (block offset : ℤ) → Bool
are_outside r zero b o = true
are_outside r (suc n) b o = not (covers r b o) && are_outside r n b (o +ℤ pos 1)

-- two regions have no cell in common
abbrev pub are_apart : Value → Value → Bool
are_apart r q = every_between (span_of r).low (span_of r).high (λ i. are_outside q (length (cells_of r)) (span_of r).block (address_at (span_of r) i))

abbrev pub all_apart : List Value → Bool
all_apart [] = true
all_apart (r ∷ rs) = list_all (are_apart r) rs && all_apart rs

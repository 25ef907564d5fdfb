-- The rows of a round of instances at two nodes.
use Rattle.std.specs.Prelude.{ℕ, if◌then◌else◌, pos, List, [], ◌∷◌, ◌++◌}
use Rattle.wp_base.specs.declared.kinds.Kind.{Kind}
use Rattle.wp_base.specs.declared.kinds.CellKind.TheVariants as cell
use Rattle.wp_base.specs.declared.kinds.Layout.{Layout}
use Rattle.wp_base.specs.Kinds.{kind_low, kind_high}
use Rattle.qed_terms.specs.declared.head.Head.{Head}
use Rattle.qed_terms.specs.declared.head.Head.TheVariants as h
use Rattle.qed_terms.specs.declared.head.TermOp.TheVariants as op
use Rattle.qed_terms.specs.declared.head.FormOp.TheVariants as form
use Rattle.qed_terms.specs.declared.head.Shape.{Shape}
use Rattle.qed_terms.specs.declared.head.Shape.TheVariants as shape
use Rattle.qed_terms.specs.Order.{same}
use Rattle.qed_terms.specs.Tree.{Tree, node, Trees, stop, more, two, num, at_most, less, equal, not_of, and_of, or_of}
use Rattle.qed_memories.specs.Memories.{load_tree, count_tree, asked, layout_answer}
use Rattle.instance_rows.specs.Rows.{Row, between, at_asked, answers}

-- the formulas that a row gives at two nodes
abbrev pub PairRow : Type 0
PairRow = Head → Trees → Row

-- at the second node where it is a load of the memory
abbrev pub at_load_of : (memory : Tree) → ((block offset : Tree) → Tree) → Row
at_load_of m formula (h.Term op.Load) (more n (more b (more o stop))) = if same m n then formula b o ∷ [] else []
at_load_of m formula head ts = []

-- ---- a literal `frame`, and a load of its second memory: the address lies in a region, or the loads agree

-- for each region that the address lies in it
abbrev pub in_regions : List Shape → Trees → (block offset : Tree) → List Tree
in_regions (shape.Cells ∷ shapes) (more c (more low (more high ts))) b o = and_of (equal b c ∷ at_most low o ∷ less o high ∷ []) ∷ in_regions shapes ts b o
in_regions (shape.New ∷ shapes) (more c ts) b o = at_most c b ∷ in_regions shapes ts b o
in_regions shapes ts b o = []

abbrev pub agreement : List Shape → (regions : Trees) → (memory memory' block offset : Tree) → Tree
agreement shapes rs m n b o = or_of (in_regions shapes rs b o ++ equal (load_tree m b o) (load_tree n b o) ∷ [])

abbrev pub frame_of_load : PairRow
frame_of_load (h.Form (form.Frame shapes)) (more m (more n rs)) head ts = at_load_of n (agreement shapes rs m n) head ts
frame_of_load g us head ts = []

-- ---- a literal `wf`, and a load of its memory, of the memory of blocks where the cells are pointers: the range of what is loaded

abbrev pub kind_range : (long_bits : ℕ) → Kind → (loaded : Tree) → Tree
kind_range bits k l = between (num (kind_low bits k)) (num (kind_high bits k)) l

abbrev pub block_range : (table loaded : Tree) → Tree
block_range t l = and_of (at_most (num (pos 0)) l ∷ less l (count_tree t) ∷ [])

abbrev pub range_of_load : (long_bits : ℕ) → PairRow
range_of_load bits (h.Form (form.WellFormed (cell.Of k))) (more t (more m stop)) head ts = at_load_of m (λ b o. kind_range bits k (load_tree m b o)) head ts
range_of_load bits (h.Form (form.WellFormed cell.Ptr)) (more t (more m (more n stop))) head ts = at_load_of m (λ b o. block_range t (load_tree m b o)) head ts
range_of_load bits g us head ts = []

-- ---- `has`, and what is asked of a block of its table: where it is that block, the layout answers

abbrev pub answer_by_layout : Layout → (table number : Tree) → Head → (block : Tree) → Trees → Tree
answer_by_layout l t n head b ts =
    or_of (not_of (node (h.Form (form.Has l)) (two t n)) ∷ not_of (equal b n) ∷ answers head (asked head t b ts) (layout_answer l head ts) ∷ [])

abbrev pub answer_where_same : Layout → (table number : Tree) → Head → (table' block : Tree) → Trees → List Tree
answer_where_same l t n head u b ts = if same t u then answer_by_layout l t n head b ts ∷ [] else []

abbrev pub answer_of_layout : PairRow
answer_of_layout (h.Form (form.Has l)) (more t (more n stop)) head ts = at_asked (answer_where_same l t n) head ts
answer_of_layout g us head ts = []

-- ---- two offsets: one is the smaller, or they are equal

abbrev pub order_of_offsets : (offset offset' : Tree) → Tree
order_of_offsets o p = or_of (less o p ∷ less p o ∷ equal o p ∷ [])

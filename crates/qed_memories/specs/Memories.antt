-- The rules of the normal form at memories and tables. Each says what becomes of a node whose kids are in normal form, where it changes
-- the node.
use Rattle.std.specs.Prelude.{ℕ, suc, ◌*◌, Bool, true, false, ◌&&◌, ◌||◌, if◌then◌else◌, ℤ, pos, int_le, List, [], ◌∷◌, length, Option, Some, None}
use Rattle.wp_base.specs.declared.kinds.CellKind.{CellKind}
use Rattle.wp_base.specs.declared.kinds.Layout.{Layout}
use Rattle.wp_base.specs.Blocks.{same_cell}
use Rattle.qed_terms.specs.declared.head.Head.{Head}
use Rattle.qed_terms.specs.declared.head.Head.TheVariants as h
use Rattle.qed_terms.specs.declared.head.TermOp.TheVariants as op
use Rattle.qed_terms.specs.declared.head.FormOp.TheVariants as rel
use Rattle.qed_terms.specs.declared.head.Sort.TheVariants as sort
use Rattle.qed_terms.specs.Tree.{Tree, node, Trees, stop, more, head_of, one, two, three, num, true_tree, false_tree, at_most, less, equal, and_of, or_of}
use Rattle.qed_terms.specs.Operators.{is_zero}
use Rattle.qed_terms.specs.Order.{same}
use Rattle.qed_terms.specs.WellFormed.{same_sort, made_by}
use Rattle.qed_linear.specs.Linear.{Lin, is_number, checked, subtract, to_lin, of_lin, is_integer}
use Rattle.qed_numbers.specs.Numbers.{Rule, then_some, first_of_rules, zero_tree}

-- ---- terms that differ by a number

abbrev pub number_of : Lin → Option ℤ
number_of f = if is_number f then Some (f.constant) else None

abbrev pub number_where : Option Lin → Option ℤ
number_where None = None
number_where (Some f) = number_of f

-- how much more the one form is than the other, where that is a number of 128 bits
unfoldable pub difference : Lin → Lin → Option ℤ
difference f g = number_where (checked (subtract f g))

abbrev pub apart : Tree → Tree → Option ℤ
apart t u = difference (to_lin t) (to_lin u)

abbrev pub is_zero_where : Option ℤ → Option Bool
is_zero_where None = None
is_zero_where (Some z) = Some (is_zero z)

abbrev pub is_from_zero : Option ℤ → Bool
is_from_zero None = false
is_from_zero (Some z) = int_le (pos 0) z

abbrev pub is_up_to_zero : Option ℤ → Bool
is_up_to_zero None = false
is_up_to_zero (Some z) = int_le z (pos 0)

-- in one block the offsets tell
abbrev pub or_offsets : Option Bool → Option Bool → Option Bool
or_offsets None known = None
or_offsets (Some false) known = Some false
or_offsets (Some true) known = known

-- whether two addresses are the same, where that is known: the one by the forms of its block and its offset, the other by its terms
unfoldable pub is_address : (block offset : Lin) → (block' offset' : Tree) → Option Bool
is_address f g b o = or_offsets (is_zero_where (difference f (to_lin b))) (is_zero_where (difference g (to_lin o)))

abbrev pub same_address : (block offset block' offset' : Tree) → Option Bool
same_address b o b' o' = is_address (to_lin b) (to_lin o) b' o'

-- ---- memories

abbrev pub load_tree : (memory block offset : Tree) → Tree
load_tree m b o = node (h.Term op.Load) (three m b o)

abbrev pub store_tree : (memory block offset value : Tree) → Tree
store_tree m b o v = node (h.Term op.Store) (more m (three b o v))

-- the value at the same address, what lies below at another one
abbrev pub loaded : Option Bool → (value below : Tree) → Option Tree
loaded None v t = None
loaded (Some true) v t = then_some (is_integer (head_of v)) v
loaded (Some false) v t = Some t

abbrev pub load_over : (memory block offset : Tree) → Option Tree
load_over (node (h.Term op.Store) (more m (more b' (more o' (more v stop))))) b o = loaded (same_address b o b' o') v (load_tree m b o)
load_over m b o = None

-- a load over a store
abbrev pub load_rule : Rule
load_rule (h.Term op.Load) (more m (more b (more o stop))) = load_over m b o
load_rule head ts = None

abbrev pub where_same : Option Bool → Tree → Option Tree
where_same None t = None
where_same (Some same) t = then_some same t

abbrev pub store_over : (memory block offset value : Tree) → Option Tree
store_over (node (h.Term op.Store) (more m (more b' (more o' (more v' stop))))) b o v = where_same (same_address b o b' o') (store_tree m b o v)
store_over m b o v = None

-- a store over a store at the same address drops the inner one
abbrev pub store_rule : Rule
store_rule (h.Term op.Store) (more m (more b (more o (more v stop)))) = store_over m b o v
store_rule head ts = None

-- ---- the count of a table, and tables that grow

abbrev pub count_tree : Tree → Tree
count_tree t = node (h.Term op.Count) (one t)

abbrev pub one_more : Tree → Tree
one_more t = node (h.Term op.Add) (two t (num (pos 1)))

abbrev pub count_over : Tree → Option Tree
count_over (node (h.Term (op.Alloc layout)) (more t stop)) = Some (one_more (count_tree t))
count_over t = None

-- one block more
abbrev pub count_rule : Rule
count_rule (h.Term op.Count) (more t stop) = count_over t
count_rule head ts = None

-- the normal form of the count of a table in normal form
unfoldable pub normal_count : Tree → Tree
normal_count (node (h.Term (op.Alloc layout)) (more t stop)) = of_lin (to_lin (one_more (normal_count t)))
normal_count t = count_tree t

abbrev pub grow_tree : (table count : Tree) → Tree
grow_tree t u = node (h.Term op.Grow) (two t u)

abbrev pub grow_over : (table count : Tree) → Option Tree
grow_over (node (h.Term op.Grow) (more t (more u stop))) v = then_some (is_from_zero (apart v u)) (grow_tree t v)
grow_over t v = None

-- grown once more, to no smaller a count
abbrev pub grow_rule : Rule
grow_rule (h.Term op.Grow) (more t (more u stop)) = grow_over t u
grow_rule head ts = None

-- the heads of tables
abbrev pub is_table : Head → Bool
is_table (h.Var x s) = same_sort sort.Table s
is_table (h.Term o) = same_sort sort.Table (made_by o)
is_table head = false

abbrev pub is_count_of : (table term : Tree) → Bool
is_count_of t (node (h.Term op.Count) (more u stop)) = same t u
is_count_of t u = false

abbrev pub is_own_count : (table count : Tree) → Bool
is_own_count t u = is_count_of t u && is_table (head_of t)

-- to the count that it has
abbrev pub no_growth_rule : Rule
no_growth_rule (h.Term op.Grow) (more t (more u stop)) = then_some (is_own_count t u) t
no_growth_rule head ts = None

-- ---- what is asked of a block of a table

-- the heads that ask of a block, with what stands behind table and block
abbrev pub asks : Head → Trees → Bool
asks (h.Form (rel.Read k)) (more o stop) = true
asks (h.Form (rel.Write k)) (more o stop) = true
asks (h.Form rel.Live) stop = true
asks (h.Term op.Len) stop = true
asks head ts = false

abbrev pub asked : Head → (table block : Tree) → Trees → Tree
asked head t b ts = node head (more t (more b ts))

abbrev pub at_block : (Head → (table block : Tree) → Trees → Option Tree) → Rule
at_block rule (h.Form (rel.Read k)) (more t (more b (more o stop))) = rule (h.Form (rel.Read k)) t b (one o)
at_block rule (h.Form (rel.Write k)) (more t (more b (more o stop))) = rule (h.Form (rel.Write k)) t b (one o)
at_block rule (h.Form rel.Live) (more t (more b stop)) = rule (h.Form rel.Live) t b stop
at_block rule (h.Term op.Len) (more t (more b stop)) = rule (h.Term op.Len) t b stop
at_block rule head ts = None

-- an ended block is no block
abbrev pub over_grown : Head → (table block : Tree) → Trees → Option Tree
over_grown head (node (h.Term op.Grow) (more t (more u stop))) b ts = Some (asked head t b ts)
over_grown head t b ts = None

-- whether the offset lies in a block of so many cells, at this place of an element of so many
abbrev pub is_at_place : (cells element : ℕ) → (offset : Tree) → (place : ℕ) → Tree
is_at_place n s o j = and_of (at_most (num (pos 0)) o ∷ less o (num (pos n)) ∷ equal (node (h.Term op.Mod) (two o (num (pos s)))) (num (pos j)) ∷ [])

-- one for each place of this kind, from this place on
abbrev pub are_at_places : (cells element : ℕ) → CellKind → (offset : Tree) → (place : ℕ) → List CellKind → List Tree
are_at_places n s k o j [] = []
are_at_places n s k o j (c ∷ cs) = if same_cell k c then is_at_place n s o j ∷ are_at_places n s k o (suc j) cs else are_at_places n s k o (suc j) cs

abbrev pub cell_count : Layout → ℕ
cell_count l = l.count * length l.cells

-- whether a block of this layout has a cell of this kind at the offset
abbrev pub has_cell_tree : Layout → CellKind → (offset : Tree) → Tree
has_cell_tree l k o = or_of (are_at_places (cell_count l) (length l.cells) k o 0 l.cells)

-- what a block of this layout answers
abbrev pub layout_answer : Layout → Head → Trees → Tree
layout_answer l (h.Form (rel.Read k)) (more o ts) = has_cell_tree l k o
layout_answer l (h.Form (rel.Write k)) (more o ts) = if l.writable then has_cell_tree l k o else false_tree
layout_answer l (h.Form rel.Live) ts = true_tree
layout_answer l (h.Term o) ts = num (pos (cell_count l))
layout_answer l head ts = false_tree

-- the block's number, which has this form, less the count of the table
unfoldable pub past_count : (block : Lin) → (table : Tree) → Option ℤ
past_count f t = difference f (to_lin (normal_count t))

abbrev pub layout_or_below : Option Bool → (answer below : Tree) → Option Tree
layout_or_below None t u = None
layout_or_below (Some true) t u = Some t
layout_or_below (Some false) t u = Some u

-- the block that was made last, or another one
abbrev pub over_made : Head → (table block : Tree) → Trees → Option Tree
over_made head (node (h.Term (op.Alloc l)) (more t stop)) b ts = layout_or_below (is_zero_where (past_count (to_lin b) t)) (layout_answer l head ts) (asked head t b ts)
over_made head t b ts = None

-- a number up to 0, or the count and a number from 0 up
unfoldable pub is_no_block : (table : Tree) → (block : Lin) → Bool
is_no_block t f = is_up_to_zero (number_of f) || is_from_zero (past_count f t)

-- what no block answers
abbrev pub no_answer : Head → Tree
no_answer (h.Term o) = zero_tree
no_answer head = false_tree

abbrev pub over_none : Head → (table block : Tree) → Trees → Option Tree
over_none head t b ts = then_some (is_no_block t (to_lin b)) (no_answer head)

-- ---- the rules in order

abbrev pub memory_rules : List Rule
memory_rules =
    load_rule ∷ store_rule ∷ count_rule ∷ grow_rule ∷ no_growth_rule ∷ at_block over_grown ∷ at_block over_made ∷ at_block over_none ∷ []

-- what the first of them makes of a node
abbrev pub memory_step : Rule
memory_step head ts = first_of_rules memory_rules head ts

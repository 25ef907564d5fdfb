-- The rows of a round of instances: at a node, formulas that are true wherever the node stands. Each names the node itself again.
use Rattle.std.specs.Prelude.{ℕ, ◌^◌, Bool, true, false, ◌&&◌, if◌then◌else◌, ℤ, pos, ◌+ℤ◌, ◌-ℤ◌, int_le, List, [], ◌∷◌, Option, Some, None}
use Rattle.wp_base.specs.declared.kinds.Kind.{Kind}
use Rattle.wp_base.specs.declared.kinds.Kind.TheVariants as kind
use Rattle.wp_base.specs.declared.kinds.Layout.{Layout}
use Rattle.wp_base.specs.Kinds.{kind_bits, kind_low, kind_high}
use Rattle.wp_base.specs.Blocks.{to_nat}
use Rattle.qed_terms.specs.declared.head.Head.{Head}
use Rattle.qed_terms.specs.declared.head.Head.TheVariants as h
use Rattle.qed_terms.specs.declared.head.TermOp.TheVariants as op
use Rattle.qed_terms.specs.declared.head.FormOp.TheVariants as form
use Rattle.qed_terms.specs.Tree.{Tree, node, Trees, stop, more, one, two, three, num, at_most, less, equal, ite, not_of, and_of, or_of}
use Rattle.qed_numbers.specs.Numbers.{number_at}
use Rattle.qed_memories.specs.Memories.{load_tree, store_tree, count_tree, asked, layout_answer}

-- the formulas that a row gives at a node
abbrev pub Row : Type 0
Row = Head → Trees → List Tree

abbrev pub sum_of : Tree → Tree → Tree
sum_of t u = node (h.Term op.Add) (two t u)

abbrev pub difference_of : Tree → Tree → Tree
difference_of t u = node (h.Term op.Sub) (two t u)

abbrev pub product_of : Tree → Tree → Tree
product_of t u = node (h.Term op.Mul) (two t u)

abbrev pub quotient_of : Tree → Tree → Tree
quotient_of t u = node (h.Term op.Div) (two t u)

-- low <= t <= high
abbrev pub between : (low high t : Tree) → Tree
between low high t = and_of (at_most low t ∷ at_most t high ∷ [])

abbrev pub below_zero : Tree → Tree
below_zero t = less t (num (pos 0))

-- ---- a literal that two integers aren't equal: one is the smaller

abbrev pub order_of_sides : Tree → List Tree
order_of_sides (node (h.Form form.Equal) (more t (more u stop))) = or_of (less t u ∷ less u t ∷ []) ∷ []
order_of_sides f = []

abbrev pub order_of_unequal : Row
order_of_unequal h.Not (more f stop) = order_of_sides f
order_of_unequal head ts = []

-- ---- a load over a store: the value at its address, elsewhere what lies below

abbrev pub load_by_address : (memory block offset value block' offset' : Tree) → Tree
load_by_address m b o v b' o' =
    or_of (
    and_of (equal b b' ∷ equal o o' ∷ equal (load_tree (store_tree m b o v) b' o') v ∷ [])
    ∷ and_of (or_of (not_of (equal b b') ∷ not_of (equal o o') ∷ []) ∷ equal (load_tree (store_tree m b o v) b' o') (load_tree m b' o') ∷ [])
    ∷ []
    )

abbrev pub load_below : (memory block offset : Tree) → List Tree
load_below (node (h.Term op.Store) (more m (more b (more o (more v stop))))) b' o' = load_by_address m b o v b' o' ∷ []
load_below m b o = []

abbrev pub load_of_store : Row
load_of_store (h.Term op.Load) (more m (more b (more o stop))) = load_below m b o
load_of_store head ts = []

-- ---- a cell that may be written may be read; a cell that may be read lies in a live block

abbrev pub read_of_write : Row
read_of_write (h.Form (form.Write k)) (more t (more b (more o stop))) =
    or_of (not_of (node (h.Form (form.Write k)) (three t b o)) ∷ node (h.Form (form.Read k)) (three t b o) ∷ []) ∷ []
read_of_write head ts = []

abbrev pub place_of_read : Row
place_of_read (h.Form (form.Read k)) (more t (more b (more o stop))) =
    or_of (
    not_of (node (h.Form (form.Read k)) (three t b o))
    ∷ and_of (
    node (h.Form form.Live) (two t b) ∷ at_most (num (pos 0)) o ∷ less o (node (h.Term op.Len) (two t b)) ∷ at_most (num (pos 1)) b
    ∷ less b (count_tree t) ∷ []
    )
    ∷ []
    )
    ∷ []
place_of_read head ts = []

-- ---- what is asked of a block of a table with one more block: that block answers by its layout, each other one as before

-- the heads that ask of a block, with the table, the block and what stands behind
abbrev pub at_asked : (Head → (table block : Tree) → Trees → List Tree) → Row
at_asked row (h.Form (form.Read k)) (more t (more b (more o stop))) = row (h.Form (form.Read k)) t b (one o)
at_asked row (h.Form (form.Write k)) (more t (more b (more o stop))) = row (h.Form (form.Write k)) t b (one o)
at_asked row (h.Form form.Live) (more t (more b stop)) = row (h.Form form.Live) t b stop
at_asked row (h.Term op.Len) (more t (more b stop)) = row (h.Term op.Len) t b stop
at_asked row head ts = []

-- an integer equals another, a formula is true exactly where another is
abbrev pub answers : Head → Tree → Tree → Tree
answers (h.Term o) t u = equal t u
answers head t u = node h.Iff (two t u)

abbrev pub alloc_tree : Layout → Tree → Tree
alloc_tree l t = node (h.Term (op.Alloc l)) (one t)

abbrev pub answer_by_block : Layout → (table : Tree) → Head → (block : Tree) → Trees → Tree
answer_by_block l t head b ts =
    or_of (
    and_of (equal b (count_tree t) ∷ answers head (asked head (alloc_tree l t) b ts) (layout_answer l head ts) ∷ [])
    ∷ and_of (not_of (equal b (count_tree t)) ∷ answers head (asked head (alloc_tree l t) b ts) (asked head t b ts) ∷ [])
    ∷ []
    )

abbrev pub answer_of_made : Head → (table block : Tree) → Trees → List Tree
answer_of_made head (node (h.Term (op.Alloc l)) (more t stop)) b ts = answer_by_block l t head b ts ∷ []
answer_of_made head t b ts = []

abbrev pub answer_of_alloc : Row
answer_of_alloc = at_asked answer_of_made

-- ---- a conversion: in the range of its kind, and for values less than 2^bits away by a case

abbrev pub is_bool : Kind → Bool
is_bool kind.Bool = true
is_bool k = false

-- where it lies outside of a range, or else the equation
abbrev pub outside_or : (low high : ℤ) → Tree → Tree → Tree
outside_or low high t f = or_of (less t (num low) ∷ less (num high) t ∷ f ∷ [])

abbrev pub wrap_tree : Kind → Tree → Tree
wrap_tree k t = node (h.Term (op.Wrap k)) (one t)

-- of t converted to a kind from low to high, of which there are so many numbers
abbrev pub wrap_cases : (low high many : ℤ) → (converted t : Tree) → List Tree
wrap_cases low high many w t =
    between (num low) (num high) w
    ∷ outside_or low high t (equal w t)
    ∷ outside_or (high +ℤ pos 1) (high +ℤ many) t (equal w (difference_of t (num many)))
    ∷ outside_or (low -ℤ many) (low -ℤ pos 1) t (equal w (sum_of t (num many)))
    ∷ []

abbrev pub cases_of_wrap : (long_bits : ℕ) → Row
cases_of_wrap bits (h.Term (op.Wrap k)) (more t stop) =
    if is_bool k then [] else wrap_cases (kind_low bits k) (kind_high bits k) (pos (2 ^ kind_bits bits k)) (wrap_tree k t) t
cases_of_wrap bits head ts = []

-- ---- a quotient by a number from 2 on, by the sign of the dividend

-- q = t / k, rounded towards 0
abbrev pub quotient_cases : (k : ℤ) → (q t : Tree) → List Tree
quotient_cases k q t =
    or_of (
    below_zero t
    ∷ and_of (
    at_most (num (pos 0)) q ∷ at_most q t ∷ at_most (product_of (num k) q) t ∷ at_most t (sum_of (product_of (num k) q) (num (k -ℤ pos 1))) ∷ []
    )
    ∷ []
    )
    ∷ or_of (at_most t (num (pos 0)) ∷ at_most (sum_of q (num (pos 1))) t ∷ [])
    ∷ or_of (
    at_most (num (pos 0)) t
    ∷ and_of (
    at_most q (num (pos 0)) ∷ at_most t q ∷ at_most t (product_of (num k) q) ∷ at_most (sum_of (product_of (num k) q) (num (pos 1 -ℤ k))) t ∷ []
    )
    ∷ []
    )
    ∷ []

abbrev pub quotient_by : Option ℤ → (t u : Tree) → List Tree
quotient_by None t u = []
quotient_by (Some k) t u = if int_le (pos 2) k then quotient_cases k (quotient_of t u) t else []

abbrev pub cases_of_quotient : Row
cases_of_quotient (h.Term op.Div) (more t (more u stop)) = quotient_by (number_at u) t u
cases_of_quotient head ts = []

-- ---- a remainder, a shift to the right by a number from 1 to 126, and common bits

abbrev pub remainder_case : (t u : Tree) → Tree
remainder_case t u =
    or_of (equal u (num (pos 0)) ∷ equal (node (h.Term op.Mod) (two t u)) (difference_of t (product_of u (quotient_of t u))) ∷ [])

-- s = t / k, rounded down
abbrev pub shift_bounds : (k : ℤ) → (s t : Tree) → Tree
shift_bounds k s t = between (product_of (num k) s) (sum_of (product_of (num k) s) (num (k -ℤ pos 1))) t

abbrev pub shift_by : Option ℤ → (t u : Tree) → List Tree
shift_by None t u = []
shift_by (Some n) t u =
    if int_le (pos 1) n && int_le n (pos 126) then shift_bounds (pos (2 ^ to_nat n)) (node (h.Term op.ShiftRight) (two t u)) t ∷ [] else []

abbrev pub common_bits_case : (t u : Tree) → Tree
common_bits_case t u = or_of (below_zero t ∷ between (num (pos 0)) t (node (h.Term op.BitAnd) (two t u)) ∷ [])

abbrev pub bounds_of_operator : Row
bounds_of_operator (h.Term op.Mod) (more t (more u stop)) = remainder_case t u ∷ []
bounds_of_operator (h.Term op.ShiftRight) (more t (more u stop)) = shift_by (number_at u) t u
bounds_of_operator (h.Term op.BitAnd) (more t (more u stop)) = common_bits_case t u ∷ []
bounds_of_operator head ts = []

-- ---- a choice is one of its arms

abbrev pub arm_of_ite : Row
arm_of_ite h.Ite (more f (more t (more u stop))) =
    or_of (and_of (f ∷ equal (ite f t u) t ∷ []) ∷ and_of (not_of f ∷ equal (ite f t u) u ∷ []) ∷ []) ∷ []
arm_of_ite head ts = []

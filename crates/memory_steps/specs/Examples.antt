-- The goals of small words, worked out by hand.
use Rattle.std.specs.Prelude.{◌≡◌, ℕ, zero, Bool, true, false, ◌&&◌, ◌||◌, ℤ, pos, int_le, int_lt, List, [], ◌∷◌, codes}
use Rattle.std.specs.Ordering.{int_eq}
use Rattle.wp_base.specs.Blocks as tables
use Rattle.wp_base.specs.Blocks.{Table}
use Rattle.wp_base.specs.declared.kinds.Layout.{Layout}
use Rattle.qed_terms.specs.declared.head.Head.TheVariants as h
use Rattle.qed_terms.specs.declared.head.TermOp.TheVariants as op
use Rattle.qed_terms.specs.declared.head.FormOp.TheVariants as form
use Rattle.qed_terms.specs.declared.head.Shape.TheVariants as shape
use Rattle.qed_terms.specs.Tree.{Tree, node, trees_of, num, var, at_most, less, equal, not_of, and_of, or_of}
use Rattle.qed_terms.specs.Fresh.{fresh_name, none_used}
use Rattle.qed_terms.specs.Memory.{Memory, load, store}
use Rattle.same_memories.specs.Canonical.{canonical}
use Rattle.walk_steps.specs.State.{at_or}
use Rattle.walk_steps.specs.Walk.{Goal}
use Rattle.memory_steps.specs.State.{Datum, number, cells, State, state, Base, base, nothing}
use Rattle.memory_steps.specs.Forms.{Slots, slots_of, Form, Term, Fact}
use Rattle.memory_steps.specs.Step.{keeps, fresh, Step, skip, seq, ask, set, change, choose, block, exit, remember, grown, made, ended}
use Rattle.memory_steps.specs.World.{memory_var, table_var, count_of, grow_of, alloc_of, same_of}
use Rattle.memory_steps.specs.Walk.{walk}
use Rattle.memory_steps.specs.Bracketed.{is_bracketed}
use Rattle.memory_steps.specs.Laws.{own, Start, start_world, goals}

-- ---- words: slot 0 is the number `x`, slot 1 the memory `M:int`

abbrev term_at : List Slots → ℕ → Tree
term_at ss i = at_or (num (pos 0)) (at_or (slots_of [] (table_var []) []) ss zero).terms i

abbrev table_at : List Slots → Tree
table_at ss = (at_or (slots_of [] (table_var []) []) ss zero).table

abbrev number_of : Datum → ℤ
number_of (number z) = z
number_of (cells m) = pos 0

abbrev memory_in : Datum → Memory
memory_in (number z) = []
memory_in (cells m) = m

abbrev held_in : Datum → (block offset : ℤ) → ℤ
held_in d b o = load (memory_in d) b o

abbrev datum_at : List State → ℕ → Datum
datum_at sts i = at_or nothing (at_or (state [] []) sts zero).slots i

abbrev blocks_at : List State → Table
blocks_at sts = (at_or (state [] []) sts zero).table

abbrev load_of : Tree → Tree
load_of m = node (h.Term op.Load) (trees_of (m ∷ num (pos 1) ∷ num (pos 0) ∷ []))

abbrev store_of : (m x : Tree) → Tree
store_of m x = node (h.Term op.Store) (trees_of (m ∷ num (pos 1) ∷ num (pos 0) ∷ x ∷ []))

abbrev frame_of : (m n : Tree) → Tree
frame_of m n = node (h.Form (form.Frame (shape.New ∷ []))) (trees_of (m ∷ n ∷ num (pos 2) ∷ []))

abbrev negative : Form
negative = record { written = λ ss. less (term_at ss 0) (num (pos 0)); told = λ sts. int_lt (number_of (datum_at sts 0)) (pos 0) }

-- at offset 0 of block 1 there is at most 9
abbrev small : Form
small = record { written = λ ss. at_most (load_of (term_at ss 1)) (num (pos 9)); told = λ sts. int_le (held_in (datum_at sts 1) (pos 1) (pos 0)) (pos 9) }

-- the number is at most 9
abbrev low : Form
low = record { written = λ ss. at_most (term_at ss 0) (num (pos 9)); told = λ sts. int_le (number_of (datum_at sts 0)) (pos 9) }

-- there are at most 9 blocks
abbrev few : Form
few = record { written = λ ss. at_most (count_of (table_at ss)) (num (pos 9)); told = λ sts. int_le (tables.count (blocks_at sts)) (pos 9) }

-- the number stored there
abbrev stored : Term
stored = record {
  written = λ ss. store_of (term_at ss 1) (term_at ss 0);
  told = λ sts. cells (canonical (store (memory_in (datum_at sts 1)) (pos 1) (pos 0) (number_of (datum_at sts 0))));
}

-- the blocks before number 2 hold what they held
abbrev framed : Fact
framed = record { written = λ ss t. frame_of (term_at ss 1) t; told = λ sts d b o. int_le (pos 2) b || int_eq (held_in d b o) (held_in (datum_at sts 1) b o) }

abbrev check : ℕ → Form → Step
check n f = ask (record { form = f; place = record { kind = n; line = 1 } } ∷ [])

abbrev goal : (number place : ℕ) → List Tree → Tree → Goal
goal n p known claim = record { number = n; place = record { kind = p; line = 1 }; known = known; claim = claim }

abbrev bases : List Base
bases = base (codes "x") false ∷ base (codes "M:int") true ∷ []

abbrev start : Start
start = record { origins = own ∷ own ∷ []; facts = [] }

abbrev x : Tree
x = var (codes "x")

abbrev m0 : Tree
m0 = memory_var (codes "M:int")

abbrev m1 : Tree
m1 = memory_var (codes "M#1:int")

abbrev t0 : Tree
t0 = table_var (codes "T")

abbrev x1 : Tree
x1 = var (fresh_name (codes "x") 1)

abbrev c1 : Tree
c1 = var (fresh_name (codes "c") 1)

abbrev below : Tree
below = less x (num (pos 0))

-- ---- a store in one arm: the memories differ, the table is one

abbrev stores : Step
stores = seq (choose negative (set 1 stored) skip) (check 7 small)

abbrev stores_goals : List Goal
stores_goals =
    goal 0 7 (or_of (and_of (below ∷ same_of m1 (store_of m0 x) ∷ []) ∷ and_of (not_of below ∷ same_of m1 m0 ∷ []) ∷ []) ∷ []) (at_most (load_of m1) (num (pos 9)))
    ∷ []

-- ---- a block in one arm: it is made, its number is in slot 0, and it ends there

abbrev layout : Layout
layout = record { count = 1; cells = []; writable = true }

abbrev scoped : Step
scoped = seq (choose negative (remember (seq (made 0 layout) (seq (check 1 few) (seq (check 5 low) (ended 0))))) skip) (check 2 few)

abbrev inside : Tree
inside = alloc_of t0 layout

abbrev scoped_goals : List Goal
scoped_goals =
    goal 0 1 (below ∷ []) (at_most (count_of inside) (num (pos 9)))
    ∷ goal 1 5 (below ∷ at_most (count_of inside) (num (pos 9)) ∷ []) (at_most (count_of t0) (num (pos 9)))
    ∷ goal 2 2
    (or_of
    (and_of
    (below ∷ at_most (count_of inside) (num (pos 9)) ∷ at_most (count_of t0) (num (pos 9)) ∷ equal x1 (count_of t0) ∷ equal c1 (count_of (grow_of t0 (count_of inside)))
    ∷ [])
    ∷ and_of (not_of below ∷ equal x1 x ∷ equal c1 (count_of t0) ∷ []) ∷ [])
    ∷ []) (at_most (count_of (grow_of t0 c1)) (num (pos 9)))
    ∷ []

-- ---- a call: blocks were made and have ended, and the memory changes in a set

abbrev called : Step
called = seq grown (seq (change (keeps ∷ fresh (framed ∷ []) ∷ [])) (seq (check 3 small) (check 4 few)))

abbrev called_known : List Tree
called_known = at_most (count_of t0) c1 ∷ frame_of m0 m1 ∷ []

abbrev called_goals : List Goal
called_goals =
    goal 0 3 called_known (at_most (load_of m1) (num (pos 9)))
    ∷ goal 1 4 (at_most (count_of t0) c1 ∷ frame_of m0 m1 ∷ at_most (load_of m1) (num (pos 9)) ∷ []) (at_most (count_of (grow_of t0 c1)) (num (pos 9)))
    ∷ []

-- ---- a block that ends on both ways out: by an exit, and at its end

abbrev leaving : Step
leaving = seq (block (remember (seq (made 0 layout) (seq (choose negative (seq (ended 0) (exit 0)) skip) (ended 0))))) (check 2 few)

-- that of its number
abbrev number_below : Tree
number_below = less (count_of t0) (num (pos 0))

abbrev leaving_goals : List Goal
leaving_goals = goal 0 2 (or_of (number_below ∷ not_of number_below ∷ []) ∷ []) (at_most (count_of (grow_of t0 (count_of inside))) (num (pos 9))) ∷ []

-- ---- a block that is made in one arm and doesn't end there, or not before an exit: such worlds aren't joined

abbrev unended : Step
unended = choose negative (made 0 layout) skip

abbrev left_open : Step
left_open = block (remember (seq (made 0 layout) (seq (choose negative (exit 0) skip) (ended 0))))

abbrev fits : Step → Bool
fits a = (walk bases [] zero a none_used (start_world bases start)).fits

abbrev all_fit : Bool
all_fit = fits stores && fits scoped && fits called && fits leaving

abbrev all_bracketed : Bool
all_bracketed = is_bracketed stores && is_bracketed scoped && is_bracketed called && is_bracketed leaving

pub record ExampleGoals : Type 0 where
  pub stores : goals bases start stores ≡ stores_goals
  pub scoped : goals bases start scoped ≡ scoped_goals
  pub called : goals bases start called ≡ called_goals
  pub leaving : goals bases start leaving ≡ leaving_goals
  pub joined : all_fit ≡ true
  pub bracketed : all_bracketed ≡ true
  pub refused : (fits unended || fits left_open) ≡ false
  pub unbracketed : (is_bracketed unended || is_bracketed left_open) ≡ false

-- The goals of small words, worked out by hand.
use Rattle.std.specs.Prelude.{◌≡◌, ℕ, zero, suc, ◌+ℤ◌, ℤ, pos, int_le, int_lt, List, [], ◌∷◌, ◌++◌, codes}
use Rattle.qed_terms.specs.declared.head.Head.TheVariants as h
use Rattle.qed_terms.specs.declared.head.TermOp.TheVariants as op
use Rattle.qed_terms.specs.Operators.{total}
use Rattle.qed_terms.specs.Tree.{Tree, node, trees_of, two, num, var, at_most, less, equal, not_of, and_of, or_of}
use Rattle.qed_terms.specs.Fresh.{fresh_name}
use Rattle.walk_steps.specs.State.{State, at_or}
use Rattle.walk_steps.specs.Forms.{Slots, Form, Number, Fact, Place}
use Rattle.walk_steps.specs.Step.{keeps, fresh, raised, Step, skip, halt, seq, ask, know, set, change, choose, block, exit, scope, remember}
use Rattle.walk_steps.specs.Walk.{Goal}
use Rattle.walk_steps.specs.Laws.{own, fixed, Start, goals}

-- ---- words: a slot of the present state, or of one that was remembered

abbrev slot_of : List Slots → (l i : ℕ) → Tree
slot_of ss l i = at_or (num (pos 0)) (at_or [] ss l) i

abbrev value_of : List State → (l i : ℕ) → ℤ
value_of sts l i = at_or (pos 0) (at_or [] sts l) i

abbrev sum : Tree → Tree → Tree
sum t u = node (h.Term op.Add) (two t u)

abbrev old : (l i : ℕ) → Number
old l i = record { written = λ ss. slot_of ss l i; told = λ sts. value_of sts l i }

abbrev now : ℕ → Number
now i = old zero i

abbrev constant : ℕ → Number
constant z = record { written = λ ss. num (pos z); told = λ sts. pos z }

abbrev plus : Number → Number → Number
plus a b = record { written = λ ss. sum (a.written ss) (b.written ss); told = λ sts. a.told sts +ℤ b.told sts }

abbrev is_at_most : Number → Number → Form
is_at_most a b = record { written = λ ss. at_most (a.written ss) (b.written ss); told = λ sts. int_le (a.told sts) (b.told sts) }

abbrev is_less : Number → Number → Form
is_less a b = record { written = λ ss. less (a.written ss) (b.written ss); told = λ sts. int_lt (a.told sts) (b.told sts) }

-- the new value is at most this
abbrev up_to : Number → Fact
up_to a = record { written = λ ss t. at_most t (a.written ss); told = λ sts z. int_le z (a.told sts) }

-- so many ones
abbrev ones : ℕ → List Tree
ones zero = []
ones (suc n) = num (pos 1) ∷ ones n

abbrev numbers : ℕ → List ℤ
numbers zero = []
numbers (suc n) = pos 1 ∷ numbers n

abbrev sum_of : ℕ → Number
sum_of n = record { written = λ ss. node (h.Term op.Add) (trees_of (ones n)); told = λ sts. total (numbers n) }

abbrev at : ℕ → Place
at n = record { kind = n; line = 1 }

abbrev check : ℕ → Form → Step
check n f = ask (record { form = f; place = at n } ∷ [])

abbrev goal : (number place : ℕ) → List Tree → Tree → Goal
goal n p known claim = record { number = n; place = at p; known = known; claim = claim }

-- ---- an `if`: `if (x < 0) y = x + 1; else y = x;` with x at most 9

abbrev x : List ℕ
x = codes "x"

abbrev y : List ℕ
y = codes "y"

abbrev two_bases : List (List ℕ)
two_bases = x ∷ y ∷ []

abbrev two_start : Start
two_start = record { origins = own ∷ fixed (pos 0) ∷ []; facts = is_at_most (now 0) (constant 9) ∷ [] }

abbrev arms : Step
arms = seq (choose (is_less (now 0) (constant 0)) (set 1 (plus (now 0) (constant 1))) (set 1 (now 0))) (check 7 (is_at_most (now 1) (constant 9)))

abbrev y1 : Tree
y1 = var (fresh_name y 1)

abbrev y2 : Tree
y2 = var (fresh_name y 2)

abbrev small : Tree
small = at_most (var x) (num (pos 9))

abbrev negative : Tree
negative = less (var x) (num (pos 0))

abbrev arms_known : List Tree
arms_known =
    small ∷ or_of (and_of (negative ∷ equal y1 (sum (var x) (num (pos 1))) ∷ []) ∷ and_of (not_of negative ∷ equal y1 (var x) ∷ []) ∷ []) ∷ []

abbrev arms_goals : List Goal
arms_goals = goal 0 7 arms_known (at_most y1 (num (pos 9))) ∷ []

-- ---- a loop: `while (y < x) { y = y + 1; }`, with the invariant that y is at most 9, and a flag that isn't set and one that is

abbrev loop_bases : List (List ℕ)
loop_bases = x ∷ y ∷ codes "a:i" ∷ codes "b:i" ∷ []

abbrev loop_start : Start
loop_start = record { origins = own ∷ fixed (pos 0) ∷ own ∷ fixed (pos 1) ∷ []; facts = [] }

abbrev invariant : Form
invariant = is_at_most (now 1) (constant 9)

-- at the head y is at most 100 more than it was before
abbrev head : Step
head = change (keeps ∷ fresh (up_to (plus (now 1) (constant 100)) ∷ []) ∷ raised ∷ raised ∷ [])

abbrev pass : Step
pass =
    seq (choose (is_less (now 1) (now 0)) skip (exit 0))
    (seq (set 1 (plus (now 1) (constant 1))) (seq (check 2 invariant) (seq (check 3 (is_less (old 1 1) (now 1))) halt)))

abbrev loop : Step
loop = seq (block (seq (check 1 invariant) (seq head (seq (know (invariant ∷ [])) (remember pass))))) (check 4 (is_at_most (now 0) (now 1)))

abbrev a_old : Tree
a_old = var (codes "a:i")

abbrev a_new : Tree
a_new = var (codes "a#1:i")

abbrev head_known : List Tree
head_known =
    at_most (num (pos 0)) (num (pos 9)) ∷ at_most y1 (sum (num (pos 0)) (num (pos 100)))
    ∷ at_most (num (pos 0)) a_new ∷ at_most a_new (num (pos 1)) ∷ at_most a_old a_new ∷ at_most y1 (num (pos 9)) ∷ []

abbrev going_on : Tree
going_on = less y1 (var x)

abbrev y_next : Tree
y_next = sum y1 (num (pos 1))

abbrev loop_goals : List Goal
loop_goals =
    goal 0 1 [] (at_most (num (pos 0)) (num (pos 9)))
    ∷ goal 1 2 (head_known ++ going_on ∷ []) (at_most y_next (num (pos 9)))
    ∷ goal 2 3 (head_known ++ going_on ∷ at_most y_next (num (pos 9)) ∷ []) (less y1 y_next)
    ∷ goal 3 4 (head_known ++ not_of going_on ∷ []) (at_most (var x) y1)
    ∷ []

-- ---- a large value: a sum of 39 numbers has 40 nodes, one of 40 has 41

abbrev large : Step
large = seq (set 1 (sum_of 39)) (seq (check 1 (is_less (now 0) (now 1))) (seq (set 1 (sum_of 40)) (check 2 (is_less (now 0) (now 1)))))

abbrev sum_tree : ℕ → Tree
sum_tree n = node (h.Term op.Add) (trees_of (ones n))

abbrev v1 : Tree
v1 = var (fresh_name (codes "v") 1)

abbrev large_goals : List Goal
large_goals =
    goal 0 1 (small ∷ []) (less (var x) (sum_tree 39)) ∷ goal 1 2 (small ∷ less (var x) (sum_tree 39) ∷ equal v1 (sum_tree 40) ∷ []) (less (var x) v1) ∷ []

-- ---- three ways out of a block, and a scope: both slots have one base, and the second one is put back on each way

abbrev same_bases : List (List ℕ)
same_bases = y ∷ y ∷ []

abbrev same_start : Start
same_start = record { origins = fixed (pos 3) ∷ own ∷ []; facts = [] }

abbrev others : Step
others = choose (is_less (now 1) (constant 5)) (exit 0) (set 0 (constant 6))

abbrev ways : Step
ways =
    seq (block (scope (1 ∷ []) (seq (set 1 (constant 8)) (choose (is_less (now 0) (now 1)) (seq (set 0 (constant 4)) (exit 0)) others))))
    (check 1 (is_less (now 0) (now 1)))

abbrev first : Tree
first = less (num (pos 3)) (num (pos 8))

abbrev second : Tree
second = less (num (pos 8)) (num (pos 5))

-- the two exits are joined first, then the end
abbrev ways_known : Tree
ways_known =
    or_of (and_of (or_of (and_of (first ∷ equal y1 (num (pos 4)) ∷ []) ∷ and_of (not_of first ∷ second ∷ equal y1 (num (pos 3)) ∷ []) ∷ []) ∷ equal y2 y1 ∷ [])
    ∷ and_of (not_of first ∷ not_of second ∷ equal y2 (num (pos 6)) ∷ []) ∷ [])

abbrev ways_goals : List Goal
ways_goals = goal 0 1 (ways_known ∷ []) (less y2 (var y)) ∷ []

pub record ExampleGoals : Type 0 where
  pub arms : goals two_bases two_start arms ≡ arms_goals
  pub loop : goals loop_bases loop_start loop ≡ loop_goals
  pub large : goals two_bases two_start large ≡ large_goals
  pub ways : goals same_bases same_start ways ≡ ways_goals

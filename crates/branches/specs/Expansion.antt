-- The expansion of branches, one after the other: at each turn the first step that applies. What closes a branch, its changes and its rounds of
-- instances are parameters.
use Rattle.std.specs.Prelude.{◌≡◌, ℕ, suc, ◌<◌, ◌≤◌, Bool, true, false, List, [], ◌∷◌, ◌++◌}
use Rattle.qed_terms.specs.Nodes.{kids_of}
use Rattle.qed_terms.specs.Tree.{Tree}
use Rattle.branches.specs.Steps.{or_else, FirstSo}
use Rattle.branches.specs.Branch.{Branch, branch, nodes, IsOr}

-- What closes a branch, the changes of a branch, the formulas that a round adds, and which open branches are passed over: in a proof none, where a
-- formula is only split each.
pub record Rules : Type 1 where
  pub closed : Branch → Type 0
  pub change : Branch → Branch → Type 0
  pub round : Branch → List Tree → Type 0
  pub passed : Branch → Type 0

-- A branch that is to be expanded, with the rounds that it has left. One with a disjunct in the place of an `or` asks for room for a leaf first.
pub record Task : Type 0 where
  pub fuel : ℕ
  pub asks : Bool
  pub at : Branch

abbrev pub task : (fuel : ℕ) → (asks : Bool) → Branch → Task
task n asks b = record { fuel = n; asks = asks; at = b }

-- how an expansion ends: each leaf is closed, one stays open, there are as many leaves as are allowed, a branch is too large
pub data End : Type 0 where
  all_closed : End
  stays_open : End
  too_many : End
  too_large : End

-- where an expansion stands: the branch at hand, those that come later, and how many leaves there are
pub record Stand : Type 0 where
  pub now : Task
  pub later : List Task
  pub leaves : ℕ

abbrev pub stand : Task → List Task → (leaves : ℕ) → Stand
stand t ts n = record { now = t; later = ts; leaves = n }

-- what a turn leads to: the end, or further branches with so many leaves, where it has passed over these
pub data Turn : Type 0 where
  ends : End → Turn
  goes : List Task → (leaves : ℕ) → (over : List Branch) → Turn

-- the nodes that a branch may have
abbrev pub node_limit : ℕ
node_limit = 20000

abbrev pub is_empty : List Tree → Bool
is_empty [] = true
is_empty (f ∷ fs) = false

-- the disjuncts in turn, each in the place of its `or`
abbrev pub with_each : (fuel : ℕ) → (literals before behind ds : List Tree) → List Task
with_each n ls before behind [] = []
with_each n ls before behind (d ∷ ds) = task n true (branch ls (before ++ d ∷ behind)) ∷ with_each n ls before behind ds

-- ---- the steps

-- there are as many leaves as are allowed, and a disjunct is left
abbrev pub LacksRoom : (budget : ℕ) → Stand → Turn → Type 0
LacksRoom budget s o = (s.now.asks ≡ true) × (budget ≤ s.leaves) × (o ≡ ends too_many)

abbrev pub IsLarge : Stand → Turn → Type 0
IsLarge s o = (node_limit < nodes s.now.at) × (o ≡ ends too_large)

-- a closed leaf
abbrev pub Closes : Rules → Stand → Turn → Type 0
Closes rules s o = rules.closed s.now.at × (o ≡ goes s.later (suc s.leaves) [])

abbrev pub Changes : Rules → Stand → Turn → Type 0
Changes rules s o = (c : Branch) × rules.change s.now.at c × (o ≡ goes (task s.now.fuel false c ∷ s.later) s.leaves [])

-- the first `or` that waits is replaced by each of its disjuncts in turn
abbrev pub Splits : Stand → Turn → Type 0
Splits s o =
    (before : List Tree) × (f : Tree) × (behind : List Tree) × FirstSo IsOr s.now.at.waiting before f behind
    × (o ≡ goes (with_each s.now.fuel s.now.at.literals before behind (kids_of f) ++ s.later) s.leaves [])

-- what a round adds waits, where fuel is left and it adds anything
abbrev pub GoesRound : Rules → Stand → Turn → Type 0
GoesRound rules s o =
    (left : ℕ) × (fs : List Tree) × (s.now.fuel ≡ suc left) × rules.round s.now.at fs × (is_empty fs ≡ false)
    × (o ≡ goes (task left false (branch s.now.at.literals (s.now.at.waiting ++ fs)) ∷ s.later) s.leaves [])

-- an open leaf that is passed over
abbrev pub PassesOver : Rules → Stand → Turn → Type 0
PassesOver rules s o = rules.passed s.now.at × (o ≡ goes s.later (suc s.leaves) (s.now.at ∷ []))

-- an open leaf
abbrev pub StaysOpen : Stand → Turn → Type 0
StaysOpen s o = o ≡ ends stays_open

-- ---- a turn: the first of them that applies

abbrev pub FromLeaf : Rules → Stand → Turn → Type 0
FromLeaf rules = or_else (PassesOver rules) StaysOpen

abbrev pub FromRound : Rules → Stand → Turn → Type 0
FromRound rules = or_else (GoesRound rules) (FromLeaf rules)

abbrev pub FromSplit : Rules → Stand → Turn → Type 0
FromSplit rules = or_else Splits (FromRound rules)

abbrev pub FromChange : Rules → Stand → Turn → Type 0
FromChange rules = or_else (Changes rules) (FromSplit rules)

abbrev pub FromClosed : Rules → Stand → Turn → Type 0
FromClosed rules = or_else (Closes rules) (FromChange rules)

abbrev pub FromSize : Rules → Stand → Turn → Type 0
FromSize rules = or_else IsLarge (FromClosed rules)

abbrev pub Turns : Rules → (budget : ℕ) → Stand → Turn → Type 0
Turns rules budget = or_else (LacksRoom budget) (FromSize rules)

-- From these branches, with so many leaves, the expansion comes to this end, and passes over these branches.
pub data Runs (rules : Rules) (budget : ℕ) : List Task → (leaves : ℕ) → (over : List Branch) → End → Type 0 where
  none_left : {n : ℕ} → Runs rules budget [] n [] all_closed
  stops : {t : Task} {ts : List Task} {n : ℕ} {e : End} → Turns rules budget (stand t ts n) (ends e) → Runs rules budget (t ∷ ts) n [] e
  goes_on : {t : Task} {ts us : List Task} {n m : ℕ} {bs cs ds : List Branch} {e : End} →
      Turns rules budget (stand t ts n) (goes us m bs) → Runs rules budget us m cs e → ds ≡ bs ++ cs → Runs rules budget (t ∷ ts) n ds e

-- ---- the two uses

-- what passes over no open branch, or over each
abbrev pub rules_of : (passes : Bool) → (Branch → Type 0) → (Branch → Branch → Type 0) → (Branch → List Tree → Type 0) → Rules
rules_of passes closed change round = record { closed = closed; change = change; round = round; passed = λ b. passes ≡ true }

-- It begins with no literals and this formula waiting.
abbrev pub from_formula : (fuel : ℕ) → Tree → List Task
from_formula n f = task n false (branch [] (f ∷ [])) ∷ []

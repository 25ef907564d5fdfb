-- Branches of ids of a store, as plain ones.
use Rattle.std.specs.Prelude.{◌≡◌, ℕ, suc, Bool, true, false, List, [], ◌∷◌, ◌++◌, map, All, Option, Some, None}
use Rattle.qed_terms.specs.Tree.{Tree}
use Rattle.qed_terms.specs.declared.verdict.IdBranch.{IdBranch}
use Rattle.qed_terms.specs.declared.verdict.Verdict.{Verdict}
use Rattle.qed_terms.specs.declared.verdict.Verdict.TheVariants as verdict
use Rattle.branches.specs.declared.tasks.IdTask.{IdTask}
use Rattle.branches.specs.declared.turns.Turned.{Turned}
use Rattle.branches.specs.declared.turns.Turned.TheVariants as turned
use Rattle.branches.specs.declared.walk.SplitEnd.{SplitEnd}
use Rattle.branches.specs.declared.walk.SplitEnd.TheVariants as split
use Rattle.branches.specs.Branch.{Branch, branch}
use Rattle.branches.specs.Expansion.{Task, task, End, all_closed, stays_open, too_many, too_large, Turn, ends, goes}

abbrev pub branch_of : {Id : Type 0} → (Id → Tree) → IdBranch Id → Branch
branch_of tree b = branch (map tree b.literals) (map tree b.waiting)

-- the store holds its formulas
abbrev pub BranchHeld : {Id : Type 0} → (Id → Type 0) → IdBranch Id → Type 0
BranchHeld held b = All held b.literals × All held b.waiting

-- what a call that tries a change answers
abbrev pub branch_made : {Id : Type 0} → (Id → Tree) → Option (IdBranch Id) → Option Branch
branch_made tree None = None
branch_made tree (Some b) = Some (branch_of tree b)

abbrev pub MadeHeld : {Id : Type 0} → (Id → Type 0) → Option (IdBranch Id) → Type 0
MadeHeld held None = Unit {0}
MadeHeld held (Some b) = BranchHeld held b

-- ---- branches to be expanded

abbrev pub task_of : {Id : Type 0} → (Id → Tree) → IdTask Id → Task
task_of tree t = task t.fuel t.asks (branch_of tree t.at)

-- of a stack: the last one is the next
abbrev pub tasks_of : {Id : Type 0} → (Id → Tree) → List (IdTask Id) → List Task
tasks_of tree [] = []
tasks_of tree (t ∷ ts) = tasks_of tree ts ++ task_of tree t ∷ []

abbrev pub TasksHeld : {Id : Type 0} → (Id → Type 0) → List (IdTask Id) → Type 0
TasksHeld held [] = Unit {0}
TasksHeld held (t ∷ ts) = BranchHeld held t.at × TasksHeld held ts

-- ---- ends and turns

abbrev pub end_of : Verdict → End
end_of verdict.Proved = all_closed
end_of verdict.Open = stays_open
end_of verdict.Branches = too_many
end_of verdict.Size = too_large

-- the turn that was made at a branch: the end, or so many leaves and these branches to come
abbrev pub turn_of : Branch → Turned → List Task → Turn
turn_of b (turned.Ends v) ts = ends (end_of v)
turn_of b (turned.Goes n) ts = goes ts n []
turn_of b (turned.Passes n) ts = goes ts n (b ∷ [])

-- the answer at an open leaf
abbrev pub IsLeafTurn : (passes : Bool) → (leaves : ℕ) → Turned → Type 0
IsLeafTurn true n made = made ≡ turned.Passes (suc n)
IsLeafTurn false n made = made ≡ turned.Ends verdict.Open

-- why a formula has no split, where its expansion comes to such an end
abbrev pub SplitFails : (End → Type 0) → SplitEnd → Type 0
SplitFails comes split.TooMany = comes too_many
SplitFails comes split.TooLarge = comes too_large
SplitFails comes split.NoMemory = Unit {0}

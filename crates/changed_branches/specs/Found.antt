-- The disjunct that is removed.
use Rattle.std.specs.Prelude.{ℕ, ◌<◌, List, length, take, get_or, Option, Some, None}
use Rattle.qed_terms.specs.Nodes.{kids_of}
use Rattle.qed_terms.specs.Tree.{Tree, not_of}
use Rattle.branches.specs.Firsts.{IsFirst}
use Rattle.branches.specs.Steps.{NoneSo}
use Rattle.branches.specs.Branch.{Branch, IsOr}
use Rattle.branch_changes.specs.Changes.{WouldClose, HasFalse}
use Rattle.changed_branches.specs.declared.closing.Removal.{Removal}

-- the place of the first disjunct of an `or` that would close the branch
abbrev pub IsFirstFalse : (Branch → Type 0) → Branch → Tree → Option ℕ → Type 0
IsFirstFalse closed b f None = HasFalse closed b f → ⊥
IsFirstFalse closed b f (Some at) = IsOr f × IsFirst (WouldClose closed b) (kids_of f) (Some at)

-- the place of the first `or` that waits and has one, and that of the disjunct
abbrev pub IsFirstRemoval : (Branch → Type 0) → Branch → Option Removal → Type 0
IsFirstRemoval closed b None = NoneSo (HasFalse closed b) b.waiting
IsFirstRemoval closed b (Some r) =
    (r.at < length b.waiting) × NoneSo (HasFalse closed b) (take r.at b.waiting) × ((d : Tree) → IsFirstFalse closed b (get_or b.waiting r.at d) (Some r.disjunct))

-- the normal form of its `not` is a literal that would close the branch
abbrev pub NegationCloses : (Tree → Tree → Type 0) → (Branch → Type 0) → Branch → Tree → Type 0
NegationCloses normal closed b d = (n : Tree) × normal (not_of d) n × WouldClose closed b n

-- The prover's rules, and its verdicts.
use Rattle.std.specs.Prelude.{ℕ, Bool, List}
use Rattle.qed_terms.specs.declared.verdict.Verdict.{Verdict}
use Rattle.qed_terms.specs.Setting.{Setting}
use Rattle.qed_terms.specs.Tree.{Tree}
use Rattle.branches.specs.Branch.{Branch}
use Rattle.branch_links.specs.BranchLinks.{LinksRefute}
use Rattle.closed_branches.specs.ClosedBranches.{IsClosedBranch}
use Rattle.instance_rows.specs.Round.{IsRound}
use Rattle.stored_normals.specs.Kept.{AreNormals}
use Rattle.expansion_ends.specs.Goals.{proving, IsVerdictOf}

-- a branch whose literals clash, or of which some links can't all hold
abbrev pub IsClosed : Branch → Type 0
IsClosed = IsClosedBranch LinksRefute

-- what the prover keeps fits the store: each normal form that it has is one
abbrev pub IsReady : {Id : Type 0} → (eq : Id → Id → Bool) → (held : Id → Type 0) → (tree : Id → Tree) → Setting → List (Id × Id) → Type 0
IsReady = AreNormals

-- A verdict on a goal: proved wherever its written expansion closes, and only where the goal is valid; else unknown, only for the reason for which the
-- expansion ends.
unfoldable pub IsProverVerdict : Setting → (fuel branches : ℕ) → (goal : Tree) → Verdict → Type 0
IsProverVerdict = IsVerdictOf (proving IsClosed IsRound)

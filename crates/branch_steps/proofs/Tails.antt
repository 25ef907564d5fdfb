-- A change, or what comes after it where it doesn't apply.
use Rattle.std.proofs.Common.{◌≡◌, subst, inl, inr}
use Rattle.std.specs.Prelude.{Option, Some, None}
use Rattle.qed_terms.specs.declared.verdict.IdBranch.{IdBranch}
use Rattle.qed_terms.specs.Store.{KeepsOlder}
use Rattle.qed_terms.specs.Tree.{Tree}
use Rattle.branches.specs.Branch.{Branch}
use Rattle.branches.specs.Ids.{branch_of, branch_made, BranchHeld}
use Rattle.branches.specs.Steps.{or_else, Stuck, Tried}
use Rattle.branches.proofs.Stores.{branch_same}

else_at : {A B : Type 0} (first second : A → B → Type 0) (a : A) (o : Option B) → Stuck first a → Tried second a o → Tried (or_else first second) a o
else_at first second a None stuck none = λ b k. elim k [ inl f ↦ stuck b f | inr s ↦ none b s.1 ]
else_at first second a (Some b) stuck made = inr (stuck, made)

module _ {Id : Type 0} (tree tree' : Id → Tree) (first second : Branch → Branch → Type 0) (b : IdBranch Id) where
  -- the change was made
  pub made_first : (o : Option (IdBranch Id)) (c : IdBranch Id) → o ≡ Some c → Tried first (branch_of tree b) (branch_made tree' o) → or_else first second (branch_of tree b) (branch_of tree' c)
  made_first o c is tried = inl (subst (λ z. Tried first (branch_of tree b) (branch_made tree' z)) is tried)

  -- it doesn't apply, and the next ones were tried in a later store
  pub tried_next : (o p : Option (IdBranch Id)) (tree'' : Id → Tree) (held held' : Id → Type 0) → KeepsOlder held held' tree tree' → BranchHeld held b → o ≡ None → Tried first (branch_of tree b) (branch_made tree' o)
      → Tried second (branch_of tree' b) (branch_made tree'' p) → Tried (or_else first second) (branch_of tree b) (branch_made tree'' p)
  tried_next o p tree'' held held' kept h is none tried =
      else_at first second (branch_of tree b) (branch_made tree'' p) (subst (λ z. Tried first (branch_of tree b) (branch_made tree' z)) is none) (subst (λ z. Tried second z (branch_made tree'' p)) (branch_same held held' tree tree' kept b h) tried)

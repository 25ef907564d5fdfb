-- A disjunction without the first disjunct that would close the branch.
use Rattle.std.proofs.Common.{◌≡◌, ℕ, ◌+◌, ◌<◌, List, [], ◌∷◌, ◌++◌, map, take, drop, length, get_or, refl, sym, ◌∙◌, ap, subst, arith}
use Rattle.std.specs.Prelude.{Some, None}
use Rattle.std.proofs.lemmas.List.{length-map}
use Rattle.qed_terms.specs.declared.verdict.IdBranch.{IdBranch}
use Rattle.qed_terms.specs.Nodes.{kids_of}
use Rattle.qed_terms.specs.Tree.{Tree}
use Rattle.branches.specs.Firsts.{IsFirst}
use Rattle.branches.specs.Branch.{Branch}
use Rattle.branches.specs.Ids.{branch_of}
use Rattle.branches.proofs.Found.{first_at}
use Rattle.branches.proofs.Places.{tree_at}
use Rattle.branch_changes.specs.Changes.{WouldClose, HasFalse, IsLessOne, rest_of_or}
use Rattle.changed_branches.specs.declared.closing.Removal.{Removal}
use Rattle.changed_branches.specs.Found.{IsFirstFalse, IsFirstRemoval}
use Rattle.changed_branches.proofs.Firsts.{has_false}

module _ {Id : Type 0} (closed : Branch → Type 0) (tree : Id → Tree) (b : IdBranch Id) (r : Removal) where
  pub removal_here : (id : Id) → IsFirstRemoval closed (branch_of tree b) (Some r) → id ≡ get_or b.waiting r.at id → IsFirstFalse closed (branch_of tree b) (tree id) (Some r.disjunct)
  removal_here id first is =
      let long = length-map b.waiting tree in
      let k = first.0 in
      let below : r.at < length b.waiting = omega (arith, k, long) in
      let here : get_or (map tree b.waiting) r.at (tree id) ≡ tree id = tree_at tree b.waiting r.at id (tree id) below ∙ ap tree (sym is) in
      subst (λ z. IsFirstFalse closed (branch_of tree b) z (Some r.disjunct)) here (first.2 (tree id))

  pub first_with_false : IsFirstRemoval closed (branch_of tree b) (Some r) → IsFirst (HasFalse closed (branch_of tree b)) (map tree b.waiting) (Some r.at)
  first_with_false first = (first.0, first.1, λ d. has_false closed (branch_of tree b) (get_or (map tree b.waiting) r.at d) r.disjunct (first.2 d))

pub less_one : (closed : Branch → Type 0) (b : Branch) (f : Tree) (at : ℕ) (u : Tree) → IsFirstFalse closed b f (Some at) → u ≡ rest_of_or (take at (kids_of f) ++ drop (at + 1) (kids_of f)) → IsLessOne closed b f (u ∷ [])
less_one closed b f at u first e = record {
  before = take at (kids_of f);
  disjunct = get_or (kids_of f) at f;
  behind = drop (at + 1) (kids_of f);
  first = first_at (WouldClose closed b) (kids_of f) at f first.1;
  is = ap (λ z. z ∷ []) e;
}

-- Branches that a change makes of ids, as plain ones.
use Rattle.std.proofs.Common.{◌≡◌, ℕ, zero, suc, ◌+◌, ◌<◌, List, [], ◌∷◌, ◌++◌, map, take, drop, length, get_or, All, refl, sym, ◌∙◌, ap, subst, arith}
use Rattle.std.specs.Prelude.{Some, None}
use Rattle.std.proofs.lemmas.List.{map-append, take-map, drop-map, length-map}
use Rattle.std.proofs.lemmas.List.Elements.{All-cons, All-append, All-take, All-drop, All-weaker}
use Rattle.qed_terms.specs.declared.verdict.IdBranch.{IdBranch}
use Rattle.qed_terms.specs.Nodes.{kids_of}
use Rattle.qed_terms.specs.Store.{KeepsOlder}
use Rattle.qed_terms.specs.Tree.{Tree}
use Rattle.qed_terms.proofs.Kept.{kept_trees, kept_still}
use Rattle.branches.specs.Steps.{NoneSo, FirstSo, Stuck}
use Rattle.branches.specs.Firsts.{IsFirst}
use Rattle.branches.specs.Branch.{Branch, branch, IsLiteral, IsAnd}
use Rattle.branches.specs.Ids.{branch_of, BranchHeld}
use Rattle.branches.proofs.Found.{first_at}
use Rattle.branches.proofs.Places.{tree_at}
use Rattle.branches.proofs.Steps.{no_first}
use Rattle.branch_changes.specs.Changes.{Moves, Replaces, ArePartsOf, TakesApart}

-- the first formula of which it is so, by its id
pub first_id : {Id : Type 0} (tree : Id → Tree) (so : Tree → Type 0) (ids : List Id) (at : ℕ) (id : Id) → IsFirst so (map tree ids) (Some at) → id ≡ get_or ids at id
    → FirstSo so (map tree ids) (take at (map tree ids)) (tree id) (drop (at + 1) (map tree ids))
first_id tree so ids at id f is =
    let long = length-map ids tree in
    let k = f.0 in
    let within : at < length ids = omega (arith, k, long) in
    let here : get_or (map tree ids) at (tree id) ≡ tree id = tree_at tree ids at id (tree id) within ∙ ap tree (sym is) in
    subst (λ z. FirstSo so (map tree ids) (take at (map tree ids)) z (drop (at + 1) (map tree ids))) here (first_at so (map tree ids) at (tree id) f)

pub within : {Id : Type 0} (tree : Id → Tree) (so : Tree → Type 0) (ids : List Id) (at : ℕ) → IsFirst so (map tree ids) (Some at) → at < length ids
within tree so ids at f = let long = length-map ids tree in let k = f.0 in omega (arith, k, long)

module _ {Id : Type 0} (tree : Id → Tree) (b made : IdBranch Id) (at : ℕ) (id : Id) where
  pub moves_made : IsFirst IsLiteral (map tree b.waiting) (Some at) → id ≡ get_or b.waiting at id → made.literals ≡ b.literals ++ id ∷ [] → made.waiting ≡ take at b.waiting ++ drop (at + 1) b.waiting
      → Moves (branch_of tree b) (branch_of tree made)
  moves_made f is e k = record {
    before = take at (map tree b.waiting);
    literal = tree id;
    behind = drop (at + 1) (map tree b.waiting);
    first = first_id tree IsLiteral b.waiting at id f is;
    now =
        let l = ap (map tree) e ∙ map-append tree b.literals (id ∷ []) in
        let w = ap (map tree) k ∙ map-append tree (take at b.waiting) (drop (at + 1) b.waiting) in
        let front = take-map tree at b.waiting in
        let rest = drop-map tree (at + 1) b.waiting in
        cc;
  }

  pub moved_held : (held : Id → Type 0) → BranchHeld held b → at < length b.waiting → id ≡ get_or b.waiting at id → made.literals ≡ b.literals ++ id ∷ [] → made.waiting ≡ take at b.waiting ++ drop (at + 1) b.waiting
      → BranchHeld held made
  moved_held held h k is e f = (
    subst (All held) (sym e) (All-append held b.literals (id ∷ []) h.0 (All-cons held id [] (subst held (sym is) (h.1 at id k)) (λ i d l. absurd (omega arith)))),
    subst (All held) (sym f) (All-append held (take at b.waiting) (drop (at + 1) b.waiting) (All-take held at b.waiting h.1) (All-drop held (at + 1) b.waiting h.1)),
  )

pub no_moves : {Id : Type 0} (tree : Id → Tree) (b : IdBranch Id) → NoneSo IsLiteral (map tree b.waiting) → Stuck Moves (branch_of tree b)
no_moves tree b n c m = no_first IsLiteral (map tree b.waiting) n m.before m.literal m.behind m.first

-- ---- others in the place of a formula that waits

module _ {Id : Type 0} (held held' : Id → Type 0) (tree tree' : Id → Tree) (kept : KeepsOlder held held' tree tree') (b made : IdBranch Id) (at : ℕ) (ids : List Id) where
  pub replaced : (so : Tree → Type 0) (parts : Tree → List Tree → Type 0) (id : Id) → BranchHeld held b → IsFirst so (map tree b.waiting) (Some at) → id ≡ get_or b.waiting at id → parts (tree id) (map tree' ids)
      → made.literals ≡ b.literals → made.waiting ≡ take at b.waiting ++ (ids ++ drop (at + 1) b.waiting) → Replaces so parts (branch_of tree b) (branch_of tree' made)
  replaced so parts id h f is are e k = record {
    before = take at (map tree b.waiting);
    formula = tree id;
    behind = drop (at + 1) (map tree b.waiting);
    by = map tree' ids;
    first = first_id tree so b.waiting at id f is;
    are = are;
    now =
        let l = ap (map tree') e ∙ kept_trees held held' tree tree' b.literals kept h.0 in
        let front = kept_trees held held' tree tree' (take at b.waiting) kept (All-take held at b.waiting h.1) ∙ sym (take-map tree at b.waiting) in
        let rest = kept_trees held held' tree tree' (drop (at + 1) b.waiting) kept (All-drop held (at + 1) b.waiting h.1) ∙ sym (drop-map tree (at + 1) b.waiting) in
        let w = ap (map tree') k ∙ map-append tree' (take at b.waiting) (ids ++ drop (at + 1) b.waiting) ∙ (λ i. front i ++ map-append tree' ids (drop (at + 1) b.waiting) i) in
        let all : map tree' made.waiting ≡ take at (map tree b.waiting) ++ (map tree' ids ++ drop (at + 1) (map tree b.waiting)) = w ∙ (λ i. take at (map tree b.waiting) ++ (map tree' ids ++ rest i)) in
        λ i. branch (l i) (all i);
  }

  pub replaced_held : BranchHeld held b → All held' ids → made.literals ≡ b.literals → made.waiting ≡ take at b.waiting ++ (ids ++ drop (at + 1) b.waiting) → BranchHeld held' made
  replaced_held h a e k =
      let ls = All-weaker held held' kept.still_held b.literals h.0 in
      let front = All-weaker held held' kept.still_held (take at b.waiting) (All-take held at b.waiting h.1) in
      let rest = All-weaker held held' kept.still_held (drop (at + 1) b.waiting) (All-drop held (at + 1) b.waiting h.1) in
      (subst (All held') (sym e) ls, subst (All held') (sym k) (All-append held' (take at b.waiting) (ids ++ drop (at + 1) b.waiting) front (All-append held' ids (drop (at + 1) b.waiting) a rest)))

pub no_replaced : {Id : Type 0} (tree : Id → Tree) (so : Tree → Type 0) (parts : Tree → List Tree → Type 0) (b : IdBranch Id) → NoneSo so (map tree b.waiting) → Stuck (Replaces so parts) (branch_of tree b)
no_replaced tree so parts b n c r = no_first so (map tree b.waiting) n r.before r.formula r.behind r.first

pub held_alone : {Id : Type 0} (held : Id → Type 0) (id : Id) → held id → All held (id ∷ [])
held_alone held id k = All-cons held id [] k (λ i d l. absurd (omega arith))

-- where the parts hang on no formula
pub replaced_at : {Id : Type 0} (held held' : Id → Type 0) (tree tree' : Id → Tree) (kept : KeepsOlder held held' tree tree') (b made : IdBranch Id) (at : ℕ) (ids : List Id) (so : Tree → Type 0) (parts : Tree → List Tree → Type 0)
    → BranchHeld held b → IsFirst so (map tree b.waiting) (Some at) → ((f : Tree) → parts f (map tree' ids)) → made.literals ≡ b.literals → made.waiting ≡ take at b.waiting ++ (ids ++ drop (at + 1) b.waiting)
    → Replaces so parts (branch_of tree b) (branch_of tree' made)
replaced_at {Id} held held' tree tree' kept b made at ids so parts h f are e k = go (id_at b.waiting at (within tree so b.waiting at f))
  where
    id_at : (xs : List Id) (i : ℕ) → i < length xs → (id : Id) × (id ≡ get_or xs i id)
    id_at [] i l = absurd (omega arith)
    id_at (x ∷ xs) zero l = (x, refl)
    id_at (x ∷ xs) (suc i) l = id_at xs i (omega arith)

    go : (id : Id) × (id ≡ get_or b.waiting at id) → Replaces so parts (branch_of tree b) (branch_of tree' made)
    go p = replaced held held' tree tree' kept b made at ids so parts p.0 h f p.1 (are (tree p.0)) e k

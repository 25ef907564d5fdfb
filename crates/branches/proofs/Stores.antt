-- Branches of ids in a later store, and on a stack.
use Rattle.std.proofs.Common.{◌≡◌, ℕ, ◌+◌, List, [], ◌∷◌, ◌++◌, map, take, drop, All, refl, sym, ◌∙◌, ap, subst}
use Rattle.std.proofs.lemmas.List.{map-append, take-map, drop-map}
use Rattle.std.proofs.lemmas.List.Elements.{All-weaker, All-cons, All-head, All-tail, All-append, All-take, All-drop}
use Rattle.qed_terms.specs.declared.verdict.IdBranch.{IdBranch}
use Rattle.qed_terms.specs.Store.{KeepsOlder}
use Rattle.qed_terms.specs.Tree.{Tree}
use Rattle.qed_terms.proofs.Kept.{kept_trees}
use Rattle.branches.specs.declared.tasks.IdTask.{IdTask}
use Rattle.branches.specs.Branch.{branch}
use Rattle.branches.specs.Expansion.{task}
use Rattle.branches.specs.Ids.{branch_of, task_of, tasks_of, BranchHeld, TasksHeld}

-- ---- in a later store

module _ {Id : Type 0} (held held' : Id → Type 0) (tree tree' : Id → Tree) (kept : KeepsOlder held held' tree tree') where
  pub branch_same : (b : IdBranch Id) → BranchHeld held b → branch_of tree' b ≡ branch_of tree b
  branch_same b h = let l = kept_trees held held' tree tree' b.literals kept h.0 in let w = kept_trees held held' tree tree' b.waiting kept h.1 in λ i. branch (l i) (w i)

  pub branch_still : (b : IdBranch Id) → BranchHeld held b → BranchHeld held' b
  branch_still b h = (All-weaker held held' kept.still_held b.literals h.0, All-weaker held held' kept.still_held b.waiting h.1)

  pub tasks_same : (ts : List (IdTask Id)) → TasksHeld held ts → tasks_of tree' ts ≡ tasks_of tree ts
  tasks_same [] h = refl
  tasks_same (t ∷ ts) h = let front = tasks_same ts h.1 in let last = branch_same t.at h.0 in λ i. front i ++ task t.fuel t.asks (last i) ∷ []

  pub tasks_still : (ts : List (IdTask Id)) → TasksHeld held ts → TasksHeld held' ts
  tasks_still [] h = tt
  tasks_still (t ∷ ts) h = (branch_still t.at h.0, tasks_still ts h.1)

  pub branches_same : (bs : List (IdBranch Id)) → All (BranchHeld held) bs → map (branch_of tree') bs ≡ map (branch_of tree) bs
  branches_same [] h = refl
  branches_same (b ∷ bs) h =
      let first = branch_same b (All-head (BranchHeld held) b bs h) in
      let rest = branches_same bs (All-tail (BranchHeld held) b bs h) in
      λ i. first i ∷ rest i

  pub branches_still : (bs : List (IdBranch Id)) → All (BranchHeld held) bs → All (BranchHeld held') bs
  branches_still bs h = All-weaker (BranchHeld held) (BranchHeld held') branch_still bs h

-- ---- one more on the stack

module _ {Id : Type 0} where
  pub tasks_push : (tree : Id → Tree) (ts : List (IdTask Id)) (t : IdTask Id) → tasks_of tree (ts ++ t ∷ []) ≡ task_of tree t ∷ tasks_of tree ts
  tasks_push tree [] t = refl
  tasks_push tree (u ∷ ts) t = ap (λ z. z ++ task_of tree u ∷ []) (tasks_push tree ts t)

  pub held_push : (held : Id → Type 0) (ts : List (IdTask Id)) (t : IdTask Id) → TasksHeld held ts → BranchHeld held t.at → TasksHeld held (ts ++ t ∷ [])
  held_push held [] t h k = (k, tt)
  held_push held (u ∷ ts) t h k = (h.0, held_push held ts t h.1 k)

  pub held_on : (held : Id → Type 0) (ts us : List (IdTask Id)) (t : IdTask Id) → TasksHeld held ts → BranchHeld held t.at → us ≡ ts ++ t ∷ [] → TasksHeld held us
  held_on held ts us t h k e = subst (TasksHeld held) (sym e) (held_push held ts t h k)

  pub held_last : (held : Id → Type 0) (ts : List (IdTask Id)) (t : IdTask Id) → TasksHeld held (ts ++ t ∷ []) → BranchHeld held t.at
  held_last held [] t h = h.0
  held_last held (u ∷ ts) t h = held_last held ts t h.1

  pub held_front : (held : Id → Type 0) (ts : List (IdTask Id)) (t : IdTask Id) → TasksHeld held (ts ++ t ∷ []) → TasksHeld held ts
  held_front held [] t h = tt
  held_front held (u ∷ ts) t h = (h.0, held_front held ts t h.1)

-- ---- branches made of others

module _ {Id : Type 0} (tree : Id → Tree) (b made : IdBranch Id) (at : ℕ) where
  pub in_place_of : (id : Id) → made.literals ≡ b.literals → made.waiting ≡ take at b.waiting ++ id ∷ drop (at + 1) b.waiting
      → branch_of tree made ≡ branch (map tree b.literals) (take at (map tree b.waiting) ++ tree id ∷ drop (at + 1) (map tree b.waiting))
  in_place_of id e f =
      let l = ap (map tree) e in
      let w = ap (map tree) f ∙ map-append tree (take at b.waiting) (id ∷ drop (at + 1) b.waiting) in
      let front = take-map tree at b.waiting in
      let rest = drop-map tree (at + 1) b.waiting in
      cc

module _ {Id : Type 0} (held : Id → Type 0) (b made : IdBranch Id) (at : ℕ) where
  pub in_place_held : (id : Id) → made.literals ≡ b.literals → made.waiting ≡ take at b.waiting ++ id ∷ drop (at + 1) b.waiting → BranchHeld held b → held id → BranchHeld held made
  in_place_held id e f h k = (
    subst (All held) (sym e) h.0,
    subst (All held) (sym f) (All-append held (take at b.waiting) (id ∷ drop (at + 1) b.waiting) (All-take held at b.waiting h.1) (All-cons held id (drop (at + 1) b.waiting) k (All-drop held (at + 1) b.waiting h.1))),
  )

module _ {Id : Type 0} (held held' : Id → Type 0) (tree tree' : Id → Tree) (kept : KeepsOlder held held' tree tree') (b made : IdBranch Id) (ids : List Id) where
  pub added_of : BranchHeld held b → made.literals ≡ b.literals → made.waiting ≡ b.waiting ++ ids → branch_of tree' made ≡ branch (map tree b.literals) (map tree b.waiting ++ map tree' ids)
  added_of h e f =
      let l = ap (map tree') e ∙ kept_trees held held' tree tree' b.literals kept h.0 in
      let w = ap (map tree') f ∙ map-append tree' b.waiting ids in
      let same = kept_trees held held' tree tree' b.waiting kept h.1 in
      cc

  pub added_held : BranchHeld held b → All held' ids → made.literals ≡ b.literals → made.waiting ≡ b.waiting ++ ids → BranchHeld held' made
  added_held h a e f =
      let still = branch_still held held' tree tree' kept b h in
      (subst (All held') (sym e) still.0, subst (All held') (sym f) (All-append held' b.waiting ids still.1 a))

-- one more on the stack, in a later store
module _ {Id : Type 0} (held held' : Id → Type 0) (tree tree' : Id → Tree) (kept : KeepsOlder held held' tree tree') (ts us : List (IdTask Id)) (t : IdTask Id) where
  pub pushed_later : TasksHeld held ts → us ≡ ts ++ t ∷ [] → tasks_of tree' us ≡ task_of tree' t ∷ tasks_of tree ts
  pushed_later h e = let same = tasks_same held held' tree tree' kept ts h in ap (tasks_of tree') e ∙ tasks_push tree' ts t ∙ (λ i. task_of tree' t ∷ same i)

  pub held_later : TasksHeld held ts → BranchHeld held' t.at → us ≡ ts ++ t ∷ [] → TasksHeld held' us
  held_later h k e = subst (TasksHeld held') (sym e) (held_push held' ts t (tasks_still held held' tree tree' kept ts h) k)

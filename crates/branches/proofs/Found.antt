-- The first of a list by its place, and the turn that splits it.
use Rattle.std.proofs.Common.{◌≡◌, ℕ, ◌+◌, ◌<◌, ◌≤◌, Bool, true, List, [], ◌∷◌, ◌++◌, map, take, drop, length, get_or, inl, sym, ◌∙◌, ap, subst, arith}
use Rattle.std.specs.Prelude.{Some, None}
use Rattle.std.proofs.lemmas.List.{length-map, take_all}
use Rattle.qed_terms.specs.Nodes.{kids_of}
use Rattle.qed_terms.specs.Tree.{Tree, head_of}
use Rattle.branches.specs.declared.kinds.Kind.{Kind}
use Rattle.branches.specs.Steps.{NoneSo, FirstSo}
use Rattle.branches.specs.Firsts.{IsFirst}
use Rattle.branches.specs.Branch.{Branch, branch, IsKind, is_kind, IsOr}
use Rattle.branches.specs.Expansion.{rules_of, Task, task, stand, goes, with_each, FromSplit}
use Rattle.branches.proofs.Steps.{cut_at}
use Rattle.branches.proofs.Places.{tree_at}

pub first_at : {A : Type 0} (so : A → Type 0) (xs : List A) (at : ℕ) (d : A) → IsFirst so xs (Some at) → FirstSo so xs (take at xs) (get_or xs at d) (drop (at + 1) xs)
first_at so xs at d f = record { whole = cut_at xs at d f.0; earlier = f.1; here = f.2 d }

module _ {Id : Type 0} (tree : Id → Tree) (k : Kind) (ids : List Id) (i : ℕ) where
  pub kind_here : (id : Id) → NoneSo (IsKind k) (take i (map tree ids)) → i < length ids → id ≡ get_or ids i id → is_kind k (head_of (tree id)) ≡ true → IsFirst (IsKind k) (map tree ids) (Some i)
  kind_here id n below is e =
      let long = length-map ids tree in
      (omega (arith, below, long), n, λ d. subst (IsKind k) (sym (tree_at tree ids i id d below ∙ ap tree (sym is))) e)

  pub kind_nowhere : NoneSo (IsKind k) (take i (map tree ids)) → length ids ≤ i → IsFirst (IsKind k) (map tree ids) None
  kind_nowhere n past = let long = length-map ids tree in subst (NoneSo (IsKind k)) (take_all i (map tree ids) (omega (arith, past, long))) n

pub split_made : (passes : Bool) (closed : Branch → Type 0) (change : Branch → Branch → Type 0) (round : Branch → List Tree → Type 0) {Id : Type 0} (tree : Id → Tree) (fuel leaves : ℕ) (asks : Bool) (ls : List Tree) (ids : List Id) (at : ℕ) (later todo : List Task)
    → IsFirst IsOr (map tree ids) (Some at) → ((id : Id) → todo ≡ with_each fuel ls (take at (map tree ids)) (drop (at + 1) (map tree ids)) (kids_of (tree (get_or ids at id))) ++ later)
    → FromSplit (rules_of passes closed change round) (stand (task fuel asks (branch ls (map tree ids))) later leaves) (goes todo leaves [])
split_made passes closed change round tree fuel leaves asks ls [] at later todo f pushed = let k = f.0 in absurd (omega arith)
split_made passes closed change round tree fuel leaves asks ls (id ∷ ids) at later todo f pushed =
    let long = length-map (id ∷ ids) tree in
    let k = f.0 in
    let within : at < length (id ∷ ids) = omega (arith, k, long) in
    let fs = map tree (id ∷ ids) in
    let same = tree_at tree (id ∷ ids) at id (tree id) within in
    inl (
      take at fs,
      get_or fs at (tree id),
      drop (at + 1) fs,
      first_at IsOr fs at (tree id) f,
      ap (λ z. goes z leaves []) (pushed id ∙ ap (λ z. with_each fuel ls (take at fs) (drop (at + 1) fs) (kids_of z) ++ later) (sym same)),
    )

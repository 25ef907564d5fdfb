-- The first of some ids of which it is so.
use Rattle.std.proofs.Common.{◌≡◌, ◌⊎◌, ℕ, ◌+◌, ◌<◌, ◌≤◌, List, [], ◌∷◌, ◌++◌, map, take, drop, length, get_or, refl, sym, ◌∙◌, ap, subst, inl, inr, arith}
use Rattle.std.specs.Prelude.{Option, Some, None}
use Rattle.std.proofs.lemmas.List.{length-map, take_all}
use Rattle.qed_terms.specs.Nodes.{kids_of}
use Rattle.qed_terms.specs.Tree.{Tree}
use Rattle.branches.specs.Steps.{NoneSo, FirstSo}
use Rattle.branches.specs.Firsts.{IsFirst}
use Rattle.branches.specs.Branch.{Branch, IsOr}
use Rattle.branches.proofs.Places.{tree_at}
use Rattle.branches.proofs.Steps.{none_more, cut_at}
use Rattle.branches.proofs.Found.{first_at}
use Rattle.branch_changes.specs.Changes.{SomeSo, WouldClose, HasFalse}
use Rattle.changed_branches.specs.Found.{IsFirstFalse}

module _ {Id : Type 0} (tree : Id → Tree) (so : Tree → Type 0) (ids : List Id) (i : ℕ) where
  at_id : (id : Id) → i < length ids → id ≡ get_or ids i id → get_or (map tree ids) i (tree id) ≡ tree id
  at_id id below is = tree_at tree ids i id (tree id) below ∙ ap tree (sym is)

  pub one_more : (id : Id) → NoneSo so (take i (map tree ids)) → i < length ids → id ≡ get_or ids i id → (so (tree id) → ⊥) → NoneSo so (take (i + 1) (map tree ids))
  one_more id n below is never =
      let long = length-map ids tree in
      none_more so (map tree ids) i (tree id) n (omega (arith, long)) (λ k. never (subst so (at_id id below is) k))

  pub found_here : (id : Id) → NoneSo so (take i (map tree ids)) → i < length ids → id ≡ get_or ids i id → so (tree id) → IsFirst so (map tree ids) (Some i)
  found_here id n below is k =
      let long = length-map ids tree in
      (omega (arith, below, long), n, λ d. subst so (sym (tree_at tree ids i id d below ∙ ap tree (sym is))) k)

  pub found_nowhere : NoneSo so (take i (map tree ids)) → length ids ≤ i → IsFirst so (map tree ids) None
  found_nowhere n past = let long = length-map ids tree in subst (NoneSo so) (take_all i (map tree ids) (omega (arith, past, long))) n

-- ---- of one of them it is so

pub none_of_none : {A : Type 0} (so : A → Type 0) (xs : List A) → NoneSo so xs → SomeSo so xs → ⊥
none_of_none so [] n s = s
none_of_none so (x ∷ xs) n (inl k) = n.0 k
none_of_none so (x ∷ xs) n (inr s) = none_of_none so xs n.1 s

some_behind : {A : Type 0} (so : A → Type 0) (xs : List A) (x : A) (ys : List A) → so x → SomeSo so (xs ++ x ∷ ys)
some_behind so [] x ys k = inl k
some_behind so (y ∷ xs) x ys k = inr (some_behind so xs x ys k)

pub some_first : {A : Type 0} (so : A → Type 0) (xs : List A) (at : ℕ) (d : A) → IsFirst so xs (Some at) → SomeSo so xs
some_first so xs at d f = subst (SomeSo so) (sym (cut_at xs at d f.0)) (some_behind so (take at xs) (get_or xs at d) (drop (at + 1) xs) (f.2 d))

pub has_false : (closed : Branch → Type 0) (b : Branch) (f : Tree) (at : ℕ) → IsFirstFalse closed b f (Some at) → HasFalse closed b f
has_false closed b f at k = (k.0, some_first (WouldClose closed b) (kids_of f) at f k.1)

pub false_by : (closed : Branch → Type 0) (b : Branch) (f : Tree) (ks : List Tree) (o : Option ℕ) → IsOr f → ks ≡ kids_of f → IsFirst (WouldClose closed b) ks o → IsFirstFalse closed b f o
false_by closed b f ks None k e first = λ some. none_of_none (WouldClose closed b) (kids_of f) (subst (NoneSo (WouldClose closed b)) e first) some.1
false_by closed b f ks (Some at) k e first = (k, subst (λ z. IsFirst (WouldClose closed b) z (Some at)) e first)

pub some_at : {Id : Type 0} (tree : Id → Tree) (so : Tree → Type 0) (ids : List Id) (i : ℕ) (id : Id) → i < length ids → id ≡ get_or ids i id → so (tree id) → SomeSo so (map tree ids)
some_at tree so ids i id below is k =
    let long = length-map ids tree in
    let within : i < length (map tree ids) = omega (arith, below, long) in
    subst (SomeSo so) (sym (cut_at (map tree ids) i (tree id) within)) (some_behind so (take i (map tree ids)) (get_or (map tree ids) i (tree id)) (drop (i + 1) (map tree ids)) (subst so (sym (at_id tree so ids i id below is)) k))

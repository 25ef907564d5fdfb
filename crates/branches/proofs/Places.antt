-- Formulas of a branch by their places, and how many nodes are left for them.
use Rattle.std.proofs.Common.{◌≡◌, ℕ, zero, suc, ◌+◌, ◌-◌, ◌<◌, ◌≤◌, true, false, List, [], ◌∷◌, map, take, drop, length, get_or, drop-cons, drop_of_length-le, refl, sym, ◌∙◌, ap, subst, arith}
use Rattle.std.specs.Prelude.{Option, Some, None, IsTrue, ◌↔◌}
use Rattle.std.specs.Option.{option_and_then}
use Rattle.std.proofs.lemmas.List.{length-map, get_or-map}
use Rattle.qed_terms.specs.Nodes.{kids_of, room_after}
use Rattle.qed_terms.specs.Tree.{Tree, head_of, size, sizes, trees_of}
use Rattle.qed_terms.proofs.Sizes.{none_so, so_none, room_first}
use Rattle.branches.specs.declared.kinds.Kind.{Kind}
use Rattle.branches.specs.Steps.{NoneSo}
use Rattle.branches.specs.Branch.{nodes_of, IsKind, is_kind}
use Rattle.branches.specs.Expansion.{node_limit}
use Rattle.branches.proofs.Steps.{none_more}

-- ---- the first of a kind

module _ {Id : Type 0} (tree : Id → Tree) where
  pub tree_at : (ids : List Id) (at : ℕ) (id : Id) (d : Tree) → at < length ids → get_or (map tree ids) at d ≡ tree (get_or ids at id)
  tree_at ids at id d k = get_or-map tree ids at id d k

  pub none_of_kind : (k : Kind) (ids : List Id) (i : ℕ) (id : Id) → NoneSo (IsKind k) (take i (map tree ids)) → i < length ids → id ≡ get_or ids i id → is_kind k (head_of (tree id)) ≡ false
      → NoneSo (IsKind k) (take (i + 1) (map tree ids))
  none_of_kind k ids i id n below is e =
      let long = length-map ids tree in
      let here : get_or (map tree ids) i (tree id) ≡ tree id = tree_at ids i id (tree id) below ∙ ap tree (sym is) in
      none_more (IsKind k) (map tree ids) i (tree id) n (omega (arith, long)) (λ so. let f = subst (IsKind k) here so in absurd cc)

-- ---- the room for nodes

-- so many nodes and then so many more
after_both : (r a b : ℕ) → room_after r (a + b) ≡ option_and_then (λ l. room_after l b) (room_after r a)
after_both r zero b = let e : zero + b ≡ b = omega arith in ap (room_after r) e
after_both zero (suc a) b = let e : suc a + b ≡ suc (a + b) = omega arith in ap (room_after zero) e
after_both (suc r) (suc a) b = let e : suc a + b ≡ suc (a + b) = omega arith in ap (room_after (suc r)) e ∙ after_both r a b

-- no more is left than there was
pub no_more_left : (r n l : ℕ) → Some l ≡ room_after r n → l ≤ r
no_more_left r zero l e = let same : l ≡ r = cc in omega (arith, same)
no_more_left zero (suc n) l e = absurd cc
no_more_left (suc r) (suc n) l e = let k = no_more_left r n l e in omega (arith, k)

next_room : (ts : List Tree) (left i : ℕ) (t : Tree) → i < length ts → get_or ts i t ≡ t → room_after left (nodes_of (drop i ts)) ≡ option_and_then (λ l. room_after l (nodes_of (drop (i + 1) ts))) (room_after left (size t))
next_room ts left i t k e =
    let s : suc i ≡ i + 1 = omega arith in
    ap (λ z. room_after left (nodes_of z)) (drop-cons ts i t k ∙ (λ j. e j ∷ drop (s j) ts)) ∙ after_both left (size t) (nodes_of (drop (i + 1) ts))

module _ {Id : Type 0} (tree : Id → Tree) (ids : List Id) where
  -- what is left after one more
  pub room_on : (whole : Option ℕ) (left i l : ℕ) (id : Id) → i < length ids → id ≡ get_or ids i id → Some l ≡ room_after left (size (tree id)) → whole ≡ room_after left (nodes_of (drop i (map tree ids)))
      → whole ≡ room_after l (nodes_of (drop (i + 1) (map tree ids)))
  room_on whole left i l id k is e w =
      let long = length-map ids tree in
      let here : get_or (map tree ids) i (tree id) ≡ tree id = tree_at tree ids i id (tree id) k ∙ ap tree (sym is) in
      w ∙ next_room (map tree ids) left i (tree id) (omega (arith, long)) here ∙ ap (option_and_then (λ z. room_after z (nodes_of (drop (i + 1) (map tree ids))))) (sym e)

  pub room_off : (whole : Option ℕ) (left i : ℕ) (id : Id) → i < length ids → id ≡ get_or ids i id → None ≡ room_after left (size (tree id)) → whole ≡ room_after left (nodes_of (drop i (map tree ids)))
      → None ≡ whole
  room_off whole left i id k is e w =
      let long = length-map ids tree in
      let here : get_or (map tree ids) i (tree id) ≡ tree id = tree_at tree ids i id (tree id) k ∙ ap tree (sym is) in
      sym (w ∙ next_room (map tree ids) left i (tree id) (omega (arith, long)) here ∙ ap (option_and_then (λ z. room_after z (nodes_of (drop (i + 1) (map tree ids))))) (sym e))

  pub room_end : (whole : Option ℕ) (left i : ℕ) → length ids ≤ i → whole ≡ room_after left (nodes_of (drop i (map tree ids))) → Some left ≡ whole
  room_end whole left i k w = let long = length-map ids tree in let l : length (map tree ids) ≤ i = omega (arith, long) in sym (w ∙ ap (λ z. room_after left (nodes_of z)) (drop_of_length-le (map tree ids) l))

-- the kids of a formula by the ids of them
nodes_are : (ts : List Tree) → nodes_of ts ≡ sizes (trees_of ts)
nodes_are [] = refl
nodes_are (t ∷ ts) = ap (λ n. size t + n) (nodes_are ts)

pub room_of_kids : {Id : Type 0} (tree : Id → Tree) (t : Tree) (ids : List Id) (room : ℕ) → (room ≡ 0 → ⊥) → map tree ids ≡ kids_of t → room_after room (size t) ≡ room_after (room - 1) (nodes_of (drop 0 (map tree ids)))
room_of_kids tree t ids room k stand =
    let some : 0 < room = omega arith in
    room_first t room some ∙ ap (λ ts. room_after (room - 1) (sizes (trees_of ts))) (sym stand) ∙ ap (room_after (room - 1)) (sym (nodes_are (map tree ids)))

-- of two lists one after the other
module _ (first second : ℕ) where
  pub over_first : None ≡ room_after node_limit first → IsTrue true ↔ (node_limit < first + second)
  over_first e = ((λ k. let l = none_so node_limit first (sym e) in omega (arith, l)), (λ k. refl))

  whole_room : (l : ℕ) → Some l ≡ room_after node_limit first → room_after node_limit (first + second) ≡ room_after l second
  whole_room l e = after_both node_limit first second ∙ ap (option_and_then (λ z. room_after z second)) (sym e)

  pub over_second : (l : ℕ) → Some l ≡ room_after node_limit first → None ≡ room_after l second → IsTrue true ↔ (node_limit < first + second)
  over_second l e f = ((λ k. none_so node_limit (first + second) (whole_room l e ∙ sym f)), (λ k. refl))

  pub not_over : (l m : ℕ) → Some l ≡ room_after node_limit first → Some m ≡ room_after l second → IsTrue false ↔ (node_limit < first + second)
  not_over l m e f = ((λ k. absurd cc), (λ k. let z = so_none node_limit (first + second) k in let w = whole_room l e in absurd cc))

pub ruleset room_laws = (room_on, room_off, room_end, room_of_kids, over_first, over_second, not_over)

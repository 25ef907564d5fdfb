-- How many nodes a tree has, by its kids.
use Rattle.std.proofs.Common.{◌≡◌, ℕ, zero, suc, ◌+◌, ◌<◌, ◌≤◌, List, ◌-◌, length, drop, get_or, drop_of_length-le, arith, refl, sym, ◌∙◌, ap}
use Rattle.std.specs.Prelude.{Option, Some, None, IsTrue, true, false, ◌↔◌}
use Rattle.std.specs.Option.{option_and_then}
use Rattle.qed_terms.specs.Tree.{Tree, node, Trees, stop, more, list_of, trees_of, true_tree, size, sizes}
use Rattle.qed_terms.specs.Nodes.{kids_of, room_after}
use Rattle.qed_terms.proofs.Lists.{trees_of-list_of}
use Rattle.qed_terms.proofs.Places.{drop_at}

kid_smaller : (ts : Trees) (i : ℕ) → i < length (list_of ts) → size (get_or (list_of ts) i true_tree) ≤ sizes ts
kid_smaller stop i k = absurd (omega arith)
kid_smaller (more t ts) zero k = omega arith
kid_smaller (more t ts) (suc i) k = let r = kid_smaller ts i (omega arith) in omega (arith, r)

pub size-kid : (t : Tree) (i : ℕ) → i < length (kids_of t) → size (get_or (kids_of t) i true_tree) < size t
size-kid (node g ts) i k = let r = kid_smaller ts i k in omega (arith, r)

-- ---- the room for nodes

room_sum : (r a b : ℕ) → room_after r (a + b) ≡ option_and_then (λ l. room_after l b) (room_after r a)
room_sum r zero b = let e : zero + b ≡ b = omega arith in ap (room_after r) e
room_sum zero (suc a) b = let e : suc a + b ≡ suc (a + b) = omega arith in ap (room_after zero) e
room_sum (suc r) (suc a) b = let e : suc a + b ≡ suc (a + b) = omega arith in ap (room_after (suc r)) e ∙ room_sum r a b

-- none exactly where there are more nodes
pub none_so : (r n : ℕ) → room_after r n ≡ None → r < n
none_so r zero e = absurd cc
none_so zero (suc n) e = omega arith
none_so (suc r) (suc n) e = let k = none_so r n e in omega (arith, k)

pub so_none : (r n : ℕ) → r < n → room_after r n ≡ None
so_none r zero k = absurd (omega arith)
so_none zero (suc n) k = refl
so_none (suc r) (suc n) k = so_none r n (omega arith)

pub no_room : (t : Tree) → room_after 0 (size t) ≡ None
no_room (node g ts) = refl

abbrev pub left_for : ℕ → List Tree → ℕ → Option ℕ
left_for r ts i = room_after r (sizes (trees_of (drop i ts)))

pub room_first : (t : Tree) (r : ℕ) → 0 < r → room_after r (size t) ≡ left_for (r - 1) (kids_of t) 0
room_first (node g ts) r k =
    let e : r ≡ suc (r - 1) = omega arith in
    ap (λ n. room_after n (suc (sizes ts))) e ∙ ap (λ us. room_after (r - 1) (sizes us)) (sym (trees_of-list_of ts))

one_off : (ts : List Tree) (r i : ℕ) → i < length ts → left_for r ts i ≡ option_and_then (λ l. left_for l ts (i + 1)) (room_after r (size (get_or ts i true_tree)))
one_off ts r i k = ap (λ us. room_after r (sizes (trees_of us))) (drop_at ts i true_tree k) ∙ room_sum r (size (get_or ts i true_tree)) (sizes (trees_of (drop (i + 1) ts)))

pub room_next : (ts : List Tree) (r i l : ℕ) → i < length ts → room_after r (size (get_or ts i true_tree)) ≡ Some l → left_for r ts i ≡ left_for l ts (i + 1)
room_next ts r i l k e = one_off ts r i k ∙ ap (option_and_then (λ l. left_for l ts (i + 1))) e

pub room_stops : (ts : List Tree) (r i : ℕ) → i < length ts → room_after r (size (get_or ts i true_tree)) ≡ None → left_for r ts i ≡ None
room_stops ts r i k e = one_off ts r i k ∙ ap (option_and_then (λ l. left_for l ts (i + 1))) e

pub room_last : (ts : List Tree) (r i : ℕ) → length ts ≤ i → left_for r ts i ≡ Some r
room_last ts r i k = ap (λ us. room_after r (sizes (trees_of us))) (drop_of_length-le ts k)

-- for a test of the room that is left
pub larger : (r n : ℕ) (o : Option ℕ) → o ≡ room_after r n → o ≡ None → IsTrue true ↔ (r < n)
larger r n o e f = ((λ k. none_so r n (sym e ∙ f)), (λ k. refl))

pub not_larger : (r n m : ℕ) (o : Option ℕ) → o ≡ room_after r n → o ≡ Some m → IsTrue false ↔ (r < n)
not_larger r n m o e f = ((λ k. absurd cc), (λ k. let z = so_none r n k in absurd cc))

pub ruleset larger_laws = (larger, not_larger)

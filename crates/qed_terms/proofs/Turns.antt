-- Lists of numbers and of kids, compared from a place on.
use Rattle.std.proofs.Common.{◌≡◌, ℕ, ◌+◌, ◌<◌, ◌≤◌, List, [], ◌∷◌, length, drop, get_or, drop_of_length-le, length-drop, arith, Ordering, Less, Equal, Greater, nat_cmp, refl, sym, ◌∙◌, ap}
use Rattle.std.specs.Ordering.{ordering_then}
use Rattle.std.specs.Cmp.Lexicographic.{slice_cmp}
use Rattle.qed_terms.specs.Tree.{Tree, node, stop, trees_of, head_of, kids_in, true_tree}
use Rattle.qed_terms.specs.Order.{tree_cmp, kids_cmp, front_cmp, back_cmp, starts}
use Rattle.qed_terms.specs.Nodes.{kids_of}
use Rattle.qed_terms.proofs.Lists.{trees_of-list_of}
use Rattle.qed_terms.proofs.Places.{drop_at, first_is, rest_is}

-- ---- numbers

some_left : (zs : List ℕ) → 0 < length zs → (slice_cmp nat_cmp [] zs ≡ Less) × (slice_cmp nat_cmp zs [] ≡ Greater)
some_left [] k = absurd (omega arith)
some_left (z ∷ zs) k = (refl, refl)

pub left_longer : (xs ys : List ℕ) (i : ℕ) → i < length xs → length ys ≤ i → slice_cmp nat_cmp (drop i xs) (drop i ys) ≡ Greater
left_longer xs ys i k l = ap (λ z. slice_cmp nat_cmp (drop i xs) z) (drop_of_length-le ys l) ∙ (some_left (drop i xs) (omega (arith, length-drop i xs))).1

pub right_longer : (xs ys : List ℕ) (i : ℕ) → length xs ≤ i → i < length ys → slice_cmp nat_cmp (drop i xs) (drop i ys) ≡ Less
right_longer xs ys i k l = ap (λ z. slice_cmp nat_cmp z (drop i ys)) (drop_of_length-le xs k) ∙ (some_left (drop i ys) (omega (arith, length-drop i ys))).0

pub ruleset number_turns = (left_longer, right_longer)

-- ---- kids, with their starts

abbrev pub from_place : (ns ms : List ℕ) (ts us : List Tree) → ℕ → Ordering
from_place ns ms ts us i = kids_cmp (drop i ns) (drop i ms) (trees_of (drop i ts)) (trees_of (drop i us))

pub from_first : (ns ms : List ℕ) (t u : Tree) → kids_cmp ns ms (kids_in t) (kids_in u) ≡ from_place ns ms (kids_of t) (kids_of u) 0
from_first ns ms t u = let a = trees_of-list_of (kids_in t) in let b = trees_of-list_of (kids_in u) in λ i. kids_cmp ns ms (sym a i) (sym b i)

some_kid : (ns ms : List ℕ) (ts : List Tree) → 0 < length ts → (kids_cmp ns ms stop (trees_of ts) ≡ Less) × (kids_cmp ns ms (trees_of ts) stop ≡ Greater)
unfolding kids_cmp
some_kid ns ms [] k = absurd (omega arith)
some_kid ns ms (t ∷ ts) k = (refl, refl)

pub left_more : (ns ms : List ℕ) (ts us : List Tree) (i : ℕ) → i < length ts → length us ≤ i → from_place ns ms ts us i ≡ Greater
left_more ns ms ts us i k l = ap (λ z. kids_cmp (drop i ns) (drop i ms) (trees_of (drop i ts)) (trees_of z)) (drop_of_length-le us l) ∙ (some_kid (drop i ns) (drop i ms) (drop i ts) (omega (arith, length-drop i ts))).1

pub right_more : (ns ms : List ℕ) (ts us : List Tree) (i : ℕ) → length ts ≤ i → i < length us → from_place ns ms ts us i ≡ Less
right_more ns ms ts us i k l = ap (λ z. kids_cmp (drop i ns) (drop i ms) (trees_of z) (trees_of (drop i us))) (drop_of_length-le ts k) ∙ (some_kid (drop i ns) (drop i ms) (drop i us) (omega (arith, length-drop i us))).0

pub none_left : (ns ms : List ℕ) (ts us : List Tree) (i : ℕ) → length ts ≤ i → length us ≤ i → from_place ns ms ts us i ≡ Equal
unfolding kids_cmp
none_left ns ms ts us i k l =
    let a = drop_of_length-le ts k in
    let b = drop_of_length-le us l in
    λ j. kids_cmp (drop i ns) (drop i ms) (trees_of (a j)) (trees_of (b j))

-- one kid further: what decides is the start, then the kid, then the rest
pub one_kid : (ns ms : List ℕ) (ts us : List Tree) (i : ℕ) (o p : Ordering) → i < length ts → i < length us
    → nat_cmp (get_or ns i 0) (get_or ms i 0) ≡ o → tree_cmp (get_or ts i true_tree) (get_or us i true_tree) ≡ p
    → from_place ns ms ts us i ≡ ordering_then o (ordering_then p (from_place ns ms ts us (i + 1)))
unfolding kids_cmp
one_kid ns ms ts us i o p k l e f =
    let a = drop_at ts i true_tree k in
    let b = drop_at us i true_tree l in
    (λ j. kids_cmp (drop i ns) (drop i ms) (trees_of (a j)) (trees_of (b j)))
    ∙ (λ j. ordering_then (nat_cmp (first_is ns i j) (first_is ms i j)) (ordering_then (tree_cmp (get_or ts i true_tree) (get_or us i true_tree))
    (kids_cmp (rest_is ns i j) (rest_is ms i j) (trees_of (drop (i + 1) ts)) (trees_of (drop (i + 1) us)))))
    ∙ (λ j. ordering_then (e j) (ordering_then (f j) (from_place ns ms ts us (i + 1))))

-- the same, where the start alone decides
pub one_start : (ns ms : List ℕ) (ts us : List Tree) (i : ℕ) (o : Ordering) → i < length ts → i < length us
    → nat_cmp (get_or ns i 0) (get_or ms i 0) ≡ o → from_place ns ms ts us i ≡ ordering_then o (ordering_then (tree_cmp (get_or ts i true_tree) (get_or us i true_tree)) (from_place ns ms ts us (i + 1)))
one_start ns ms ts us i o k l e = one_kid ns ms ts us i o _ k l e refl

-- ---- trees, by their heads and kids

pub whole : (t u : Tree) (a b c : Ordering) → front_cmp (head_of t) (head_of u) ≡ a → kids_cmp (starts (head_of t)) (starts (head_of u)) (kids_in t) (kids_in u) ≡ b → back_cmp (head_of t) (head_of u) ≡ c
    → tree_cmp t u ≡ ordering_then a (ordering_then b c)
unfolding tree_cmp
whole (node g ts) (node k us) a b c e f d = λ i. ordering_then (e i) (ordering_then (f i) (d i))

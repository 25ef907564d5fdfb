-- Two trees are the same where their heads are and their kids, one after the other.
use Rattle.std.proofs.Common.{◌≡◌, ℕ, zero, suc, ◌+◌, ◌<◌, ◌≤◌, Bool, true, false, List, [], ◌∷◌, ◌++◌, map, take, length, get_or, All, refl, sym, ◌∙◌, ap, subst, arith}
use Rattle.std.proofs.lemmas.List.{length-map, map_push, take_all}
use Rattle.std.proofs.lemmas.List.Elements.{All-get_or}
use Rattle.qed_terms.specs.declared.head.Head.{Head}
use Rattle.qed_terms.specs.Order.{same, same_head}
use Rattle.qed_terms.specs.Tree.{Tree, node, Trees, stop, more, head_of, kids_in, list_of, trees_of, true_tree, size}
use Rattle.qed_terms.specs.Nodes.{kids_of}
use Rattle.qed_terms.proofs.Lists.{trees_of-list_of}
use Rattle.qed_terms.proofs.Sizes.{size-kid}
use Rattle.qed_terms.proofs.Total.{heads_are_exact, same_itself, same_exact}

take_one : {A : Type 0} (xs : List A) (i : ℕ) (x : A) → i < length xs → x ≡ get_or xs i x → take (i + 1) xs ≡ take i xs ++ x ∷ []
take_one xs i x k e = let m : i + 1 ≡ suc i = omega arith in ap (λ n. take n xs) m ∙ go xs i k ∙ ap (λ y. take i xs ++ y ∷ []) (sym e)
  where
    go : (ys : List _) (j : ℕ) → j < length ys → take (suc j) ys ≡ take j ys ++ get_or ys j x ∷ []
    go [] j k = absurd (omega arith)
    go (y ∷ ys) zero k = refl
    go (y ∷ ys) (suc j) k = ap (λ zs. y ∷ zs) (go ys j (omega arith))

not_same : (t u : Tree) → (t ≡ u → ⊥) → false ≡ same t u
not_same t u n = go (same t u) refl
  where
    go : (b : Bool) → same t u ≡ b → false ≡ b
    go true e = absurd (n (same_exact t u e))
    go false e = refl

pub other_head : (t u : Tree) (g k : Head) (b : Bool) → g ≡ head_of t → k ≡ head_of u → b ≡ same_head g k → b ≡ false → false ≡ same t u
other_head t u g k b p q e n =
    not_same t u (λ s. let heads : g ≡ k = p ∙ ap head_of s ∙ sym q in let r = (heads_are_exact g k).1 heads in absurd cc)

pub other_count : {Id : Type 0} (tree : Id → Tree) (t u : Tree) (ks ls : List Id) → map tree ks ≡ kids_of t → map tree ls ≡ kids_of u → (length ks ≡ length ls → ⊥) → false ≡ same t u
other_count tree t u ks ls e f n =
    not_same t u (λ s. n (sym (length-map ks tree) ∙ ap length (e ∙ ap kids_of s ∙ sym f) ∙ length-map ls tree))

get_mapped : {Id : Type 0} (tree : Id → Tree) (ks : List Id) (i : ℕ) (d : Id) → i < length ks → tree (get_or ks i d) ≡ get_or (map tree ks) i true_tree
get_mapped tree [] i d k = absurd (omega arith)
get_mapped tree (x ∷ ks) zero d k = refl
get_mapped tree (x ∷ ks) (suc i) d k = get_mapped tree ks i d (omega arith)

kid_at : {Id : Type 0} (tree : Id → Tree) (t : Tree) (ks : List Id) (i : ℕ) (a : Id) → map tree ks ≡ kids_of t → i < length ks → a ≡ get_or ks i a → tree a ≡ get_or (kids_of t) i true_tree
kid_at tree t ks i a e k p = ap tree p ∙ get_mapped tree ks i a k ∙ ap (λ ts. get_or ts i true_tree) e

pub other_kid : {Id : Type 0} (tree : Id → Tree) (t u : Tree) (ks ls : List Id) (i : ℕ) (a b : Id) (r : Bool) → map tree ks ≡ kids_of t → map tree ls ≡ kids_of u → i < length ks → length ks ≡ length ls
    → a ≡ get_or ks i a → b ≡ get_or ls i b → r ≡ same (tree a) (tree b) → r ≡ false → false ≡ same t u
other_kid tree t u ks ls i a b r e f k n p q w v =
    not_same t u (λ s.
    let kids : tree a ≡ tree b = kid_at tree t ks i a e k p ∙ ap (λ x. get_or (kids_of x) i true_tree) s ∙ sym (kid_at tree u ls i b f (omega arith) q) in
    let one = same_itself (tree a) in
    let both : same (tree a) (tree a) ≡ same (tree a) (tree b) = ap (same (tree a)) kids in
    absurd cc)

pub one_more_same : {Id : Type 0} (tree : Id → Tree) (ks ls : List Id) (i : ℕ) (a b : Id) (r : Bool) → i < length ks → length ks ≡ length ls → a ≡ get_or ks i a → b ≡ get_or ls i b
    → r ≡ same (tree a) (tree b) → r ≡ true → map tree (take i ks) ≡ map tree (take i ls) → map tree (take (i + 1) ks) ≡ map tree (take (i + 1) ls)
one_more_same tree ks ls i a b r k n p q w v e =
    let kids : tree a ≡ tree b = same_exact (tree a) (tree b) (sym w ∙ v) in
    ap (map tree) (take_one ks i a k p) ∙ map_push tree (take i ks) a ∙ (λ j. e j ++ kids j ∷ []) ∙ sym (map_push tree (take i ls) b) ∙ ap (map tree) (sym (take_one ls i b (omega arith) q))

again : (t : Tree) → node (head_of t) (trees_of (kids_of t)) ≡ t
again (node head ts) = ap (node head) (trees_of-list_of ts)

pub all_same : {Id : Type 0} (tree : Id → Tree) (t u : Tree) (g k : Head) (b : Bool) (ks ls : List Id) (i : ℕ) → g ≡ head_of t → k ≡ head_of u → b ≡ same_head g k → b ≡ true
    → map tree ks ≡ kids_of t → map tree ls ≡ kids_of u → length ks ≡ length ls → length ks ≤ i → map tree (take i ks) ≡ map tree (take i ls) → true ≡ same t u
all_same tree t u g k b ks ls i p q w v e f n l s =
    let heads : g ≡ k = (heads_are_exact g k).0 (sym w ∙ v) in
    let kids : kids_of t ≡ kids_of u =
    sym e ∙ ap (map tree) (sym (take_all i ks l)) ∙ s ∙ ap (map tree) (take_all i ls (omega arith)) ∙ f in
    let whole : t ≡ u = sym (again t) ∙ (λ j. node ((sym p ∙ heads ∙ q) j) (trees_of (kids j))) ∙ again u in
    sym (sym (ap (same t) whole) ∙ same_itself t)

pub kid_held : {Id : Type 0} (held : Id → Type 0) (ks : List Id) (i : ℕ) (k : Id) → All held ks → i < length ks → k ≡ get_or ks i k → held k
kid_held held ks i k a n e = subst held (sym e) (All-get_or held ks i k n a)

pub smaller_kid : {Id : Type 0} (tree : Id → Tree) (t : Tree) (ks : List Id) (i : ℕ) (a : Id) → map tree ks ≡ kids_of t → i < length ks → a ≡ get_or ks i a → size (tree a) < size t
smaller_kid tree t ks i a e k p =
    let n : length ks ≡ length (kids_of t) = sym (length-map ks tree) ∙ ap length e in
    let l = size-kid t i (omega arith) in
    let s = ap size (kid_at tree t ks i a e k p) in
    omega (arith, l, s)

pub ruleset alike_laws = (other_head, other_count, other_kid, one_more_same, all_same, kid_held, smaller_kid)

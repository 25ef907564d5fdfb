-- Rows of nodes: one node more, and that no two are one tree.
use Rattle.std.proofs.Common.{◌≡◌, ◌⊎◌, ℕ, zero, suc, ◌+◌, ◌<◌, ◌≤◌, List, [], ◌∷◌, ◌++◌, map, length, get_or, take, append_assoc, refl, sym, ◌∙◌, ap, subst, inl, inr, arith}
use Rattle.std.specs.Prelude.{Option, Some, None, slice_get, All, fold}
use Rattle.std.proofs.lemmas.List.{get_or_append_left, get_or_push, length-append, map_push, take_more}
use Rattle.std.proofs.lemmas.List.Elements.{All-head, All-tail, All-cons, All-append}
use Rattle.std.proofs.lemmas.List.Sums.{fold-append}
use Rattle.qed_terms.specs.declared.head.Head.{Head}
use Rattle.qed_terms.specs.Nodes.{kids_of}
use Rattle.qed_terms.specs.Tree.{Tree, node, trees_of, list_of, head_of, kids_in, size, true_tree, false_tree}
use Rattle.qed_terms.proofs.Sizes.{size-kid}
use Rattle.qed_terms.proofs.Lists.{list_of-trees_of, trees_of-list_of}
use Rattle.tree_places.specs.Heads.{AreHeads, KeepsNumbers}
use Rattle.tree_places.specs.Tables.{Node, tree_in, tree_over, grown, trees_in, tree_at, IsTable, Grows}

-- ---- items of lists

pub get_below : {A : Type 0} (xs : List A) (i : ℕ) (x : A) → slice_get xs i ≡ Some x → i < length xs
get_below [] i x e = absurd cc
get_below (y ∷ xs) zero x e = omega arith
get_below (y ∷ xs) (suc i) x e = let l = get_below xs i x e in omega arith

pub get_there : {A : Type 0} (xs : List A) (i : ℕ) → i < length xs → (x : A) × (slice_get xs i ≡ Some x)
get_there [] i l = absurd (omega arith)
get_there (y ∷ xs) zero l = (y, refl)
get_there (y ∷ xs) (suc i) l = get_there xs i (omega arith)

get_last : {A : Type 0} (xs : List A) (y : A) (i : ℕ) (x : A) → slice_get (xs ++ y ∷ []) i ≡ Some x → ((i < length xs) × (slice_get xs i ≡ Some x)) ⊎ ((i ≡ length xs) × (y ≡ x))
get_last [] y zero x e = inr (refl, cc)
get_last [] y (suc i) x e = absurd cc
get_last (z ∷ xs) y zero x e = inl (omega arith, e)
get_last (z ∷ xs) y (suc i) x e = elim (get_last xs y i x e) [ inl r ↦ inl (let l = r.0 in omega arith, r.1) | inr r ↦ inr (ap suc r.0, r.1) ]

pub get_front : {A : Type 0} (xs ys : List A) (i : ℕ) (x : A) → slice_get xs i ≡ Some x → slice_get (xs ++ ys) i ≡ Some x
get_front [] ys i x e = absurd cc
get_front (z ∷ xs) ys zero x e = e
get_front (z ∷ xs) ys (suc i) x e = get_front xs ys i x e

pub get_end : {A : Type 0} (xs : List A) (y : A) → slice_get (xs ++ y ∷ []) (length xs) ≡ Some y
get_end [] y = refl
get_end (z ∷ xs) y = get_end xs y

pub map_same : {A B : Type 0} (f g : A → B) (ks : List A) → All (λ k. f k ≡ g k) ks → map f ks ≡ map g ks
map_same f g [] a = refl
map_same f g (k ∷ ks) a =
    let first = All-head (λ k. f k ≡ g k) k ks a in
    let rest = map_same f g ks (All-tail (λ k. f k ≡ g k) k ks a) in
    λ i. first i ∷ rest i

-- ---- growing

older_in : (added : List Node) (ts : List Tree) (i : ℕ) → i < length ts → tree_in (fold grown ts added) i ≡ tree_in ts i
older_in [] ts i l = refl
older_in (n ∷ added) ts i l =
    let long = length-append ts (tree_over ts n ∷ []) in
    older_in added (grown ts n) i (omega arith) ∙ get_or_append_left ts (tree_over ts n ∷ []) false_tree i l

pub older : (ns ms : List Node) → length (trees_in ns) ≡ length ns → Grows ns ms → (i : ℕ) → i < length ns → tree_at ms i ≡ tree_at ns i
older ns ms all g i l =
    ap (λ xs. tree_at xs i) g.1 ∙ ap (λ ts. tree_in ts i) (fold-append grown [] ns g.0) ∙ older_in g.0 (trees_in ns) i (omega arith)

pub grows_none : (ns : List Node) → Grows ns ns
grows_none ns = ([], sym (none ns))
  where
    none : (xs : List Node) → xs ++ [] ≡ xs
    none [] = refl
    none (x ∷ xs) = ap (λ ys. x ∷ ys) (none xs)

pub grows_on : (ns ms ps : List Node) → Grows ns ms → Grows ms ps → Grows ns ps
grows_on ns ms ps g k = (g.0 ++ k.0, k.1 ∙ ap (λ xs. xs ++ k.0) g.1 ∙ append_assoc ns (g.0) (k.0))

pub grows_long : (ns ms : List Node) → Grows ns ms → length ns ≤ length ms
grows_long ns ms g = let e = ap length g.1 ∙ length-append ns g.0 in omega arith

pub grows_get : (ns ms : List Node) → Grows ns ms → (i : ℕ) (n : Node) → slice_get ns i ≡ Some n → slice_get ms i ≡ Some n
grows_get ns ms g i n e = ap (λ xs. slice_get xs i) g.1 ∙ get_front ns g.0 i n e

-- ---- tables

pub table_none : (number : Head → Option ℕ) (find : List ℕ → Option ℕ) → ((key : List ℕ) → find key ≡ None) → IsTable [] number find
table_none number find none = record {
  all = refl;
  is = λ i n e. absurd cc;
  before = λ i n e. absurd cc;
  numbered = λ i n e. absurd cc;
  there = λ i n e. absurd cc;
  found = λ m i ks e. let d = none (m ∷ ks) in absurd cc;
}

pub table_keeps : (ns : List Node) (number number' : Head → Option ℕ) (find : List ℕ → Option ℕ) → KeepsNumbers number number' → IsTable ns number find → IsTable ns number' find
table_keeps ns number number' find keeps t = record {
  all = t.all;
  is = t.is;
  before = t.before;
  numbered = λ i n e. keeps (n.head) (n.number) (t.numbered i n e);
  there = t.there;
  found = t.found;
}

module _ (ns : List Node) (number : Head → Option ℕ) (find find' : List ℕ → Option ℕ) (n : Node) (t : IsTable ns number find) (numbered : number (n.head) ≡ Some (n.number)) (kids : All (λ k. k < length ns) (n.kids)) (none : find (n.number ∷ n.kids) ≡ None) (new : find' (n.number ∷ n.kids) ≡ Some (length ns)) (others : (key : List ℕ) → (key ≡ n.number ∷ n.kids) ⊎ (find' key ≡ find key)) where
  ms : List Node
  ms = ns ++ n ∷ []

  grown_one : trees_in (ns ++ n ∷ []) ≡ grown (trees_in ns) n
  grown_one = fold-append grown [] ns (n ∷ [])

  same_over : (m : Node) → All (λ k. k < length ns) (m.kids) → tree_over (trees_in ns) m ≡ tree_over (trees_in (ns ++ n ∷ [])) m
  same_over m below = ap (λ ts. node (m.head) (trees_of ts)) (map_same (tree_at ns) (tree_at (ns ++ n ∷ [])) (m.kids) (λ k d l. sym (older ns (ns ++ n ∷ []) (t.all) (n ∷ [], refl) (get_or (m.kids) k d) (below k d l))))

  is_now : (i : ℕ) (m : Node) → slice_get (ns ++ n ∷ []) i ≡ Some m → tree_at (ns ++ n ∷ []) i ≡ tree_over (trees_in (ns ++ n ∷ [])) m
  is_now i m e = elim (get_last ns n i m e) [
    | inl r ↦
        older ns (ns ++ n ∷ []) (t.all) (n ∷ [], refl) i r.0 ∙ t.is i m r.1 ∙ same_over m (λ k d l. let b = t.before i m r.1 k d l in let below = r.0 in omega arith)
    | inr r ↦
        let long : i ≡ length (trees_in ns) = r.0 ∙ sym (t.all) in
        ap (λ ts. tree_in ts i) grown_one ∙ get_or_push (trees_in ns) (tree_over (trees_in ns) n) false_tree i (sym long) ∙ same_over n kids ∙ ap (tree_over (trees_in (ns ++ n ∷ []))) r.1
  ]

  there_now : (i : ℕ) (m : Node) → slice_get (ns ++ n ∷ []) i ≡ Some m → find' (m.number ∷ m.kids) ≡ Some i
  there_now i m e = elim (get_last ns n i m e) [
    | inl r ↦
        let f = t.there i m r.1 in
        elim (others (m.number ∷ m.kids)) [ inl s ↦ let d : find (m.number ∷ m.kids) ≡ None = ap find s ∙ none in absurd cc | inr s ↦ s ∙ f ]
    | inr r ↦ ap (λ (z : Node). find' (z.number ∷ z.kids)) (sym r.1) ∙ new ∙ ap Some (sym r.0)
  ]

  found_now : (m i : ℕ) (ks : List ℕ) → find' (m ∷ ks) ≡ Some i → (p : Node) × (slice_get (ns ++ n ∷ []) i ≡ Some p) × (p.number ≡ m) × (p.kids ≡ ks)
  found_now m i ks e = elim (others (m ∷ ks)) [
    | inl s ↦
        let d : Some i ≡ Some (length ns) = sym e ∙ ap find' s ∙ new in
        let at : i ≡ length ns = cc in
        let a : m ≡ n.number = cc in
        let b : ks ≡ n.kids = cc in
        (n, ap (slice_get (ns ++ n ∷ [])) at ∙ get_end ns n, sym a, sym b)
    | inr s ↦ let f = t.found m i ks (sym s ∙ e) in (f.0, get_front ns (n ∷ []) i f.0 f.1, f.2, f.3)
  ]

  pub table_more : IsTable (ns ++ n ∷ []) number find'
  table_more = record {
    all = let l = length-append (trees_in ns) (tree_over (trees_in ns) n ∷ []) in let k = length-append ns (n ∷ []) in let a = t.all in ap length grown_one ∙ omega arith;
    is = is_now;
    before = λ i m e. elim (get_last ns n i m e) [
      | inl r ↦ t.before i m r.1
      | inr r ↦ subst (λ (z : Node). All (λ k. k < i) (z.kids)) r.1 (subst (λ z. All (λ k. k < z) (n.kids)) (sym r.0) kids)
    ];
    numbered = λ i m e. elim (get_last ns n i m e) [ inl r ↦ t.numbered i m r.1 | inr r ↦ subst (λ (z : Node). number (z.head) ≡ Some (z.number)) r.1 numbered ];
    there = there_now;
    found = found_now;
  }

-- a node that is found is the head over these kids
pub hit_is : (ns : List Node) (number : Head → Option ℕ) (find : List ℕ → Option ℕ) (count : ℕ) → AreHeads number count → IsTable ns number find → (head : Head) (m i : ℕ) (ks : List ℕ) → number head ≡ Some m → find (m ∷ ks) ≡ Some i → (i < length ns) × (tree_at ns i ≡ node head (trees_of (map (tree_at ns) ks)))
hit_is ns number find count heads t head m i ks e f =
    let r = t.found m i ks f in
    let n = t.numbered i r.0 r.1 ∙ ap Some r.2 in
    let same : r.0.head ≡ head = heads.one (r.0.head) head m n e in
    (get_below ns i r.0 r.1, t.is i r.0 r.1 ∙ (λ z. node (same z) (trees_of (map (tree_at ns) (r.3 z)))))

-- ---- no two places are one tree

module _ (ns : List Node) (number : Head → Option ℕ) (find : List ℕ → Option ℕ) (t : IsTable ns number find) where
  same_kids : (ks ls : List ℕ) (n : ℕ) → All (λ k. k < n) ks → All (λ k. k < length ns) ls → ((k l : ℕ) → k < n → l < length ns → tree_at ns k ≡ tree_at ns l → k ≡ l) → map (tree_at ns) ks ≡ map (tree_at ns) ls → ks ≡ ls
  same_kids [] [] n a b f e = refl
  same_kids [] (l ∷ ls) n a b f e = absurd cc
  same_kids (k ∷ ks) [] n a b f e = absurd cc
  same_kids (k ∷ ks) (l ∷ ls) n a b f e =
      let d : k ≡ l = f k l (All-head (λ z. z < n) k ks a) (All-head (λ z. z < length ns) l ls b) (cc) in
      let r = same_kids ks ls n (All-tail (λ z. z < n) k ks a) (All-tail (λ z. z < length ns) l ls b) f (cc) in
      λ i. d i ∷ r i

  once_below : (n i j : ℕ) → i < n → i < length ns → j < length ns → tree_at ns i ≡ tree_at ns j → i ≡ j
  once_below zero i j l a b e = absurd (omega arith)
  once_below (suc n) i j l a b e =
      let x = get_there ns i a in
      let y = get_there ns j b in
      let whole = sym (t.is i x.0 x.1) ∙ e ∙ t.is j y.0 y.1 in
      let heads : x.0.head ≡ y.0.head = ap head_of whole in
      let trees = sym (list_of-trees_of (map (tree_at ns) (x.0.kids))) ∙ ap (λ z. list_of (kids_in z)) whole ∙ list_of-trees_of (map (tree_at ns) (y.0.kids)) in
      let before = t.before i x.0 x.1 in
      let behind = t.before j y.0 y.1 in
      let kids = same_kids (x.0.kids) (y.0.kids) i before (λ k d m. let z = behind k d m in omega arith) (λ k m p q s. once_below n k m (omega arith) (omega arith) q s) trees in
      let numbers : x.0.number ≡ y.0.number = let p = t.numbered i x.0 x.1 in let q = t.numbered j y.0 y.1 in let r = ap number heads in cc in
      let f = t.there i x.0 x.1 in
      let g = t.there j y.0 y.1 in
      let key : find (x.0.number ∷ x.0.kids) ≡ find (y.0.number ∷ y.0.kids) = λ z. find (numbers z ∷ kids z) in
      cc

  pub once : (i j : ℕ) → i < length ns → j < length ns → tree_at ns i ≡ tree_at ns j → i ≡ j
  once i j a b e = once_below (suc i) i j (omega arith) a b e

-- ---- the kids of a node, one after the other

pub kids_more : {Id : Type 0} (ns ms : List Node) (number : Head → Option ℕ) (find : List ℕ → Option ℕ) → IsTable ns number find → Grows ns ms → (tree : Id → Tree) (ids : List Id) (k : ℕ) (x : Id) (done : List ℕ) (i : ℕ) → k < length ids → x ≡ get_or ids k x → All (λ j. j < length ns) done → map (tree_at ns) done ≡ map tree (take k ids) → tree_at ms i ≡ tree x →
    map (tree_at ms) (done ++ i ∷ []) ≡ map tree (take (k + 1) ids)
kids_more ns ms number find t g tree ids k x done i l e below so_far is =
    map_push (tree_at ms) done i
    ∙ (λ z. map_same (tree_at ms) (tree_at ns) done (λ j d m. older ns ms (t.all) g (get_or done j d) (below j d m)) z ++ is z ∷ [])
    ∙ ap (λ ts. ts ++ tree x ∷ []) so_far
    ∙ sym (map_push tree (take k ids) x)
    ∙ ap (map tree) (ap (λ z. take k ids ++ z ∷ []) e ∙ sym (take_more ids k x l))

pub below_more : (ns ms : List Node) → Grows ns ms → (done : List ℕ) (i : ℕ) → All (λ j. j < length ns) done → i < length ms → All (λ j. j < length ms) (done ++ i ∷ [])
below_more ns ms g done i below l =
    let m = grows_long ns ms g in
    All-append (λ j. j < length ms) done (i ∷ []) (λ k d h. let b = below k d h in omega arith) (All-cons (λ j. j < length ms) i [] l (λ k d h. absurd (omega arith)))

take_whole : {A : Type 0} (xs : List A) (n : ℕ) → length xs ≤ n → take n xs ≡ xs
take_whole [] zero l = refl
take_whole [] (suc n) l = refl
take_whole (x ∷ xs) zero l = absurd (omega arith)
take_whole (x ∷ xs) (suc n) l = ap (λ z. x ∷ z) (take_whole xs n (omega arith))

pub whole_node : {Id : Type 0} (ns : List Node) (tree : Id → Tree) (ids : List Id) (k : ℕ) (t : Tree) (head : Head) (done : List ℕ) → length ids ≤ k → map tree ids ≡ kids_of t → head ≡ head_of t → map (tree_at ns) done ≡ map tree (take k ids) → node head (trees_of (map (tree_at ns) done)) ≡ t
whole_node ns tree ids k t head done l stand same so_far =
    let all = so_far ∙ ap (map tree) (take_whole ids k l) ∙ stand in
    (λ z. node (same z) (trees_of (all z))) ∙ same_node t
  where
    same_node : (t : Tree) → node (head_of t) (trees_of (kids_of t)) ≡ t
    same_node (node h ts) = ap (node h) (trees_of-list_of ts)

mapped_at : {A : Type 0} (f : A → Tree) (xs : List A) (k : ℕ) (x : A) (d : Tree) → k < length xs → x ≡ get_or xs k x → get_or (map f xs) k d ≡ f x
mapped_at f [] k x d l e = absurd (omega arith)
mapped_at f (y ∷ xs) zero x d l e = ap f (sym e)
mapped_at f (y ∷ xs) (suc k) x d l e = mapped_at f xs k x d (omega arith) e

length_mapped : {A B : Type 0} (f : A → B) (xs : List A) → length (map f xs) ≡ length xs
length_mapped f [] = refl
length_mapped f (x ∷ xs) = ap suc (length_mapped f xs)

pub kid_less : {Id : Type 0} (tree : Id → Tree) (ids : List Id) (k : ℕ) (x : Id) (t : Tree) → k < length ids → x ≡ get_or ids k x → map tree ids ≡ kids_of t → size (tree x) < size t
kid_less tree ids k x t l e stand =
    let count : length (kids_of t) ≡ length ids = ap length (sym stand) ∙ length_mapped tree ids in
    let here : get_or (kids_of t) k true_tree ≡ tree x = ap (λ ts. get_or ts k true_tree) (sym stand) ∙ mapped_at tree ids k x true_tree l e in
    let less = size-kid t k (omega (arith, l, count)) in
    let same = ap size here in
    omega (arith, less, same)

pub kid_held : {Id : Type 0} (held : Id → Type 0) (ids : List Id) (k : ℕ) (x : Id) → All held ids → k < length ids → x ≡ get_or ids k x → held x
kid_held held ids k x all l e = subst held (sym e) (all k x l)

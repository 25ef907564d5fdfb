-- What stays of a store over several calls, and well formed kids of well formed trees.
use Rattle.std.proofs.Common.{◌≡◌, ℕ, zero, suc, ◌+◌, ◌<◌, ◌≤◌, Bool, true, false, ◌&&◌, List, [], ◌∷◌, ◌++◌, map, take, length, get_or, All, refl, ◌∙◌, ap, arith}
use Rattle.std.proofs.lemmas.List.{map_push, take_all}
use Rattle.std.proofs.lemmas.List.Elements.{All-head, All-tail, All-weaker}
use Rattle.qed_terms.specs.declared.head.Sort.{Sort}
use Rattle.qed_terms.specs.declared.head.Sort.TheVariants as sort
use Rattle.qed_terms.specs.declared.head.Head.{Head}
use Rattle.qed_terms.specs.declared.head.Head.TheVariants as h
use Rattle.qed_terms.specs.Names.{is_name}
use Rattle.qed_terms.specs.WellFormed.{Place, same_sort, made_by, may_stand, kid_places, kid_count, fits, all_fit}
use Rattle.qed_terms.specs.Tree.{Tree, node, Trees, stop, more, head_of, list_of, true_tree}
use Rattle.qed_terms.specs.Nodes.{kids_of}
use Rattle.qed_terms.specs.Store.{KeepsOlder, place_of_head, is_well_formed, over}
use Rattle.qed_terms.proofs.Lists.{trees_of-list_of}

-- ---- stores

pub kept_over : {Id : Type 0} (held held' held'' : Id → Type 0) (tree tree' tree'' : Id → Tree) → KeepsOlder held held' tree tree' → KeepsOlder held' held'' tree' tree'' → KeepsOlder held held'' tree tree''
kept_over held held' held'' tree tree' tree'' k l = record {
  still_held = λ id a. l.still_held id (k.still_held id a);
  same_tree = λ id a. l.same_tree id (k.still_held id a) ∙ k.same_tree id a;
}

pub kept_still : {Id : Type 0} (held : Id → Type 0) (tree : Id → Tree) → KeepsOlder held held tree tree
kept_still held tree = record { still_held = λ id a. a; same_tree = λ id a. refl }

pub kept_trees : {Id : Type 0} (held held' : Id → Type 0) (tree tree' : Id → Tree) (ks : List Id) → KeepsOlder held held' tree tree' → All held ks → map tree' ks ≡ map tree ks
kept_trees held held' tree tree' [] k a = refl
kept_trees held held' tree tree' (x ∷ ks) k a =
    let first = k.same_tree x (All-head held x ks a) in
    let rest = kept_trees held held' tree tree' ks k (All-tail held x ks a) in
    λ i. first i ∷ rest i

take_more_at : (ts : List Tree) (i : ℕ) → i < length ts → take i ts ++ get_or ts i true_tree ∷ [] ≡ take (i + 1) ts
take_more_at ts i k = let m : suc i ≡ i + 1 = omega arith in go ts i k ∙ ap (λ n. take n ts) m
  where
    go : (ts : List Tree) (i : ℕ) → i < length ts → take i ts ++ get_or ts i true_tree ∷ [] ≡ take (suc i) ts
    go [] i k = absurd (omega arith)
    go (t ∷ ts) zero k = refl
    go (t ∷ ts) (suc i) k = ap (λ us. t ∷ us) (go ts i (omega arith))

-- one kid more
pub kids_more : {Id : Type 0} (held held' : Id → Type 0) (tree tree' : Id → Tree) (ks : List Id) (x : Id) (ts : List Tree) (i : ℕ)
    → KeepsOlder held held' tree tree' → All held ks → map tree ks ≡ take i ts → i < length ts → tree' x ≡ get_or ts i true_tree → map tree' (ks ++ x ∷ []) ≡ take (i + 1) ts
kids_more held held' tree tree' ks x ts i k a e l f =
    map_push tree' ks x ∙ (λ j. (kept_trees held held' tree tree' ks k a ∙ e) j ++ f j ∷ []) ∙ take_more_at ts i l

pub held_more : {Id : Type 0} (held held' : Id → Type 0) (tree tree' : Id → Tree) (ks : List Id) → KeepsOlder held held' tree tree' → All held ks → All held' ks
held_more held held' tree tree' ks k a = All-weaker held held' k.still_held ks a

-- ---- a tree again from its head and kids

pub again : (t : Tree) → over (head_of t) (kids_of t) ≡ t
again (node head ts) = ap (node head) (trees_of-list_of ts)

pub same_over : (t : Tree) (head : Head) (ts : List Tree) (n : ℕ) → head ≡ head_of t → ts ≡ take n (kids_of t) → length (kids_of t) ≤ n → over head ts ≡ t
same_over t head ts n e f k = (λ i. over (e i) (f i)) ∙ ap (over (head_of t)) (take_all n (kids_of t) k) ∙ again t

-- ---- well formed

left_true : (a b : Bool) → a && b ≡ true → a ≡ true
left_true true b e = refl
left_true false b e = absurd cc

right_true : (a b : Bool) → a && b ≡ true → b ≡ true
right_true true b e = e
right_true false b e = absurd cc

both_true : (a b : Bool) → a ≡ true → b ≡ true → a && b ≡ true
both_true true b e f = f
both_true false b e f = absurd cc

sort_same : (s : Sort) → same_sort s s ≡ true
sort_same sort.Int = refl
sort_same sort.Memory = refl
sort_same sort.Table = refl

head_stands : (place : Place) (head : Head) → may_stand place head ≡ true → may_stand (place_of_head head) head ≡ true
head_stands place (h.Num z) e = refl
head_stands place (h.Var x s) e = both_true (is_name x) (same_sort s s) (left_true (is_name x) _ e) (sort_same s)
head_stands place (h.Term o) e = sort_same (made_by o)
head_stands place h.Ite e = refl
head_stands place (h.App f) e = both_true (is_name f) true (left_true (is_name f) _ e) refl
head_stands place (h.Form o) e = refl
head_stands place h.True e = refl
head_stands place h.False e = refl
head_stands place h.Not e = refl
head_stands place h.And e = refl
head_stands place h.Or e = refl
head_stands place h.Imp e = refl
head_stands place h.Iff e = refl
head_stands place (h.Forall x) e = both_true (is_name x) true (left_true (is_name x) _ e) refl
head_stands place (h.Exists x) e = both_true (is_name x) true (left_true (is_name x) _ e) refl

-- what fits a place is well formed
pub fits_so : (place : Place) (t : Tree) → fits place t ≡ true → is_well_formed t ≡ true
fits_so place (node head ts) e = both_true _ _ (head_stands place head (left_true (may_stand place head) _ e)) (right_true (may_stand place head) _ e)

kid_fits : (places : List Place) (ts : Trees) (i : ℕ) → all_fit places ts ≡ true → i < length (list_of ts) → is_well_formed (get_or (list_of ts) i true_tree) ≡ true
kid_fits [] stop i e k = absurd (omega arith)
kid_fits [] (more t ts) i e k = absurd cc
kid_fits (place ∷ places) stop i e k = absurd cc
kid_fits (place ∷ places) (more t ts) zero e k = fits_so place t (left_true (fits place t) _ e)
kid_fits (place ∷ places) (more t ts) (suc i) e k = kid_fits places ts i (right_true (fits place t) _ e) (omega arith)

-- the kids of what is well formed are
pub kid_well_formed : (t : Tree) (i : ℕ) → is_well_formed t ≡ true → i < length (kids_of t) → is_well_formed (get_or (kids_of t) i true_tree) ≡ true
kid_well_formed (node head ts) i e k = kid_fits (kid_places head (kid_count ts)) ts i (right_true (may_stand (place_of_head head) head) _ e) k

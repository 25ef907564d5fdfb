-- Sketches that are put into a store one after the other.
use Rattle.std.proofs.Common.{◌≡◌, ℕ, zero, suc, ◌+◌, ◌<◌, ◌≤◌, List, [], ◌∷◌, ◌++◌, map, take, length, get_or, All, refl, sym, ◌∙◌, ap, subst, append_assoc, arith}
use Rattle.std.proofs.lemmas.List.{map_push, take_all}
use Rattle.std.proofs.lemmas.List.Elements.{All-push}
use Rattle.qed_terms.specs.Tree.{Tree, true_tree}
use Rattle.qed_terms.specs.Store.{KeepsOlder, over}
use Rattle.qed_terms.specs.declared.head.Head.{Head}
use Rattle.qed_terms.proofs.Kept.{kept_over, kept_still, kept_trees, held_more}
use Rattle.term_sketches.specs.declared.sketch.Sketch.{Sketch}
use Rattle.term_sketches.specs.declared.sketch.Sketch.TheVariants as sketch
use Rattle.term_sketches.specs.Sketches.{sketch_tree, slots}
use Rattle.term_sketches.proofs.Drawn.{sketch_tree-Over}

-- ---- slots

pub slot_there : {Id : Type 0} (tree : Id → Tree) (ids : List Id) (i : ℕ) (id : Id) → i < length ids → id ≡ get_or ids i id → tree id ≡ slots (map tree ids) i
slot_there tree ids i id k e = ap tree e ∙ go ids i k
  where
    go : (xs : List _) (j : ℕ) → j < length xs → tree (get_or xs j id) ≡ slots (map tree xs) j
    go [] j k = absurd (omega arith)
    go (x ∷ xs) zero k = refl
    go (x ∷ xs) (suc j) k = go xs j (omega arith)

pub slot_behind : {Id : Type 0} (tree : Id → Tree) (ids : List Id) (i : ℕ) → length ids ≤ i → slots (map tree ids) i ≡ true_tree
slot_behind tree [] i k = refl
slot_behind tree (x ∷ xs) zero k = absurd (omega arith)
slot_behind tree (x ∷ xs) (suc i) k = slot_behind tree xs i (omega arith)

-- ---- one more

take_one : {A : Type 0} (xs : List A) (i : ℕ) (x : A) → i < length xs → x ≡ get_or xs i x → take (i + 1) xs ≡ take i xs ++ x ∷ []
take_one xs i x k e = let m : i + 1 ≡ suc i = omega arith in ap (λ n. take n xs) m ∙ go xs i k ∙ ap (λ y. take i xs ++ y ∷ []) (sym e)
  where
    go : (ys : List _) (j : ℕ) → j < length ys → take (suc j) ys ≡ take j ys ++ get_or ys j x ∷ []
    go [] j k = absurd (omega arith)
    go (y ∷ ys) zero k = refl
    go (y ∷ ys) (suc j) k = ap (λ zs. y ∷ zs) (go ys j (omega arith))

-- what was made so far, behind what stood there before
abbrev pub so_far : {Id : Type 0} (tree now : Id → Tree) (ids made : List Id) (before : List Tree) (i : ℕ) (parts : List Sketch) → Type 0
so_far tree now ids made before i parts = map now made ≡ before ++ map (sketch_tree (slots (map tree ids))) (take i parts)

pub one_more : {Id : Type 0} (held held' held'' : Id → Type 0) (tree tree' tree'' : Id → Tree) (ids made : List Id) (before : List Tree) (i : ℕ) (parts : List Sketch) (part : Sketch) (id : Id)
    → KeepsOlder held held' tree tree' → KeepsOlder held' held'' tree' tree'' → All held ids → All held' made → so_far tree tree' ids made before i parts
    → i < length parts → part ≡ get_or parts i part → tree'' id ≡ sketch_tree (slots (map tree' ids)) part → so_far tree tree'' ids (made ++ id ∷ []) before (i + 1) parts
one_more held held' held'' tree tree' tree'' ids made before i parts part id k l a b e n p q =
    let f = sketch_tree (slots (map tree ids)) in
    let same : tree'' id ≡ f part = q ∙ ap (λ ts. sketch_tree (slots ts) part) (kept_trees held held' tree tree' ids k a) in
    map_push tree'' made id
    ∙ (λ j. (kept_trees held' held'' tree' tree'' made l b ∙ e) j ++ same j ∷ [])
    ∙ append_assoc before (map f (take i parts)) (f part ∷ [])
    ∙ ap (λ us. before ++ us) (sym (map_push f (take i parts) part) ∙ ap (map f) (sym (take_one parts i part n p)))

pub all_made : {Id : Type 0} (tree now : Id → Tree) (ids made : List Id) (before : List Tree) (i : ℕ) (parts : List Sketch)
    → so_far tree now ids made before i parts → length parts ≤ i → map now made ≡ before ++ map (sketch_tree (slots (map tree ids))) parts
all_made tree now ids made before i parts e k = e ∙ ap (λ ps. before ++ map (sketch_tree (slots (map tree ids))) ps) (take_all i parts k)

-- the kids of a head
pub kids_made : {Id : Type 0} (tree now : Id → Tree) (ids made kids : List Id) (i : ℕ) (parts parts' : List Sketch) (head : Head) (whole : Sketch)
    → kids ≡ made → so_far tree now ids made [] i parts → length parts ≤ i → parts ≡ parts' → whole ≡ sketch.Over head parts'
    → over head (map now kids) ≡ sketch_tree (slots (map tree ids)) whole
kids_made tree now ids made kids i parts parts' head whole e f k p w =
    let at = slots (map tree ids) in
    ap (λ ks. over head (map now ks)) e
    ∙ ap (over head) (all_made tree now ids made [] i parts f k ∙ ap (map (sketch_tree at)) p)
    ∙ sym (ap (sketch_tree at) w ∙ sketch_tree-Over at head parts')

pub ids_still : {Id : Type 0} (held held' : Id → Type 0) (tree tree' : Id → Tree) (ids : List Id) → KeepsOlder held held' tree tree' → All held ids → All held' ids
ids_still = held_more

pub still : {Id : Type 0} (held : Id → Type 0) (tree : Id → Tree) → KeepsOlder held held tree tree
still = kept_still

pub over_both : {Id : Type 0} (held held' held'' : Id → Type 0) (tree tree' tree'' : Id → Tree) → KeepsOlder held held' tree tree' → KeepsOlder held' held'' tree' tree'' → KeepsOlder held held'' tree tree''
over_both = kept_over

pub ruleset made_laws = (slot_there, slot_behind, still, ids_still, over_both)

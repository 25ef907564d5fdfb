-- What clauses require, one behind the other.
use Rattle.std.proofs.Common.{◌≡◌, ◌<◌, ◌≤◌, ℕ, zero, suc, ◌+◌, List, [], ◌∷◌, ◌++◌, map, drop, length, get_or, refl, sym, ap, ◌∙◌, append_assoc, append-nil, arith}
use Rattle.std.proofs.lemmas.List.{at_drop_more, at_drop_all, map-append}
use Rattle.qed_terms.specs.Tree.{Tree}
use Rattle.walk_steps.specs.Forms.{Slots}
use Rattle.program_steps.specs.Leaves.{fill}

-- ---- items that are seen one by one, behind others

pub list_step : {X A : Type 0} (f : X → A) (xs : List X) (i : ℕ) (x : X) (old new all : List A) → i < length xs → x ≡ get_or xs i x → old ++ map f (drop i xs) ≡ all → new ≡ old ++ f x ∷ []
    → new ++ map f (drop (i + 1) xs) ≡ all
list_step f xs i x old new all lt is h e =
    ap (λ ys. ys ++ map f (drop (i + 1) xs)) e
    ∙ append_assoc old (f x ∷ []) (map f (drop (i + 1) xs))
    ∙ ap (λ y. old ++ f y ∷ map f (drop (i + 1) xs)) is
    ∙ sym (at_drop_more (λ ys. old ++ map f ys) xs i x lt)
    ∙ h

pub list_done : {X A : Type 0} (f : X → A) (xs : List X) (i : ℕ) (old all : List A) → length xs ≤ i → old ++ map f (drop i xs) ≡ all → old ≡ all
list_done f xs i old all over h = sym (append-nil old) ∙ sym (at_drop_all (λ ys. old ++ map f ys) xs i over) ∙ h

pub same_item : (xs : List ℕ) (i d e : ℕ) → i < length xs → get_or xs i d ≡ get_or xs i e
same_item [] i d e lt = absurd (omega (arith, lt))
same_item (x ∷ xs) zero d e lt = refl
same_item (x ∷ xs) (suc i) d e lt = same_item xs i d e (omega (arith, lt))

pub map_twice : {X Y A : Type 0} (f : Y → A) (g : X → Y) (xs : List X) → map f (map g xs) ≡ map (λ x. f (g x)) xs
map_twice f g [] = refl
map_twice f g (x ∷ xs) = ap (λ ys. f (g x) ∷ ys) (map_twice f g xs)

-- ---- lists of items, behind others

abbrev pub flat : {X A : Type 0} → (X → List A) → List X → List A
flat f [] = []
flat f (x ∷ xs) = f x ++ flat f xs

pub lists_step : {X A : Type 0} (f : X → List A) (xs : List X) (i : ℕ) (x : X) (old new all : List A) → i < length xs → x ≡ get_or xs i x → old ++ flat f (drop i xs) ≡ all → new ≡ old ++ f x
    → new ++ flat f (drop (i + 1) xs) ≡ all
lists_step f xs i x old new all lt is h e =
    ap (λ ys. ys ++ flat f (drop (i + 1) xs)) e
    ∙ append_assoc old (f x) (flat f (drop (i + 1) xs))
    ∙ ap (λ y. old ++ (f y ++ flat f (drop (i + 1) xs))) is
    ∙ sym (at_drop_more (λ ys. old ++ flat f ys) xs i x lt)
    ∙ h

pub lists_done : {X A : Type 0} (f : X → List A) (xs : List X) (i : ℕ) (old all : List A) → length xs ≤ i → old ++ flat f (drop i xs) ≡ all → old ≡ all
lists_done f xs i old all over h = sym (append-nil old) ∙ sym (at_drop_all (λ ys. old ++ flat f ys) xs i over) ∙ h

-- ---- formulas behind others

pub two_behind : (ss : List Slots) (old one two fs gs : List Tree) → one ≡ old ++ map (fill ss) fs → two ≡ one ++ map (fill ss) gs → two ≡ old ++ map (fill ss) (fs ++ gs)
two_behind ss old one two fs gs e f =
    f ∙ ap (λ ts. ts ++ map (fill ss) gs) e ∙ append_assoc old (map (fill ss) fs) (map (fill ss) gs) ∙ ap (λ ts. old ++ ts) (sym (map-append (fill ss) fs gs))

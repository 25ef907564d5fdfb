-- Formulas put into a set one after the other.
use Rattle.std.proofs.Common.{◌≡◌, ℕ, ◌+◌, ◌<◌, Bool, true, false, not, ◌||◌, List, [], ◌∷◌, ◌++◌, map, take, drop, take-append-drop, length, get_or, refl, sym, ap, ◌∙◌, append_assoc, append-nil}
use Rattle.std.specs.List.{list_any}
use Rattle.std.proofs.lemmas.List.{take_more, drop_more, map-append}
use Rattle.std.proofs.lemmas.List.Folds.{list_any-append}
use Rattle.qed_terms.specs.Order.{same}
use Rattle.qed_terms.specs.Tree.{Tree}
use Rattle.qed_terms.specs.View.{formula_tree}
use Rattle.qed_terms.specs.declared.term.Formula.{Formula}
use Rattle.formula_sets.specs.declared.keys.Keyed.{Keyed}
use Rattle.formula_sets.specs.Sets.{has_tree, is_one_of, are_first, some_among}

abbrev front : List Formula → ℕ → List Tree
front fs i = map formula_tree (take i fs)

front_more : (fs : List Formula) (i : ℕ) (f : Formula) → i < length fs → f ≡ get_or fs i f → front fs (i + 1) ≡ front fs i ++ formula_tree f ∷ []
front_more fs i f within is = ap (map formula_tree) (take_more fs i f within ∙ ap (λ z. take i fs ++ z ∷ []) (sym is)) ∙ map-append formula_tree (take i fs) (f ∷ [])

either_way : (a b : Bool) → (a || (b || false)) ≡ (b || a)
either_way true true = refl
either_way true false = refl
either_way false true = refl
either_way false false = refl

one_behind : (t u : Tree) (ts : List Tree) → is_one_of t (ts ++ u ∷ []) ≡ (same t u || is_one_of t ts)
one_behind t u ts = list_any-append (same t) ts (u ∷ []) ∙ either_way (is_one_of t ts) (same t u)

-- a set has the formulas so far, and one more
pub one_more_there : (old new : List Keyed) (fs : List Formula) (i : ℕ) (f : Formula) → i < length fs → f ≡ get_or fs i f
    → ((t : Tree) → has_tree old t ≡ is_one_of t (map formula_tree (take i fs)))
    → ((t : Tree) → has_tree new t ≡ (same t (formula_tree f) || has_tree old t))
    → (t : Tree) → has_tree new t ≡ is_one_of t (map formula_tree (take (i + 1) fs))
one_more_there old new fs i f within is so has t =
    has t ∙ ap (λ b. same t (formula_tree f) || b) (so t) ∙ sym (one_behind t (formula_tree f) (front fs i)) ∙ ap (is_one_of t) (sym (front_more fs i f within is))

firsts_behind : (seen ts : List Tree) (u : Tree) → are_first seen (ts ++ u ∷ []) ≡ are_first seen ts ++ not (is_one_of u (seen ++ ts)) ∷ []
firsts_behind seen [] u = ap (λ ss. not (is_one_of u ss) ∷ []) (sym (append-nil seen))
firsts_behind seen (t ∷ ts) u =
    ap (λ bs. not (is_one_of t seen) ∷ bs) (firsts_behind (seen ++ t ∷ []) ts u ∙ ap (λ ss. are_first (seen ++ t ∷ []) ts ++ not (is_one_of u ss) ∷ []) (append_assoc seen (t ∷ []) ts))

pub one_more_first : (old : List Keyed) (firsts firsts' : List Bool) (fs : List Formula) (i : ℕ) (f : Formula) (is_new : Bool) → i < length fs → f ≡ get_or fs i f
    → ((t : Tree) → has_tree old t ≡ is_one_of t (map formula_tree (take i fs)))
    → firsts ≡ are_first [] (map formula_tree (take i fs)) → is_new ≡ not (has_tree old (formula_tree f)) → firsts' ≡ firsts ++ is_new ∷ []
    → firsts' ≡ are_first [] (map formula_tree (take (i + 1) fs))
one_more_first old firsts firsts' fs i f is_new within is so done new pushed =
    pushed ∙ ap (λ bs. bs ++ is_new ∷ []) done ∙ ap (λ b. are_first [] (front fs i) ++ b ∷ []) (new ∙ ap not (so (formula_tree f)))
    ∙ sym (firsts_behind [] (front fs i) (formula_tree f)) ∙ ap (are_first []) (sym (front_more fs i f within is))

-- ---- one list among another

some_append : (us ts vs : List Tree) → some_among (ts ++ vs) us ≡ (some_among ts us || some_among vs us)
some_append us [] vs = refl
some_append us (t ∷ ts) vs = ap (λ b. is_one_of t us || b) (some_append us ts vs) ∙ assoc (is_one_of t us) (some_among ts us) (some_among vs us)
  where
    assoc : (a b c : Bool) → (a || (b || c)) ≡ ((a || b) || c)
    assoc true b c = refl
    assoc false b c = refl

or_found : (a b : Bool) → (a || (true || b)) ≡ true
or_found true b = refl
or_found false b = refl

-- none of those so far, and not this one either
pub none_more : (ks : List Keyed) (fs : List Formula) (us : List Tree) (i : ℕ) (f : Formula) → i < length fs → f ≡ get_or fs i f
    → ((t : Tree) → has_tree ks t ≡ is_one_of t us) → has_tree ks (formula_tree f) ≡ false
    → some_among (map formula_tree (take i fs)) us ≡ false → some_among (map formula_tree (take (i + 1) fs)) us ≡ false
none_more ks fs us i f within is has away so =
    ap (λ ts. some_among ts us) (front_more fs i f within is) ∙ some_append us (front fs i) (formula_tree f ∷ [])
    ∙ (λ j. so j || ((sym (has (formula_tree f)) ∙ away) j || false))

-- this one is found
pub one_found : (ks : List Keyed) (fs : List Formula) (us : List Tree) (i : ℕ) (f : Formula) → i < length fs → f ≡ get_or fs i f
    → ((t : Tree) → has_tree ks t ≡ is_one_of t us) → has_tree ks (formula_tree f) ≡ true → true ≡ some_among (map formula_tree fs) us
one_found ks fs us i f within is has there =
    sym (ap (λ gs. some_among (map formula_tree gs) us) (sym (take-append-drop i fs) ∙ ap (λ gs. take i fs ++ gs) (drop_more fs i f within ∙ ap (λ z. z ∷ drop (i + 1) fs) (sym is)))
    ∙ ap (λ ts. some_among ts us) (map-append formula_tree (take i fs) (f ∷ drop (i + 1) fs))
    ∙ some_append us (front fs i) (formula_tree f ∷ map formula_tree (drop (i + 1) fs))
    ∙ ap (λ b. some_among (front fs i) us || (b || some_among (map formula_tree (drop (i + 1) fs)) us)) (sym (has (formula_tree f)) ∙ there)
    ∙ or_found (some_among (front fs i) us) (some_among (map formula_tree (drop (i + 1) fs)) us))

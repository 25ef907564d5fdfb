-- Factors of products as the program gathers them.
use Rattle.std.proofs.Common.{◌≡◌, ℕ, suc, ◌+◌, ◌<◌, ◌≤◌, true, false, cond, ℤ, pos, ◌*ℤ◌, Ordering, Less, Equal, Greater, List, [], ◌∷◌, ◌++◌, map, length, take, drop, get_or, drop_of_length-le, refl, sym, ◌∙◌, ap, arith}
use Rattle.std.specs.Prelude.{Some}
use Rattle.qed_terms.specs.declared.head.Head.TheVariants as h
use Rattle.qed_terms.specs.declared.head.TermOp.{TermOp}
use Rattle.qed_terms.specs.declared.term.Term.{Term}
use Rattle.qed_terms.specs.declared.term.Term.TheVariants as t
use Rattle.qed_terms.specs.Tree.{Tree, node, trees_of, list_of}
use Rattle.qed_terms.specs.Operators.{is_zero}
use Rattle.qed_terms.specs.Order.{tree_cmp}
use Rattle.qed_terms.specs.View.{term_tree}
use Rattle.qed_terms.proofs.Equations.{term_tree-Op}
use Rattle.qed_terms.proofs.Lists.{list_of-trees_of}
use Rattle.qed_linear.specs.declared.forms.LinPart.{LinPart}
use Rattle.qed_linear.specs.declared.forms.LinForm.{LinForm}
use Rattle.qed_linear.specs.Linear.{Lin, number, of_lin, at_order, are_several, is_product, factors_of, is_one_part, is_single, first_times, first_factors, times_of, factor_trees, times_product, insert_factor, sorted_factors, product_part, product_of, fitted}
use Rattle.qed_linear.specs.View.{parts_of, lin_of, place, are_more}
use Rattle.qed_linear.proofs.Places.{one_off}

-- ---- the factors of an atom

pub several_terms : (ts : List Term) → (length ts < 2 → ⊥) → are_several (trees_of (map term_tree ts)) ≡ true
several_terms [] k = absurd (k (omega arith))
several_terms (x ∷ []) k = absurd (k (omega arith))
several_terms (x ∷ y ∷ ts) k = refl

pub few_terms : (ts : List Term) → length ts < 2 → are_several (trees_of (map term_tree ts)) ≡ false
few_terms [] k = refl
few_terms (x ∷ []) k = refl
few_terms (x ∷ y ∷ ts) k = absurd (omega arith)

pub product_factors : (o : TermOp) (ts : List Term) → is_product (node (h.Term o) (trees_of (map term_tree ts))) ≡ true → map term_tree ts ≡ factors_of (term_tree (t.Op o ts))
product_factors o ts k =
    let n = term_tree-Op o ts in
    let e = ap (λ b. cond b (list_of (trees_of (map term_tree ts))) (node (h.Term o) (trees_of (map term_tree ts)) ∷ [])) k in
    sym (ap factors_of n ∙ e ∙ list_of-trees_of (map term_tree ts))

pub other_factor : (o : TermOp) (ts : List Term) → is_product (node (h.Term o) (trees_of (map term_tree ts))) ≡ false → term_tree (t.Op o ts) ∷ [] ≡ factors_of (term_tree (t.Op o ts))
other_factor o ts k =
    let n = term_tree-Op o ts in
    let e = ap (λ b. cond b (list_of (trees_of (map term_tree ts))) (node (h.Term o) (trees_of (map term_tree ts)) ∷ [])) k in
    ap (λ x. x ∷ []) n ∙ sym (ap factors_of n ∙ e)

-- ---- the place of a factor

place_at : (ts : List Term) (i : ℕ) (x : Term) (f : Tree) (o : Ordering) → i < length ts → x ≡ get_or ts i x → tree_cmp f (term_tree x) ≡ o → place f (map term_tree (drop i ts)) ≡ at_order o 0 0 (suc (place f (map term_tree (drop (i + 1) ts))))
place_at ts i x f o k p e = ap (λ ys. place f (map term_tree ys)) (one_off ts i x k p) ∙ ap (λ r. at_order r 0 0 (suc (place f (map term_tree (drop (i + 1) ts))))) e

pub place_less : (ts : List Term) (i : ℕ) (x : Term) (f : Tree) → i < length ts → x ≡ get_or ts i x → tree_cmp f (term_tree x) ≡ Less → place f (map term_tree ts) ≡ i + place f (map term_tree (drop i ts)) → i ≡ place f (map term_tree ts)
place_less ts i x f k p e h = let a = place_at ts i x f Less k p e in omega (arith, a, h)

pub place_equal : (ts : List Term) (i : ℕ) (x : Term) (f : Tree) → i < length ts → x ≡ get_or ts i x → tree_cmp f (term_tree x) ≡ Equal → place f (map term_tree ts) ≡ i + place f (map term_tree (drop i ts)) → i ≡ place f (map term_tree ts)
place_equal ts i x f k p e h = let a = place_at ts i x f Equal k p e in omega (arith, a, h)

pub place_further : (ts : List Term) (i : ℕ) (x : Term) (f : Tree) → i < length ts → x ≡ get_or ts i x → tree_cmp f (term_tree x) ≡ Greater → place f (map term_tree ts) ≡ i + place f (map term_tree (drop i ts))
    → place f (map term_tree ts) ≡ (i + 1) + place f (map term_tree (drop (i + 1) ts))
place_further ts i x f k p e h = let a = place_at ts i x f Greater k p e in omega (arith, a, h)

pub place_end : (ts : List Term) (i : ℕ) (f : Tree) → length ts ≤ i → place f (map term_tree ts) ≡ i + place f (map term_tree (drop i ts)) → i ≡ place f (map term_tree ts)
place_end ts i f k h = let a = ap (λ ys. place f (map term_tree ys)) (drop_of_length-le ts k) in omega (arith, a, h)

pub place_within : (f : Tree) (ts : List Term) → place f (map term_tree ts) ≤ length ts
place_within f [] = omega arith
place_within f (x ∷ ts) = go (tree_cmp f (term_tree x)) (place_within f ts)
  where
    go : (o : Ordering) → place f (map term_tree ts) ≤ length ts → at_order o 0 0 (suc (place f (map term_tree ts))) ≤ suc (length ts)
    go Less r = omega arith
    go Equal r = omega arith
    go Greater r = omega (arith, r)

placed : (f : Term) (ts : List Term) → map term_tree (take (place (term_tree f) (map term_tree ts)) ts ++ f ∷ drop (place (term_tree f) (map term_tree ts)) ts) ≡ insert_factor (term_tree f) (map term_tree ts)
placed f [] = refl
placed f (x ∷ ts) = go (tree_cmp (term_tree f) (term_tree x)) (placed f ts)
  where
    p : ℕ
    p = place (term_tree f) (map term_tree ts)

    go : (o : Ordering) → map term_tree (take p ts ++ f ∷ drop p ts) ≡ insert_factor (term_tree f) (map term_tree ts)
        → map term_tree (take (at_order o 0 0 (suc p)) (x ∷ ts) ++ f ∷ drop (at_order o 0 0 (suc p)) (x ∷ ts)) ≡ at_order o (term_tree f ∷ term_tree x ∷ map term_tree ts) (term_tree f ∷ term_tree x ∷ map term_tree ts) (term_tree x ∷ insert_factor (term_tree f) (map term_tree ts))
    go Less r = refl
    go Equal r = refl
    go Greater r = ap (λ us. term_tree x ∷ us) r

pub inserted : (f : Term) (ts us : List Term) (n : ℕ) → n ≡ place (term_tree f) (map term_tree ts) → us ≡ take n ts ++ f ∷ drop n ts → map term_tree us ≡ insert_factor (term_tree f) (map term_tree ts)
inserted f ts us n e k = ap (map term_tree) k ∙ ap (λ m. map term_tree (take m ts ++ f ∷ drop m ts)) e ∙ placed f ts

-- ---- the factors of forms

pub one_part : (ps : List LinPart) → length ps ≡ 1 → is_one_part (parts_of ps) ≡ true
one_part [] k = absurd (omega arith)
one_part (p ∷ []) k = refl
one_part (p ∷ q ∷ ps) k = absurd (omega arith)

pub not_one_part : (ps : List LinPart) → (length ps ≡ 1 → ⊥) → is_one_part (parts_of ps) ≡ false
not_one_part [] k = refl
not_one_part (p ∷ []) k = absurd (k (omega arith))
not_one_part (p ∷ q ∷ ps) k = refl

pub single_length : (f : LinForm) → true ≡ is_single (lin_of f) → 0 < length f.parts.items
single_length f k = go f.parts.items f.constant k
  where
    go : (ps : List LinPart) (c : ℤ) → true ≡ is_single (record { parts = parts_of ps; constant = c }) → 0 < length ps
    go [] c k = absurd cc
    go (p ∷ ps) c k = omega arith

first_is : (ps : List LinPart) (x : LinPart) → 0 < length ps → x ≡ get_or ps 0 x → (x.times ≡ first_times (parts_of ps)) × (factors_of (term_tree x.atom) ≡ first_factors (parts_of ps))
first_is [] x k p = absurd (omega arith)
first_is (y ∷ ps) x k p = (ap (λ (z : LinPart). z.times) p, ap (λ (z : LinPart). factors_of (term_tree z.atom)) p)

pub single_times : (f : LinForm) (x : LinPart) → true ≡ is_single (lin_of f) → x ≡ get_or f.parts.items 0 x → x.times ≡ times_of (lin_of f)
single_times f x k p = (first_is f.parts.items x (single_length f k) p).0 ∙ ap (λ b. cond b (first_times (parts_of f.parts.items)) (pos 1)) k

pub single_factors : (f : LinForm) (x : LinPart) → true ≡ is_single (lin_of f) → x ≡ get_or f.parts.items 0 x → factors_of (term_tree x.atom) ≡ factor_trees (lin_of f)
single_factors f x k p = (first_is f.parts.items x (single_length f k) p).1 ∙ ap (λ b. cond b (first_factors (parts_of f.parts.items)) (of_lin (lin_of f) ∷ [])) k

pub other_times : (f : LinForm) → false ≡ is_single (lin_of f) → pos 1 ≡ times_of (lin_of f)
other_times f k = ap (λ b. cond b (first_times (parts_of f.parts.items)) (pos 1)) k

pub whole_factor : (f : LinForm) → false ≡ is_single (lin_of f) → of_lin (lin_of f) ∷ [] ≡ factor_trees (lin_of f)
whole_factor f k = ap (λ b. cond b (first_factors (parts_of f.parts.items)) (of_lin (lin_of f) ∷ [])) k

-- ---- products of several

pub zero_of_many : (c : ℤ) (gs : List Lin) → are_more gs ≡ true → is_zero c ≡ true → Some (number (pos 0)) ≡ product_of (Some c) gs
zero_of_many c [] k e = absurd cc
zero_of_many c (g ∷ []) k e = absurd cc
zero_of_many c (g ∷ g' ∷ gs) k e = sym (ap (λ b. cond b (Some (number (pos 0))) (product_part (fitted (times_product (g ∷ g' ∷ gs) *ℤ c)) (sorted_factors (g ∷ g' ∷ gs)))) e)

pub part_of_many : (c : ℤ) (gs : List Lin) → are_more gs ≡ true → is_zero c ≡ false → product_part (fitted (times_product gs *ℤ c)) (sorted_factors gs) ≡ product_of (Some c) gs
part_of_many c [] k e = absurd cc
part_of_many c (g ∷ []) k e = absurd cc
part_of_many c (g ∷ g' ∷ gs) k e = sym (ap (λ b. cond b (Some (number (pos 0))) (product_part (fitted (times_product (g ∷ g' ∷ gs) *ℤ c)) (sorted_factors (g ∷ g' ∷ gs)))) e)

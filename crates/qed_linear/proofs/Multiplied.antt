-- Products of several factors: the factors stand in order, and the forms of operators keep what holds of atoms, where it holds of products too.
use Rattle.std.proofs.Common.{◌≡◌, ◌+◌, ◌≤◌, suc, Bool, true, false, ◌&&◌, cond, ℤ, pos, negsuc, ◌*ℤ◌, Ordering, Less, Equal, Greater, List, [], ◌∷◌, length, refl, ap, subst, arith}
use Rattle.std.specs.Prelude.{Some, None}
use Rattle.qed_terms.specs.declared.head.Head.{Head}
use Rattle.qed_terms.specs.declared.head.Head.TheVariants as h
use Rattle.qed_terms.specs.declared.head.TermOp.{TermOp}
use Rattle.qed_terms.specs.declared.head.TermOp.TheVariants as op
use Rattle.qed_terms.specs.Tree.{Tree, node, Trees, stop, more, list_of}
use Rattle.qed_terms.specs.Operators.{is_zero}
use Rattle.qed_terms.specs.Order.{tree_cmp}
use Rattle.qed_linear.specs.Linear.{fits, Part, Lin, part, lin, number, is_number, of_lin, at_order, add_all, scale, subtract, number_product, other_factors, fitted, are_several, are_factors, factors_of, is_one_part, is_single, first_times, first_factors, times_of, factor_trees, times_product, insert_factor, insert_factors, sorted_factors, product_tree, product_part, product_of, product_form, op_form, head_form}
use Rattle.qed_linear.proofs.Facts.{and_left, no_zero}
use Rattle.qed_linear.proofs.Canonical.{PartsOver, FormOver, tree_reversed, fits_zero, checked_canonical, add_parts_canonical, scale_canonical, subtract_canonical}

-- ---- factors in order

abbrev pub StandsFirst : Tree → List Tree → Type 0
StandsFirst t [] = Unit {0}
StandsFirst t (u ∷ us) = tree_cmp t u ≡ Greater → ⊥

abbrev pub Sorted : List Tree → Type 0
Sorted [] = Unit {0}
Sorted (t ∷ ts) = StandsFirst t ts × Sorted ts

stands_first : (u t : Tree) (us : List Tree) → (tree_cmp u t ≡ Greater → ⊥) → StandsFirst u us → StandsFirst u (insert_factor t us)
stands_first u t [] a f = a
stands_first u t (v ∷ us) a f = go (tree_cmp t v)
  where
    go : (o : Ordering) → StandsFirst u (at_order o (t ∷ v ∷ us) (t ∷ v ∷ us) (v ∷ insert_factor t us))
    go Less = a
    go Equal = a
    go Greater = f

insert_sorted : (t : Tree) (us : List Tree) → Sorted us → Sorted (insert_factor t us)
insert_sorted t [] s = (tt, tt)
insert_sorted t (u ∷ us) s = go (tree_cmp t u) refl (insert_sorted t us s.1)
  where
    go : (o : Ordering) → tree_cmp t u ≡ o → Sorted (insert_factor t us) → Sorted (at_order o (t ∷ u ∷ us) (t ∷ u ∷ us) (u ∷ insert_factor t us))
    go Less e r = ((λ g. absurd cc), s)
    go Equal e r = ((λ g. absurd cc), s)
    go Greater e r = let b = tree_reversed t u e in (stands_first u t us (λ g. absurd cc) s.0, r)

inserts_sorted : (ts us : List Tree) → Sorted us → Sorted (insert_factors ts us)
inserts_sorted [] us s = s
inserts_sorted (t ∷ ts) us s = insert_sorted t (insert_factors ts us) (inserts_sorted ts us s)

factors_sorted : (fs : List Lin) → Sorted (sorted_factors fs)
factors_sorted [] = tt
factors_sorted (f ∷ fs) = inserts_sorted (factor_trees f) (sorted_factors fs) (factors_sorted fs)

-- those in order stay where they are
pub insert_first : (t : Tree) (us : List Tree) → StandsFirst t us → insert_factor t us ≡ t ∷ us
insert_first t [] f = refl
insert_first t (u ∷ us) f = go (tree_cmp t u) refl
  where
    go : (o : Ordering) → tree_cmp t u ≡ o → at_order o (t ∷ u ∷ us) (t ∷ u ∷ us) (u ∷ insert_factor t us) ≡ t ∷ u ∷ us
    go Less e = refl
    go Equal e = refl
    go Greater e = absurd (f e)

-- ---- how many there are

insert_length : (t : Tree) (us : List Tree) → length (insert_factor t us) ≡ suc (length us)
insert_length t [] = refl
insert_length t (u ∷ us) = go (tree_cmp t u) (insert_length t us)
  where
    go : (o : Ordering) → length (insert_factor t us) ≡ suc (length us) → length (at_order o (t ∷ u ∷ us) (t ∷ u ∷ us) (u ∷ insert_factor t us)) ≡ suc (suc (length us))
    go Less r = refl
    go Equal r = refl
    go Greater r = ap suc r

inserts_length : (ts us : List Tree) → length (insert_factors ts us) ≡ length ts + length us
inserts_length [] us = omega arith
inserts_length (t ∷ ts) us = let a = insert_length t (insert_factors ts us) in let b = inserts_length ts us in omega (arith, a, b)

several_kids : (ts : Trees) → are_several ts ≡ true → 1 ≤ length (list_of ts)
several_kids stop k = absurd cc
several_kids (more t ts) k = omega arith

some_factor : (t : Tree) → 1 ≤ length (factors_of t)
some_factor (node (h.Term op.Mul) ts) = go (are_several ts && are_factors ts) refl
  where
    go : (b : Bool) → are_several ts && are_factors ts ≡ b → 1 ≤ length (cond b (list_of ts) (node (h.Term op.Mul) ts ∷ []))
    go true e = several_kids ts (and_left (are_several ts) (are_factors ts) e)
    go false e = omega arith
some_factor t = omega arith

some_trees : (f : Lin) → 1 ≤ length (factor_trees f)
some_trees f = at (f.parts) (is_zero (f.constant))
  where
    at : (ps : List Part) (z : Bool) → 1 ≤ length (cond (is_one_part ps && z) (first_factors ps) (of_lin f ∷ []))
    at [] z = omega arith
    at (p ∷ []) true = some_factor (p.atom)
    at (p ∷ []) false = omega arith
    at (p ∷ q ∷ ps) z = omega arith

factors_length : (fs : List Lin) → length fs ≤ length (sorted_factors fs)
factors_length [] = omega arith
factors_length (f ∷ fs) = let a = inserts_length (factor_trees f) (sorted_factors fs) in let b = some_trees f in let c = factors_length fs in omega (arith, a, b, c)

-- ---- forms over atoms of which something holds, and over factors of which something holds

module _ (IsAtom IsFactor : Tree → Type 0) where
  abbrev pub AllOver : List Tree → Type 0
  AllOver [] = Unit {0}
  AllOver (t ∷ ts) = IsFactor t × AllOver ts

  -- the factors of a form that isn't a number
  abbrev pub FactorsOver : Lin → Type 0
  FactorsOver f = is_number f ≡ false → AllOver (factor_trees f)

  abbrev pub FormsOver : List Lin → Type 0
  FormsOver [] = Unit {0}
  FormsOver (f ∷ fs) = (PartsOver IsAtom (f.parts) × FactorsOver f) × FormsOver fs

  abbrev OthersOver : List Lin → Type 0
  OthersOver [] = Unit {0}
  OthersOver (f ∷ fs) = (PartsOver IsAtom (f.parts) × AllOver (factor_trees f)) × OthersOver fs

  insert_over : (t : Tree) (us : List Tree) → IsFactor t → AllOver us → AllOver (insert_factor t us)
  insert_over t [] i a = (i, tt)
  insert_over t (u ∷ us) i a = go (tree_cmp t u) (insert_over t us i a.1)
    where
      go : (o : Ordering) → AllOver (insert_factor t us) → AllOver (at_order o (t ∷ u ∷ us) (t ∷ u ∷ us) (u ∷ insert_factor t us))
      go Less r = (i, a)
      go Equal r = (i, a)
      go Greater r = (a.0, r)

  inserts_over : (ts us : List Tree) → AllOver ts → AllOver us → AllOver (insert_factors ts us)
  inserts_over [] us a b = b
  inserts_over (t ∷ ts) us a b = insert_over t (insert_factors ts us) a.0 (inserts_over ts us a.1 b)

  sorted_over : (fs : List Lin) → OthersOver fs → AllOver (sorted_factors fs)
  sorted_over [] k = tt
  sorted_over (f ∷ fs) k = inserts_over (factor_trees f) (sorted_factors fs) k.0.1 (sorted_over fs k.1)

  others_over : (fs : List Lin) → FormsOver fs → OthersOver (other_factors fs)
  others_over [] k = tt
  others_over (f ∷ fs) k = go (is_number f) refl (others_over fs k.1)
    where
      go : (b : Bool) → is_number f ≡ b → OthersOver (other_factors fs) → OthersOver (cond b (other_factors fs) (f ∷ other_factors fs))
      go true e r = r
      go false e r = ((k.0.0, k.0.1 e), r)

  times_nonzero : (f : Lin) → PartsOver IsAtom (f.parts) → is_zero (times_of f) ≡ false
  times_nonzero f k = at (f.parts) (is_single f) k
    where
      at : (ps : List Part) (b : Bool) → PartsOver IsAtom ps → is_zero (cond b (first_times ps) (pos 1)) ≡ false
      at ps false k = refl
      at [] true k = refl
      at (p ∷ ps) true k = k.1

  product_nonzero : (fs : List Lin) → OthersOver fs → is_zero (times_product fs) ≡ false
  product_nonzero [] k = refl
  product_nonzero (f ∷ fs) k = no_zero (times_product fs) (times_of f) (product_nonzero fs k.1) (times_nonzero f k.0.0)

  add_all_canonical : (fs : List Lin) → FormsOver fs → PartsOver IsAtom ((add_all fs).parts)
  add_all_canonical [] g = tt
  add_all_canonical (f ∷ fs) g = add_parts_canonical IsAtom (f.parts) ((add_all fs).parts) g.0.0 (add_all_canonical fs g.1)

  number_canonical : (c : ℤ) → fits c ≡ true → FormOver IsAtom (number c)
  number_canonical c k = (tt, refl, k)

  -- a product of such factors in order is such an atom
  abbrev pub Closed : Type 0
  Closed = (t u : Tree) (ts : List Tree) → Sorted (t ∷ u ∷ ts) → AllOver (t ∷ u ∷ ts) → IsAtom (product_tree (t ∷ u ∷ ts))

  module _ (closed : Closed) where
    closed_list : (ts : List Tree) → 2 ≤ length ts → Sorted ts → AllOver ts → IsAtom (product_tree ts)
    closed_list [] k s a = absurd (omega (arith, k))
    closed_list (t ∷ []) k s a = absurd (omega (arith, k))
    closed_list (t ∷ u ∷ ts) k s a = closed t u ts s a

    part_canonical : (z : ℤ) (ts : List Tree) (g : Lin) → IsAtom (product_tree ts) → is_zero z ≡ false → product_part (fitted z) ts ≡ Some g → FormOver IsAtom g
    part_canonical z ts g i n e = go (fits z) refl e
      where
        go : (b : Bool) → fits z ≡ b → product_part (cond b (Some z) None) ts ≡ Some g → FormOver IsAtom g
        go true k q =
            let same : lin (part (product_tree ts) z ∷ []) (pos 0) ≡ g = cc in
            subst (FormOver IsAtom) same ((i, n, tt, tt), ap (λ b. (b && true) && true) k, fits_zero)
        go false k q = absurd cc

    product_canonical : (c : ℤ) (gs : List Lin) (g : Lin) → fits c ≡ true → OthersOver gs → product_of (Some c) gs ≡ Some g → FormOver IsAtom g
    product_canonical c [] g k h e = let same : number c ≡ g = cc in subst (FormOver IsAtom) same (number_canonical c k)
    product_canonical c (f ∷ []) g k h e = (checked_canonical IsAtom (scale c f) g (scale_canonical IsAtom c f h.0.0) e).0
    product_canonical c (f ∷ f' ∷ fs) g k h e = go (is_zero c) refl e
      where
        gs : List Lin
        gs = f ∷ f' ∷ fs

        go : (b : Bool) → is_zero c ≡ b → cond b (Some (number (pos 0))) (product_part (fitted (times_product gs *ℤ c)) (sorted_factors gs)) ≡ Some g → FormOver IsAtom g
        go true z q = let same : number (pos 0) ≡ g = cc in subst (FormOver IsAtom) same (number_canonical (pos 0) fits_zero)
        go false z q =
            let many = factors_length gs in
            part_canonical (times_product gs *ℤ c) (sorted_factors gs) g (closed_list (sorted_factors gs) (omega (arith, many)) (factors_sorted gs) (sorted_over gs h)) (no_zero (times_product gs) c (product_nonzero gs h) z) q

    product_form_canonical : (fs : List Lin) (g : Lin) → FormsOver fs → product_form fs ≡ Some g → FormOver IsAtom g
    product_form_canonical fs g k e = go (fits (number_product fs)) refl e
      where
        go : (b : Bool) → fits (number_product fs) ≡ b → product_of (cond b (Some (number_product fs)) None) (other_factors fs) ≡ Some g → FormOver IsAtom g
        go true f q = product_canonical (number_product fs) (other_factors fs) g f (others_over fs k) q
        go false f q = absurd cc

    op_form_canonical : (o : TermOp) (fs : List Lin) (g : Lin) → FormsOver fs → op_form o fs ≡ Some g → FormOver IsAtom g
    op_form_canonical op.Add fs g k e = (checked_canonical IsAtom (add_all fs) g (add_all_canonical fs k) e).0
    op_form_canonical op.Sub (f ∷ f' ∷ []) g k e = (checked_canonical IsAtom (subtract f f') g (subtract_canonical IsAtom f f' k.0.0 k.1.0.0) e).0
    op_form_canonical op.Mul fs g k e = product_form_canonical fs g k e
    op_form_canonical op.Neg (f ∷ []) g k e = (checked_canonical IsAtom (scale (negsuc 0) f) g (scale_canonical IsAtom (negsuc 0) f k.0.0) e).0
    op_form_canonical o fs g k e = absurd cc

    pub head_form_canonical : (head : Head) (fs : List Lin) (g : Lin) → FormsOver fs → head_form head fs ≡ Some g → FormOver IsAtom g
    head_form_canonical (h.Num z) fs g k e = (checked_canonical IsAtom (number z) g tt e).0
    head_form_canonical (h.Term o) fs g k e = op_form_canonical o fs g k e
    head_form_canonical head fs g k e = absurd cc

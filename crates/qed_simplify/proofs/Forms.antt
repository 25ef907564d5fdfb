-- The weight of a linear form is that of its heaviest atom. Sums and products of forms don't raise it.
use Rattle.std.proofs.Common.{◌≡◌, ℕ, max, ◌≤◌, Bool, true, false, ◌&&◌, cond, ℤ, pos, negsuc, ◌+ℤ◌, ◌*ℤ◌, Ordering, Less, Equal, Greater, List, [], ◌∷◌, ◌++◌, map, refl, ap, arith}
use Rattle.std.specs.Prelude.{Option, Some, None}
use Rattle.qed_terms.specs.declared.head.Head.{Head}
use Rattle.qed_terms.specs.declared.head.Head.TheVariants as h
use Rattle.qed_terms.specs.declared.head.TermOp.{TermOp}
use Rattle.qed_terms.specs.declared.head.TermOp.TheVariants as op
use Rattle.qed_terms.specs.Tree.{Tree, node, Trees, stop, more, trees_of, list_of, two, num}
use Rattle.qed_terms.specs.Operators.{is_zero, is_equal}
use Rattle.qed_terms.specs.Order.{tree_cmp}
use Rattle.qed_terms.proofs.Lists.{trees_of-list_of}
use Rattle.qed_linear.specs.Linear.{fits, Part, Lin, part, lin, number, is_number, part_tree, constant_trees, sum_tree, of_lin, at_order, cons_nonzero, add_part, add_parts, add_all, scale_parts, scale, subtract, parts_fit, checked, number_product, other_factors, fitted, are_several, are_factors, factors_of, is_single, first_factors, factor_trees, times_product, insert_factor, insert_factors, sorted_factors, product_tree, product_part, product_of, op_form, head_form, or_atom, to_lin, to_lins, common_divisor, divide_parts, tighten, divide_exact, make_lead_positive, lead_is_negative, unwrap_or}
use Rattle.qed_simplify.proofs.Weights.{Numbers, weight, weights}

module _ (e : Numbers) where
  abbrev pub parts_weight : List Part → ℕ
  parts_weight [] = 0
  parts_weight (p ∷ ps) = max (weight (p.atom) e) (parts_weight ps)

  abbrev pub form_weight : Lin → ℕ
  form_weight f = parts_weight (f.parts)

  abbrev forms_weight : List Lin → ℕ
  forms_weight [] = 0
  forms_weight (f ∷ fs) = max (form_weight f) (forms_weight fs)

  cons_weight : (a : Tree) (c : ℤ) (ps : List Part) → parts_weight (cons_nonzero a c ps) ≤ max (weight a e) (parts_weight ps)
  cons_weight a c ps = go (is_zero c)
    where
      go : (b : Bool) → parts_weight (cond b ps (part a c ∷ ps)) ≤ max (weight a e) (parts_weight ps)
      go true = omega arith
      go false = omega arith

  add_part_weight : (a : Tree) (c : ℤ) (ps : List Part) → parts_weight (add_part a c ps) ≤ max (weight a e) (parts_weight ps)
  add_part_weight a c [] = cons_weight a c []
  add_part_weight a c (p ∷ ps) = go (tree_cmp a (p.atom)) (add_part_weight a c ps)
    where
      go : (o : Ordering) → parts_weight (add_part a c ps) ≤ max (weight a e) (parts_weight ps)
          → parts_weight (at_order o (cons_nonzero a c (p ∷ ps)) (cons_nonzero (p.atom) (c +ℤ p.times) ps) (p ∷ add_part a c ps)) ≤ max (weight a e) (max (weight (p.atom) e) (parts_weight ps))
      go Less r = cons_weight a c (p ∷ ps)
      go Equal r = let k = cons_weight (p.atom) (c +ℤ p.times) ps in omega (arith, k)
      go Greater r = omega (arith, r)

  add_parts_weight : (ps qs : List Part) → parts_weight (add_parts ps qs) ≤ max (parts_weight ps) (parts_weight qs)
  add_parts_weight [] qs = omega arith
  add_parts_weight (p ∷ ps) qs = let a = add_part_weight (p.atom) (p.times) (add_parts ps qs) in let b = add_parts_weight ps qs in omega (arith, a, b)

  scale_parts_weight : (c : ℤ) (ps : List Part) → parts_weight (scale_parts c ps) ≡ parts_weight ps
  scale_parts_weight c [] = refl
  scale_parts_weight c (p ∷ ps) = ap (λ n. max (weight (p.atom) e) n) (scale_parts_weight c ps)

  scale_weight : (c : ℤ) (f : Lin) → form_weight (scale c f) ≤ form_weight f
  scale_weight c f = go (is_zero c)
    where
      go : (b : Bool) → form_weight (cond b (number (pos 0)) (lin (scale_parts c (f.parts)) (c *ℤ f.constant))) ≤ form_weight f
      go true = omega arith
      go false = let k = scale_parts_weight c (f.parts) in omega (arith, k)

  pub subtract_weight : (f g : Lin) → form_weight (subtract f g) ≤ max (form_weight f) (form_weight g)
  subtract_weight f g = let a = add_parts_weight (f.parts) ((scale (negsuc 0) g).parts) in let b = scale_weight (negsuc 0) g in omega (arith, a, b)

  add_all_weight : (fs : List Lin) → form_weight (add_all fs) ≤ forms_weight fs
  add_all_weight [] = omega arith
  add_all_weight (f ∷ fs) = let a = add_parts_weight (f.parts) ((add_all fs).parts) in let b = add_all_weight fs in omega (arith, a, b)

  pub checked_weight : (f g : Lin) → checked f ≡ Some g → form_weight g ≤ form_weight f
  checked_weight f g k = go (parts_fit (f.parts) && fits (f.constant)) k
    where
      go : (b : Bool) → cond b (Some f) None ≡ Some g → form_weight g ≤ form_weight f
      go true q = let same : g ≡ f = cc in let s = ap form_weight same in omega (arith, s)
      go false q = absurd cc

  other_weight : (fs : List Lin) → forms_weight (other_factors fs) ≤ forms_weight fs
  other_weight [] = omega arith
  other_weight (f ∷ fs) = go (is_number f) (other_weight fs)
    where
      go : (b : Bool) → forms_weight (other_factors fs) ≤ forms_weight fs → forms_weight (cond b (other_factors fs) (f ∷ other_factors fs)) ≤ max (form_weight f) (forms_weight fs)
      go true r = omega (arith, r)
      go false r = omega (arith, r)

  -- ---- the term of a form

  abbrev pub all_weight : List Tree → ℕ
  all_weight ts = weights (trees_of ts) e

  pub all_append : (ts us : List Tree) → all_weight (ts ++ us) ≡ max (all_weight ts) (all_weight us)
  all_append [] us = omega arith
  all_append (t ∷ ts) us = let k = all_append ts us in omega (arith, k)

  part_tree_weight : (p : Part) → weight (part_tree p) e ≤ weight (p.atom) e
  part_tree_weight p = go (is_equal (p.times) (pos 1))
    where
      go : (b : Bool) → weight (cond b (p.atom) (node (h.Term op.Mul) (two (num (p.times)) (p.atom)))) e ≤ weight (p.atom) e
      go true = omega arith
      go false = omega arith

  part_trees_weight : (ps : List Part) → all_weight (map part_tree ps) ≤ parts_weight ps
  part_trees_weight [] = omega arith
  part_trees_weight (p ∷ ps) = let a = part_tree_weight p in let b = part_trees_weight ps in omega (arith, a, b)

  constant_weight : (c : ℤ) → all_weight (constant_trees c) ≤ 0
  constant_weight c = go (is_zero c)
    where
      go : (b : Bool) → all_weight (cond b [] (num c ∷ [])) ≤ 0
      go true = omega arith
      go false = omega arith

  sum_tree_weight : (ts : List Tree) → weight (sum_tree ts) e ≤ all_weight ts
  sum_tree_weight [] = omega arith
  sum_tree_weight (t ∷ []) = omega arith
  sum_tree_weight (t ∷ u ∷ ts) = omega arith

  pub of_lin_weight : (f : Lin) → weight (of_lin f) e ≤ form_weight f
  of_lin_weight f =
      let a = sum_tree_weight (map part_tree (f.parts) ++ constant_trees (f.constant)) in
      let b = all_append (map part_tree (f.parts)) (constant_trees (f.constant)) in
      let c = part_trees_weight (f.parts) in
      let d = constant_weight (f.constant) in
      omega (arith, a, b, c, d)

  -- ---- products of several factors

  factors_weight : (t : Tree) → all_weight (factors_of t) ≤ weight t e
  factors_weight (node (h.Term op.Mul) ts) = go (are_several ts && are_factors ts)
    where
      go : (b : Bool) → all_weight (cond b (list_of ts) (node (h.Term op.Mul) ts ∷ [])) ≤ weights ts e
      go true = let a = ap (λ us. weights us e) (trees_of-list_of ts) in omega (arith, a)
      go false = omega arith
  factors_weight t = omega arith

  insert_weight : (t : Tree) (us : List Tree) → all_weight (insert_factor t us) ≡ max (weight t e) (all_weight us)
  insert_weight t [] = refl
  insert_weight t (u ∷ us) = go (tree_cmp t u) (insert_weight t us)
    where
      go : (o : Ordering) → all_weight (insert_factor t us) ≡ max (weight t e) (all_weight us) → all_weight (at_order o (t ∷ u ∷ us) (t ∷ u ∷ us) (u ∷ insert_factor t us)) ≡ max (weight t e) (max (weight u e) (all_weight us))
      go Less r = refl
      go Equal r = refl
      go Greater r = omega (arith, r)

  inserts_weight : (ts us : List Tree) → all_weight (insert_factors ts us) ≡ max (all_weight ts) (all_weight us)
  inserts_weight [] us = omega arith
  inserts_weight (t ∷ ts) us = let a = insert_weight t (insert_factors ts us) in let b = inserts_weight ts us in omega (arith, a, b)

  trees_weight : (f : Lin) → all_weight (factor_trees f) ≤ form_weight f
  trees_weight f = let a = at (f.parts) (is_single f) in omega (arith, a)
    where
      at : (ps : List Part) (b : Bool) → all_weight (cond b (first_factors ps) (of_lin f ∷ [])) ≤ max (parts_weight ps) (form_weight f)
      at ps false = let a = of_lin_weight f in omega (arith, a)
      at [] true = omega arith
      at (p ∷ ps) true = let a = factors_weight (p.atom) in omega (arith, a)

  sorted_weight : (fs : List Lin) → all_weight (sorted_factors fs) ≤ forms_weight fs
  sorted_weight [] = omega arith
  sorted_weight (f ∷ fs) = let a = inserts_weight (factor_trees f) (sorted_factors fs) in let b = trees_weight f in let c = sorted_weight fs in omega (arith, a, b, c)

  part_weight : (o : Option ℤ) (ts : List Tree) (g : Lin) → product_part o ts ≡ Some g → form_weight g ≤ all_weight ts
  part_weight None ts g k = absurd cc
  part_weight (Some z) ts g k = let same : lin (part (product_tree ts) z ∷ []) (pos 0) ≡ g = cc in let s = ap form_weight same in omega (arith, s)

  -- ---- the form of a term

  product_weight : (o : Option ℤ) (gs : List Lin) (g : Lin) → product_of o gs ≡ Some g → form_weight g ≤ forms_weight gs
  product_weight None gs g k = absurd cc
  product_weight (Some c) [] g k = let same : number c ≡ g = cc in let s = ap form_weight same in omega (arith, s)
  product_weight (Some c) (f ∷ []) g k = let a = checked_weight (scale c f) g k in let b = scale_weight c f in omega (arith, a, b)
  product_weight (Some c) (f ∷ f' ∷ gs) g k = go (is_zero c) k
    where
      go : (b : Bool) → cond b (Some (number (pos 0))) (product_part (fitted (times_product (f ∷ f' ∷ gs) *ℤ c)) (sorted_factors (f ∷ f' ∷ gs))) ≡ Some g → form_weight g ≤ max (form_weight f) (max (form_weight f') (forms_weight gs))
      go true q = let same : number (pos 0) ≡ g = cc in let s = ap form_weight same in omega (arith, s)
      go false q = let a = part_weight (fitted (times_product (f ∷ f' ∷ gs) *ℤ c)) (sorted_factors (f ∷ f' ∷ gs)) g q in let b = sorted_weight (f ∷ f' ∷ gs) in omega (arith, a, b)

  op_form_weight : (o : TermOp) (fs : List Lin) (g : Lin) → op_form o fs ≡ Some g → form_weight g ≤ forms_weight fs
  op_form_weight op.Add fs g k = let a = checked_weight (add_all fs) g k in let b = add_all_weight fs in omega (arith, a, b)
  op_form_weight op.Sub (f ∷ f' ∷ []) g k = let a = checked_weight (subtract f f') g k in let b = subtract_weight f f' in omega (arith, a, b)
  op_form_weight op.Mul fs g k = let a = product_weight (fitted (number_product fs)) (other_factors fs) g k in let b = other_weight fs in omega (arith, a, b)
  op_form_weight op.Neg (f ∷ []) g k = let a = checked_weight (scale (negsuc 0) f) g k in let b = scale_weight (negsuc 0) f in omega (arith, a, b)
  op_form_weight o fs g k = absurd cc

  head_weight_from : (head : Head) (ts : Trees) (g : Lin) → forms_weight (to_lins ts) ≤ weights ts e → head_form head (to_lins ts) ≡ Some g → form_weight g ≤ weight (node head ts) e
  head_weight_from (h.Num z) ts g r k = let a = checked_weight (number z) g k in omega (arith, a)
  head_weight_from (h.Term o) ts g r k = let a = op_form_weight o (to_lins ts) g k in omega (arith, a, r)
  head_weight_from head ts g r k = absurd cc

  mutual
    pub to_lin_weight : (t : Tree) → form_weight (to_lin t) ≤ weight t e
    to_lin_weight (node head ts) = go (head_form head (to_lins ts)) refl (to_lins_weight ts)
      where
        go : (o : Option Lin) → head_form head (to_lins ts) ≡ o → forms_weight (to_lins ts) ≤ weights ts e → form_weight (or_atom o (node head ts)) ≤ weight (node head ts) e
        go None q r = omega arith
        go (Some g) q r = head_weight_from head ts g r q

    to_lins_weight : (ts : Trees) → forms_weight (to_lins ts) ≤ weights ts e
    to_lins_weight stop = omega arith
    to_lins_weight (more t ts) = let a = to_lin_weight t in let b = to_lins_weight ts in omega (arith, a, b)

  pub head_form_weight : (head : Head) (ts : Trees) (g : Lin) → head_form head (to_lins ts) ≡ Some g → form_weight g ≤ weight (node head ts) e
  head_form_weight head ts g k = head_weight_from head ts g (to_lins_weight ts) k

  -- ---- forms divided, and turned

  divide_parts_weight : (d : ℕ) (ps : List Part) → parts_weight (divide_parts d ps) ≡ parts_weight ps
  divide_parts_weight d [] = refl
  divide_parts_weight d (p ∷ ps) = ap (λ n. max (weight (p.atom) e) n) (divide_parts_weight d ps)

  pub tighten_weight : (f : Lin) → form_weight (tighten f) ≡ form_weight f
  tighten_weight f = divide_parts_weight (common_divisor (f.parts)) (f.parts)

  pub divide_exact_weight : (f : Lin) → form_weight (divide_exact f) ≡ form_weight f
  divide_exact_weight f = divide_parts_weight (common_divisor (f.parts)) (f.parts)

  pub lead_positive_weight : (f : Lin) → form_weight (make_lead_positive f) ≤ form_weight f
  lead_positive_weight f = go (lead_is_negative (f.parts))
    where
      again : (o : Option Lin) → checked (scale (negsuc 0) f) ≡ o → form_weight (unwrap_or o f) ≤ form_weight f
      again None q = omega arith
      again (Some g) q = let a = checked_weight (scale (negsuc 0) f) g q in let b = scale_weight (negsuc 0) f in omega (arith, a, b)

      go : (b : Bool) → form_weight (cond b (unwrap_or (checked (scale (negsuc 0) f)) f) f) ≤ form_weight f
      go true = again (checked (scale (negsuc 0) f)) refl
      go false = omega arith

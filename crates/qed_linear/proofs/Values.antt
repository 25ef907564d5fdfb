-- Linear forms keep the value, and a form divided or turned is at most 0, or 0, where it was.
use Rattle.std.proofs.Common.{◌≡◌, ℕ, ◌*◌, ◌%◌, Bool, true, false, ◌&&◌, cond, int_le, ◌≤ℤ◌, ◌<ℤ◌, ℤ, pos, negsuc, ◌+ℤ◌, ◌-ℤ◌, ◌*ℤ◌, unsigned_abs, int_div, Ordering, Less, Equal, Greater, List, [], ◌∷◌, ◌++◌, map, refl, sym, ◌∙◌, ap, subst, arith, eq-eqb, eqb-true}
use Rattle.std.proofs.lemmas.Int.{ints, unsigned_abs-mul}
use Rattle.std.proofs.Math.IntN.{*ℤ_comm, zero-*ℤ, *ℤ-zero}
use Rattle.std.proofs.Math.Nat.{dvd-mul_right}
use Rattle.std.proofs.lemmas.Nat.Gcd.{mod-eq-zero_of_dvd, dvd_of_mod-eq-zero}
use Rattle.std.specs.Prelude.{Option, Some, None}
use Rattle.std.specs.Int.{◌∣◌}
use Rattle.qed_terms.specs.declared.head.Head.{Head}
use Rattle.qed_terms.specs.declared.head.Head.TheVariants as h
use Rattle.qed_terms.specs.declared.head.TermOp.{TermOp}
use Rattle.qed_terms.specs.declared.head.TermOp.TheVariants as op
use Rattle.qed_terms.specs.Tree.{Tree, node, Trees, stop, more, trees_of, list_of, two, num}
use Rattle.qed_terms.specs.Operators.{is_zero, is_equal, total, product}
use Rattle.qed_terms.specs.Meaning.{World, Values, whole, value, meanings, term_value}
use Rattle.qed_terms.specs.Order.{tree_cmp}
use Rattle.qed_linear.specs.Linear.{fits, Part, Lin, part, lin, number, is_number, part_tree, constant_trees, sum_tree, of_lin, at_order, cons_nonzero, add_part, add_parts, add_all, scale_parts, scale, subtract, parts_fit, checked, number_product, other_factors, fitted, are_several, are_factors, factors_of, times_of, factor_trees, times_product, insert_factor, insert_factors, sorted_factors, product_tree, product_part, product_of, product_form, op_form, head_form, or_atom, to_lin, to_lins, common_divisor, divide_parts, rounded_up, divides, tighten, divide_exact, make_lead_positive, lead_is_negative, unwrap_or}
use Rattle.qed_linear.proofs.Facts.{zero_is, equal_is}
use Rattle.qed_terms.proofs.Total.{tree_exact}
use Rattle.qed_terms.proofs.Lists.{trees_of-list_of}
use Rattle.qed_linear.proofs.Ring.{sum_times, times_sum, product_times, times_one, one_times}
use Rattle.qed_linear.proofs.Rounding.{exact_back, up_is, scale_down, scale_below, scale_zero, abs_below, same_le, zero_negated}
use Rattle.qed_linear.proofs.Canonical.{PartsOver}
use Rattle.qed_linear.proofs.Divisors.{AllDivided, divisor_divides, divisor_positive}

module _ (world : World) (env : Values) where
  abbrev V : Tree → ℤ
  V = value world env

  abbrev pub parts_value : List Part → ℤ
  parts_value [] = pos 0
  parts_value (p ∷ ps) = p.times *ℤ V (p.atom) +ℤ parts_value ps

  abbrev pub value_of : Lin → ℤ
  value_of f = parts_value (f.parts) +ℤ f.constant

  -- ---- sums and products

  cons_value : (a : Tree) (c : ℤ) (ps : List Part) → parts_value (cons_nonzero a c ps) ≡ c *ℤ V a +ℤ parts_value ps
  cons_value a c ps = go (is_zero c) refl
    where
      go : (b : Bool) → is_zero c ≡ b → parts_value (cond b ps (part a c ∷ ps)) ≡ c *ℤ V a +ℤ parts_value ps
      go true k = let z : c *ℤ V a ≡ pos 0 = ap (λ x. x *ℤ V a) (zero_is c k) ∙ zero-*ℤ (V a) in omega (arith, ints, z)
      go false k = refl

  add_part_value : (a : Tree) (c : ℤ) (ps : List Part) → parts_value (add_part a c ps) ≡ c *ℤ V a +ℤ parts_value ps
  add_part_value a c [] = cons_value a c []
  add_part_value a c (p ∷ ps) = go (tree_cmp a (p.atom)) refl (add_part_value a c ps)
    where
      go : (o : Ordering) → tree_cmp a (p.atom) ≡ o → parts_value (add_part a c ps) ≡ c *ℤ V a +ℤ parts_value ps
          → parts_value (at_order o (cons_nonzero a c (p ∷ ps)) (cons_nonzero (p.atom) (c +ℤ p.times) ps) (p ∷ add_part a c ps)) ≡ c *ℤ V a +ℤ (p.times *ℤ V (p.atom) +ℤ parts_value ps)
      go Less k r = cons_value a c (p ∷ ps)
      go Equal k r =
          let same : c *ℤ V a ≡ c *ℤ V (p.atom) = ap (λ t. c *ℤ V t) (tree_exact a (p.atom) k) in
          let d = sum_times c (p.times) (V (p.atom)) in
          let v = cons_value (p.atom) (c +ℤ p.times) ps in
          omega (arith, ints, same, d, v)
      go Greater k r = omega (arith, ints, r)

  add_parts_value : (ps qs : List Part) → parts_value (add_parts ps qs) ≡ parts_value ps +ℤ parts_value qs
  add_parts_value [] qs = omega (arith, ints)
  add_parts_value (p ∷ ps) qs = omega (arith, ints, add_part_value (p.atom) (p.times) (add_parts ps qs), add_parts_value ps qs)

  scale_parts_value : (c : ℤ) (ps : List Part) → parts_value (scale_parts c ps) ≡ c *ℤ parts_value ps
  scale_parts_value c [] = sym (*ℤ-zero c)
  scale_parts_value c (p ∷ ps) =
      let d = times_sum c (p.times *ℤ V (p.atom)) (parts_value ps) in
      let a = product_times c (p.times) (V (p.atom)) in
      let r = scale_parts_value c ps in
      omega (arith, ints, d, a, r)

  pub scale_value : (c : ℤ) (f : Lin) → value_of (scale c f) ≡ c *ℤ value_of f
  scale_value c f = go (is_zero c) refl
    where
      go : (b : Bool) → is_zero c ≡ b → value_of (cond b (number (pos 0)) (lin (scale_parts c (f.parts)) (c *ℤ f.constant))) ≡ c *ℤ value_of f
      go true k = sym (ap (λ x. x *ℤ value_of f) (zero_is c k) ∙ zero-*ℤ (value_of f))
      go false k = let d = times_sum c (parts_value (f.parts)) (f.constant) in let t = scale_parts_value c (f.parts) in omega (arith, ints, d, t)

  pub subtract_value : (f g : Lin) → value_of (subtract f g) ≡ value_of f -ℤ value_of g
  subtract_value f g = omega (arith, ints, add_parts_value (f.parts) ((scale (negsuc 0) g).parts), scale_value (negsuc 0) g, negated (value_of g))
    where
      negated : (z : ℤ) → negsuc 0 *ℤ z ≡ pos 0 -ℤ z
      negated z = omega (arith, ints)

  add_all_value : (fs : List Lin) → value_of (add_all fs) ≡ total (map value_of fs)
  add_all_value [] = refl
  add_all_value (f ∷ fs) = omega (arith, ints, add_parts_value (f.parts) ((add_all fs).parts), add_all_value fs)

  pub checked_value : (f g : Lin) → checked f ≡ Some g → value_of g ≡ value_of f
  checked_value f g k = go (parts_fit (f.parts) && fits (f.constant)) k
    where
      go : (b : Bool) → cond b (Some f) None ≡ Some g → value_of g ≡ value_of f
      go true q = let same : g ≡ f = cc in ap value_of same
      go false q = absurd cc

  pub number_value : (f : Lin) → is_number f ≡ true → value_of f ≡ f.constant
  number_value f k = go (f.parts) k
    where
      go : (ps : List Part) → is_number (lin ps (f.constant)) ≡ true → parts_value ps +ℤ f.constant ≡ f.constant
      go [] q = omega (arith, ints)
      go (p ∷ ps) q = absurd cc

  abbrev kids_value : Trees → List ℤ
  kids_value ts = map whole (meanings world env ts)

  -- ---- the term of a form

  part_value : (p : Part) → V (part_tree p) ≡ p.times *ℤ V (p.atom)
  part_value p = go (is_equal (p.times) (pos 1)) refl
    where
      go : (b : Bool) → is_equal (p.times) (pos 1) ≡ b → V (cond b (p.atom) (node (h.Term op.Mul) (two (num (p.times)) (p.atom)))) ≡ p.times *ℤ V (p.atom)
      go true k = sym (ap (λ c. c *ℤ V (p.atom)) (equal_is (p.times) (pos 1) k) ∙ one_times (V (p.atom)))
      go false k = ap (λ z. p.times *ℤ z) (times_one (V (p.atom)))

  abbrev list_value : List Tree → ℤ
  list_value ts = total (kids_value (trees_of ts))

  constant_value : (c : ℤ) → list_value (constant_trees c) ≡ c
  constant_value c = go (is_zero c) refl
    where
      go : (b : Bool) → is_zero c ≡ b → list_value (cond b [] (num c ∷ [])) ≡ c
      go true k = sym (zero_is c k)
      go false k = omega (arith, ints)

  parts_total : (ps : List Part) (c : ℤ) → list_value (map part_tree ps ++ constant_trees c) ≡ parts_value ps +ℤ c
  parts_total [] c = let k = constant_value c in omega (arith, ints, k)
  parts_total (p ∷ ps) c = let a = part_value p in let b = parts_total ps c in omega (arith, ints, a, b)

  sum_tree_value : (ts : List Tree) → V (sum_tree ts) ≡ list_value ts
  sum_tree_value [] = refl
  sum_tree_value (t ∷ []) = omega (arith, ints)
  sum_tree_value (t ∷ u ∷ ts) = refl

  pub of_lin_value : (f : Lin) → V (of_lin f) ≡ value_of f
  of_lin_value f = sum_tree_value (map part_tree (f.parts) ++ constant_trees (f.constant)) ∙ parts_total (f.parts) (f.constant)

  -- ---- products of several factors

  abbrev all_value : List Tree → ℤ
  all_value [] = pos 1
  all_value (t ∷ ts) = V t *ℤ all_value ts

  product_tree_value : (ts : List Tree) → V (product_tree ts) ≡ all_value ts
  product_tree_value ts = go ts
    where
      go : (us : List Tree) → product (kids_value (trees_of us)) ≡ all_value us
      go [] = refl
      go (u ∷ us) = ap (λ z. V u *ℤ z) (go us)

  swapped : (a b c : ℤ) → a *ℤ (b *ℤ c) ≡ b *ℤ (a *ℤ c)
  swapped a b c = sym (product_times a b c) ∙ ap (λ x. x *ℤ c) (*ℤ_comm a b) ∙ product_times b a c

  crossed : (a b c d : ℤ) → (a *ℤ b) *ℤ (c *ℤ d) ≡ (b *ℤ c) *ℤ (a *ℤ d)
  crossed a b c d = ap (λ x. x *ℤ (c *ℤ d)) (*ℤ_comm a b) ∙ product_times b a (c *ℤ d) ∙ ap (λ x. b *ℤ x) (swapped a c d) ∙ sym (product_times b c (a *ℤ d))

  factors_value : (t : Tree) → all_value (factors_of t) ≡ V t
  factors_value (node (h.Term op.Mul) ts) = go (are_several ts && are_factors ts)
    where
      go : (b : Bool) → all_value (cond b (list_of ts) (node (h.Term op.Mul) ts ∷ [])) ≡ V (node (h.Term op.Mul) ts)
      go true = sym (product_tree_value (list_of ts)) ∙ ap (λ us. V (node (h.Term op.Mul) us)) (trees_of-list_of ts)
      go false = times_one (V (node (h.Term op.Mul) ts))
  factors_value t = times_one (V t)

  insert_value : (t : Tree) (us : List Tree) → all_value (insert_factor t us) ≡ V t *ℤ all_value us
  insert_value t [] = refl
  insert_value t (u ∷ us) = go (tree_cmp t u) (insert_value t us)
    where
      go : (o : Ordering) → all_value (insert_factor t us) ≡ V t *ℤ all_value us → all_value (at_order o (t ∷ u ∷ us) (t ∷ u ∷ us) (u ∷ insert_factor t us)) ≡ V t *ℤ (V u *ℤ all_value us)
      go Less r = refl
      go Equal r = refl
      go Greater r = ap (λ z. V u *ℤ z) r ∙ swapped (V u) (V t) (all_value us)

  inserts_value : (ts us : List Tree) → all_value (insert_factors ts us) ≡ all_value ts *ℤ all_value us
  inserts_value [] us = sym (one_times (all_value us))
  inserts_value (t ∷ ts) us = insert_value t (insert_factors ts us) ∙ ap (λ z. V t *ℤ z) (inserts_value ts us) ∙ sym (product_times (V t) (all_value ts) (all_value us))

  times_value : (f : Lin) → times_of f *ℤ all_value (factor_trees f) ≡ value_of f
  times_value f = at (f.parts) (f.constant)
    where
      as_whole : (g : Lin) → pos 1 *ℤ (V (of_lin g) *ℤ pos 1) ≡ value_of g
      as_whole g = one_times (V (of_lin g) *ℤ pos 1) ∙ times_one (V (of_lin g)) ∙ of_lin_value g

      at : (ps : List Part) (c : ℤ) → times_of (lin ps c) *ℤ all_value (factor_trees (lin ps c)) ≡ value_of (lin ps c)
      at [] c = as_whole (lin [] c)
      at (p ∷ q ∷ ps) c = as_whole (lin (p ∷ q ∷ ps) c)
      at (p ∷ []) c = go (is_zero c) refl
        where
          go : (b : Bool) → is_zero c ≡ b → cond b (p.times) (pos 1) *ℤ all_value (cond b (factors_of (p.atom)) (of_lin (lin (p ∷ []) c) ∷ [])) ≡ value_of (lin (p ∷ []) c)
          go true z = let e = ap (λ x. p.times *ℤ x) (factors_value (p.atom)) in let n = zero_is c z in omega (arith, ints, e, n)
          go false z = as_whole (lin (p ∷ []) c)

  several_value : (gs : List Lin) → times_product gs *ℤ all_value (sorted_factors gs) ≡ product (map value_of gs)
  several_value [] = refl
  several_value (f ∷ fs) =
      let a = times_value f in
      let b = several_value fs in
      ap (λ z. (times_product fs *ℤ times_of f) *ℤ z) (inserts_value (factor_trees f) (sorted_factors fs))
      ∙ crossed (times_product fs) (times_of f) (all_value (factor_trees f)) (all_value (sorted_factors fs)) ∙ (λ i. a i *ℤ b i)

  part_value_of : (z : ℤ) (ts : List Tree) (g : Lin) → product_part (fitted z) ts ≡ Some g → value_of g ≡ z *ℤ all_value ts
  part_value_of z ts g k = go (fits z) k
    where
      go : (b : Bool) → product_part (cond b (Some z) None) ts ≡ Some g → value_of g ≡ z *ℤ all_value ts
      go true q =
          let same : lin (part (product_tree ts) z ∷ []) (pos 0) ≡ g = cc in
          let e = ap (λ x. z *ℤ x) (product_tree_value ts) in
          let v : value_of (lin (part (product_tree ts) z ∷ []) (pos 0)) ≡ z *ℤ all_value ts = omega (arith, ints, e) in
          ap value_of (sym same) ∙ v
      go false q = absurd cc

  -- ---- the form of a term

  split_product : (fs : List Lin) → product (map value_of fs) ≡ number_product fs *ℤ product (map value_of (other_factors fs))
  split_product [] = refl
  split_product (f ∷ fs) = go (is_number f) refl (split_product fs)
    where
      turn : (a n q : ℤ) → a *ℤ (n *ℤ q) ≡ n *ℤ (a *ℤ q)
      turn a n q = sym (product_times a n q) ∙ ap (λ x. x *ℤ q) (*ℤ_comm a n) ∙ product_times n a q

      go : (b : Bool) → is_number f ≡ b → product (map value_of fs) ≡ number_product fs *ℤ product (map value_of (other_factors fs))
          → value_of f *ℤ product (map value_of fs) ≡ cond b (number_product fs *ℤ f.constant) (number_product fs) *ℤ product (map value_of (cond b (other_factors fs) (f ∷ other_factors fs)))
      go true e r =
          ap (λ x. value_of f *ℤ x) r ∙ turn (value_of f) (number_product fs) (product (map value_of (other_factors fs)))
          ∙ ap (λ x. number_product fs *ℤ (x *ℤ product (map value_of (other_factors fs)))) (number_value f e) ∙ sym (product_times (number_product fs) (f.constant) (product (map value_of (other_factors fs))))
      go false e r = ap (λ x. value_of f *ℤ x) r ∙ turn (value_of f) (number_product fs) (product (map value_of (other_factors fs)))

  product_of_value : (c : ℤ) (gs : List Lin) (g : Lin) → product_of (Some c) gs ≡ Some g → value_of g ≡ c *ℤ product (map value_of gs)
  product_of_value c [] g k = let same : number c ≡ g = cc in ap value_of (sym same) ∙ number_value (number c) refl ∙ sym (times_one c)
  product_of_value c (f ∷ []) g k = checked_value (scale c f) g k ∙ scale_value c f ∙ ap (λ x. c *ℤ x) (sym (times_one (value_of f)))
  product_of_value c (f ∷ f' ∷ fs) g k = go (is_zero c) refl k
    where
      go : (b : Bool) → is_zero c ≡ b → cond b (Some (number (pos 0))) (product_part (fitted (times_product (f ∷ f' ∷ fs) *ℤ c)) (sorted_factors (f ∷ f' ∷ fs))) ≡ Some g → value_of g ≡ c *ℤ product (map value_of (f ∷ f' ∷ fs))
      go true e q =
          let same : number (pos 0) ≡ g = cc in
          ap value_of (sym same) ∙ number_value (number (pos 0)) refl ∙ sym (ap (λ x. x *ℤ product (map value_of (f ∷ f' ∷ fs))) (zero_is c e) ∙ zero-*ℤ (product (map value_of (f ∷ f' ∷ fs))))
      go false e q =
          let t = times_product (f ∷ f' ∷ fs) in
          let a = all_value (sorted_factors (f ∷ f' ∷ fs)) in
          part_value_of (t *ℤ c) (sorted_factors (f ∷ f' ∷ fs)) g q ∙ ap (λ x. x *ℤ a) (*ℤ_comm t c) ∙ product_times c t a ∙ ap (λ x. c *ℤ x) (several_value (f ∷ f' ∷ fs))

  product_form_value : (fs : List Lin) (g : Lin) → product_form fs ≡ Some g → value_of g ≡ product (map value_of fs)
  product_form_value fs g k = go (fits (number_product fs)) k
    where
      go : (b : Bool) → product_of (cond b (Some (number_product fs)) None) (other_factors fs) ≡ Some g → value_of g ≡ product (map value_of fs)
      go true q = product_of_value (number_product fs) (other_factors fs) g q ∙ sym (split_product fs)
      go false q = absurd cc

  op_form_value : (o : TermOp) (ts : Trees) (g : Lin) → map value_of (to_lins ts) ≡ kids_value ts → op_form o (to_lins ts) ≡ Some g → value_of g ≡ whole (term_value world o (meanings world env ts))
  op_form_value op.Add ts g same k = checked_value (add_all (to_lins ts)) g k ∙ add_all_value (to_lins ts) ∙ ap total same
  op_form_value op.Sub (more t (more u stop)) g same k =
      let a : value_of (to_lin t) ≡ V t = cc in
      let b : value_of (to_lin u) ≡ V u = cc in
      checked_value (subtract (to_lin t) (to_lin u)) g k ∙ subtract_value (to_lin t) (to_lin u) ∙ (λ i. a i -ℤ b i)
  op_form_value op.Mul ts g same k = product_form_value (to_lins ts) g k ∙ ap product same
  op_form_value op.Neg (more t stop) g same k =
      let a : value_of (to_lin t) ≡ V t = cc in
      omega (arith, ints, a, checked_value (scale (negsuc 0) (to_lin t)) g k, scale_value (negsuc 0) (to_lin t))
  op_form_value o ts g same k = absurd cc

  head_value_from : (head : Head) (ts : Trees) (g : Lin) → map value_of (to_lins ts) ≡ kids_value ts → head_form head (to_lins ts) ≡ Some g → value_of g ≡ V (node head ts)
  head_value_from (h.Num z) ts g same k = checked_value (number z) g k ∙ number_value (number z) refl
  head_value_from (h.Term o) ts g same k = op_form_value o ts g same k
  head_value_from head ts g same k = absurd cc

  mutual
    pub to_lin_value : (t : Tree) → value_of (to_lin t) ≡ V t
    to_lin_value (node head ts) = go (head_form head (to_lins ts)) refl (to_lins_value ts)
      where
        go : (o : Option Lin) → head_form head (to_lins ts) ≡ o → map value_of (to_lins ts) ≡ kids_value ts → value_of (or_atom o (node head ts)) ≡ V (node head ts)
        go None q r = omega (arith, ints, one_times (V (node head ts)))
        go (Some g) q r = head_value_from head ts g r q

    to_lins_value : (ts : Trees) → map value_of (to_lins ts) ≡ kids_value ts
    to_lins_value stop = refl
    to_lins_value (more t ts) = let a = to_lin_value t in let b = to_lins_value ts in λ i. a i ∷ b i

  pub head_form_value : (head : Head) (ts : Trees) (g : Lin) → head_form head (to_lins ts) ≡ Some g → value_of g ≡ V (node head ts)
  head_form_value head ts g k = head_value_from head ts g (to_lins_value ts) k

  -- ---- the form divided

  parts_divided : (d : ℕ) (ps : List Part) → AllDivided d ps → parts_value ps ≡ pos d *ℤ parts_value (divide_parts d ps)
  parts_divided d [] a = sym (*ℤ-zero (pos d))
  parts_divided d (p ∷ ps) a =
      let q = int_div (p.times) (pos d) in
      let e : p.times ≡ pos d *ℤ q = sym (exact_back (p.times) d a.0) in
      let m = ap (λ z. z *ℤ V (p.atom)) e ∙ product_times (pos d) q (V (p.atom)) in
      let s = times_sum (pos d) (q *ℤ V (p.atom)) (parts_value (divide_parts d ps)) in
      let r = parts_divided d ps a.1 in
      (λ i. m i +ℤ r i) ∙ sym s

  -- L <= 0 and the form made tight
  pub tighten_value : (A : Tree → Type 0) (f : Lin) → PartsOver A (f.parts) → is_number f ≡ false → int_le (value_of (tighten f)) (pos 0) ≡ int_le (value_of f) (pos 0)
  tighten_value A f g k = go (f.parts) g k
    where
      go : (ps : List Part) → PartsOver A ps → is_number (lin ps (f.constant)) ≡ false → int_le (parts_value (divide_parts (common_divisor ps) ps) +ℤ rounded_up (common_divisor ps) (f.constant)) (pos 0) ≡ int_le (parts_value ps +ℤ f.constant) (pos 0)
      go [] a e = absurd cc
      go (p ∷ ps) a e =
          let d = common_divisor (p ∷ ps) in
          let s = parts_value (divide_parts d (p ∷ ps)) in
          let u = rounded_up d (f.constant) in
          let same = parts_divided d (p ∷ ps) (divisor_divides (p ∷ ps)) in
          let up = up_is d (f.constant) (divisor_positive p ps a.1) in
          let all = times_sum (pos d) s u in
          same_le (s +ℤ u) (pos 0) (parts_value (p ∷ ps) +ℤ f.constant) (pos 0)
          (λ k. let r = scale_down d (s +ℤ u) k in bound (pos d *ℤ (s +ℤ u)) (pos d *ℤ s) (pos d *ℤ u) (parts_value (p ∷ ps)) (f.constant) all same up.0 r)
          (λ k. scale_below d (s +ℤ u) (below (pos d *ℤ (s +ℤ u)) (pos d *ℤ s) (pos d *ℤ u) (parts_value (p ∷ ps)) (f.constant) (pos d) all same up.1 k))
        where
          bound : (w x y v c : ℤ) → w ≡ x +ℤ y → v ≡ x → c ≤ℤ y → w ≤ℤ pos 0 → (v +ℤ c) ≤ℤ pos 0
          bound w x y v c e e' k l = omega (arith, ints, e, e', k, l)

          below : (w x y v c d : ℤ) → w ≡ x +ℤ y → v ≡ x → y <ℤ (c +ℤ d) → (v +ℤ c) ≤ℤ pos 0 → w <ℤ d
          below w x y v c d e e' k l = omega (arith, ints, e, e', k, l)

  -- L = 0 and the form divided
  pub divide_exact_value : (A : Tree → Type 0) (f : Lin) → PartsOver A (f.parts) → is_number f ≡ false → divides (common_divisor (f.parts)) (f.constant) ≡ true → is_zero (value_of (divide_exact f)) ≡ is_zero (value_of f)
  divide_exact_value A f g k l = go (f.parts) g k l
    where
      go : (ps : List Part) → PartsOver A ps → is_number (lin ps (f.constant)) ≡ false → divides (common_divisor ps) (f.constant) ≡ true
          → is_zero (parts_value (divide_parts (common_divisor ps) ps) +ℤ int_div (f.constant) (pos (common_divisor ps))) ≡ is_zero (parts_value ps +ℤ f.constant)
      go [] a e l = absurd cc
      go (p ∷ ps) a e l =
          let d = common_divisor (p ∷ ps) in
          let s = parts_value (divide_parts d (p ∷ ps)) in
          let c = int_div (f.constant) (pos d) in
          let same = parts_divided d (p ∷ ps) (divisor_divides (p ∷ ps)) in
          let back = exact_back (f.constant) d (dvd_of_mod-eq-zero d (eqb-true (unsigned_abs (f.constant) % d) 0 l)) in
          sym (scale_zero d (s +ℤ c) (divisor_positive p ps a.1)) ∙ ap is_zero (times_sum (pos d) s c ∙ (λ i. sym same i +ℤ back i))

  -- L = 0 where the divisor doesn't divide the constant
  pub never_zero : (f : Lin) → divides (common_divisor (f.parts)) (f.constant) ≡ false → is_zero (value_of f) ≡ false
  never_zero f k = go (is_zero (value_of f)) refl
    where
      go : (b : Bool) → is_zero (value_of f) ≡ b → b ≡ false
      go false e = refl
      go true e =
          let d = common_divisor (f.parts) in
          let s = parts_value (divide_parts d (f.parts)) in
          let z = zero_is (value_of f) e in
          let same = parts_divided d (f.parts) (divisor_divides (f.parts)) in
          let c = other (parts_value (f.parts)) (pos d *ℤ s) (f.constant) same z in
          let size : unsigned_abs (f.constant) ≡ d * unsigned_abs s = ap unsigned_abs c ∙ abs_below (pos d *ℤ s) ∙ unsigned_abs-mul (pos d) s in
          let whole_part = subst (λ n. d ∣ n) (sym size) (dvd-mul_right d (unsigned_abs s)) in
          let yes = eq-eqb (unsigned_abs (f.constant) % d) 0 (mod-eq-zero_of_dvd d whole_part) in
          absurd cc
        where
          other : (v x c : ℤ) → v ≡ x → v +ℤ c ≡ pos 0 → c ≡ pos 0 -ℤ x
          other v x c e e' = omega (arith, ints, e, e')

  pub lead_positive_value : (f : Lin) → is_zero (value_of (make_lead_positive f)) ≡ is_zero (value_of f)
  lead_positive_value f = go (lead_is_negative (f.parts)) (checked (scale (negsuc 0) f)) refl
    where
      go : (b : Bool) (o : Option Lin) → checked (scale (negsuc 0) f) ≡ o → is_zero (value_of (cond b (unwrap_or o f) f)) ≡ is_zero (value_of f)
      go false o e = refl
      go true None e = refl
      go true (Some k) e = ap is_zero (checked_value (scale (negsuc 0) f) k e ∙ scale_value (negsuc 0) f) ∙ zero_negated (value_of f)

-- What is made of a relation over terms in normal form is its normal form.
use Rattle.std.proofs.Common.{◌≡◌, ℕ, ◌⊎◌, inl, inr, suc, Bool, true, false, ◌&&◌, cond, ℤ, pos, negsuc, ◌+ℤ◌, ◌*ℤ◌, int_le, int_lt, List, [], ◌∷◌, refl, sym, ◌∙◌, ap, subst, arith, ltb-true, le-ltb}
use Rattle.std.proofs.lemmas.Int.{ints}
use Rattle.std.specs.Prelude.{Option, Some, None, option_map}
use Rattle.qed_terms.specs.declared.head.Head.TheVariants as h
use Rattle.qed_terms.specs.declared.head.FormOp.TheVariants as rel
use Rattle.qed_terms.specs.Setting.{Setting}
use Rattle.qed_terms.specs.Tree.{Tree, node, stop, more, head_of, two, num, at_most, equal, false_tree}
use Rattle.qed_terms.specs.Operators.{is_zero}
use Rattle.qed_terms.specs.Order.{same}
use Rattle.qed_linear.specs.Linear.{fits, Part, Lin, lin, number, atom_lin, is_number, of_lin, scale_parts, scale, subtract, is_integer, parts_fit, checked, to_lin, common_divisor, divides, tighten, divide_exact, make_lead_positive, lead_is_negative, unwrap_or}
use Rattle.qed_rules.specs.Rules.{changed, truth_constant, at_most_zero, equals_zero, at_most_tree, equal_tree, negated_relation, first_some, step}
use Rattle.qed_simplify.specs.Normal.{Normal, Normals, stays, nothing, each}
use Rattle.qed_rules.specs.Passes.{by_form, normal_at_most, normal_equal}
use Rattle.qed_linear.proofs.Facts.{and_left, and_right}
use Rattle.qed_simplify.proofs.Tests.{first_none}
use Rattle.qed_terms.proofs.Total.{same_exact}
use Rattle.qed_simplify.proofs.Derived.{Fixed, fixed-normal}
use Rattle.qed_linear.proofs.Canonical.{fits_zero, fits_one, add_parts_none, num_form, checked_is, checked_canonical, subtract_canonical, scale_canonical}
use Rattle.qed_simplify.proofs.Settled.{CanonicalLin, unless_same_none, none_unless_same, num_normal, lin_settled, to_lin_canonical, canonical_or_atom, reach, IsAtom}
use Rattle.qed_linear.proofs.Divisors.{tighten_canonical, divide_exact_canonical, tighten_one, divide_exact_one, divides_one, one_from_same, divisor_negated}

module _ (set : Setting) where
  pub truth_normal : (b : Bool) → Normal (step set) (truth_constant b) (truth_constant b)
  truth_normal true = stays nothing refl
  truth_normal false = stays nothing refl

  subtract_zero : (g : Lin) → (CanonicalLin set) g → checked (subtract g (number (pos 0))) ≡ Some g
  subtract_zero g k =
      let c : g.constant +ℤ pos 0 ≡ g.constant = omega (arith, ints) in
      (λ i. checked (lin (add_parts_none (IsAtom set) (g.parts) k.0 i) (c i))) ∙ checked_is g k.1 k.2

  -- the difference of a form's term and 0 is the form
  difference : (g : Lin) → (CanonicalLin set) g → checked (subtract (to_lin (of_lin g)) (to_lin (num (pos 0)))) ≡ Some g
  difference g k = (λ i. checked (subtract (((lin_settled set) g k).0 i) (num_form (pos 0) fits_zero i))) ∙ subtract_zero g k

  -- ---- at most

  at_most_settled : (k : Lin) → (CanonicalLin set) k → is_number k ≡ false → common_divisor (k.parts) ≡ 1 → Normal (step set) (at_most_zero k) (at_most_zero k)
  at_most_settled k g n d =
      let it = at_most_zero k in
      let is : at_most_tree k ≡ it = ap (λ b. cond b (truth_constant (int_le (k.constant) (pos 0))) (at_most_zero (tighten k))) n ∙ ap at_most_zero (tighten_one k d) in
      let here : (step set) it ≡ None =
      ap (λ o. first_some (changed at_most_tree o it) None) (difference k g) ∙ ap (λ o. first_some o None) ((unless_same_none set) (at_most_tree k) it is) in
      stays (each ((lin_settled set) k g).1 (each ((num_normal set) (pos 0)) nothing)) here

  at_most_canonical : (g : Lin) → (CanonicalLin set) g → Normal (step set) (at_most_tree g) (at_most_tree g)
  at_most_canonical g k = go (is_number g) refl
    where
      go : (b : Bool) → is_number g ≡ b → Normal (step set) (cond b (truth_constant (int_le (g.constant) (pos 0))) (at_most_zero (tighten g))) (cond b (truth_constant (int_le (g.constant) (pos 0))) (at_most_zero (tighten g)))
      go true e = truth_normal (int_le (g.constant) (pos 0))
      go false e = let r = tighten_canonical (IsAtom set) g k e in at_most_settled (tighten g) r.0 r.1 r.2

  pub at_most_normal : (t u : Tree) → Fixed (step set) t → Fixed (step set) u → Normal (step set) (at_most t u) (normal_at_most t u)
  at_most_normal t u f k = go (checked (subtract (to_lin t) (to_lin u))) refl
    where
      ks : Normals (step set) (two t u) (two t u)
      ks = each (fixed-normal (step set) t f) (each (fixed-normal (step set) u k) nothing)

      go : (o : Option Lin) → checked (subtract (to_lin t) (to_lin u)) ≡ o → Normal (step set) (at_most t u) (by_form at_most_tree o (at_most t u))
      go None e = stays ks (ap (λ o. first_some (changed at_most_tree o (at_most t u)) None) e)
      go (Some g) e =
          (reach set) (h.Form rel.AtMost) (two t u) (at_most_tree g) ks (ap (λ o. first_some (changed at_most_tree o (at_most t u)) None) e)
          (at_most_canonical g (checked_canonical (IsAtom set) (subtract (to_lin t) (to_lin u)) g (subtract_canonical (IsAtom set) (to_lin t) (to_lin u) ((to_lin_canonical set) t f) ((to_lin_canonical set) u k)) e).0)

  -- ---- equality

  negated_first : (z : ℤ) → int_lt z (pos 0) ≡ true → int_lt (negsuc 0 *ℤ z) (pos 0) ≡ false
  negated_first (pos n) k = absurd (omega (arith, ltb-true n 0 k))
  negated_first (negsuc n) k = let e : negsuc 0 *ℤ negsuc n ≡ pos (suc n) = omega (arith, ints) in ap (λ z. int_lt z (pos 0)) e ∙ le-ltb (suc n) 0 (omega arith)

  negated_lead : (ps : List Part) → lead_is_negative ps ≡ true → lead_is_negative (scale_parts (negsuc 0) ps) ≡ false
  negated_lead [] k = absurd cc
  negated_lead (p ∷ ps) k = negated_first (p.times) k

  negated_some : (ps : List Part) (c d : ℤ) → is_number (lin ps c) ≡ false → is_number (lin (scale_parts (negsuc 0) ps) d) ≡ false
  negated_some [] c d k = absurd cc
  negated_some (p ∷ ps) c d k = refl

  abbrev Sound : Lin → Type 0
  Sound k = (CanonicalLin set) k × (is_number k ≡ false) × (common_divisor (k.parts) ≡ 1)

  lead_positive_sound : (f : Lin) → Sound f → Sound (make_lead_positive f) × (make_lead_positive (make_lead_positive f) ≡ make_lead_positive f)
  lead_positive_sound f s = go (lead_is_negative (f.parts)) refl
    where
      again : (o : Option Lin) → lead_is_negative (f.parts) ≡ true → checked (scale (negsuc 0) f) ≡ o → Sound (unwrap_or o f) × (make_lead_positive (unwrap_or o f) ≡ unwrap_or o f)
      again None b e = (s, ap (λ z. cond z (unwrap_or (checked (scale (negsuc 0) f)) f) f) b ∙ ap (λ o. unwrap_or o f) e)
      again (Some k) b e =
          let g = checked_canonical (IsAtom set) (scale (negsuc 0) f) k (scale_canonical (IsAtom set) (negsuc 0) f s.0.0) e in (
            subst Sound g.1 (subst (CanonicalLin set) (sym g.1) g.0, negated_some (f.parts) (f.constant) (negsuc 0 *ℤ f.constant) s.1, divisor_negated (f.parts) ∙ s.2),
            ap (λ z. cond z (unwrap_or (checked (scale (negsuc 0) k)) k) k) (ap (λ z. lead_is_negative (z.parts)) (sym g.1) ∙ negated_lead (f.parts) b),
          )

      go : (b : Bool) → lead_is_negative (f.parts) ≡ b → Sound (cond b (unwrap_or (checked (scale (negsuc 0) f)) f) f) × (make_lead_positive (cond b (unwrap_or (checked (scale (negsuc 0) f)) f) f) ≡ cond b (unwrap_or (checked (scale (negsuc 0) f)) f) f)
      go true e = again (checked (scale (negsuc 0) f)) e refl
      go false e = (s, ap (λ z. cond z (unwrap_or (checked (scale (negsuc 0) f)) f) f) e)

  equal_settled : (k : Lin) → Sound k → make_lead_positive k ≡ k → Normal (step set) (equals_zero k) (equals_zero k)
  equal_settled k s t =
      let it = equals_zero k in
      let is : equal_tree k ≡ it =
      ap (λ b. cond b (truth_constant (is_zero (k.constant))) (cond (divides (common_divisor (k.parts)) (k.constant)) (equals_zero (make_lead_positive (divide_exact k))) false_tree)) s.1
      ∙ ap (λ b. cond b (equals_zero (make_lead_positive (divide_exact k))) false_tree) (divides_one (common_divisor (k.parts)) (k.constant) s.2)
      ∙ ap (λ f. equals_zero (make_lead_positive f)) (divide_exact_one k s.2) ∙ ap equals_zero t in
      let here : (step set) it ≡ None =
      ap (λ o. first_some (changed equal_tree o it) None) (difference k s.0) ∙ ap (λ o. first_some o None) ((unless_same_none set) (equal_tree k) it is) in
      stays (each ((lin_settled set) k s.0).1 (each ((num_normal set) (pos 0)) nothing)) here

  equal_canonical : (g : Lin) → (CanonicalLin set) g → Normal (step set) (equal_tree g) (equal_tree g)
  equal_canonical g k = go (is_number g) (divides (common_divisor (g.parts)) (g.constant)) refl
    where
      go : (b c : Bool) → is_number g ≡ b
          → Normal (step set) (cond b (truth_constant (is_zero (g.constant))) (cond c (equals_zero (make_lead_positive (divide_exact g))) false_tree)) (cond b (truth_constant (is_zero (g.constant))) (cond c (equals_zero (make_lead_positive (divide_exact g))) false_tree))
      go true c e = truth_normal (is_zero (g.constant))
      go false true e = let r = lead_positive_sound (divide_exact g) (divide_exact_canonical (IsAtom set) g k e) in equal_settled (make_lead_positive (divide_exact g)) r.0 r.1
      go false false e = truth_normal false

  pub equal_normal : (t u : Tree) → Fixed (step set) t → Fixed (step set) u → Normal (step set) (equal t u) (normal_equal t u)
  equal_normal t u f k = go (checked (subtract (to_lin t) (to_lin u))) refl
    where
      ks : Normals (step set) (two t u) (two t u)
      ks = each (fixed-normal (step set) t f) (each (fixed-normal (step set) u k) nothing)

      go : (o : Option Lin) → checked (subtract (to_lin t) (to_lin u)) ≡ o → Normal (step set) (equal t u) (by_form equal_tree o (equal t u))
      go None e = stays ks (ap (λ o. first_some (changed equal_tree o (equal t u)) None) e)
      go (Some g) e =
          (reach set) (h.Form rel.Equal) (two t u) (equal_tree g) ks (ap (λ o. first_some (changed equal_tree o (equal t u)) None) e)
          (equal_canonical g (checked_canonical (IsAtom set) (subtract (to_lin t) (to_lin u)) g (subtract_canonical (IsAtom set) (to_lin t) (to_lin u) ((to_lin_canonical set) t f) ((to_lin_canonical set) u k)) e).0)

  -- ---- 1 - L <= 0

  no_truth : (b : Bool) (t u : Tree) → truth_constant b ≡ at_most t u → ⊥
  no_truth true t u e = absurd cc
  no_truth false t u e = absurd cc

  -- L <= 0 in normal form isn't decided, and its divisor is 1
  zero_is_sound : (a : Tree) → Fixed (step set) (at_most a (num (pos 0))) → (CanonicalLin set) (to_lin a) → (is_number (to_lin a) ≡ false) × (common_divisor ((to_lin a).parts) ≡ 1)
  zero_is_sound a f g =
      let it = at_most a (num (pos 0)) in
      let none = first_none _ None f.1 in
      let e : checked (subtract (to_lin a) (to_lin (num (pos 0)))) ≡ Some (to_lin a) = ap (λ k. checked (subtract (to_lin a) k)) (num_form (pos 0) fits_zero) ∙ subtract_zero (to_lin a) g in
      let is = (none_unless_same set) (at_most_tree (to_lin a)) it (sym (ap (λ o. changed at_most_tree o it) e) ∙ none) in
      go (is_number (to_lin a)) refl is
    where
      go : (b : Bool) → is_number (to_lin a) ≡ b → cond b (truth_constant (int_le ((to_lin a).constant) (pos 0))) (at_most_zero (tighten (to_lin a))) ≡ at_most a (num (pos 0)) → (is_number (to_lin a) ≡ false) × (common_divisor ((to_lin a).parts) ≡ 1)
      go true e k = absurd (no_truth (int_le ((to_lin a).constant) (pos 0)) a (num (pos 0)) k)
      go false e k =
          let t : of_lin (tighten (to_lin a)) ≡ a = cc in
          (e, one_from_same (IsAtom set) (to_lin a) g.0 e (sym ((lin_settled set) (tighten (to_lin a)) (tighten_canonical (IsAtom set) (to_lin a) g e).0).0 ∙ ap to_lin t))

  integer_back : (c : ℤ) (t : Tree) → to_lin t ≡ atom_lin t → parts_fit (scale_parts c ((to_lin t).parts)) ≡ true → (CanonicalLin set) (to_lin t) ⊎ (is_integer (head_of t) ≡ true)
  integer_back c t e k =
      let m = ap (λ g. parts_fit (scale_parts c (g.parts))) (sym e) ∙ k in
      inr (and_right (fits (c *ℤ pos 1)) (is_integer (head_of t)) (and_left (fits (c *ℤ pos 1) && is_integer (head_of t)) true m))

  canonical_from_negated : (a : Tree) → Fixed (step set) a → parts_fit (scale_parts (negsuc 0) ((to_lin a).parts)) ≡ true → (CanonicalLin set) (to_lin a)
  canonical_from_negated a f k = elim ((canonical_or_atom set) a f) [
    | inl g ↦ g
    | inr e ↦ elim (integer_back (negsuc 0) a e k) [
      | inl g ↦ g
      | inr t ↦ ((to_lin_canonical set) a f, ap (λ g. parts_fit (g.parts)) e ∙ (λ i. (fits_one i && t i) && true), ap (λ g. fits (g.constant)) e ∙ fits_zero)
    ]
  ]

  negated_at_most_normal : (a u w : Tree) → Fixed (step set) (at_most a u) → negated_relation (at_most a u) ≡ Some w → Normal (step set) w w
  negated_at_most_normal a u w f k = go (same u (num (pos 0))) refl k
    where
      at : u ≡ num (pos 0) → (o : Option Lin) → checked (subtract (number (pos 1)) (to_lin a)) ≡ o → option_map at_most_zero o ≡ Some w → Normal (step set) w w
      at z None e q = absurd cc
      at z (Some g) e q =
          let c = checked_canonical (IsAtom set) (subtract (number (pos 1)) (to_lin a)) g (subtract_canonical (IsAtom set) (number (pos 1)) (to_lin a) tt ((to_lin_canonical set) a f.0.0)) e in
          let here = canonical_from_negated a f.0.0 (ap (λ z. parts_fit (z.parts)) c.1 ∙ c.0.1) in
          let s = zero_is_sound a (subst (λ z. Fixed (step set) (at_most a z)) z f) here in
          let n = ap is_number (sym c.1) ∙ negated_some ((to_lin a).parts) ((to_lin a).constant) (pos 0) s.0 in
          let d = ap (λ z. common_divisor (z.parts)) (sym c.1) ∙ divisor_negated ((to_lin a).parts) ∙ s.1 in
          let is : at_most_zero g ≡ w = cc in
          subst (λ z. Normal (step set) z z) is (at_most_settled g c.0 n d)

      go : (b : Bool) → same u (num (pos 0)) ≡ b → cond b (option_map at_most_zero (checked (subtract (number (pos 1)) (to_lin a)))) None ≡ Some w → Normal (step set) w w
      go true e q = at (same_exact u (num (pos 0)) e) (checked (subtract (number (pos 1)) (to_lin a))) refl q
      go false e q = absurd cc

  -- the negation of a relation is its own normal form
  pub negated_relation_normal : (t w : Tree) → Fixed (step set) t → negated_relation t ≡ Some w → Normal (step set) w w
  negated_relation_normal (node (h.Form rel.AtMost) (more a (more u stop))) w f k = negated_at_most_normal a u w f k
  negated_relation_normal t w f k = absurd cc

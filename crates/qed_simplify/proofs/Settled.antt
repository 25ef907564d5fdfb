-- The term of a linear form has that form, and is its own normal form.
use Rattle.std.proofs.Common.{◌≡◌, ℕ, Bool, true, false, ◌&&◌, cond, ℤ, pos, ◌*ℤ◌, ◌⊎◌, inl, inr, List, [], ◌∷◌, ◌++◌, map, refl, sym, ◌∙◌, ap, subst}
use Rattle.std.specs.Prelude.{Option, Some, None}
use Rattle.qed_terms.specs.declared.head.Head.{Head}
use Rattle.qed_terms.specs.declared.head.Head.TheVariants as h
use Rattle.qed_terms.specs.declared.head.TermOp.{TermOp}
use Rattle.qed_terms.specs.declared.head.TermOp.TheVariants as op
use Rattle.qed_terms.specs.Setting.{Setting}
use Rattle.qed_terms.specs.Tree.{Tree, node, Trees, stop, more, trees_of, list_of, head_of, kids_in, two, num}
use Rattle.qed_terms.specs.Operators.{is_zero, is_equal}
use Rattle.qed_terms.specs.Order.{same}
use Rattle.qed_linear.specs.Linear.{fits, Part, Lin, part, lin, number, is_number, atom_lin, part_tree, constant_trees, sum_tree, of_lin, add_all, number_product, other_factors, fitted, is_factor, are_several, are_factors, is_product, factors_of, is_single, first_times, first_factors, times_of, factor_trees, times_product, insert_factors, sorted_factors, product_part, product_of, product_form, is_integer, parts_fit, checked, op_form, head_form, or_atom, to_lin, to_lins}
use Rattle.qed_numbers.specs.Numbers.{times_number, number_step}
use Rattle.qed_numbers.specs.Laws.{IsKid, Outcome}
use Rattle.qed_numbers.proofs.Outcomes.{numbers_answer}
use Rattle.qed_memories.specs.Memories.{memory_step}
use Rattle.qed_memories.specs.Passes.{memory_pass}
use Rattle.qed_rules.specs.Passes.{by_rules, normal_op}
use Rattle.qed_simplify.proofs.Tables.{ruled, ruled_answers, op_step}
use Rattle.qed_simplify.proofs.Tests.{first_none}
use Rattle.qed_rules.specs.Rules.{unless_same, changed, sums_rule, first_some, step}
use Rattle.qed_simplify.specs.Normal.{Normal, Normals, stays, changes, nothing, each}
use Rattle.qed_linear.proofs.Facts.{and_left, and_right, zero_is, equal_is}
use Rattle.qed_terms.proofs.Total.{same_itself, same_exact}
use Rattle.qed_simplify.proofs.Derived.{Fixed, AllFixed, fixed-normal, fixed-normals, normal-fixed}
use Rattle.qed_linear.proofs.Canonical.{PartsOver, FormOver, add_all_back, product_is, checked_is, num_form, last_forms, single, fits_zero, fits_one}
use Rattle.qed_linear.proofs.Multiplied.{Sorted, AllOver, FactorsOver, FormsOver, Closed, insert_first, head_form_canonical}
use Rattle.qed_linear.proofs.Ring.{times_one}

module _ (set : Setting) where
  -- ---- parts in order, over atoms in normal form

  abbrev pub IsAtom : Tree → Type 0
  IsAtom t = (to_lin t ≡ atom_lin t) × Normal (step set) t t

  -- the parts of a form, a form whose numbers fit too, and forms, over such atoms
  abbrev pub Canonical : List Part → Type 0
  Canonical = PartsOver IsAtom

  abbrev pub CanonicalLin : Lin → Type 0
  CanonicalLin = FormOver IsAtom

  -- a factor in normal form: a form of its own is no number and no multiple
  abbrev pub IsFactor : Tree → Type 0
  IsFactor t = Fixed (step set) t × (is_number (to_lin t) ≡ false) × (times_of (to_lin t) ≡ pos 1) × (factor_trees (to_lin t) ≡ t ∷ [])

  abbrev pub AllCanonical : List Lin → Type 0
  AllCanonical = FormsOver IsAtom IsFactor

  -- ---- the term of a form

  pub unless_same_none : (w t : Tree) → w ≡ t → unless_same w t ≡ None
  unless_same_none w t e = ap (λ z. unless_same z t) e ∙ ap (λ b. cond b None (Some t)) (same_itself t)

  pub none_unless_same : (w t : Tree) → unless_same w t ≡ None → w ≡ t
  none_unless_same w t k = go (same w t) refl k
    where
      go : (b : Bool) → same w t ≡ b → cond b None (Some w) ≡ None → w ≡ t
      go true e k = same_exact w t e
      go false e k = absurd cc

  pub num_normal : (c : ℤ) → Normal (step set) (num c) (num c)
  num_normal c = stays nothing (at_fit (fits c))
    where
      is : of_lin (number c) ≡ num c
      is = go (is_zero c) refl
        where
          go : (z : Bool) → is_zero c ≡ z → sum_tree (cond z [] (num c ∷ [])) ≡ num c
          go true k = ap num (sym (zero_is c k))
          go false k = refl

      at_fit : (b : Bool) → first_some (changed of_lin (cond b (Some (number c)) None) (num c)) None ≡ None
      at_fit true = ap (λ o. first_some o None) (unless_same_none (of_lin (number c)) (num c) is)
      at_fit false = refl

  -- a node that is the term of its own form
  pub sum_stays : (head : Head) (ts : Trees) (f : Lin) → head_form head (to_lins ts) ≡ Some f → of_lin f ≡ node head ts → sums_rule head ts ≡ None
  sum_stays head ts f e k = ap (λ o. changed of_lin o (node head ts)) e ∙ unless_same_none (of_lin f) (node head ts) k

  part_settled : (p : Part) → IsAtom (p.atom) → is_zero (p.times) ≡ false → fits (p.times) && is_integer (head_of (p.atom)) ≡ true → (to_lin (part_tree p) ≡ single p) × Normal (step set) (part_tree p) (part_tree p)
  part_settled p i z f = go (is_equal (p.times) (pos 1)) refl
    where
      go : (b : Bool) → is_equal (p.times) (pos 1) ≡ b
          → (to_lin (cond b (p.atom) (node (h.Term op.Mul) (two (num (p.times)) (p.atom)))) ≡ single p) × Normal (step set) (cond b (p.atom) (node (h.Term op.Mul) (two (num (p.times)) (p.atom)))) (cond b (p.atom) (node (h.Term op.Mul) (two (num (p.times)) (p.atom))))
      go true k = (i.0 ∙ ap (λ c. lin (part (p.atom) c ∷ []) (pos 0)) (sym (equal_is (p.times) (pos 1) k)), i.1)
      go false k =
          let ts = two (num (p.times)) (p.atom) in
          let fc = and_left (fits (p.times)) (is_integer (head_of (p.atom))) f in
          let form : head_form (h.Term op.Mul) (to_lins ts) ≡ Some (single p) =
          ap (λ g. op_form op.Mul (g ∷ to_lin (p.atom) ∷ [])) (num_form (p.times) fc) ∙ product_is p i.0 z (ap (λ b. b && true) f) in
          let is : of_lin (single p) ≡ node (h.Term op.Mul) ts = ap (λ b. cond b (p.atom) (node (h.Term op.Mul) ts)) k in
          (ap (λ o. or_atom o (node (h.Term op.Mul) ts)) form, stays (each (num_normal (p.times)) (each i.1 nothing)) (ap (λ o. first_some o None) (sum_stays (h.Term op.Mul) ts (single p) form is)))

  constant_normals : (c : ℤ) → Normals (step set) (trees_of (constant_trees c)) (trees_of (constant_trees c))
  constant_normals c = go (is_zero c)
    where
      go : (z : Bool) → Normals (step set) (trees_of (cond z [] (num c ∷ []))) (trees_of (cond z [] (num c ∷ [])))
      go true = nothing
      go false = each (num_normal c) nothing

  constant_to_lins : (c : ℤ) → fits c ≡ true → to_lins (trees_of (constant_trees c)) ≡ last_forms c
  constant_to_lins c f = go (is_zero c)
    where
      go : (z : Bool) → to_lins (trees_of (cond z [] (num c ∷ []))) ≡ cond z [] (number c ∷ [])
      go true = refl
      go false = ap (λ g. g ∷ []) (num_form c f)

  abbrev kids : List Part → ℤ → List Tree
  kids ps c = map part_tree ps ++ constant_trees c

  kids_normals : (ps : List Part) (c : ℤ) → Canonical ps → parts_fit ps ≡ true → Normals (step set) (trees_of (kids ps c)) (trees_of (kids ps c))
  kids_normals [] c g f = constant_normals c
  kids_normals (p ∷ ps) c g f =
      each (part_settled p g.0 g.1 (and_left (fits (p.times) && is_integer (head_of (p.atom))) (parts_fit ps) f)).1
      (kids_normals ps c g.3 (and_right (fits (p.times) && is_integer (head_of (p.atom))) (parts_fit ps) f))

  kids_to_lins : (ps : List Part) (c : ℤ) → Canonical ps → parts_fit ps ≡ true → fits c ≡ true → to_lins (trees_of (kids ps c)) ≡ map single ps ++ last_forms c
  kids_to_lins [] c g f fc = constant_to_lins c fc
  kids_to_lins (p ∷ ps) c g f fc =
      let first = (part_settled p g.0 g.1 (and_left (fits (p.times) && is_integer (head_of (p.atom))) (parts_fit ps) f)).0 in
      let rest = kids_to_lins ps c g.3 (and_right (fits (p.times) && is_integer (head_of (p.atom))) (parts_fit ps) f) fc in
      λ i. first i ∷ rest i

  abbrev pub Settled : Lin → Type 0
  Settled f = (to_lin (of_lin f) ≡ f) × Normal (step set) (of_lin f) (of_lin f)

  -- a sum of two parts and more
  sum_settled : (f : Lin) → CanonicalLin f → (t u : Tree) (ts : List Tree) → kids (f.parts) (f.constant) ≡ t ∷ u ∷ ts
      → (to_lin (node (h.Term op.Add) (trees_of (t ∷ u ∷ ts))) ≡ f) × Normal (step set) (node (h.Term op.Add) (trees_of (t ∷ u ∷ ts))) (node (h.Term op.Add) (trees_of (t ∷ u ∷ ts)))
  sum_settled f g t u ts is =
      let us = trees_of (t ∷ u ∷ ts) in
      let form : head_form (h.Term op.Add) (to_lins us) ≡ Some f =
      ap (λ xs. checked (add_all (to_lins (trees_of xs)))) (sym is) ∙ ap (λ xs. checked (add_all xs)) (kids_to_lins (f.parts) (f.constant) g.0 g.1 g.2) ∙ ap checked (add_all_back IsAtom (f.parts) (f.constant) g.0)
      ∙ checked_is f g.1 g.2 in (
        ap (λ o. or_atom o (node (h.Term op.Add) us)) form,
        stays (subst (λ xs. Normals (step set) (trees_of xs) (trees_of xs)) is (kids_normals (f.parts) (f.constant) g.0 g.1)) (ap (λ o. first_some o None) (sum_stays (h.Term op.Add) us f form (ap sum_tree is))),
      )

  at_parts : (ps : List Part) (c : ℤ) → CanonicalLin (lin ps c) → Settled (lin ps c)
  at_parts [] c g = go (is_zero c) refl
    where
      go : (z : Bool) → is_zero c ≡ z → (to_lin (sum_tree (cond z [] (num c ∷ []))) ≡ lin [] c) × Normal (step set) (sum_tree (cond z [] (num c ∷ []))) (sum_tree (cond z [] (num c ∷ [])))
      go true k = (num_form (pos 0) fits_zero ∙ ap number (sym (zero_is c k)), num_normal (pos 0))
      go false k = (num_form c g.2, num_normal c)
  at_parts (p ∷ []) c g = go (is_zero c) refl
    where
      go : (z : Bool) → is_zero c ≡ z → (to_lin (sum_tree (part_tree p ∷ cond z [] (num c ∷ []))) ≡ lin (p ∷ []) c) × Normal (step set) (sum_tree (part_tree p ∷ cond z [] (num c ∷ []))) (sum_tree (part_tree p ∷ cond z [] (num c ∷ [])))
      go true k =
          let r = part_settled p g.0.0 g.0.1 (and_left (fits (p.times) && is_integer (head_of (p.atom))) true g.1) in
          (r.0 ∙ ap (lin (p ∷ [])) (sym (zero_is c k)), r.1)
      go false k = sum_settled (lin (p ∷ []) c) g (part_tree p) (num c) [] (ap (λ z. part_tree p ∷ cond z [] (num c ∷ [])) k)
  at_parts (p ∷ q ∷ ps) c g = sum_settled (lin (p ∷ q ∷ ps) c) g (part_tree p) (part_tree q) (kids ps c) refl

  pub lin_settled : (f : Lin) → CanonicalLin f → Settled f
  lin_settled f g = at_parts (f.parts) (f.constant) g

  -- ---- products of several factors

  -- a tree that no rule changes is the term of its form
  pub fixed_back : (t : Tree) → Fixed (step set) t → of_lin (to_lin t) ≡ t
  fixed_back (node head ts) f = go (head_form head (to_lins ts)) refl
    where
      go : (o : Option Lin) → head_form head (to_lins ts) ≡ o → of_lin (or_atom o (node head ts)) ≡ node head ts
      go None e = refl
      go (Some g) e = none_unless_same (of_lin g) (node head ts) (ap (λ o. changed of_lin o (node head ts)) (sym e) ∙ first_none (sums_rule head ts) _ f.1)

  forms_of_factors : (ts : List Tree) → AllOver IsAtom IsFactor ts → (number_product (to_lins (trees_of ts)) ≡ pos 1) × (other_factors (to_lins (trees_of ts)) ≡ to_lins (trees_of ts)) × (times_product (to_lins (trees_of ts)) ≡ pos 1)
  forms_of_factors [] a = (refl, refl, refl)
  forms_of_factors (t ∷ ts) a =
      let r = forms_of_factors ts a.1 in
      let n = a.0.1 in (
        ap (λ b. cond b (number_product (to_lins (trees_of ts)) *ℤ (to_lin t).constant) (number_product (to_lins (trees_of ts)))) n ∙ r.0,
        ap (λ b. cond b (other_factors (to_lins (trees_of ts))) (to_lin t ∷ other_factors (to_lins (trees_of ts)))) n ∙ ap (λ fs. to_lin t ∷ fs) r.1,
        (λ i. r.2 i *ℤ a.0.2 i),
      )

  factors_stay : (ts : List Tree) → Sorted ts → AllOver IsAtom IsFactor ts → sorted_factors (to_lins (trees_of ts)) ≡ ts
  factors_stay [] s a = refl
  factors_stay (t ∷ ts) s a = (λ i. insert_factors (a.0.3 i) (factors_stay ts s.1 a.1 i)) ∙ insert_first t ts s.0

  factors_fixed : (ts : List Tree) → AllOver IsAtom IsFactor ts → AllFixed (step set) (trees_of ts)
  factors_fixed [] a = tt
  factors_fixed (t ∷ ts) a = (a.0.0, factors_fixed ts a.1)

  -- the product of factors in order is an atom
  pub product_atom : Closed IsAtom IsFactor
  product_atom t u ts s a = (ap (λ o. or_atom o it) form, stays (fixed-normals (step set) us (factors_fixed all a)) (ap (λ o. first_some o None) (sum_stays (h.Term op.Mul) us (atom_lin it) form refl)))
    where
      all : List Tree
      all = t ∷ u ∷ ts

      us : Trees
      us = trees_of all

      it : Tree
      it = node (h.Term op.Mul) us

      one_fits : (z : ℤ) → z ≡ pos 1 → fitted z ≡ Some (pos 1)
      one_fits z e = ap fitted e ∙ ap (λ b. cond b (Some (pos 1)) None) fits_one

      form : product_form (to_lins us) ≡ Some (atom_lin it)
      form =
          let f = forms_of_factors all a in
          (λ i. product_of (one_fits (number_product (to_lins us)) f.0 i) (f.1 i))
          ∙ (λ i. product_part (one_fits (times_product (to_lins us) *ℤ pos 1) (times_one (times_product (to_lins us)) ∙ f.2) i) (factors_stay all s a i))

  -- ---- the factors of a term in normal form

  not_single : (f : Lin) (t : Tree) → of_lin f ≡ t → is_single f ≡ false → (times_of f ≡ pos 1) × (factor_trees f ≡ t ∷ [])
  not_single f t e k = (ap (λ b. cond b (first_times (f.parts)) (pos 1)) k, ap (λ b. cond b (first_factors (f.parts)) (of_lin f ∷ [])) k ∙ ap (λ u. u ∷ []) e)

  -- its own form is no number, and it is its only factor
  factor_of : (t : Tree) → Fixed (step set) t → (is_number (to_lin t) ≡ false) → (times_of (to_lin t) ≡ pos 1) × (factor_trees (to_lin t) ≡ t ∷ []) → IsFactor t
  factor_of t f n k = (f, n, k.0, k.1)

  -- a form that is one part without a number
  one_atom : (t : Tree) → Fixed (step set) t → to_lin t ≡ atom_lin t → is_product t ≡ false → IsFactor t
  one_atom t f e k = (f, ap is_number e, ap times_of e, ap factor_trees e ∙ ap (λ b. cond b (list_of (kids_in t)) (t ∷ [])) k)

  plain_product : (t : Tree) → is_factor (head_of t) ≡ true → is_product t ≡ false
  plain_product (node (h.Term op.Mul) ts) k = absurd cc
  plain_product (node head ts) k = refl

  -- a factor of a product
  kid_factor : (t : Tree) → Fixed (step set) t → is_factor (head_of t) ≡ true → IsFactor t
  kid_factor t f k = at ((to_lin t).parts) ((to_lin t).constant) refl refl
    where
      back : of_lin (to_lin t) ≡ t
      back = fixed_back t f

      no_number : (c : ℤ) → of_lin (number c) ≡ t → ⊥
      no_number c e = go (is_zero c) e
        where
          go : (b : Bool) → sum_tree (cond b [] (num c ∷ [])) ≡ t → ⊥
          go true q = let r = ap (λ u. is_factor (head_of u)) q in absurd cc
          go false q = let r = ap (λ u. is_factor (head_of u)) q in absurd cc

      at : (ps : List Part) (c : ℤ) → ps ≡ (to_lin t).parts → c ≡ (to_lin t).constant → IsFactor t
      at [] c e q = absurd (no_number c ((λ i. of_lin (lin (e i) (q i))) ∙ back))
      at (p ∷ p' ∷ ps) c e q = factor_of t f (sym (ap is_number (λ i. lin (e i) (q i)))) (not_single (to_lin t) t back (sym (ap is_single (λ i. lin (e i) (q i)))))
      at (p ∷ []) c e q = go (is_zero c) refl
        where
          same : lin (p ∷ []) c ≡ to_lin t
          same = λ i. lin (e i) (q i)

          alone : (b : Bool) → is_equal (p.times) (pos 1) ≡ b → is_zero c ≡ true → cond b (p.atom) (node (h.Term op.Mul) (two (num (p.times)) (p.atom))) ≡ t → IsFactor t
          alone true r z w =
              let n = equal_is (p.times) (pos 1) r in
              let form : to_lin t ≡ atom_lin t = sym same ∙ (λ i. lin (part (w i) (n i) ∷ []) (zero_is c z i)) in
              one_atom t f form (plain_product t k)
          alone false r z w = let l = ap (λ u. is_factor (head_of u)) w in absurd cc

          go : (b : Bool) → is_zero c ≡ b → IsFactor t
          go true z = alone (is_equal (p.times) (pos 1)) refl z (sym (ap (λ b. sum_tree (part_tree p ∷ cond b [] (num c ∷ []))) z) ∙ ap of_lin same ∙ back)
          go false z = factor_of t f (sym (ap is_number same)) (not_single (to_lin t) t back (sym (ap is_single same) ∙ z))

  kids_factors : (ts : Trees) → AllFixed (step set) ts → are_factors ts ≡ true → AllOver IsAtom IsFactor (list_of ts)
  kids_factors stop f k = tt
  kids_factors (more t ts) f k = (kid_factor t f.0 (and_left (is_factor (head_of t)) (are_factors ts) k), kids_factors ts f.1 (and_right (is_factor (head_of t)) (are_factors ts) k))

  -- the factors of an atom
  atom_factors : (t : Tree) → IsAtom t → AllOver IsAtom IsFactor (factors_of t)
  atom_factors t i = go (is_product t) refl
    where
      over_mul : (ts : Trees) → AllFixed (step set) ts → are_several ts && are_factors ts ≡ true → AllOver IsAtom IsFactor (list_of ts)
      over_mul ts f k = kids_factors ts f (and_right (are_several ts) (are_factors ts) k)

      kids : (u : Tree) → Fixed (step set) u → is_product u ≡ true → AllOver IsAtom IsFactor (list_of (kids_in u))
      kids (node (h.Term op.Mul) ts) f k = over_mul ts f.0 k
      kids u f k = absurd cc

      go : (b : Bool) → is_product t ≡ b → AllOver IsAtom IsFactor (cond b (list_of (kids_in t)) (t ∷ []))
      go true k = kids t (normal-fixed (step set) i.1) k
      go false k = (one_atom t (normal-fixed (step set) i.1) i.0 k, tt)

  form_factors : (t : Tree) → Fixed (step set) t → Canonical ((to_lin t).parts) → FactorsOver IsAtom IsFactor (to_lin t)
  form_factors t f c n = go (is_single (to_lin t)) refl
    where
      whole : is_single (to_lin t) ≡ false → AllOver IsAtom IsFactor (of_lin (to_lin t) ∷ [])
      whole k = subst (λ u. AllOver IsAtom IsFactor (u ∷ [])) (sym (fixed_back t f)) (factor_of t f n (not_single (to_lin t) t (fixed_back t f) k), tt)

      firsts : (qs : List Part) → Canonical qs → AllOver IsAtom IsFactor (first_factors qs)
      firsts [] i = tt
      firsts (p ∷ qs) i = atom_factors (p.atom) i.0

      go : (b : Bool) → is_single (to_lin t) ≡ b → AllOver IsAtom IsFactor (cond b (first_factors ((to_lin t).parts)) (of_lin (to_lin t) ∷ []))
      go true k = firsts ((to_lin t).parts) c
      go false k = whole k

  -- ---- the forms of terms in normal form are in order, over atoms

  mutual
    pub to_lin_canonical : (t : Tree) → Fixed (step set) t → Canonical ((to_lin t).parts)
    to_lin_canonical (node head ts) f = go (head_form head (to_lins ts)) refl (to_lins_canonical ts f.0)
      where
        go : (o : Option Lin) → head_form head (to_lins ts) ≡ o → AllCanonical (to_lins ts) → Canonical ((or_atom o (node head ts)).parts)
        go None e k = ((ap (λ o. or_atom o (node head ts)) e, fixed-normal (step set) (node head ts) f), refl, tt, tt)
        go (Some g) e k = (head_form_canonical IsAtom IsFactor product_atom head (to_lins ts) g k e).0

    pub to_lins_canonical : (ts : Trees) → AllFixed (step set) ts → AllCanonical (to_lins ts)
    to_lins_canonical stop f = tt
    to_lins_canonical (more t ts) f = let c = to_lin_canonical t f.0 in ((c, form_factors t f.0 c), to_lins_canonical ts f.1)

  -- a form that isn't one of its own is of an atom
  pub canonical_or_atom : (t : Tree) → Fixed (step set) t → CanonicalLin (to_lin t) ⊎ (to_lin t ≡ atom_lin t)
  canonical_or_atom (node head ts) f = go (head_form head (to_lins ts)) refl
    where
      go : (o : Option Lin) → head_form head (to_lins ts) ≡ o → CanonicalLin (or_atom o (node head ts)) ⊎ (or_atom o (node head ts) ≡ atom_lin (node head ts))
      go None e = inr refl
      go (Some g) e = inl (head_form_canonical IsAtom IsFactor product_atom head (to_lins ts) g (to_lins_canonical ts f.0) e)

  -- ---- a sum or a product of fixed kids

  -- a node whose one rule makes w
  pub reach : (head : Head) (ts : Trees) (w : Tree) → Normals (step set) ts ts → (step set) (node head ts) ≡ first_some (unless_same w (node head ts)) None → Normal (step set) w w → Normal (step set) (node head ts) w
  reach head ts w ks e d = go (same w (node head ts)) refl
    where
      go : (b : Bool) → same w (node head ts) ≡ b → Normal (step set) (node head ts) w
      go true k = subst (Normal (step set) (node head ts)) (sym (same_exact w (node head ts) k)) (stays ks (e ∙ ap (λ b. first_some (cond b None (Some w)) None) k))
      go false k = changes ks (e ∙ ap (λ b. first_some (cond b None (Some w)) None) k) d

  at_form : (head : Head) (ts : Trees) → AllFixed (step set) ts → Normals (step set) ts ts → (step set) (node head ts) ≡ first_some (sums_rule head ts) None → Normal (step set) (node head ts) (of_lin (to_lin (node head ts)))
  at_form head ts f ks e = go (head_form head (to_lins ts)) refl
    where
      go : (o : Option Lin) → head_form head (to_lins ts) ≡ o → Normal (step set) (node head ts) (of_lin (or_atom o (node head ts)))
      go None k = stays ks (e ∙ ap (λ o. first_some (changed of_lin o (node head ts)) None) k)
      go (Some g) k = reach head ts (of_lin g) ks (e ∙ ap (λ o. first_some (changed of_lin o (node head ts)) None) k) (lin_settled g (head_form_canonical IsAtom IsFactor product_atom head (to_lins ts) g (to_lins_canonical ts f) k)).1

  -- an operator that no rule on numbers, memories or tables changes
  pub term_normal : (o : TermOp) (ts : Trees) → AllFixed (step set) ts → Normals (step set) ts ts → ruled set.long_bits o ts ≡ None → memory_step (h.Term o) ts ≡ None → Normal (step set) (node (h.Term o) ts) (of_lin (to_lin (node (h.Term o) ts)))
  term_normal o ts f ks n m = at_form (h.Term o) ts f ks (op_step set o ts ∙ (λ i. first_some (sums_rule (h.Term o) ts) (first_some (n i) (m i))))

  pub number_normal : (z : ℤ) (ts : Trees) → AllFixed (step set) ts → Normals (step set) ts ts → Normal (step set) (node (h.Num z) ts) (of_lin (to_lin (node (h.Num z) ts)))
  number_normal z ts f ks = at_form (h.Num z) ts f ks refl

  -- ---- an operator that a rule on numbers changes

  -- it has no form of its own
  no_form : (o : TermOp) (ts : Trees) (fs : List Lin) (w : Tree) → ruled set.long_bits o ts ≡ Some w → op_form o fs ≡ None
  no_form op.Add ts fs w k = absurd cc
  no_form op.Sub ts fs w k = absurd cc
  no_form op.Mul ts fs w k = absurd cc
  no_form op.Neg ts fs w k = absurd cc
  no_form o ts fs w k = refl

  kid_fixed : (t : Tree) (ts : Trees) → IsKid t ts → AllFixed (step set) ts → Fixed (step set) t
  kid_fixed t stop k f = absurd k
  kid_fixed t (more u ts) k f = elim k [
    | inl e ↦ subst (Fixed (step set)) (sym e) f.0
    | inr e ↦ kid_fixed t ts e f.1
  ]

  kid_normal : (t : Tree) → Fixed (step set) t → Normal (step set) t (of_lin (to_lin t))
  kid_normal t f = subst (Normal (step set) t) (sym (fixed_back t f)) (fixed-normal (step set) t f)

  product_normal : (p : ℤ) (t : Tree) → Fixed (step set) t → Normal (step set) (times_number p t) (of_lin (to_lin (times_number p t)))
  product_normal p t f =
      let known : AllFixed (step set) (two (num p) t) = (normal-fixed (step set) (num_normal p), (f, tt)) in
      term_normal op.Mul (two (num p) t) known (fixed-normals (step set) (two (num p) t) known) refl refl

  outcome_normal : (o : TermOp) (ts : Trees) (w : Tree) → AllFixed (step set) ts → Outcome o ts w → Normal (step set) w (of_lin (to_lin w))
  outcome_normal o ts w f a = elim a [
    | inl n ↦ subst (λ t. Normal (step set) t (of_lin (to_lin t))) (sym n.1) (number_normal n.0 stop tt nothing)
    | inr b ↦ elim b [
      | inl k ↦ kid_normal w (kid_fixed w ts k f)
      | inr p ↦ subst (λ t. Normal (step set) t (of_lin (to_lin t))) (sym p.1.1.1.1) (product_normal p.1.0 p.1.1.0 (kid_fixed p.1.1.0 ts p.1.1.1.0 f))
    ]
  ]

  pub plain_normal : (o : TermOp) (ts : Trees) → AllFixed (step set) ts → memory_step (h.Term o) ts ≡ None → memory_pass (h.Term o) ts ≡ None → Normal (step set) (node (h.Term o) ts) ((normal_op set.long_bits) o ts)
  plain_normal o ts f m none = subst (λ p. Normal (step set) (node (h.Term o) ts) (by_rules (ruled set.long_bits o ts) p (node (h.Term o) ts))) (sym none) (go (ruled set.long_bits o ts) refl)
    where
      ks : Normals (step set) ts ts
      ks = fixed-normals (step set) ts f

      go : (p : Option Tree) → ruled set.long_bits o ts ≡ p → Normal (step set) (node (h.Term o) ts) (by_rules p None (node (h.Term o) ts))
      go None e = term_normal o ts f ks e m
      go (Some w) e =
          let no = no_form o ts (to_lins ts) w e in
          changes ks (op_step set o ts ∙ (λ i. first_some (changed of_lin (no i) (node (h.Term o) ts)) (first_some (e i) (memory_step (h.Term o) ts)))) (outcome_normal o ts w f (ruled_answers set.long_bits o ts w e))

-- What is made of `and` or `or` over operands in normal form is its normal form.
use Rattle.std.proofs.Common.{◌≡◌, ℕ, Bool, true, false, not, ◌||◌, cond, List, [], ◌∷◌, ◌++◌, refl, sym, ◌∙◌, ap, subst}
use Rattle.std.specs.Prelude.{Option, Some, None}
use Rattle.qed_terms.specs.declared.head.Head.TheVariants as h
use Rattle.qed_terms.specs.Setting.{Setting}
use Rattle.qed_terms.specs.Tree.{Tree, node, Trees, stop, more, trees_of, list_of, head_of, kids_in}
use Rattle.qed_terms.proofs.Lists.{list_of-trees_of}
use Rattle.qed_rules.specs.Rules.{is_formula, then_some, truth_constant, junction, is_junction, is_truth_constant, has, among, flatten, drop_units, has_repeat, drop_repeats, is_opposed, flat_rule, absorbing_rule, units_rule, repeats_rule, opposites_rule, single_rule, first_some, step}
use Rattle.qed_simplify.specs.Normal.{Normal, stays, changes}
use Rattle.qed_rules.specs.Passes.{unwrap_single, check_opposites, absorb_constants, normal_junction}
use Rattle.qed_simplify.proofs.Tests.{or_left, or_right, then_some_none, first_none}
use Rattle.qed_simplify.proofs.Derived.{Fixed, AllFixed, fixed-normal, fixed-normals}
use Rattle.qed_simplify.proofs.Relations.{truth_normal}

module _ (set : Setting) where
  -- the rules of `and` and `or`, at the list of the operands
  rules : Bool → List Tree → Option Tree
  rules b ts = first_some (flat_rule b ts) (first_some (absorbing_rule b ts) (first_some (units_rule b ts) (first_some (repeats_rule b ts) (first_some (opposites_rule b ts) (first_some (single_rule b ts) None)))))

  step_junction : (b : Bool) (ts : List Tree) → (step set) (junction b ts) ≡ rules b ts
  unfolding rules
  step_junction true ts = ap (rules true) (list_of-trees_of ts)
  step_junction false ts = ap (rules false) (list_of-trees_of ts)

  abbrev pub EachFixed : List Tree → Type 0
  EachFixed [] = Unit {0}
  EachFixed (t ∷ ts) = Fixed (step set) t × EachFixed ts

  pub all_fixed : (ts : List Tree) → EachFixed ts → AllFixed (step set) (trees_of ts)
  all_fixed [] f = tt
  all_fixed (t ∷ ts) f = (f.0, all_fixed ts f.1)

  pub each_fixed : (ts : Trees) → AllFixed (step set) ts → EachFixed (list_of ts)
  each_fixed stop f = tt
  each_fixed (more t ts) f = (f.0, each_fixed ts f.1)

  junction_stays : (b : Bool) (ts : List Tree) → EachFixed ts → rules b ts ≡ None → Normal (step set) (junction b ts) (junction b ts)
  junction_stays true ts f e = stays (fixed-normals (step set) (trees_of ts) (all_fixed ts f)) (step_junction true ts ∙ e)
  junction_stays false ts f e = stays (fixed-normals (step set) (trees_of ts) (all_fixed ts f)) (step_junction false ts ∙ e)

  junction_changes : (b : Bool) (ts : List Tree) (w v : Tree) → EachFixed ts → rules b ts ≡ Some w → Normal (step set) w v → Normal (step set) (junction b ts) v
  junction_changes true ts w v f e d = changes (fixed-normals (step set) (trees_of ts) (all_fixed ts f)) (step_junction true ts ∙ e) d
  junction_changes false ts w v f e d = changes (fixed-normals (step set) (trees_of ts) (all_fixed ts f)) (step_junction false ts ∙ e) d

  -- ---- what the functions on lists keep

  has_append : (p : Tree → Bool) (ts us : List Tree) → has p ts ≡ false → has p us ≡ false → has p (ts ++ us) ≡ false
  has_append p [] us k l = l
  has_append p (t ∷ ts) us k l = let a = or_left (p t) (has p ts) k in let b = has_append p ts us (or_right (p t) (has p ts) k) l in λ i. a i || b i

  fixed_append : (ts us : List Tree) → EachFixed ts → EachFixed us → EachFixed (ts ++ us)
  fixed_append [] us f k = k
  fixed_append (t ∷ ts) us f k = (f.0, fixed_append ts us f.1 k)

  has_without : (b : Bool) (p : Tree → Bool) (ts : List Tree) → has p ts ≡ false → has p (drop_units b ts) ≡ false
  has_without b p [] k = refl
  has_without b p (t ∷ ts) k = go (is_truth_constant b t) (has_without b p ts (or_right (p t) (has p ts) k))
    where
      go : (c : Bool) → has p (drop_units b ts) ≡ false → has p (cond c (drop_units b ts) (t ∷ drop_units b ts)) ≡ false
      go true r = r
      go false r = let a = or_left (p t) (has p ts) k in λ i. a i || r i

  fixed_without : (b : Bool) (ts : List Tree) → EachFixed ts → EachFixed (drop_units b ts)
  fixed_without b [] f = tt
  fixed_without b (t ∷ ts) f = go (is_truth_constant b t) (fixed_without b ts f.1)
    where
      go : (c : Bool) → EachFixed (drop_units b ts) → EachFixed (cond c (drop_units b ts) (t ∷ drop_units b ts))
      go true r = r
      go false r = (f.0, r)

  no_units : (b : Bool) (ts : List Tree) → has (is_truth_constant b) (drop_units b ts) ≡ false
  no_units b [] = refl
  no_units b (t ∷ ts) = go (is_truth_constant b t) refl (no_units b ts)
    where
      go : (c : Bool) → is_truth_constant b t ≡ c → has (is_truth_constant b) (drop_units b ts) ≡ false → has (is_truth_constant b) (cond c (drop_units b ts) (t ∷ drop_units b ts)) ≡ false
      go true e r = r
      go false e r = λ i. e i || r i

  without_none : (b : Bool) (ts : List Tree) → has (is_truth_constant b) ts ≡ false → drop_units b ts ≡ ts
  without_none b [] k = refl
  without_none b (t ∷ ts) k = ap (λ c. cond c (drop_units b ts) (t ∷ drop_units b ts)) (or_left (is_truth_constant b t) (has (is_truth_constant b) ts) k) ∙ ap (λ us. t ∷ us) (without_none b ts (or_right (is_truth_constant b t) (has (is_truth_constant b) ts) k))

  has_drop_repeats : (p : Tree → Bool) (seen ts : List Tree) → has p ts ≡ false → has p (drop_repeats seen ts) ≡ false
  has_drop_repeats p seen [] k = refl
  has_drop_repeats p seen (t ∷ ts) k = go (among t seen) (has_drop_repeats p seen ts (or_right (p t) (has p ts) k)) (has_drop_repeats p (seen ++ t ∷ []) ts (or_right (p t) (has p ts) k))
    where
      go : (c : Bool) → has p (drop_repeats seen ts) ≡ false → has p (drop_repeats (seen ++ t ∷ []) ts) ≡ false → has p (cond c (drop_repeats seen ts) (t ∷ drop_repeats (seen ++ t ∷ []) ts)) ≡ false
      go true r s = r
      go false r s = let a = or_left (p t) (has p ts) k in λ i. a i || s i

  fixed_drop_repeats : (seen ts : List Tree) → EachFixed ts → EachFixed (drop_repeats seen ts)
  fixed_drop_repeats seen [] f = tt
  fixed_drop_repeats seen (t ∷ ts) f = go (among t seen) (fixed_drop_repeats seen ts f.1) (fixed_drop_repeats (seen ++ t ∷ []) ts f.1)
    where
      go : (c : Bool) → EachFixed (drop_repeats seen ts) → EachFixed (drop_repeats (seen ++ t ∷ []) ts) → EachFixed (cond c (drop_repeats seen ts) (t ∷ drop_repeats (seen ++ t ∷ []) ts))
      go true r s = r
      go false r s = (f.0, s)

  no_repeat : (seen ts : List Tree) → has_repeat seen (drop_repeats seen ts) ≡ false
  no_repeat seen [] = refl
  no_repeat seen (t ∷ ts) = go (among t seen) refl (no_repeat seen ts) (no_repeat (seen ++ t ∷ []) ts)
    where
      go : (c : Bool) → among t seen ≡ c → has_repeat seen (drop_repeats seen ts) ≡ false → has_repeat (seen ++ t ∷ []) (drop_repeats (seen ++ t ∷ []) ts) ≡ false → has_repeat seen (cond c (drop_repeats seen ts) (t ∷ drop_repeats (seen ++ t ∷ []) ts)) ≡ false
      go true e r s = r
      go false e r s = λ i. e i || s i

  no_repeats_dropped : (seen ts : List Tree) → has_repeat seen ts ≡ false → drop_repeats seen ts ≡ ts
  no_repeats_dropped seen [] k = refl
  no_repeats_dropped seen (t ∷ ts) k =
      ap (λ c. cond c (drop_repeats seen ts) (t ∷ drop_repeats (seen ++ t ∷ []) ts)) (or_left (among t seen) (has_repeat (seen ++ t ∷ []) ts) k)
      ∙ ap (λ us. t ∷ us) (no_repeats_dropped (seen ++ t ∷ []) ts (or_right (among t seen) (has_repeat (seen ++ t ∷ []) ts) k))

  -- the kids of an operand of the same kind aren't of that kind
  kids_flat : (b : Bool) (t : Tree) → Fixed (step set) t → is_junction b t ≡ true → EachFixed (list_of (kids_in t)) × (has (is_junction b) (list_of (kids_in t)) ≡ false)
  kids_flat true (node h.And ts) f e = (each_fixed ts f.0, then_some_none (has (is_junction true) (list_of ts)) (junction true (flatten true (list_of ts))) (first_none (flat_rule true (list_of ts)) _ f.1))
  kids_flat false (node h.Or ts) f e = (each_fixed ts f.0, then_some_none (has (is_junction false) (list_of ts)) (junction false (flatten false (list_of ts))) (first_none (flat_rule false (list_of ts)) _ f.1))
  kids_flat b t f e = absurd cc

  flat : (b : Bool) (ts : List Tree) → EachFixed ts → EachFixed (flatten b ts) × (has (is_junction b) (flatten b ts) ≡ false)
  flat b [] f = (tt, refl)
  flat b (t ∷ ts) f = go (is_junction b t) refl (flat b ts f.1)
    where
      go : (c : Bool) → is_junction b t ≡ c → EachFixed (flatten b ts) × (has (is_junction b) (flatten b ts) ≡ false)
          → EachFixed (cond c (list_of (kids_in t)) (t ∷ []) ++ flatten b ts) × (has (is_junction b) (cond c (list_of (kids_in t)) (t ∷ []) ++ flatten b ts) ≡ false)
      go true e r =
          let k = kids_flat b t f.0 e in
          (fixed_append (list_of (kids_in t)) (flatten b ts) k.0 r.0, has_append (is_junction b) (list_of (kids_in t)) (flatten b ts) k.1 r.1)
      go false e r = ((f.0, r.0), λ i. e i || r.1 i)

  flat_none : (b : Bool) (ts : List Tree) → has (is_junction b) ts ≡ false → flatten b ts ≡ ts
  flat_none b [] k = refl
  flat_none b (t ∷ ts) k =
      ap (λ c. cond c (list_of (kids_in t)) (t ∷ []) ++ flatten b ts) (or_left (is_junction b t) (has (is_junction b) ts) k)
      ∙ ap (λ us. t ∷ us) (flat_none b ts (or_right (is_junction b t) (has (is_junction b) ts) k))

  -- ---- from the last rule to the first

  module _ (b : Bool) where
    by_single : (ts : List Tree) → EachFixed ts → rules b ts ≡ first_some (single_rule b ts) None → Normal (step set) (junction b ts) (unwrap_single b ts)
    by_single [] f e = junction_changes b [] (truth_constant b) (truth_constant b) f e ((truth_normal set) b)
    by_single (t ∷ []) f e = go (is_formula (head_of t)) refl
      where
        go : (c : Bool) → is_formula (head_of t) ≡ c → Normal (step set) (junction b (t ∷ [])) (cond c t (junction b (t ∷ [])))
        go true k = junction_changes b (t ∷ []) t t f (e ∙ ap (λ c. first_some (then_some c t) None) k) (fixed-normal (step set) t f.0)
        go false k = junction_stays b (t ∷ []) f (e ∙ ap (λ c. first_some (then_some c t) None) k)
    by_single (t ∷ u ∷ ts) f e = junction_stays b (t ∷ u ∷ ts) f e

    by_opposed : (ts : List Tree) → EachFixed ts → rules b ts ≡ first_some (opposites_rule b ts) (first_some (single_rule b ts) None) → Normal (step set) (junction b ts) (check_opposites b ts)
    by_opposed ts f e = go (has (is_opposed ts) ts) refl
      where
        go : (c : Bool) → has (is_opposed ts) ts ≡ c → Normal (step set) (junction b ts) (cond c (truth_constant (not b)) (unwrap_single b ts))
        go true k = junction_changes b ts (truth_constant (not b)) (truth_constant (not b)) f (e ∙ ap (λ c. first_some (then_some c (truth_constant (not b))) (first_some (single_rule b ts) None)) k) ((truth_normal set) (not b))
        go false k = by_single ts f (e ∙ ap (λ c. first_some (then_some c (truth_constant (not b))) (first_some (single_rule b ts) None)) k)

    -- no operand is of the same kind or says true or false
    abbrev Plain : List Tree → Type 0
    Plain ts = (has (is_junction b) ts ≡ false) × (has (is_truth_constant (not b)) ts ≡ false) × (has (is_truth_constant b) ts ≡ false)

    to_opposed : (ts : List Tree) → Plain ts → has_repeat [] ts ≡ false → rules b ts ≡ first_some (opposites_rule b ts) (first_some (single_rule b ts) None)
    unfolding rules
    to_opposed ts p r = λ i.
        first_some (then_some (p.0 i) (junction b (flatten b ts))) (first_some (then_some (p.1 i) (truth_constant (not b))) (first_some (then_some (p.2 i) (junction b (drop_units b ts))) (first_some (then_some (r i) (junction b (drop_repeats [] ts))) (first_some (opposites_rule b ts) (first_some (single_rule b ts) None)))))

    to_repeats : (ts : List Tree) → Plain ts → has_repeat [] ts ≡ true → rules b ts ≡ Some (junction b (drop_repeats [] ts))
    unfolding rules
    to_repeats ts p r = λ i.
        first_some (then_some (p.0 i) (junction b (flatten b ts))) (first_some (then_some (p.1 i) (truth_constant (not b))) (first_some (then_some (p.2 i) (junction b (drop_units b ts))) (first_some (then_some (r i) (junction b (drop_repeats [] ts))) (first_some (opposites_rule b ts) (first_some (single_rule b ts) None)))))

    by_repeats : (ts : List Tree) → EachFixed ts → Plain ts → Normal (step set) (junction b ts) (check_opposites b (drop_repeats [] ts))
    by_repeats ts f p = go (has_repeat [] ts) refl
      where
        go : (c : Bool) → has_repeat [] ts ≡ c → Normal (step set) (junction b ts) (check_opposites b (drop_repeats [] ts))
        go true k =
            let g = fixed_drop_repeats [] ts f in
            let q : Plain (drop_repeats [] ts) = (has_drop_repeats (is_junction b) [] ts p.0, has_drop_repeats (is_truth_constant (not b)) [] ts p.1, has_drop_repeats (is_truth_constant b) [] ts p.2) in
            junction_changes b ts (junction b (drop_repeats [] ts)) (check_opposites b (drop_repeats [] ts)) f (to_repeats ts p k) (by_opposed (drop_repeats [] ts) g (to_opposed (drop_repeats [] ts) q (no_repeat [] ts)))
        go false k = subst (λ us. Normal (step set) (junction b ts) (check_opposites b us)) (sym (no_repeats_dropped [] ts k)) (by_opposed ts f (to_opposed ts p k))

    to_units : (ts : List Tree) → has (is_junction b) ts ≡ false → has (is_truth_constant (not b)) ts ≡ false → has (is_truth_constant b) ts ≡ true → rules b ts ≡ Some (junction b (drop_units b ts))
    unfolding rules
    to_units ts p q r = λ i.
        first_some (then_some (p i) (junction b (flatten b ts))) (first_some (then_some (q i) (truth_constant (not b))) (first_some (then_some (r i) (junction b (drop_units b ts))) (first_some (repeats_rule b ts) (first_some (opposites_rule b ts) (first_some (single_rule b ts) None)))))

    by_units : (ts : List Tree) → EachFixed ts → has (is_junction b) ts ≡ false → has (is_truth_constant (not b)) ts ≡ false → Normal (step set) (junction b ts) (check_opposites b (drop_repeats [] (drop_units b ts)))
    by_units ts f p q = go (has (is_truth_constant b) ts) refl
      where
        go : (c : Bool) → has (is_truth_constant b) ts ≡ c → Normal (step set) (junction b ts) (check_opposites b (drop_repeats [] (drop_units b ts)))
        go true k =
            junction_changes b ts (junction b (drop_units b ts)) (check_opposites b (drop_repeats [] (drop_units b ts))) f (to_units ts p q k)
            (by_repeats (drop_units b ts) (fixed_without b ts f) (has_without b (is_junction b) ts p, has_without b (is_truth_constant (not b)) ts q, no_units b ts))
        go false k = subst (λ us. Normal (step set) (junction b ts) (check_opposites b (drop_repeats [] us))) (sym (without_none b ts k)) (by_repeats ts f (p, q, k))

    to_absorbed : (ts : List Tree) → has (is_junction b) ts ≡ false → has (is_truth_constant (not b)) ts ≡ true → rules b ts ≡ Some (truth_constant (not b))
    unfolding rules
    to_absorbed ts p q = λ i.
        first_some (then_some (p i) (junction b (flatten b ts))) (first_some (then_some (q i) (truth_constant (not b))) (first_some (units_rule b ts) (first_some (repeats_rule b ts) (first_some (opposites_rule b ts) (first_some (single_rule b ts) None)))))

    by_absorbed : (ts : List Tree) → EachFixed ts → has (is_junction b) ts ≡ false → Normal (step set) (junction b ts) (absorb_constants b ts)
    by_absorbed ts f p = go (has (is_truth_constant (not b)) ts) refl
      where
        go : (c : Bool) → has (is_truth_constant (not b)) ts ≡ c → Normal (step set) (junction b ts) (cond c (truth_constant (not b)) (check_opposites b (drop_repeats [] (drop_units b ts))))
        go true k = junction_changes b ts (truth_constant (not b)) (truth_constant (not b)) f (to_absorbed ts p k) ((truth_normal set) (not b))
        go false k = by_units ts f p k

    to_flat : (ts : List Tree) → has (is_junction b) ts ≡ true → rules b ts ≡ Some (junction b (flatten b ts))
    unfolding rules
    to_flat ts p = λ i.
        first_some (then_some (p i) (junction b (flatten b ts))) (first_some (absorbing_rule b ts) (first_some (units_rule b ts) (first_some (repeats_rule b ts) (first_some (opposites_rule b ts) (first_some (single_rule b ts) None)))))

    pub junction_normal : (ts : List Tree) → EachFixed ts → Normal (step set) (junction b ts) (normal_junction b ts)
    junction_normal ts f = go (has (is_junction b) ts) refl
      where
        go : (c : Bool) → has (is_junction b) ts ≡ c → Normal (step set) (junction b ts) (absorb_constants b (flatten b ts))
        go true k = let r = flat b ts f in junction_changes b ts (junction b (flatten b ts)) (absorb_constants b (flatten b ts)) f (to_flat ts k) (by_absorbed (flatten b ts) r.0 r.1)
        go false k = subst (λ us. Normal (step set) (junction b ts) (absorb_constants b us)) (sym (flat_none b ts k)) (by_absorbed ts f k)

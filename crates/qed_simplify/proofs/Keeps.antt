-- Each rule keeps the meaning.
use Rattle.std.proofs.Common.{◌≡◌, inl, inr, ℕ, Bool, true, false, not, ◌&&◌, ◌||◌, cond, ℤ, pos, ◌+ℤ◌, ◌-ℤ◌, int_le, List, [], ◌∷◌, ◌++◌, map, refl, sym, ◌∙◌, ap}
use Rattle.std.specs.Prelude.{Option, Some, None, option_map}
use Rattle.qed_terms.specs.declared.head.Head.{Head}
use Rattle.qed_terms.specs.declared.head.Head.TheVariants as h
use Rattle.qed_terms.specs.declared.head.TermOp.{TermOp}
use Rattle.qed_terms.specs.declared.head.TermOp.TheVariants as op
use Rattle.qed_terms.specs.declared.head.FormOp.TheVariants as rel
use Rattle.qed_terms.specs.Setting.{Setting}
use Rattle.qed_terms.specs.Tree.{Tree, node, Trees, stop, more, trees_of, list_of, head_of, kids_in, two, three, num, at_most, equal, true_tree, false_tree, not_of}
use Rattle.qed_terms.specs.Operators.{is_zero, is_equal}
use Rattle.wp_base.specs.Blocks.{to_nat}
use Rattle.qed_terms.specs.Meaning.{World, Values, with_int, Value, Whole, Truth, is_so, value, truth, meaning, meanings, each_true, some_true}
use Rattle.qed_terms.proofs.Lists.{trees_of-list_of}
use Rattle.qed_terms.specs.Order.{same}
use Rattle.qed_linear.specs.Linear.{fits, Part, Lin, lin, number, is_number, part_tree, sum_tree, of_lin, subtract, is_integer, parts_fit, checked, head_form, to_lin, to_lins, common_divisor, divides, tighten, divide_exact, make_lead_positive}
use Rattle.qed_rules.specs.Rules.{Rule, is_formula, unless_same, changed, sums_rule, chosen_arm, choice_rule, truth_constant, at_most_zero, equals_zero, at_most_tree, equal_tree, less_rule, at_most_rule, equality_rule, implication_rule, equivalence_rule, nots, negated_relation, inward, negation_rule, junction, is_junction, is_truth_constant, has, among, among_some, flatten, drop_units, has_repeat, drop_repeats, is_opposed, flat_rule, absorbing_rule, units_rule, repeats_rule, opposites_rule, single_rule, at_junctions, empty_rule, single_range_rule, at_quantifiers, same_memory_rule, first_some, first_of_rules, step}
use Rattle.qed_numbers.specs.Numbers.{long_rule, number_step}
use Rattle.qed_numbers.proofs.Keeps.{long_keeps, numbers_keep}
use Rattle.qed_memories.specs.Alike.{Alike}
use Rattle.qed_memories.specs.Memories.{memory_step}
use Rattle.qed_memories.proofs.Keeps.{alike_where, memories_keep}
use Rattle.qed_linear.proofs.Facts.{and_left, and_right}
use Rattle.qed_numbers.proofs.Tests.{or_either, then_some_is, either, AllOf, first_one}
use Rattle.qed_terms.proofs.Total.{same_exact}
use Rattle.qed_simplify.specs.Normal.{KeepsCalls}
use Rattle.qed_simplify.proofs.Comparisons.{le_difference, lt_more, not_le, zero_less}
use Rattle.qed_simplify.proofs.Derived.{Fixed, AllFixed}
use Rattle.qed_simplify.proofs.Tables.{last_rules, junction_rules, formula_rules, other_rules, ruled, op_step, form_step, call_step}
use Rattle.qed_simplify.proofs.Sorts.{integer_whole, formula_truth}
use Rattle.qed_simplify.proofs.Quantified.{KeepsQuantifier, keeps_empty, keeps_single_range, keeps_same_memory}
use Rattle.qed_simplify.proofs.Settled.{Canonical, to_lin_canonical, to_lins_canonical, IsAtom, IsFactor, product_atom}
use Rattle.qed_linear.proofs.Canonical.{checked_canonical, subtract_canonical}
use Rattle.qed_linear.proofs.Multiplied.{head_form_canonical}
use Rattle.qed_linear.proofs.Values.{value_of, subtract_value, checked_value, number_value, to_lin_value, head_form_value, of_lin_value, tighten_value, divide_exact_value, never_zero, lead_positive_value}
use Rattle.qed_simplify.proofs.Truths.{both, both_assoc, both_comm, both_unit, both_absorber, both_itself, both_opposed, not_and, not_or, not_not, or_false, both_ways, some_not, all_not}

module _ (set : Setting) where
  module _ (world : World) (env : Values) where
    abbrev M : Tree → Value
    M = meaning world env

    abbrev V : Tree → ℤ
    V = value world env

    abbrev so : Tree → Bool
    so = truth world env

    abbrev Keeps : Rule → Type 0
    Keeps r = (head : Head) (ts : Trees) (w : Tree) → AllFixed (step set) ts → r head ts ≡ Some w → M w ≡ M (node head ts)

    truth_means : (b : Bool) → M (truth_constant b) ≡ Truth b
    truth_means true = refl
    truth_means false = refl

    unless_same_is : (w t v : Tree) → unless_same w t ≡ Some v → w ≡ v
    unless_same_is w t v k = go (same w t) k
      where
        go : (b : Bool) → cond b None (Some w) ≡ Some v → w ≡ v
        go true e = absurd cc
        go false e = cc

    -- ---- linear sums

    part_integer : (p : Part) → is_integer (head_of (p.atom)) ≡ true → is_integer (head_of (part_tree p)) ≡ true
    part_integer p k = go (is_equal (p.times) (pos 1))
      where
        go : (b : Bool) → is_integer (head_of (cond b (p.atom) (node (h.Term op.Mul) (two (num (p.times)) (p.atom))))) ≡ true
        go true = k
        go false = refl

    of_lin_integer : (ps : List Part) (c : ℤ) → parts_fit ps ≡ true → is_integer (head_of (of_lin (lin ps c))) ≡ true
    of_lin_integer [] c k = go (is_zero c)
      where
        go : (b : Bool) → is_integer (head_of (sum_tree (cond b [] (num c ∷ [])))) ≡ true
        go true = refl
        go false = refl
    of_lin_integer (p ∷ []) c k = go (is_zero c)
      where
        go : (b : Bool) → is_integer (head_of (sum_tree (part_tree p ∷ cond b [] (num c ∷ [])))) ≡ true
        go true = part_integer p (and_right (fits (p.times)) (is_integer (head_of (p.atom))) (and_left (fits (p.times) && is_integer (head_of (p.atom))) true k))
        go false = refl
    of_lin_integer (p ∷ q ∷ ps) c k = refl

    own_integer : (head : Head) (fs : List Lin) (g : Lin) → head_form head fs ≡ Some g → (ts : Trees) → M (node head ts) ≡ Whole (V (node head ts))
    own_integer (h.Num z) fs g e ts = refl
    own_integer (h.Term op.Store) fs g e ts = absurd cc
    own_integer (h.Term (op.Alloc layout)) fs g e ts = absurd cc
    own_integer (h.Term op.Grow) fs g e ts = absurd cc
    own_integer (h.Term o) fs g e ts = refl
    own_integer head fs g e ts = absurd cc

    keeps_sums : Keeps sums_rule
    keeps_sums head ts w f k = go (head_form head (to_lins ts)) refl k
      where
        go : (o : Option Lin) → head_form head (to_lins ts) ≡ o → changed of_lin o (node head ts) ≡ Some w → M w ≡ M (node head ts)
        go None e r = absurd cc
        go (Some g) e r =
            let good = head_form_canonical (IsAtom set) (IsFactor set) (product_atom set) head (to_lins ts) g ((to_lins_canonical set) ts f) e in
            ap M (sym (unless_same_is (of_lin g) (node head ts) w r)) ∙ integer_whole world env (of_lin g) (of_lin_integer (g.parts) (g.constant) good.1)
            ∙ ap Whole (of_lin_value world env g ∙ head_form_value world env head ts g e) ∙ sym (own_integer head (to_lins ts) g e ts)

    -- ---- chosen arm

    same_arm : (t u : Tree) → same t u && is_integer (head_of t) ≡ true → (V t ≡ V u) × (is_integer (head_of t) ≡ true)
    same_arm t u k = (ap V (same_exact t u (and_left (same t u) (is_integer (head_of t)) k)), and_right (same t u) (is_integer (head_of t)) k)

    -- both arms mean the same
    either_arm : (b : Bool) (t u : Tree) → V t ≡ V u → V t ≡ cond b (V t) (V u)
    either_arm true t u e = refl
    either_arm false t u e = e

    arm_means : (f t u w : Tree) → chosen_arm (head_of f) t u ≡ Some w → M w ≡ Whole (cond (so f) (V t) (V u))
    arm_means (node h.True ts) t u w k = let p = then_some_is (is_integer (head_of t)) t w k in ap M (sym p.1) ∙ integer_whole world env t p.0
    arm_means (node h.False ts) t u w k = let p = then_some_is (is_integer (head_of u)) u w k in ap M (sym p.1) ∙ integer_whole world env u p.0
    arm_means (node head ts) t u w k =
        let p = then_some_is (same t u && is_integer (head_of t)) t w k in
        let a = same_arm t u p.0 in
        ap M (sym p.1) ∙ integer_whole world env t a.1 ∙ ap Whole (either_arm (so (node head ts)) t u a.0)

    keeps_arm : Keeps choice_rule
    keeps_arm h.Ite (more f (more t (more u stop))) w k e = arm_means f t u w e
    keeps_arm head ts w f k = absurd cc

    -- ---- relations

    at_most_zero_means : (g : Lin) → M (at_most_zero g) ≡ Truth (int_le (value_of world env g) (pos 0))
    at_most_zero_means g = ap (λ z. Truth (int_le z (pos 0))) (of_lin_value world env g)

    at_most_means : (g : Lin) → (Canonical set) (g.parts) → M (at_most_tree g) ≡ Truth (int_le (value_of world env g) (pos 0))
    at_most_means g k = go (is_number g) refl
      where
        go : (b : Bool) → is_number g ≡ b → M (cond b (truth_constant (int_le (g.constant) (pos 0))) (at_most_zero (tighten g))) ≡ Truth (int_le (value_of world env g) (pos 0))
        go true e = truth_means (int_le (g.constant) (pos 0)) ∙ ap (λ z. Truth (int_le z (pos 0))) (sym (number_value world env g e))
        go false e = at_most_zero_means (tighten g) ∙ ap Truth (tighten_value world env (IsAtom set) g k e)

    zero_means : (g : Lin) → M (equals_zero g) ≡ Truth (is_zero (value_of world env g))
    zero_means g = ap (λ z. Truth (is_equal z (pos 0))) (of_lin_value world env g) ∙ ap Truth (zero_less (value_of world env g))

    equal_means : (g : Lin) → (Canonical set) (g.parts) → M (equal_tree g) ≡ Truth (is_zero (value_of world env g))
    equal_means g k = go (is_number g) (divides (common_divisor (g.parts)) (g.constant)) refl refl
      where
        go : (b c : Bool) → is_number g ≡ b → divides (common_divisor (g.parts)) (g.constant) ≡ c
            → M (cond b (truth_constant (is_zero (g.constant))) (cond c (equals_zero (make_lead_positive (divide_exact g))) false_tree)) ≡ Truth (is_zero (value_of world env g))
        go true c e d = truth_means (is_zero (g.constant)) ∙ ap (λ z. Truth (is_zero z)) (sym (number_value world env g e))
        go false true e d = zero_means (make_lead_positive (divide_exact g)) ∙ ap Truth (lead_positive_value world env (divide_exact g) ∙ divide_exact_value world env (IsAtom set) g k e d)
        go false false e d = ap Truth (sym (never_zero world env g d))

    -- the form of a difference
    difference_value : (t u : Tree) (g : Lin) → checked (subtract (to_lin t) (to_lin u)) ≡ Some g → value_of world env g ≡ V t -ℤ V u
    difference_value t u g e =
        let a = to_lin_value world env t in
        let b = to_lin_value world env u in
        checked_value world env (subtract (to_lin t) (to_lin u)) g e ∙ subtract_value world env (to_lin t) (to_lin u) ∙ (λ i. a i -ℤ b i)

    difference_canonical : (t u : Tree) (g : Lin) → Fixed (step set) t → Fixed (step set) u → checked (subtract (to_lin t) (to_lin u)) ≡ Some g → (Canonical set) (g.parts)
    difference_canonical t u g f k e = (checked_canonical (IsAtom set) (subtract (to_lin t) (to_lin u)) g (subtract_canonical (IsAtom set) (to_lin t) (to_lin u) ((to_lin_canonical set) t f) ((to_lin_canonical set) u k)) e).0.0

    keeps_less : Keeps less_rule
    keeps_less (h.Form rel.Less) (more t (more u stop)) w f k =
        let is : at_most (node (h.Term op.Add) (two t (num (pos 1)))) u ≡ w = cc in
        let e : V t +ℤ (pos 1 +ℤ pos 0) ≡ V t +ℤ pos 1 = refl in
        ap M (sym is) ∙ ap (λ z. Truth (int_le z (V u))) e ∙ ap Truth (lt_more (V t) (V u))
    keeps_less head ts w f k = absurd cc

    keeps_at_most : Keeps at_most_rule
    keeps_at_most (h.Form rel.AtMost) (more t (more u stop)) w f k = go (checked (subtract (to_lin t) (to_lin u))) refl k
      where
        go : (o : Option Lin) → checked (subtract (to_lin t) (to_lin u)) ≡ o → changed at_most_tree o (at_most t u) ≡ Some w → M w ≡ M (at_most t u)
        go None e r = absurd cc
        go (Some g) e r =
            ap M (sym (unless_same_is (at_most_tree g) (at_most t u) w r)) ∙ at_most_means g (difference_canonical t u g f.0 f.1.0 e)
            ∙ ap (λ z. Truth (int_le z (pos 0))) (difference_value t u g e) ∙ ap Truth (le_difference (V t) (V u))
    keeps_at_most head ts w f k = absurd cc

    keeps_equal : Keeps equality_rule
    keeps_equal (h.Form rel.Equal) (more t (more u stop)) w f k = go (checked (subtract (to_lin t) (to_lin u))) refl k
      where
        go : (o : Option Lin) → checked (subtract (to_lin t) (to_lin u)) ≡ o → changed equal_tree o (equal t u) ≡ Some w → M w ≡ M (equal t u)
        go None e r = absurd cc
        go (Some g) e r =
            ap M (sym (unless_same_is (equal_tree g) (equal t u) w r)) ∙ equal_means g (difference_canonical t u g f.0 f.1.0 e)
            ∙ ap (λ z. Truth (is_zero z)) (difference_value t u g e)
    keeps_equal head ts w f k = absurd cc

    -- ---- implication, equivalence, negation

    keeps_imp : Keeps implication_rule
    keeps_imp h.Imp (more a (more b stop)) w f k =
        let is : node h.Or (two (not_of a) b) ≡ w = cc in
        ap M (sym is) ∙ ap (λ z. Truth (not (so a) || z)) (or_false (so b))
    keeps_imp head ts w f k = absurd cc

    keeps_iff : Keeps equivalence_rule
    keeps_iff h.Iff (more a (more b stop)) w f k =
        let is : node h.And (two (node h.Or (two (not_of a) b)) (node h.Or (two a (not_of b)))) ≡ w = cc in
        ap M (sym is) ∙ ap Truth (both_ways (so a) (so b))
    keeps_iff head ts w f k = absurd cc

    abbrev each_so : Trees → Bool
    each_so ts = each_true (map is_so (meanings world env ts))

    abbrev some_so : Trees → Bool
    some_so ts = some_true (map is_so (meanings world env ts))

    nots_some : (ts : Trees) → some_so (nots ts) ≡ not (each_so ts)
    nots_some stop = refl
    nots_some (more t ts) = ap (λ b. not (so t) || b) (nots_some ts) ∙ sym (not_and (so t) (each_so ts))

    nots_each : (ts : Trees) → each_so (nots ts) ≡ not (some_so ts)
    nots_each stop = refl
    nots_each (more t ts) = ap (λ b. not (so t) && b) (nots_each ts) ∙ sym (not_or (so t) (some_so ts))

    negated_at_most_means : (a u w : Tree) → negated_relation (at_most a u) ≡ Some w → M w ≡ Truth (not (so (at_most a u)))
    negated_at_most_means a u w k = go (same u (num (pos 0))) refl k
      where
        at : u ≡ num (pos 0) → (o : Option Lin) → checked (subtract (number (pos 1)) (to_lin a)) ≡ o → option_map at_most_zero o ≡ Some w → M w ≡ Truth (not (so (at_most a u)))
        at z None e q = absurd cc
        at z (Some g) e q =
            let is : at_most_zero g ≡ w = cc in
            let one_value = number_value world env (number (pos 1)) refl in
            let v = to_lin_value world env a in
            ap M (sym is) ∙ at_most_zero_means g ∙ ap (λ z. Truth (int_le z (pos 0))) (checked_value world env (subtract (number (pos 1)) (to_lin a)) g e ∙ subtract_value world env (number (pos 1)) (to_lin a) ∙ (λ i. one_value i -ℤ v i))
            ∙ ap Truth (not_le (V a)) ∙ ap (λ t. Truth (not (int_le (V a) (V t)))) (sym z)

        go : (b : Bool) → same u (num (pos 0)) ≡ b → cond b (option_map at_most_zero (checked (subtract (number (pos 1)) (to_lin a)))) None ≡ Some w → M w ≡ Truth (not (so (at_most a u)))
        go true e q = at (same_exact u (num (pos 0)) e) (checked (subtract (number (pos 1)) (to_lin a))) refl q
        go false e q = absurd cc

    negated_relation_means : (t w : Tree) → negated_relation t ≡ Some w → M w ≡ Truth (not (so t))
    negated_relation_means (node (h.Form rel.AtMost) (more a (more u stop))) w k = negated_at_most_means a u w k
    negated_relation_means t w k = absurd cc

    inward_means : (t w : Tree) → inward (head_of t) (kids_in t) ≡ Some w → M w ≡ Truth (not (so t))
    inward_means (node h.True ts) w k = let is : false_tree ≡ w = cc in ap M (sym is)
    inward_means (node h.False ts) w k = let is : true_tree ≡ w = cc in ap M (sym is)
    inward_means (node h.Not (more f stop)) w k =
        let p = then_some_is (is_formula (head_of f)) f w k in
        ap M (sym p.1) ∙ formula_truth world env f p.0 ∙ ap Truth (sym (not_not (so f)))
    inward_means (node h.And ts) w k = let is : node h.Or (nots ts) ≡ w = cc in ap M (sym is) ∙ ap Truth (nots_some ts)
    inward_means (node h.Or ts) w k = let is : node h.And (nots ts) ≡ w = cc in ap M (sym is) ∙ ap Truth (nots_each ts)
    inward_means (node (h.Forall x) (more t (more u (more f stop)))) w k =
        let is : node (h.Exists x) (three t u (not_of f)) ≡ w = cc in
        ap M (sym is) ∙ ap Truth (some_not (V t) (to_nat (V u -ℤ V t)) (λ z. truth world (with_int env x z) f))
    inward_means (node (h.Exists x) (more t (more u (more f stop)))) w k =
        let is : node (h.Forall x) (three t u (not_of f)) ≡ w = cc in
        ap M (sym is) ∙ ap Truth (all_not (V t) (to_nat (V u -ℤ V t)) (λ z. truth world (with_int env x z) f))
    inward_means (node (h.Form o) ts) w k = negated_relation_means (node (h.Form o) ts) w k
    inward_means t w k = absurd cc

    keeps_not : Keeps negation_rule
    keeps_not h.Not (more t stop) w f k = inward_means t w k
    keeps_not head ts w f k = absurd cc

    -- ---- `and`, `or`

    abbrev said : Bool → List Tree → Bool
    said b [] = b
    said b (t ∷ ts) = both b (so t) (said b ts)

    junction_means : (b : Bool) (ts : List Tree) → M (junction b ts) ≡ Truth (said b ts)
    unfolding both
    junction_means true ts = ap Truth (go ts)
      where
        go : (us : List Tree) → each_so (trees_of us) ≡ said true us
        go [] = refl
        go (t ∷ us) = ap (λ b. so t && b) (go us)
    junction_means false ts = ap Truth (go ts)
      where
        go : (us : List Tree) → some_so (trees_of us) ≡ said false us
        go [] = refl
        go (t ∷ us) = ap (λ b. so t || b) (go us)

    said_append : (b : Bool) (ts us : List Tree) → said b (ts ++ us) ≡ both b (said b ts) (said b us)
    said_append b [] us = sym (both_unit b (said b us))
    said_append b (t ∷ ts) us = ap (both b (so t)) (said_append b ts us) ∙ sym (both_assoc b (so t) (said b ts) (said b us))

    -- a rule on the operands keeps what they say together
    abbrev KeepsJunction : (Bool → List Tree → Option Tree) → Type 0
    KeepsJunction rule = (b : Bool) (ts : List Tree) (w : Tree) → rule b ts ≡ Some w → M w ≡ Truth (said b ts)

    at_junctions_keep : (rule : Bool → List Tree → Option Tree) → KeepsJunction rule → Keeps (at_junctions rule)
    at_junctions_keep rule cons_nonzero h.And ts w f k = cons_nonzero true (list_of ts) w k ∙ sym (junction_means true (list_of ts)) ∙ ap (λ us. M (node h.And us)) (trees_of-list_of ts)
    at_junctions_keep rule cons_nonzero h.Or ts w f k = cons_nonzero false (list_of ts) w k ∙ sym (junction_means false (list_of ts)) ∙ ap (λ us. M (node h.Or us)) (trees_of-list_of ts)
    at_junctions_keep rule cons_nonzero head ts w f k = absurd cc

    -- the operands of an operand of the same kind say what it says
    parts_say : (b : Bool) (t : Tree) → is_junction b t ≡ true → said b (list_of (kids_in t)) ≡ so t
    parts_say true (node h.And ts) k = ap is_so (sym (junction_means true (list_of ts))) ∙ ap (λ us. so (node h.And us)) (trees_of-list_of ts)
    parts_say false (node h.Or ts) k = ap is_so (sym (junction_means false (list_of ts))) ∙ ap (λ us. so (node h.Or us)) (trees_of-list_of ts)
    parts_say b t k = absurd cc

    flat_said : (b : Bool) (ts : List Tree) → said b (flatten b ts) ≡ said b ts
    flat_said b [] = refl
    flat_said b (t ∷ ts) = go (flat_said b ts) (is_junction b t) refl
      where
        go : said b (flatten b ts) ≡ said b ts → (c : Bool) → is_junction b t ≡ c → said b (cond c (list_of (kids_in t)) (t ∷ []) ++ flatten b ts) ≡ both b (so t) (said b ts)
        go r true e = let q = parts_say b t e in said_append b (list_of (kids_in t)) (flatten b ts) ∙ (λ i. both b (q i) (r i))
        go r false e = ap (both b (so t)) r

    keeps_flat : KeepsJunction flat_rule
    keeps_flat b ts w k =
        let p = then_some_is (has (is_junction b) ts) (junction b (flatten b ts)) w k in
        ap M (sym p.1) ∙ junction_means b (flatten b ts) ∙ ap Truth (flat_said b ts)

    truth_said : (b : Bool) (t : Tree) → is_truth_constant b t ≡ true → so t ≡ b
    truth_said true (node h.True ts) k = refl
    truth_said false (node h.False ts) k = refl
    truth_said b t k = absurd cc

    absorbed : (b : Bool) (ts : List Tree) → has (is_truth_constant (not b)) ts ≡ true → said b ts ≡ not b
    absorbed b [] k = absurd cc
    absorbed b (t ∷ ts) k = elim (or_either (is_truth_constant (not b) t) (has (is_truth_constant (not b)) ts) k) [
      | inl e ↦ ap (λ c. both b c (said b ts)) (truth_said (not b) t e) ∙ both_absorber b (said b ts)
      | inr e ↦ ap (both b (so t)) (absorbed b ts e) ∙ both_comm b (so t) (not b) ∙ both_absorber b (so t)
    ]

    keeps_absorb : KeepsJunction absorbing_rule
    keeps_absorb b ts w k =
        let p = then_some_is (has (is_truth_constant (not b)) ts) (truth_constant (not b)) w k in
        ap M (sym p.1) ∙ truth_means (not b) ∙ ap Truth (sym (absorbed b ts p.0))

    without_said : (b : Bool) (ts : List Tree) → said b (drop_units b ts) ≡ said b ts
    without_said b [] = refl
    without_said b (t ∷ ts) = go (without_said b ts) (is_truth_constant b t) refl
      where
        go : said b (drop_units b ts) ≡ said b ts → (c : Bool) → is_truth_constant b t ≡ c → said b (cond c (drop_units b ts) (t ∷ drop_units b ts)) ≡ both b (so t) (said b ts)
        go r true e = r ∙ sym (ap (λ c. both b c (said b ts)) (truth_said b t e) ∙ both_unit b (said b ts))
        go r false e = ap (both b (so t)) r

    keeps_units : KeepsJunction units_rule
    keeps_units b ts w k =
        let p = then_some_is (has (is_truth_constant b) ts) (junction b (drop_units b ts)) w k in
        ap M (sym p.1) ∙ junction_means b (drop_units b ts) ∙ ap Truth (without_said b ts)

    -- an operand that is there already says nothing more
    among_said : (b : Bool) (t : Tree) (ts : List Tree) → among t ts ≡ true → both b (so t) (said b ts) ≡ said b ts
    among_said b t [] k = absurd cc
    among_said b t (u ∷ ts) k = elim (or_either (same t u) (among t ts) k) [
      | inl e ↦ ap (λ z. both b (so z) (both b (so u) (said b ts))) (same_exact t u e) ∙ both_itself b (so u) (said b ts)
      | inr e ↦
          sym (both_assoc b (so t) (so u) (said b ts)) ∙ ap (λ c. both b c (said b ts)) (both_comm b (so t) (so u))
          ∙ both_assoc b (so u) (so t) (said b ts) ∙ ap (both b (so u)) (among_said b t ts e)
    ]

    one_said : (b : Bool) (t : Tree) → both b (so t) b ≡ so t
    one_said b t = both_comm b (so t) b ∙ both_unit b (so t)

    drop_repeats_said : (b : Bool) (seen ts : List Tree) → both b (said b seen) (said b (drop_repeats seen ts)) ≡ both b (said b seen) (said b ts)
    drop_repeats_said b seen [] = refl
    drop_repeats_said b seen (t ∷ ts) = go (drop_repeats_said b seen ts) (drop_repeats_said b (seen ++ t ∷ []) ts) (among t seen) refl
      where
        go : both b (said b seen) (said b (drop_repeats seen ts)) ≡ both b (said b seen) (said b ts)
            → both b (said b (seen ++ t ∷ [])) (said b (drop_repeats (seen ++ t ∷ []) ts)) ≡ both b (said b (seen ++ t ∷ [])) (said b ts) → (c : Bool) → among t seen ≡ c → both b (said b seen) (said b (cond c (drop_repeats seen ts) (t ∷ drop_repeats (seen ++ t ∷ []) ts))) ≡ both b (said b seen) (both b (so t) (said b ts))
        go r q true e =
            r ∙ ap (λ c. both b c (said b ts)) (sym (both_comm b (said b seen) (so t) ∙ among_said b t seen e))
            ∙ both_assoc b (said b seen) (so t) (said b ts)
        go r q false e =
            let more_said = said_append b seen (t ∷ []) ∙ ap (both b (said b seen)) (one_said b t) in
            sym (both_assoc b (said b seen) (so t) (said b (drop_repeats (seen ++ t ∷ []) ts))) ∙ ap (λ c. both b c (said b (drop_repeats (seen ++ t ∷ []) ts))) (sym more_said)
            ∙ q ∙ ap (λ c. both b c (said b ts)) more_said ∙ both_assoc b (said b seen) (so t) (said b ts)

    keeps_repeats : KeepsJunction repeats_rule
    keeps_repeats b ts w k =
        let p = then_some_is (has_repeat [] ts) (junction b (drop_repeats [] ts)) w k in
        ap M (sym p.1) ∙ junction_means b (drop_repeats [] ts) ∙ ap Truth (sym (both_unit b (said b (drop_repeats [] ts))) ∙ drop_repeats_said b [] ts ∙ both_unit b (said b ts))

    -- an operand and its `not`
    opposite_said : (b : Bool) (t w : Tree) (ts : List Tree) → M w ≡ Truth (not (so t)) → among w ts ≡ true → both b (so t) (said b ts) ≡ not b
    opposite_said b t w ts e k =
        ap (both b (so t)) (sym (among_said b w ts k)) ∙ sym (both_assoc b (so t) (so w) (said b ts))
        ∙ ap (λ c. both b (both b (so t) c) (said b ts)) (ap is_so e) ∙ ap (λ c. both b c (said b ts)) (both_opposed b (so t)) ∙ both_absorber b (said b ts)

    opposed_at : (b : Bool) (t : Tree) (ts : List Tree) → is_opposed ts t ≡ true → both b (so t) (said b ts) ≡ not b
    opposed_at b t ts k = elim (or_either (among (not_of t) ts) (among_some (negated_relation t) ts) k) [
      | inl e ↦ opposite_said b t (not_of t) ts refl e
      | inr e ↦ go (negated_relation t) refl e
    ]
      where
        go : (o : Option Tree) → negated_relation t ≡ o → among_some o ts ≡ true → both b (so t) (said b ts) ≡ not b
        go None e q = absurd cc
        go (Some w) e q = opposite_said b t w ts (negated_relation_means t w e) q

    opposed : (b : Bool) (all ts : List Tree) → has (is_opposed all) ts ≡ true → both b (said b ts) (said b all) ≡ not b
    opposed b all [] k = absurd cc
    opposed b all (t ∷ ts) k = elim (or_either (is_opposed all t) (has (is_opposed all) ts) k) [
      | inl e ↦
          ap (λ c. both b c (said b all)) (both_comm b (so t) (said b ts)) ∙ both_assoc b (said b ts) (so t) (said b all)
          ∙ ap (both b (said b ts)) (opposed_at b t all e) ∙ both_comm b (said b ts) (not b) ∙ both_absorber b (said b ts)
      | inr e ↦ both_assoc b (so t) (said b ts) (said b all) ∙ ap (both b (so t)) (opposed b all ts e) ∙ both_comm b (so t) (not b) ∙ both_absorber b (so t)
    ]

    both_same : (b x : Bool) → both b x x ≡ x
    unfolding both
    both_same true true = refl
    both_same true false = refl
    both_same false true = refl
    both_same false false = refl

    keeps_oppose : KeepsJunction opposites_rule
    keeps_oppose b ts w k =
        let p = then_some_is (has (is_opposed ts) ts) (truth_constant (not b)) w k in
        ap M (sym p.1) ∙ truth_means (not b) ∙ ap Truth (sym (sym (both_same b (said b ts)) ∙ opposed b ts ts p.0))

    keeps_single : KeepsJunction single_rule
    keeps_single b [] w k = let is : truth_constant b ≡ w = cc in ap M (sym is) ∙ truth_means b
    keeps_single b (t ∷ []) w k =
        let p = then_some_is (is_formula (head_of t)) t w k in
        ap M (sym p.1) ∙ formula_truth world env t p.0 ∙ ap Truth (sym (one_said b t))
    keeps_single b (t ∷ u ∷ ts) w k = absurd cc

    -- ---- quantifiers, memories

    at_quantifiers_keep : (rule : Bool → List ℕ → Tree → Tree → Tree → Option Tree) → KeepsQuantifier world env rule → Keeps (at_quantifiers rule)
    at_quantifiers_keep rule keep (h.Forall x) (more t (more u (more f stop))) w fixed k = keep true x t u f w k
    at_quantifiers_keep rule keep (h.Exists x) (more t (more u (more f stop))) w fixed k = keep false x t u f w k
    at_quantifiers_keep rule keep head ts w fixed k = absurd cc

    keeps_memory : Keeps same_memory_rule
    keeps_memory head ts w f k = keeps_same_memory world env head ts w k

    -- ---- the table

    last_keep : AllOf Keeps last_rules
    last_keep = (at_quantifiers_keep empty_rule (keeps_empty world env), (at_quantifiers_keep single_range_rule (keeps_single_range world env), (keeps_memory, tt)))

    junctions_keep : AllOf Keeps junction_rules
    junctions_keep = (
      at_junctions_keep flat_rule keeps_flat,
      (at_junctions_keep absorbing_rule keeps_absorb, (at_junctions_keep units_rule keeps_units, (at_junctions_keep repeats_rule keeps_repeats, (at_junctions_keep opposites_rule keeps_oppose, (at_junctions_keep single_rule keeps_single, last_keep))))),
    )

    formulas_keep : AllOf Keeps formula_rules
    formulas_keep = (keeps_less, (keeps_at_most, (keeps_equal, (keeps_imp, (keeps_iff, (keeps_not, junctions_keep))))))

    others_keep : AllOf Keeps other_rules
    others_keep = (keeps_sums, (keeps_arm, formulas_keep))

    -- one of these rules, and one on memories and tables
    by_one : (rs : List Rule) → AllOf Keeps rs → (head : Head) (ts : Trees) (w : Tree) → AllFixed (step set) ts → first_of_rules rs head ts ≡ Some w → Alike (M w) (M (node head ts))
    by_one rs a head ts w f k = let r = first_one Keeps rs a head ts w k in alike_where (M w) (M (node head ts)) (r.1.0 head ts w f r.1.1)

    by_memory : (head : Head) (ts : Trees) (w : Tree) → memory_step head ts ≡ Some w → Alike (M w) (M (node head ts))
    by_memory head ts w k = memories_keep head ts w k world env

    by_number : world.long_bits ≡ set.long_bits → (o : TermOp) (ts : Trees) (w : Tree) → ruled set.long_bits o ts ≡ Some w → M w ≡ M (node (h.Term o) ts)
    by_number same o ts w k = elim (either (number_step (h.Term o) ts) (long_rule set.long_bits (h.Term o) ts) w k) [
      | inl e ↦ numbers_keep o ts w e world env
      | inr e ↦ long_keeps set.long_bits o ts w e world env same
    ]

    pub step_keeps : world.long_bits ≡ set.long_bits → KeepsCalls set world → (head : Head) (ts : Trees) (w : Tree) → AllFixed (step set) ts → step set (node head ts) ≡ Some w → Alike (M w) (M (node head ts))
    step_keeps same calls (h.Term o) ts w f k = elim (either (sums_rule (h.Term o) ts) (first_some (ruled set.long_bits o ts) (memory_step (h.Term o) ts)) w (sym (op_step set o ts) ∙ k)) [
      | inl e ↦ alike_where (M w) (M (node (h.Term o) ts)) (keeps_sums (h.Term o) ts w f e)
      | inr e ↦ elim (either (ruled set.long_bits o ts) (memory_step (h.Term o) ts) w e) [
        | inl n ↦ alike_where (M w) (M (node (h.Term o) ts)) (by_number same o ts w n)
        | inr n ↦ by_memory (h.Term o) ts w n
      ]
    ]
    step_keeps same calls (h.Form o) ts w f k = elim (either (memory_step (h.Form o) ts) (first_of_rules formula_rules (h.Form o) ts) w (sym (form_step set o ts) ∙ k)) [
      | inl e ↦ by_memory (h.Form o) ts w e
      | inr e ↦ by_one formula_rules formulas_keep (h.Form o) ts w f e
    ]
    step_keeps same calls (h.App x) ts w f k = alike_where (M w) (M (node (h.App x) ts)) (calls (h.App x) ts w (sym (call_step set x ts) ∙ k) env)
    step_keeps same calls head ts w f k = by_one other_rules others_keep head ts w f k

-- No rule makes the weight rise, and one on quantifiers makes it fall. So a normal form weighs no more than its tree.
use Rattle.std.proofs.Common.{◌≡◌, inl, inr, ℕ, max, ◌<◌, ◌≤◌, Bool, true, false, not, ◌&&◌, ◌||◌, cond, pos, int_le, List, [], ◌∷◌, ◌++◌, refl, sym, ◌∙◌, ap, arith}
use Rattle.std.specs.Prelude.{Option, Some, None, option_map}
use Rattle.qed_terms.specs.declared.head.Head.{Head}
use Rattle.qed_terms.specs.declared.head.Head.TheVariants as h
use Rattle.qed_terms.specs.declared.head.TermOp.{TermOp}
use Rattle.qed_terms.specs.declared.head.TermOp.TheVariants as op
use Rattle.qed_terms.specs.declared.head.FormOp.TheVariants as rel
use Rattle.qed_terms.specs.Setting.{Setting, is_regular}
use Rattle.qed_terms.specs.Tree.{Tree, node, Trees, stop, more, list_of, head_of, kids_in, two, three, num, at_most, equal, not_of}
use Rattle.qed_terms.specs.Operators.{is_zero}
use Rattle.qed_terms.specs.Order.{same}
use Rattle.qed_terms.proofs.Lists.{trees_of-list_of}
use Rattle.qed_linear.specs.Linear.{Lin, number, is_number, of_lin, subtract, is_integer, checked, head_form, to_lin, to_lins, common_divisor, divides, tighten, divide_exact, make_lead_positive}
use Rattle.qed_rules.specs.Rules.{Rule, is_formula, unless_same, changed, sums_rule, chosen_arm, choice_rule, truth_constant, at_most_zero, equals_zero, at_most_tree, equal_tree, less_rule, at_most_rule, equality_rule, implication_rule, equivalence_rule, nots, negated_relation_at, inward, negation_rule, junction, is_junction, is_truth_constant, has, among, flatten, drop_units, has_repeat, drop_repeats, is_opposed, flat_rule, absorbing_rule, units_rule, repeats_rule, opposites_rule, single_rule, at_junctions, is_empty_between, is_single_range, is_instance, empty_rule, single_range_rule, at_quantifiers, is_same_memory, same_memory_rule, then_some, first_some, first_of_rules, step}
use Rattle.qed_substitution.specs.Substitution.{replace, may_replace}
use Rattle.qed_numbers.specs.Numbers.{number_at, times_number, number_step}
use Rattle.qed_numbers.specs.Laws.{IsKid, Outcome}
use Rattle.qed_numbers.proofs.Outcomes.{numbers_answer}
use Rattle.qed_numbers.proofs.Tests.{then_some_is, either, AllOf, first_one}
use Rattle.qed_memories.specs.Memories.{memory_step}
use Rattle.qed_linear.proofs.Facts.{and_right}
use Rattle.qed_simplify.proofs.Tables.{last_rules, junction_rules, formula_rules, other_rules, ruled, ruled_answers, op_step, form_step, call_step}
use Rattle.qed_calls.proofs.Keeps.{regular_functions}
use Rattle.qed_simplify.proofs.Calls.{base_light}
use Rattle.qed_simplify.proofs.MemoryWeights.{memory_light}
use Rattle.qed_simplify.proofs.Weights.{Numbers, weight, weights, replaced_lighter}
use Rattle.qed_simplify.proofs.Forms.{form_weight, subtract_weight, checked_weight, to_lin_weight, head_form_weight, all_weight, all_append, of_lin_weight, tighten_weight, divide_exact_weight, lead_positive_weight}

module _ (set : Setting) where
  module _ (e : Numbers) where
    abbrev W : Tree → ℕ
    W t = weight t e

    -- the rule makes no node heavier
    abbrev NoHeavier : Rule → Type 0
    NoHeavier r = (head : Head) (ts : Trees) (w : Tree) → r head ts ≡ Some w → W w ≤ W (node head ts)

    same_weight : (t u : Tree) → t ≡ u → W t ≡ W u
    same_weight t u q = ap W q

    unless_same_weight : (w t v : Tree) → unless_same w t ≡ Some v → W v ≡ W w
    unless_same_weight w t v k = go (same w t) k
      where
        go : (b : Bool) → cond b None (Some w) ≡ Some v → W v ≡ W w
        go true q = absurd cc
        go false q = let is : v ≡ w = cc in same_weight v w is

    truth_weight : (b : Bool) → W (truth_constant b) ≡ 0
    truth_weight true = refl
    truth_weight false = refl

    -- ---- sums, choice

    sums : NoHeavier sums_rule
    sums head ts w k = go (head_form head (to_lins ts)) refl k
      where
        go : (o : Option Lin) → head_form head (to_lins ts) ≡ o → changed of_lin o (node head ts) ≡ Some w → W w ≤ W (node head ts)
        go None q r = absurd cc
        go (Some g) q r = let a = unless_same_weight (of_lin g) (node head ts) w r in let b = of_lin_weight e g in let c = head_form_weight e head ts g q in omega (arith, a, b, c)

    chosen : (g : Head) (t u w : Tree) → chosen_arm g t u ≡ Some w → W w ≤ max (W t) (W u)
    chosen h.True t u w k = let a = same_weight t w (then_some_is (is_integer (head_of t)) t w k).1 in omega (arith, a)
    chosen h.False t u w k = let a = same_weight u w (then_some_is (is_integer (head_of u)) u w k).1 in omega (arith, a)
    chosen g t u w k = let a = same_weight t w (then_some_is (same t u && is_integer (head_of t)) t w k).1 in omega (arith, a)

    choice : NoHeavier choice_rule
    choice h.Ite (more f (more t (more u stop))) w k = let a = chosen (head_of f) t u w k in omega (arith, a)
    choice head ts w k = absurd cc

    -- ---- relations

    less : NoHeavier less_rule
    less (h.Form rel.Less) (more t (more u stop)) w k = let a = same_weight (at_most (node (h.Term op.Add) (two t (num (pos 1)))) u) w cc in omega (arith, a)
    less head ts w k = absurd cc

    at_most_weight : (g : Lin) → W (at_most_tree g) ≤ form_weight e g
    at_most_weight g = go (is_number g)
      where
        go : (b : Bool) → W (cond b (truth_constant (int_le (g.constant) (pos 0))) (at_most_zero (tighten g))) ≤ form_weight e g
        go true = let a = truth_weight (int_le (g.constant) (pos 0)) in omega (arith, a)
        go false = let a = of_lin_weight e (tighten g) in let b = tighten_weight e g in omega (arith, a, b)

    equal_weight : (g : Lin) → W (equal_tree g) ≤ form_weight e g
    equal_weight g = go (is_number g) (divides (common_divisor (g.parts)) (g.constant))
      where
        go : (b c : Bool) → W (cond b (truth_constant (is_zero (g.constant))) (cond c (equals_zero (make_lead_positive (divide_exact g))) (truth_constant false))) ≤ form_weight e g
        go true c = let a = truth_weight (is_zero (g.constant)) in omega (arith, a)
        go false true =
            let a = of_lin_weight e (make_lead_positive (divide_exact g)) in
            let b = lead_positive_weight e (divide_exact g) in
            let c = divide_exact_weight e g in
            omega (arith, a, b, c)
        go false false = omega arith

    difference_weight : (t u : Tree) (g : Lin) → checked (subtract (to_lin t) (to_lin u)) ≡ Some g → form_weight e g ≤ max (W t) (W u)
    difference_weight t u g k =
        let a = checked_weight e (subtract (to_lin t) (to_lin u)) g k in
        let b = subtract_weight e (to_lin t) (to_lin u) in
        let c = to_lin_weight e t in
        let d = to_lin_weight e u in
        omega (arith, a, b, c, d)

    by_difference : (make : Lin → Tree) → ((g : Lin) → W (make g) ≤ form_weight e g) → (t u v w : Tree) → changed make (checked (subtract (to_lin t) (to_lin u))) v ≡ Some w → W w ≤ max (W t) (W u)
    by_difference make made t u v w k = go (checked (subtract (to_lin t) (to_lin u))) refl k
      where
        go : (o : Option Lin) → checked (subtract (to_lin t) (to_lin u)) ≡ o → changed make o v ≡ Some w → W w ≤ max (W t) (W u)
        go None q r = absurd cc
        go (Some g) q r = let a = unless_same_weight (make g) v w r in let b = made g in let c = difference_weight t u g q in omega (arith, a, b, c)

    at_mosts : NoHeavier at_most_rule
    at_mosts (h.Form rel.AtMost) (more t (more u stop)) w k = let a = by_difference at_most_tree at_most_weight t u (at_most t u) w k in omega (arith, a)
    at_mosts head ts w k = absurd cc

    equals : NoHeavier equality_rule
    equals (h.Form rel.Equal) (more t (more u stop)) w k = let a = by_difference equal_tree equal_weight t u (equal t u) w k in omega (arith, a)
    equals head ts w k = absurd cc

    -- ---- implication, equivalence, negation

    implication : NoHeavier implication_rule
    implication h.Imp (more a (more b stop)) w k = let p = same_weight (node h.Or (two (not_of a) b)) w cc in omega (arith, p)
    implication head ts w k = absurd cc

    equivalence : NoHeavier equivalence_rule
    equivalence h.Iff (more a (more b stop)) w k = let p = same_weight (node h.And (two (node h.Or (two (not_of a) b)) (node h.Or (two a (not_of b))))) w cc in omega (arith, p)
    equivalence head ts w k = absurd cc

    nots_weight : (ts : Trees) → weights (nots ts) e ≡ weights ts e
    nots_weight stop = refl
    nots_weight (more t ts) = let a = nots_weight ts in omega (arith, a)

    negated : (head : Head) (ts : Trees) (w : Tree) → negated_relation_at head ts ≡ Some w → W w ≤ W (node head ts)
    negated (h.Form rel.AtMost) (more t (more u stop)) w k = go (same u (num (pos 0))) k
      where
        at : (o : Option Lin) → checked (subtract (number (pos 1)) (to_lin t)) ≡ o → option_map at_most_zero o ≡ Some w → W w ≤ max (W t) (max (W u) 0)
        at None q r = absurd cc
        at (Some g) q r =
            let a = same_weight (at_most_zero g) w cc in
            let b = of_lin_weight e g in
            let c = checked_weight e (subtract (number (pos 1)) (to_lin t)) g q in
            let d = subtract_weight e (number (pos 1)) (to_lin t) in
            let f = to_lin_weight e t in
            omega (arith, a, b, c, d, f)

        go : (b : Bool) → cond b (option_map at_most_zero (checked (subtract (number (pos 1)) (to_lin t)))) None ≡ Some w → W w ≤ max (W t) (max (W u) 0)
        go true q = at (checked (subtract (number (pos 1)) (to_lin t))) refl q
        go false q = absurd cc
    negated head ts w k = absurd cc

    inwards : (t w : Tree) → inward (head_of t) (kids_in t) ≡ Some w → W w ≤ W t
    inwards (node h.True ts) w k = let a = same_weight (truth_constant false) w cc in omega (arith, a)
    inwards (node h.False ts) w k = let a = same_weight (truth_constant true) w cc in omega (arith, a)
    inwards (node h.Not (more f stop)) w k = let a = same_weight f w (then_some_is (is_formula (head_of f)) f w k).1 in omega (arith, a)
    inwards (node h.And ts) w k = let a = same_weight (node h.Or (nots ts)) w cc in let b = nots_weight ts in omega (arith, a, b)
    inwards (node h.Or ts) w k = let a = same_weight (node h.And (nots ts)) w cc in let b = nots_weight ts in omega (arith, a, b)
    inwards (node (h.Forall x) (more t (more u (more f stop)))) w k = let a = same_weight (node (h.Exists x) (three t u (not_of f))) w cc in omega (arith, a)
    inwards (node (h.Exists x) (more t (more u (more f stop)))) w k = let a = same_weight (node (h.Forall x) (three t u (not_of f))) w cc in omega (arith, a)
    inwards (node (h.Form o) ts) w k = negated (h.Form o) ts w k
    inwards t w k = absurd cc

    negation : NoHeavier negation_rule
    negation h.Not (more t stop) w k = let a = inwards t w k in omega (arith, a)
    negation head ts w k = absurd cc

    -- ---- junctions

    abbrev Light : (Bool → List Tree → Option Tree) → Type 0
    Light rule = (b : Bool) (ts : List Tree) (w : Tree) → rule b ts ≡ Some w → W w ≤ all_weight e ts

    junction_weight : (b : Bool) (ts : List Tree) → W (junction b ts) ≡ all_weight e ts
    junction_weight true ts = refl
    junction_weight false ts = refl

    at_junction : (rule : Bool → List Tree → Option Tree) → Light rule → NoHeavier (at_junctions rule)
    at_junction rule light h.And ts w k = let a = light true (list_of ts) w k in let b = ap (λ us. weights us e) (trees_of-list_of ts) in omega (arith, a, b)
    at_junction rule light h.Or ts w k = let a = light false (list_of ts) w k in let b = ap (λ us. weights us e) (trees_of-list_of ts) in omega (arith, a, b)
    at_junction rule light head ts w k = absurd cc

    operands_weight : (b : Bool) (t : Tree) → is_junction b t ≡ true → all_weight e (list_of (kids_in t)) ≡ W t
    operands_weight true (node h.And ts) k = ap (λ us. weights us e) (trees_of-list_of ts)
    operands_weight false (node h.Or ts) k = ap (λ us. weights us e) (trees_of-list_of ts)
    operands_weight b t k = absurd cc

    flatten_weight : (b : Bool) (ts : List Tree) → all_weight e (flatten b ts) ≡ all_weight e ts
    flatten_weight b [] = refl
    flatten_weight b (t ∷ ts) = go (is_junction b t) refl (flatten_weight b ts)
      where
        go : (c : Bool) → is_junction b t ≡ c → all_weight e (flatten b ts) ≡ all_weight e ts → all_weight e (cond c (list_of (kids_in t)) (t ∷ []) ++ flatten b ts) ≡ max (W t) (all_weight e ts)
        go true q r = let a = all_append e (list_of (kids_in t)) (flatten b ts) in let c = operands_weight b t q in omega (arith, a, c, r)
        go false q r = omega (arith, r)

    flat : Light flat_rule
    flat b ts w k =
        let p = same_weight (junction b (flatten b ts)) w (then_some_is (has (is_junction b) ts) (junction b (flatten b ts)) w k).1 in
        let q = junction_weight b (flatten b ts) in
        let r = flatten_weight b ts in
        omega (arith, p, q, r)

    constant_light : (p : Bool) (b : Bool) (w : Tree) → then_some p (truth_constant b) ≡ Some w → W w ≡ 0
    constant_light p b w k = sym (same_weight (truth_constant b) w (then_some_is p (truth_constant b) w k).1) ∙ truth_weight b

    absorbing : Light absorbing_rule
    absorbing b ts w k = let a = constant_light (has (is_truth_constant (not b)) ts) (not b) w k in omega (arith, a)

    drop_units_weight : (b : Bool) (ts : List Tree) → all_weight e (drop_units b ts) ≤ all_weight e ts
    drop_units_weight b [] = omega arith
    drop_units_weight b (t ∷ ts) = go (is_truth_constant b t) (drop_units_weight b ts)
      where
        go : (c : Bool) → all_weight e (drop_units b ts) ≤ all_weight e ts → all_weight e (cond c (drop_units b ts) (t ∷ drop_units b ts)) ≤ max (W t) (all_weight e ts)
        go true r = omega (arith, r)
        go false r = omega (arith, r)

    units : Light units_rule
    units b ts w k =
        let p = same_weight (junction b (drop_units b ts)) w (then_some_is (has (is_truth_constant b) ts) (junction b (drop_units b ts)) w k).1 in
        let q = junction_weight b (drop_units b ts) in
        let r = drop_units_weight b ts in
        omega (arith, p, q, r)

    drop_repeats_weight : (seen ts : List Tree) → all_weight e (drop_repeats seen ts) ≤ all_weight e ts
    drop_repeats_weight seen [] = omega arith
    drop_repeats_weight seen (t ∷ ts) = go (among t seen) (drop_repeats_weight seen ts) (drop_repeats_weight (seen ++ t ∷ []) ts)
      where
        go : (c : Bool) → all_weight e (drop_repeats seen ts) ≤ all_weight e ts → all_weight e (drop_repeats (seen ++ t ∷ []) ts) ≤ all_weight e ts
            → all_weight e (cond c (drop_repeats seen ts) (t ∷ drop_repeats (seen ++ t ∷ []) ts)) ≤ max (W t) (all_weight e ts)
        go true r q = omega (arith, r)
        go false r q = omega (arith, q)

    repeats : Light repeats_rule
    repeats b ts w k =
        let p = same_weight (junction b (drop_repeats [] ts)) w (then_some_is (has_repeat [] ts) (junction b (drop_repeats [] ts)) w k).1 in
        let q = junction_weight b (drop_repeats [] ts) in
        let r = drop_repeats_weight [] ts in
        omega (arith, p, q, r)

    opposites : Light opposites_rule
    opposites b ts w k = let a = constant_light (has (is_opposed ts) ts) (not b) w k in omega (arith, a)

    single : Light single_rule
    single b [] w k = let a = same_weight (truth_constant b) w cc in let c = truth_weight b in omega (arith, a, c)
    single b (t ∷ []) w k = let a = same_weight t w (then_some_is (is_formula (head_of t)) t w k).1 in omega (arith, a)
    single b (t ∷ u ∷ ts) w k = absurd cc

    -- ---- quantifiers, where the weight falls

    abbrev range : List ℕ → Tree → Tree → Tree → ℕ
    range x t u f = weight (node (h.Forall x) (three t u f)) e

    abbrev Falls : (Bool → List ℕ → Tree → Tree → Tree → Option Tree) → Type 0
    Falls rule = (b : Bool) (x : List ℕ) (t u f w : Tree) → rule b x t u f ≡ Some w → W w < range x t u f

    empty_falls : Falls empty_rule
    empty_falls b x t u f w k = let a = constant_light (is_empty_between (number_at t) (number_at u) || is_truth_constant b f) b w k in omega (arith, a)

    single_range_falls : Falls single_range_rule
    single_range_falls b x t u f w k =
        let p = then_some_is (is_instance x t u f) (replace x t f) w k in
        let a = same_weight (replace x t f) w p.1 in
        let c = replaced_lighter x t f e (and_right (is_single_range t u && (is_integer (head_of t) && is_formula (head_of f))) (may_replace x t f) p.0) in
        omega (arith, a, c)

    at_quantifier : (rule : Bool → List ℕ → Tree → Tree → Tree → Option Tree) → Falls rule → NoHeavier (at_quantifiers rule)
    at_quantifier rule falls (h.Forall x) (more t (more u (more f stop))) w k = let a = falls true x t u f w k in omega (arith, a)
    at_quantifier rule falls (h.Exists x) (more t (more u (more f stop))) w k = let a = falls false x t u f w k in omega (arith, a)
    at_quantifier rule falls head ts w k = absurd cc

    same_memories : NoHeavier same_memory_rule
    same_memories (h.Form o) ts w k = let a = constant_light (is_same_memory o ts) true w k in omega (arith, a)
    same_memories head ts w k = absurd cc

    -- ---- the table

    kid_weight : (t : Tree) (ts : Trees) → IsKid t ts → W t ≤ weights ts e
    kid_weight t stop k = absurd k
    kid_weight t (more u ts) k = elim k [
      | inl q ↦ let a = same_weight t u q in omega (arith, a)
      | inr q ↦ let a = kid_weight t ts q in omega (arith, a)
    ]

    outcome_weight : (o : TermOp) (ts : Trees) (w : Tree) → Outcome o ts w → W w ≤ weights ts e
    outcome_weight o ts w a = elim a [
      | inl n ↦ let p = same_weight w (num n.0) n.1 in omega (arith, p)
      | inr b ↦ elim b [
        | inl k ↦ kid_weight w ts k
        | inr p ↦
            let a = same_weight w (times_number p.1.0 p.1.1.0) p.1.1.1.1 in
            let c = kid_weight p.1.1.0 ts p.1.1.1.0 in
            omega (arith, a, c)
      ]
    ]

    last_light : AllOf NoHeavier last_rules
    last_light = (at_quantifier empty_rule empty_falls, (at_quantifier single_range_rule single_range_falls, (same_memories, tt)))

    junctions_light : AllOf NoHeavier junction_rules
    junctions_light = (at_junction flat_rule flat, (at_junction absorbing_rule absorbing, (at_junction units_rule units, (at_junction repeats_rule repeats, (at_junction opposites_rule opposites, (at_junction single_rule single, last_light))))))

    formulas_light : AllOf NoHeavier formula_rules
    formulas_light = (less, (at_mosts, (equals, (implication, (equivalence, (negation, junctions_light))))))

    others_light : AllOf NoHeavier other_rules
    others_light = (sums, (choice, formulas_light))

    by_one : (rs : List Rule) → AllOf NoHeavier rs → (head : Head) (ts : Trees) (w : Tree) → first_of_rules rs head ts ≡ Some w → W w ≤ W (node head ts)
    by_one rs a head ts w k = let r = first_one NoHeavier rs a head ts w k in r.1.0 head ts w r.1.1

    pub step_light : is_regular set ≡ true → (head : Head) (ts : Trees) (w : Tree) → step set (node head ts) ≡ Some w → W w ≤ W (node head ts)
    step_light regular (h.Term o) ts w k = elim (either (sums_rule (h.Term o) ts) (first_some (ruled set.long_bits o ts) (memory_step (h.Term o) ts)) w (sym (op_step set o ts) ∙ k)) [
      | inl q ↦ sums (h.Term o) ts w q
      | inr q ↦ elim (either (ruled set.long_bits o ts) (memory_step (h.Term o) ts) w q) [
        | inl r ↦ let a = outcome_weight o ts w (ruled_answers set.long_bits o ts w r) in omega (arith, a)
        | inr r ↦ memory_light e (h.Term o) ts w r
      ]
    ]
    step_light regular (h.Form o) ts w k = elim (either (memory_step (h.Form o) ts) (first_of_rules formula_rules (h.Form o) ts) w (sym ((form_step set) o ts) ∙ k)) [
      | inl q ↦ memory_light e (h.Form o) ts w q
      | inr q ↦ by_one formula_rules formulas_light (h.Form o) ts w q
    ]
    step_light regular (h.App x) ts w k = base_light set.logic [] e x ts w (regular_functions set regular) (sym (call_step set x ts) ∙ k)
    step_light regular head ts w k = by_one other_rules others_light head ts w k

    -- at a quantifier it falls
    pub forall_falls : (x : List ℕ) (t u f w : Tree) → (step set) (node (h.Forall x) (three t u f)) ≡ Some w → W w < W (node (h.Forall x) (three t u f))
    forall_falls x t u f w k = elim (either (empty_rule true x t u f) _ w k) [
      | inl q ↦ empty_falls true x t u f w q
      | inr q ↦ elim (either (single_range_rule true x t u f) _ w q) [
        | inl r ↦ single_range_falls true x t u f w r
        | inr r ↦ absurd cc
      ]
    ]

    pub exists_falls : (x : List ℕ) (t u f w : Tree) → (step set) (node (h.Exists x) (three t u f)) ≡ Some w → W w < W (node (h.Exists x) (three t u f))
    exists_falls x t u f w k = elim (either (empty_rule false x t u f) _ w k) [
      | inl q ↦ empty_falls false x t u f w q
      | inr q ↦ elim (either (single_range_rule false x t u f) _ w q) [
        | inl r ↦ single_range_falls false x t u f w r
        | inr r ↦ absurd cc
      ]
    ]

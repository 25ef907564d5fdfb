-- No rule makes more quantifiers above relations: a term has none, and so has a relation.
use Rattle.std.proofs.Common.{◌≡◌, inl, inr, ℕ, suc, ◌+◌, ◌*◌, bytes_eq, subst, ◌≤◌, Bool, true, false, not, ◌&&◌, ◌||◌, cond, pos, int_le, List, [], ◌∷◌, ◌++◌, refl, sym, ◌∙◌, ap, arith}
use Rattle.std.specs.Prelude.{Option, Some, None, option_map}
use Rattle.qed_terms.specs.declared.head.Head.{Head}
use Rattle.qed_terms.specs.declared.head.Head.TheVariants as h
use Rattle.qed_terms.specs.declared.head.TermOp.{TermOp}
use Rattle.qed_terms.specs.declared.head.TermOp.TheVariants as op
use Rattle.qed_terms.specs.declared.head.FormOp.TheVariants as rel
use Rattle.qed_terms.specs.Setting.{Setting, is_regular}
use Rattle.qed_terms.specs.Tree.{Tree, node, Trees, stop, more, trees_of, list_of, head_of, kids_in, two, three, num, at_most, equal, not_of}
use Rattle.qed_terms.specs.Operators.{is_zero}
use Rattle.qed_terms.specs.Order.{same}
use Rattle.qed_terms.proofs.Lists.{trees_of-list_of}
use Rattle.qed_linear.specs.Linear.{Lin, number, is_number, subtract, is_integer, checked, to_lin, common_divisor, divides, tighten, divide_exact, make_lead_positive}
use Rattle.qed_rules.specs.Rules.{Rule, is_formula, unless_same, changed, truth_constant, at_most_zero, equals_zero, at_most_tree, equal_tree, less_rule, at_most_rule, equality_rule, implication_rule, equivalence_rule, nots, negated_relation_at, inward, negation_rule, junction, is_junction, is_truth_constant, has, among, flatten, drop_units, has_repeat, drop_repeats, is_opposed, flat_rule, absorbing_rule, units_rule, repeats_rule, opposites_rule, single_rule, at_junctions, is_empty_between, is_single_range, is_instance, empty_rule, single_range_rule, at_quantifiers, is_same_memory, same_memory_rule, then_some, first_of_rules, step}
use Rattle.qed_substitution.specs.Substitution.{replace, may_replace}
use Rattle.qed_numbers.specs.Numbers.{number_at}
use Rattle.qed_numbers.proofs.Tests.{then_some_is, either, AllOf, first_one}
use Rattle.qed_linear.proofs.Facts.{and_left, and_right}
use Rattle.qed_terms.specs.declared.head.Sort.TheVariants as sort
use Rattle.qed_terms.specs.Meaning.{World, Values, Value, Whole, Truth, Cells, Blocks, term_value, meaning, meanings}
use Rattle.qed_memories.specs.Alike.{Alike}
use Rattle.qed_memories.specs.Memories.{memory_step}
use Rattle.qed_terms.specs.Setting as setting
use Rattle.qed_substitution.specs.Substitution.{replace_all}
use Rattle.qed_simplify.specs.Normal.{Suits, Normal, Normals, stays, changes, nothing, each, quantifiers, all_quantifiers, NormalQuantifiers}
use Rattle.qed_simplify.proofs.Calls.{setting_suits}
use Rattle.qed_simplify.proofs.Derived.{AllFixed, normals-fixed}
use Rattle.qed_simplify.proofs.Keeps.{step_keeps}
use Rattle.qed_simplify.proofs.MemoryWeights.{memory_plain}
use Rattle.qed_simplify.proofs.Tables.{last_rules, junction_rules, formula_rules, form_step}

module _ (set : Setting) (regular : is_regular set ≡ true) where
  abbrev Q : Tree → ℕ
  Q = quantifiers

  -- ---- what isn't a truth value has none

  abbrev IsTerm : Value → Type 0
  IsTerm (Truth b) = ⊥
  IsTerm v = Unit {0}

  term_none : (world : World) (env : Values) (t : Tree) (v : Value) → meaning world env t ≡ v → IsTerm v → Q t ≡ 0
  term_none world env (node (h.Num z) ts) v e k = refl
  term_none world env (node (h.Var x s) ts) v e k = refl
  term_none world env (node (h.Term o) ts) v e k = refl
  term_none world env (node h.Ite ts) v e k = refl
  term_none world env (node (h.App f) ts) v e k = refl
  term_none world env (node (h.Form o) ts) v e k = refl
  term_none world env (node h.True ts) v e k = refl
  term_none world env (node h.False ts) v e k = refl
  term_none world env (node head ts) v e k = absurd (subst IsTerm (sym e) k)

  term_is : (world : World) (o : TermOp) (vs : List Value) → IsTerm (term_value world o vs)
  term_is world op.Store vs = tt
  term_is world (op.Alloc layout) vs = tt
  term_is world op.Grow vs = tt
  term_is world o vs = tt

  -- and what is like a term is one
  term_alike : (v w : Value) → Alike v w → IsTerm w → IsTerm v
  term_alike (Truth b) w a i = absurd (subst IsTerm (sym a) i)
  term_alike (Whole z) w a i = tt
  term_alike (Cells m) w a i = tt
  term_alike (Blocks t) w a i = tt

  -- any values serve, and any world that suits the setting
  abbrev some_world : World
  some_world = setting.world_of set

  suits : Suits set some_world
  suits = setting_suits set regular

  zeros : Values
  zeros = setting.nothing

  -- what is made of a term
  of_term : (head : Head) (ts : Trees) (w : Tree) → AllFixed (step set) ts → (step set) (node head ts) ≡ Some w → IsTerm (meaning some_world zeros (node head ts)) → Q w ≡ 0
  of_term head ts w f k i = term_none some_world zeros w (meaning some_world zeros w) refl (term_alike (meaning some_world zeros w) (meaning some_world zeros (node head ts)) (step_keeps set some_world zeros suits.width suits.calls head ts w f k) i)

  -- ---- the rules of formulas

  abbrev NoMore : Rule → Type 0
  NoMore r = (head : Head) (ts : Trees) (w : Tree) → r head ts ≡ Some w → Q w ≤ Q (node head ts)

  same_count : (t u : Tree) → t ≡ u → Q t ≡ Q u
  same_count t u q = ap Q q

  truth_none : (b : Bool) → Q (truth_constant b) ≡ 0
  truth_none true = refl
  truth_none false = refl

  unless_same_count : (w t v : Tree) → unless_same w t ≡ Some v → Q v ≡ Q w
  unless_same_count w t v k = go (same w t) k
    where
      go : (b : Bool) → cond b None (Some w) ≡ Some v → Q v ≡ Q w
      go true q = absurd cc
      go false q = let is : v ≡ w = cc in same_count v w is

  at_most_none : (g : Lin) → Q (at_most_tree g) ≡ 0
  at_most_none g = go (is_number g)
    where
      go : (b : Bool) → Q (cond b (truth_constant (int_le (g.constant) (pos 0))) (at_most_zero (tighten g))) ≡ 0
      go true = truth_none (int_le (g.constant) (pos 0))
      go false = refl

  equal_none : (g : Lin) → Q (equal_tree g) ≡ 0
  equal_none g = go (is_number g) (divides (common_divisor (g.parts)) (g.constant))
    where
      go : (b c : Bool) → Q (cond b (truth_constant (is_zero (g.constant))) (cond c (equals_zero (make_lead_positive (divide_exact g))) (truth_constant false))) ≡ 0
      go true c = truth_none (is_zero (g.constant))
      go false true = refl
      go false false = refl

  changed_none : (make : Lin → Tree) → ((g : Lin) → Q (make g) ≡ 0) → (o : Option Lin) (v w : Tree) → changed make o v ≡ Some w → Q w ≡ 0
  changed_none make none None v w k = absurd cc
  changed_none make none (Some g) v w k = unless_same_count (make g) v w k ∙ none g

  less : NoMore less_rule
  less (h.Form rel.Less) (more t (more u stop)) w k = let a = same_count (at_most (node (h.Term op.Add) (two t (num (pos 1)))) u) w cc in omega (arith, a)
  less head ts w k = absurd cc

  at_mosts : NoMore at_most_rule
  at_mosts (h.Form rel.AtMost) (more t (more u stop)) w k = let a = changed_none at_most_tree at_most_none (checked (subtract (to_lin t) (to_lin u))) (at_most t u) w k in omega (arith, a)
  at_mosts head ts w k = absurd cc

  equals : NoMore equality_rule
  equals (h.Form rel.Equal) (more t (more u stop)) w k = let a = changed_none equal_tree equal_none (checked (subtract (to_lin t) (to_lin u))) (equal t u) w k in omega (arith, a)
  equals head ts w k = absurd cc

  implication : NoMore implication_rule
  implication h.Imp (more a (more b stop)) w k = let p = same_count (node h.Or (two (not_of a) b)) w cc in omega (arith, p)
  implication head ts w k = absurd cc

  equivalence : NoMore equivalence_rule
  equivalence h.Iff (more a (more b stop)) w k = let p = same_count (node h.And (two (node h.Or (two (not_of a) b)) (node h.Or (two a (not_of b))))) w cc in omega (arith, p)
  equivalence head ts w k = absurd cc

  nots_count : (ts : Trees) → all_quantifiers (nots ts) ≡ all_quantifiers ts
  nots_count stop = refl
  nots_count (more t ts) = let a = nots_count ts in omega (arith, a)

  negated : (head : Head) (ts : Trees) (w : Tree) → negated_relation_at head ts ≡ Some w → Q w ≡ 0
  negated (h.Form rel.AtMost) (more t (more u stop)) w k = go (same u (num (pos 0))) k
    where
      at : (o : Option Lin) → option_map at_most_zero o ≡ Some w → Q w ≡ 0
      at None r = absurd cc
      at (Some g) r = sym (same_count (at_most_zero g) w cc)

      go : (b : Bool) → cond b (option_map at_most_zero (checked (subtract (number (pos 1)) (to_lin t)))) None ≡ Some w → Q w ≡ 0
      go true q = at (checked (subtract (number (pos 1)) (to_lin t))) q
      go false q = absurd cc
  negated head ts w k = absurd cc

  inwards : (t w : Tree) → inward (head_of t) (kids_in t) ≡ Some w → Q w ≤ Q t
  inwards (node h.True ts) w k = let a = same_count (truth_constant false) w cc in omega (arith, a)
  inwards (node h.False ts) w k = let a = same_count (truth_constant true) w cc in omega (arith, a)
  inwards (node h.Not (more f stop)) w k = let a = same_count f w (then_some_is (is_formula (head_of f)) f w k).1 in omega (arith, a)
  inwards (node h.And ts) w k = let a = same_count (node h.Or (nots ts)) w cc in let b = nots_count ts in omega (arith, a, b)
  inwards (node h.Or ts) w k = let a = same_count (node h.And (nots ts)) w cc in let b = nots_count ts in omega (arith, a, b)
  inwards (node (h.Forall x) (more t (more u (more f stop)))) w k = let a = same_count (node (h.Exists x) (three t u (not_of f))) w cc in omega (arith, a)
  inwards (node (h.Exists x) (more t (more u (more f stop)))) w k = let a = same_count (node (h.Forall x) (three t u (not_of f))) w cc in omega (arith, a)
  inwards (node (h.Form o) ts) w k = let a = negated (h.Form o) ts w k in omega (arith, a)
  inwards t w k = absurd cc

  negation : NoMore negation_rule
  negation h.Not (more t stop) w k = let a = inwards t w k in omega (arith, a)
  negation head ts w k = absurd cc

  -- ---- junctions

  abbrev count_all : List Tree → ℕ
  count_all ts = all_quantifiers (trees_of ts)

  count_append : (ts us : List Tree) → count_all (ts ++ us) ≡ count_all ts + count_all us
  count_append [] us = omega arith
  count_append (t ∷ ts) us = let k = count_append ts us in omega (arith, k)

  abbrev Light : (Bool → List Tree → Option Tree) → Type 0
  Light rule = (b : Bool) (ts : List Tree) (w : Tree) → rule b ts ≡ Some w → Q w ≤ count_all ts

  junction_count : (b : Bool) (ts : List Tree) → Q (junction b ts) ≡ count_all ts
  junction_count true ts = refl
  junction_count false ts = refl

  at_junction : (rule : Bool → List Tree → Option Tree) → Light rule → NoMore (at_junctions rule)
  at_junction rule light h.And ts w k = let a = light true (list_of ts) w k in let b = ap (λ us. all_quantifiers us) (trees_of-list_of ts) in omega (arith, a, b)
  at_junction rule light h.Or ts w k = let a = light false (list_of ts) w k in let b = ap (λ us. all_quantifiers us) (trees_of-list_of ts) in omega (arith, a, b)
  at_junction rule light head ts w k = absurd cc

  operands_count : (b : Bool) (t : Tree) → is_junction b t ≡ true → count_all (list_of (kids_in t)) ≡ Q t
  operands_count true (node h.And ts) k = ap (λ us. all_quantifiers us) (trees_of-list_of ts)
  operands_count false (node h.Or ts) k = ap (λ us. all_quantifiers us) (trees_of-list_of ts)
  operands_count b t k = absurd cc

  flatten_count : (b : Bool) (ts : List Tree) → count_all (flatten b ts) ≡ count_all ts
  flatten_count b [] = refl
  flatten_count b (t ∷ ts) = go (is_junction b t) refl (flatten_count b ts)
    where
      go : (c : Bool) → is_junction b t ≡ c → count_all (flatten b ts) ≡ count_all ts → count_all (cond c (list_of (kids_in t)) (t ∷ []) ++ flatten b ts) ≡ Q t + count_all ts
      go true q r = let a = count_append (list_of (kids_in t)) (flatten b ts) in let c = operands_count b t q in omega (arith, a, c, r)
      go false q r = omega (arith, r)

  made_of : (p : Bool) (b : Bool) (ts us : List Tree) (w : Tree) → then_some p (junction b us) ≡ Some w → count_all us ≤ count_all ts → Q w ≤ count_all ts
  made_of p b ts us w k l = let a = same_count (junction b us) w (then_some_is p (junction b us) w k).1 in let c = junction_count b us in omega (arith, a, c, l)

  constant_none : (p : Bool) (b : Bool) (w : Tree) → then_some p (truth_constant b) ≡ Some w → Q w ≡ 0
  constant_none p b w k = sym (same_count (truth_constant b) w (then_some_is p (truth_constant b) w k).1) ∙ truth_none b

  flat : Light flat_rule
  flat b ts w k = made_of (has (is_junction b) ts) b ts (flatten b ts) w k (let r = flatten_count b ts in omega (arith, r))

  absorbing : Light absorbing_rule
  absorbing b ts w k = let a = constant_none (has (is_truth_constant (not b)) ts) (not b) w k in omega (arith, a)

  drop_units_count : (b : Bool) (ts : List Tree) → count_all (drop_units b ts) ≤ count_all ts
  drop_units_count b [] = omega arith
  drop_units_count b (t ∷ ts) = go (is_truth_constant b t) (drop_units_count b ts)
    where
      go : (c : Bool) → count_all (drop_units b ts) ≤ count_all ts → count_all (cond c (drop_units b ts) (t ∷ drop_units b ts)) ≤ Q t + count_all ts
      go true r = omega (arith, r)
      go false r = omega (arith, r)

  units : Light units_rule
  units b ts w k = made_of (has (is_truth_constant b) ts) b ts (drop_units b ts) w k (drop_units_count b ts)

  drop_repeats_count : (seen ts : List Tree) → count_all (drop_repeats seen ts) ≤ count_all ts
  drop_repeats_count seen [] = omega arith
  drop_repeats_count seen (t ∷ ts) = go (among t seen) (drop_repeats_count seen ts) (drop_repeats_count (seen ++ t ∷ []) ts)
    where
      go : (c : Bool) → count_all (drop_repeats seen ts) ≤ count_all ts → count_all (drop_repeats (seen ++ t ∷ []) ts) ≤ count_all ts
          → count_all (cond c (drop_repeats seen ts) (t ∷ drop_repeats (seen ++ t ∷ []) ts)) ≤ Q t + count_all ts
      go true r q = omega (arith, r)
      go false r q = omega (arith, q)

  repeats : Light repeats_rule
  repeats b ts w k = made_of (has_repeat [] ts) b ts (drop_repeats [] ts) w k (drop_repeats_count [] ts)

  opposites : Light opposites_rule
  opposites b ts w k = let a = constant_none (has (is_opposed ts) ts) (not b) w k in omega (arith, a)

  single : Light single_rule
  single b [] w k = let a = same_count (truth_constant b) w cc in let c = truth_none b in omega (arith, a, c)
  single b (t ∷ []) w k = let a = same_count t w (then_some_is (is_formula (head_of t)) t w k).1 in omega (arith, a)
  single b (t ∷ u ∷ ts) w k = absurd cc

  -- ---- quantifiers

  integer_none : (t : Tree) → is_integer (head_of t) ≡ true → Q t ≡ 0
  integer_none (node (h.Num z) ts) k = refl
  integer_none (node (h.Var x s) ts) k = refl
  integer_none (node (h.Term o) ts) k = refl
  integer_none (node h.Ite ts) k = refl
  integer_none (node (h.App f) ts) k = refl
  integer_none (node head ts) k = absurd cc

  module _ (x : List ℕ) (u : Tree) (none : Q u ≡ 0) where
    at_name : (b : Bool) (y : List ℕ) (us : Trees) → Q (cond b u (node (h.Var y sort.Int) us)) ≡ 0
    at_name true y us = none
    at_name false y us = refl

    at_body : (b : Bool) (f g : Tree) → Q g ≡ Q f → Q (cond b f g) ≡ Q f
    at_body true f g k = refl
    at_body false f g k = k

    mutual
      replaced_count : (t : Tree) → Q (replace x u t) ≡ Q t
      replaced_count (node (h.Var y sort.Int) ts) = at_name (bytes_eq x y) y (replace_all x u ts)
      replaced_count (node h.Not ts) = all_replaced ts
      replaced_count (node h.And ts) = all_replaced ts
      replaced_count (node h.Or ts) = all_replaced ts
      replaced_count (node h.Imp ts) = all_replaced ts
      replaced_count (node h.Iff ts) = ap (λ n. 2 * n) (all_replaced ts)
      replaced_count (node (h.Forall y) (more low (more high (more f stop)))) =
          let a = replaced_count low in
          let b = replaced_count high in
          let c = at_body (bytes_eq x y) f (replace x u f) (replaced_count f) in
          λ i. suc (a i + (b i + (c i + 0)))
      replaced_count (node (h.Exists y) (more low (more high (more f stop)))) =
          let a = replaced_count low in
          let b = replaced_count high in
          let c = at_body (bytes_eq x y) f (replace x u f) (replaced_count f) in
          λ i. suc (a i + (b i + (c i + 0)))
      replaced_count (node head ts) = refl

      all_replaced : (ts : Trees) → all_quantifiers (replace_all x u ts) ≡ all_quantifiers ts
      all_replaced stop = refl
      all_replaced (more t ts) = let a = replaced_count t in let b = all_replaced ts in λ i. a i + b i

  abbrev Fewer : (Bool → List ℕ → Tree → Tree → Tree → Option Tree) → Type 0
  Fewer rule = (b : Bool) (x : List ℕ) (t u f w : Tree) → rule b x t u f ≡ Some w → Q w ≤ Q f

  empty_fewer : Fewer empty_rule
  empty_fewer b x t u f w k = let a = constant_none (is_empty_between (number_at t) (number_at u) || is_truth_constant b f) b w k in omega (arith, a)

  single_range_fewer : Fewer single_range_rule
  single_range_fewer b x t u f w k =
      let p = then_some_is (is_instance x t u f) (replace x t f) w k in
      let sorts = and_left (is_single_range t u && (is_integer (head_of t) && is_formula (head_of f))) (may_replace x t f) p.0 in
      let both = and_right (is_single_range t u) (is_integer (head_of t) && is_formula (head_of f)) sorts in
      let none = integer_none t (and_left (is_integer (head_of t)) (is_formula (head_of f)) both) in
      let a = same_count (replace x t f) w p.1 in
      let c = replaced_count x t none f in
      omega (arith, a, c)

  at_quantifier : (rule : Bool → List ℕ → Tree → Tree → Tree → Option Tree) → Fewer rule → NoMore (at_quantifiers rule)
  at_quantifier rule fewer (h.Forall x) (more t (more u (more f stop))) w k = let a = fewer true x t u f w k in omega (arith, a)
  at_quantifier rule fewer (h.Exists x) (more t (more u (more f stop))) w k = let a = fewer false x t u f w k in omega (arith, a)
  at_quantifier rule fewer head ts w k = absurd cc

  same_memories : NoMore same_memory_rule
  same_memories (h.Form o) ts w k = let a = constant_none (is_same_memory o ts) true w k in omega (arith, a)
  same_memories head ts w k = absurd cc

  -- ---- the table

  formulas_none_more : AllOf NoMore formula_rules
  formulas_none_more = (less, (at_mosts, (equals, (implication, (equivalence, (negation, junctions))))))
    where
      lasts : AllOf NoMore last_rules
      lasts = (at_quantifier empty_rule empty_fewer, (at_quantifier single_range_rule single_range_fewer, (same_memories, tt)))

      junctions : AllOf NoMore junction_rules
      junctions = (at_junction flat_rule flat, (at_junction absorbing_rule absorbing, (at_junction units_rule units, (at_junction repeats_rule repeats, (at_junction opposites_rule opposites, (at_junction single_rule single, lasts))))))

  by_one : (head : Head) (ts : Trees) (w : Tree) → first_of_rules formula_rules head ts ≡ Some w → Q w ≤ Q (node head ts)
  by_one head ts w k = let r = first_one NoMore formula_rules formulas_none_more head ts w k in r.1.0 head ts w r.1.1

  step_none_more : (head : Head) (ts : Trees) (w : Tree) → AllFixed (step set) ts → (step set) (node head ts) ≡ Some w → Q w ≤ Q (node head ts)
  step_none_more (h.Num z) ts w f k = let a = of_term (h.Num z) ts w f k tt in omega (arith, a)
  step_none_more (h.Var x s) ts w f k = absurd cc
  step_none_more (h.Term o) ts w f k = let a = of_term (h.Term o) ts w f k (term_is some_world o (meanings some_world zeros ts)) in omega (arith, a)
  step_none_more h.Ite ts w f k = let a = of_term h.Ite ts w f k tt in omega (arith, a)
  step_none_more (h.App g) ts w f k = let a = of_term (h.App g) ts w f k tt in omega (arith, a)
  step_none_more (h.Form o) ts w f k = elim (either (memory_step (h.Form o) ts) (first_of_rules formula_rules (h.Form o) ts) w (sym ((form_step set) o ts) ∙ k)) [
    | inl e ↦ let a = memory_plain o ts w e in omega (arith, a)
    | inr e ↦ by_one (h.Form o) ts w e
  ]
  step_none_more head ts w f k = by_one head ts w k

  node_none_more : (head : Head) (ts us : Trees) → all_quantifiers us ≤ all_quantifiers ts → Q (node head us) ≤ Q (node head ts)
  node_none_more h.Not ts us k = k
  node_none_more h.And ts us k = k
  node_none_more h.Or ts us k = k
  node_none_more h.Imp ts us k = k
  node_none_more h.Iff ts us k = omega (arith, k)
  node_none_more (h.Forall x) ts us k = omega (arith, k)
  node_none_more (h.Exists x) ts us k = omega (arith, k)
  node_none_more head ts us k = omega arith

  mutual
    none_more : {t u : Tree} → Normal (step set) t u → Q u ≤ Q t
    none_more (stays {head} {ts} {us} ks e) = node_none_more head ts us (all_none_more ks)
    none_more (changes {head} {ts} {us} {w} ks e d) =
        let a = none_more d in
        let b = step_none_more head us w (normals-fixed (step set) ks) e in
        let c = node_none_more head ts us (all_none_more ks) in
        omega (arith, a, b, c)

    all_none_more : {ts us : Trees} → Normals (step set) ts us → all_quantifiers us ≤ all_quantifiers ts
    all_none_more nothing = omega arith
    all_none_more (each d ds) = let a = none_more d in let b = all_none_more ds in omega (arith, a, b)

pub normal_quantifiers : NormalQuantifiers
normal_quantifiers set t u regular d = none_more set regular d

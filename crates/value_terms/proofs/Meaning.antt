-- The terms of an expression mean its value, and its word says what its checks are.
use Rattle.std.proofs.Common.{◌≡◌, ℕ, zero, suc, Bool, true, ℤ, List, refl, sym, ap, ◌∙◌, subst}
use Rattle.std.specs.Prelude.{map}
use Rattle.typed_prog.specs.declared.types.CoreType.{CoreType}
use Rattle.typed_prog.specs.declared.operators.Op.{Op}
use Rattle.typed_prog.specs.Tree as t
use Rattle.qed_terms.specs.Meaning as m
use Rattle.qed_terms.specs.Tree.{Tree}
use Rattle.c_runs.specs.TruthStates.{Value}
use Rattle.c_runs.specs.Truth.{value_at}
use Rattle.c_runs.specs.Program.{Facts, Variable}
use Rattle.c_runs.specs.States.{World}
use Rattle.c_runs.specs.Values.{Temps}
use Rattle.c_runs.specs.Checks.{Check, in_operand, later, op_checks, node_checks, checks_of, all_checks}
use Rattle.c_runs.specs.Tests.{total_node, total, totals, is_met}
use Rattle.c_runs.proofs.Checking.{met_in}
use Rattle.value_terms.specs.Readings.{Term, term_at, Reading}
use Rattle.value_terms.specs.Terms.{node_term, term_of, terms_of}
use Rattle.value_terms.specs.Words.{with_check, node_word, word_of, words}
use Rattle.value_terms.specs.Typed.{kind_given, Scope, NodeIsTyped, IsTyped, AreTyped}
use Rattle.value_terms.specs.Worlds.{Means}
use Rattle.value_terms.specs.Laws.{Stood, Says, TermsMeanValues, FormulasMeanChecks}
use Rattle.value_terms.proofs.Listing.{all, all_parts, all_map, all_same, deep, Each, words_have}
use Rattle.value_terms.proofs.Saying.{says_append, says_map, says_same}
use Rattle.value_terms.proofs.Operands.{condition_means}
use Rattle.value_terms.proofs.Holding.{split, same_later}
use Rattle.value_terms.proofs.Staying.{all_stay}
use Rattle.value_terms.proofs.Operations.{op_means, op_says}

module _ {mw : m.World} {env : m.Values} {r : Reading} {p : Facts} {xs : List Variable} {s : Scope} {tm : Temps} {w : World}
    (stood : Stood mw env r p xs s tm w) where
  abbrev V : Tree → ℤ
  V t = m.value mw env t

  abbrev So : Tree → Bool
  So f = m.truth mw env f

  abbrev ts_of : t.Values → List Term
  ts_of es = terms_of p xs r es

  abbrev vs_of : t.Values → List Value
  vs_of es = totals p xs tm w es

  operands_met : (type : CoreType) (l : ℕ) (o : Op) (es : t.Values) → all (is_met p xs tm w (t.typed (t.apply o es) type l)) (all_checks xs es) ≡ true
      → all (met_in p xs tm w es) (all_checks xs es) ≡ true
  operands_met type l o es h =
      let test : Check → Bool = is_met p xs tm w (t.typed (t.apply o es) type l) in
      sym (all_same test (met_in p xs tm w es) (all_checks xs es) (deep xs es test (met_in p xs tm w es) (λ u l n i way. refl))) ∙ h

  first_met : (e : t.Value) (es : t.Values) → all (met_in p xs tm w (t.more e es)) (all_checks xs (t.more e es)) ≡ true
      → all (is_met p xs tm w e) (checks_of xs e) ≡ true
  first_met e es met = sym (all_map (met_in p xs tm w (t.more e es)) (in_operand 0) (checks_of xs e)) ∙ (split p xs tm w e es met).0

  rest_met : (e : t.Value) (es : t.Values) → all (met_in p xs tm w (t.more e es)) (all_checks xs (t.more e es)) ≡ true
      → all (met_in p xs tm w es) (all_checks xs es) ≡ true
  rest_met e es met =
      sym (same_later p xs tm w e es) ∙ sym (all_map (met_in p xs tm w (t.more e es)) later (all_checks xs es)) ∙ (split p xs tm w e es met).1

  mutual
    node_means : (what : t.ValueNode) (type : CoreType) (l : ℕ) → NodeIsTyped p xs s type what
        → all (is_met p xs tm w (t.typed what type l)) (node_checks xs type l what) ≡ true
        → Means mw env (node_term p xs r type what) (total_node p xs tm w type what)
    node_means (t.constant z) type l h met = refl
    node_means t.null type l h met = refl
    node_means (t.temporary n) type l h met = stood.stands.temporaries n (kind_given type) h
    node_means (t.apply o es) type l h met =
        let test : Check → Bool = is_met p xs tm w (t.typed (t.apply o es) type l) in
        let parts = all_parts test (all_checks xs es) (op_checks xs type l o es) met in
        let operands = operands_met type l o es parts.0 in
        op_means stood type l es (all_mean es h.0 operands) (all_stay stood.kinds es h.0 operands) test o h.1 (λ u l n. refl) parts.1
    node_means (t.logic c a b) type l h met = absurd h
    node_means (t.choose c a b) type l h met = absurd h
    node_means (t.effect e es) type l h met = absurd h

    one_means : (e : t.Value) → IsTyped p xs s e → all (is_met p xs tm w e) (checks_of xs e) ≡ true → Means mw env (term_of p xs r e) (total p xs tm w e)
    one_means (t.typed what type l) h met = node_means what type l h met

    pub all_mean : (es : t.Values) → AreTyped p xs s es → all (met_in p xs tm w es) (all_checks xs es) ≡ true
        → (i : ℕ) → Means mw env (term_at (ts_of es) i) (value_at (vs_of es) i)
    all_mean t.stop h met i = refl
    all_mean (t.more e es) h met zero = one_means e h.0 (first_met e es met)
    all_mean (t.more e es) h met (suc i) = all_mean es h.1 (rest_met e es met) i

  mutual
    node_says : (what : t.ValueNode) (type : CoreType) (l : ℕ) → NodeIsTyped p xs s type what
        → Says So (is_met p xs tm w (t.typed what type l)) (node_word p xs r type l what)
    node_says (t.constant z) type l h = tt
    node_says t.null type l h = tt
    node_says (t.temporary n) type l h = tt
    node_says (t.apply o es) type l h =
        let test : Check → Bool = is_met p xs tm w (t.typed (t.apply o es) type l) in
        says_append So test (words p xs r es) _
        (says_same So (met_in p xs tm w es) test (words p xs r es)
        (subst (λ cs. Each (λ c. met_in p xs tm w es c ≡ test c) cs) (sym (words_have p xs r es)) (deep xs es (met_in p xs tm w es) test (λ u l n i way. refl)))
        (all_say es h.0))
        (λ met.
        let operands = operands_met type l o es (ap (all test) (sym (words_have p xs r es)) ∙ met) in
        op_says stood type l es (all_mean es h.0 operands) (all_stay stood.kinds es h.0 operands) test o h.1 (λ u l n. refl))
    node_says (t.logic c a b) type l h = absurd h
    node_says (t.choose c a b) type l h = absurd h
    node_says (t.effect e es) type l h = absurd h

    one_says : (e : t.Value) → IsTyped p xs s e → Says So (is_met p xs tm w e) (word_of p xs r e)
    one_says (t.typed what type l) h = node_says what type l h

    pub all_say : (es : t.Values) → AreTyped p xs s es → Says So (met_in p xs tm w es) (words p xs r es)
    all_say t.stop h = tt
    all_say (t.more e es) h =
        let met : Check → Bool = met_in p xs tm w (t.more e es) in
        says_append So met (map (with_check (in_operand 0)) (word_of p xs r e)) _
        (says_map So met (in_operand 0) (word_of p xs r e) (one_says e h.0))
        (λ behind. says_map So met later (words p xs r es)
        (says_same So (met_in p xs tm w es) (λ c. met (later c)) (words p xs r es)
        (subst (λ cs. Each (λ c. met_in p xs tm w es c ≡ met (later c)) cs) (sym (words_have p xs r es))
        (deep xs es (met_in p xs tm w es) (λ c. met (later c)) (λ u l n i way. refl))) (all_say es h.1)))

pub terms_mean_values : TermsMeanValues
terms_mean_values mw env r p xs s tm w stood e h met =
    let means = one_means stood e h met in
    record { term = means; condition = condition_means mw env (term_of p xs r e) (total p xs tm w e) means }

pub formulas_mean_checks : FormulasMeanChecks
formulas_mean_checks mw env r p xs s tm w stood e h = one_says stood e h

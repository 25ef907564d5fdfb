-- Operations on operands whose terms mean their values.
use Rattle.std.proofs.Common.{◌≡◌, ℕ, Bool, true, false, not, ℤ, neg_ℤ, List, refl, sym, ap, ◌∙◌, subst}
use Rattle.wp_base.specs.declared.kinds.Kind.TheVariants as kind
use Rattle.wp_base.specs.declared.kinds.CellKind.TheVariants as cell
use Rattle.c_kinds.specs.Models.{holds, convert}
use Rattle.typed_prog.specs.declared.types.CoreType.{CoreType}
use Rattle.typed_prog.specs.declared.operators.Op.{Op}
use Rattle.typed_prog.specs.declared.operators.Op.TheVariants as op
use Rattle.typed_prog.specs.declared.operators.Path.{Path}
use Rattle.typed_prog.specs.Types.{is_pointer}
use Rattle.typed_prog.specs.Tree as t
use Rattle.qed_terms.specs.declared.head.TermOp.TheVariants as term
use Rattle.qed_terms.specs.Meaning as m
use Rattle.qed_terms.specs.Tree.{Tree}
use Rattle.c_runs.specs.TruthStates.{Value, number, pointer, addresses, region, number_of}
use Rattle.c_runs.specs.Truth.{value_at, compare, first}
use Rattle.c_runs.specs.Program.{Facts, Variable}
use Rattle.c_runs.specs.States.{World}
use Rattle.c_runs.specs.Operators.{Undefined, overflow, pointing, comparing, may_compare, is_order, wrong, truth_number, complement, within}
use Rattle.c_runs.specs.Objects.{plain_root, address}
use Rattle.c_runs.specs.Scopes.{is_content}
use Rattle.c_runs.specs.Values.{kind_at, applied, moved_in, converted, Temps}
use Rattle.c_runs.specs.Laws.{may_be_second}
use Rattle.c_runs.specs.Checks.{Check, second_constant, op_checks}
use Rattle.c_runs.specs.Tests.{total_applied, totals, arithmetic_test, op_test}
use Rattle.c_runs.proofs.Operators.{op_settle, at_step, constant_second}
use Rattle.value_terms.specs.Readings.{Term, number_term, term_at, Reading}
use Rattle.value_terms.specs.Terms.{of_one, within_term, converted_term, first_kind, address_term, moved_terms, op_term, terms_of}
use Rattle.value_terms.specs.Words.{comparing_term, op_items}
use Rattle.value_terms.specs.Typed.{given_by, kind_given, operand_kind, Scope, IsInteger, StartIsTyped, OpIsTyped}
use Rattle.value_terms.specs.Worlds.{IsOf, Means}
use Rattle.value_terms.specs.Laws.{Stood, Says}
use Rattle.value_terms.proofs.Listing.{all}
use Rattle.value_terms.proofs.Saying.{says_asked}
use Rattle.value_terms.proofs.Integers.{within_means, opposite_means, complement_means, comparison_means, converted_means}
use Rattle.value_terms.proofs.Operands.{number_means, condition_means}
use Rattle.value_terms.proofs.Pointers.{sized, moved_both_mean, difference_means, pointers_mean, start_means, pointing_means, comparing_means, range_says}
use Rattle.value_terms.proofs.Holding.{number_of_kind, integer_given, settle_met, second_held, complement_held, holds_zero}
use Rattle.value_terms.proofs.Objects.{read_means, read_says}
use Rattle.value_terms.proofs.Results.{arithmetic_value, fit_says, arithmetic_says}

-- an operand of whatever kind counts as a number of its type's kind
operand_held : (p : Facts) (n : ℤ) (es : t.Values) (v : Value) → is_content p n (operand_kind es 0) v ≡ true
    → holds p.model (first_kind es) (number_of v) ≡ true
operand_held p n t.stop v h = (number_of_kind p n _ kind.Int v refl h).held
operand_held p n (t.more (t.typed what type l) es) v h = by_type (is_pointer type) refl
  where
    of_pointer : (v : Value) → is_content p n cell.Ptr v ≡ true → holds p.model (kind_at type) (number_of v) ≡ true
    of_pointer (number z) h = absurd cc
    of_pointer (pointer b o) h = holds_zero p.model (kind_at type)
    of_pointer (addresses s) h = absurd cc
    of_pointer (region cs s) h = absurd cc

    by_type : (b : Bool) → is_pointer type ≡ b → holds p.model (kind_at type) (number_of v) ≡ true
    by_type true e = of_pointer v (subst (λ b. is_content p n (given_by b (kind_at type)) v ≡ true) e h)
    by_type false e = (number_of_kind p n _ (kind_at type) v (integer_given type e) h).held

module _ {mw : m.World} {env : m.Values} {r : Reading} {p : Facts} {xs : List Variable} {s : Scope} {tm : Temps} {w : World}
    (stood : Stood mw env r p xs s tm w) where
  abbrev V : Tree → ℤ
  V t = m.value mw env t

  abbrev So : Tree → Bool
  So f = m.truth mw env f

  abbrev ts_of : t.Values → List Term
  ts_of es = terms_of p xs r es

  abbrev vs_of : t.Values → List Value
  vs_of es = totals p xs tm w es

  module _ (type : CoreType) (l : ℕ) (es : t.Values) (means : (i : ℕ) → Means mw env (term_at (ts_of es) i) (value_at (vs_of es) i))
      (have : (i : ℕ) → IsOf p w (operand_kind es i) (value_at (vs_of es) i)) (met : Check → Bool) where
    number_at : (i : ℕ) → number_of (value_at (vs_of es) i) ≡ V (number_term (term_at (ts_of es) i))
    number_at i = number_means mw env (term_at (ts_of es) i) (value_at (vs_of es) i) (means i)

    complement_value : IsInteger type → operand_kind es 0 ≡ kind_given type
        → complement p.model (kind_at type) (number_of (first (vs_of es)))
        ≡ V (within_term (kind_at type) (of_one term.BitNot (number_term (term_at (ts_of es) 0))))
    complement_value h e =
        let a = number_of_kind p _ _ (kind_at type) _ (e ∙ integer_given type h.no_pointer) (have 0) in
        ap (complement p.model (kind_at type)) (number_at 0)
        ∙ sym (complement_means (sized stood) (kind_at type) (number_term (term_at (ts_of es) 0)) h.promoted
        (subst (λ a. holds p.model (kind_at type) a ≡ true) (number_at 0) a.held))

    converted_value : converted p type (value_at (vs_of es) 0)
        ≡ number (V (converted_term p.model (kind_at type) (first_kind es) (number_term (term_at (ts_of es) 0))))
    converted_value =
        ap (λ a. number (convert p.model (kind_at type) a)) (number_at 0)
        ∙ ap number (sym (converted_means (sized stood) (kind_at type) (first_kind es) (number_term (term_at (ts_of es) 0))
        (subst (λ a. holds p.model (first_kind es) a ≡ true) (number_at 0) (operand_held p _ es (value_at (vs_of es) 0) (have 0)))))

    address_value : s.has_blocks ≡ true → (path : Path) → StartIsTyped p xs s path.root es
        → Means mw env (address_term p r path (ts_of es)) (address p w path (vs_of es))
    address_value on path h = start_means stood (ts_of es) (vs_of es) means on path.root path.steps es h

    moved_value : (minus index_first : Bool) (size : ℕ)
        → Means mw env (moved_terms index_first minus size (ts_of es)) (moved_in index_first minus size (vs_of es))
    moved_value minus index_first size = moved_both_mean stood index_first minus size (ts_of es) (vs_of es) means

    compared_well : s.has_blocks ≡ true → So (comparing_term p r (term_at (ts_of es) 0) (term_at (ts_of es) 1))
        ≡ may_compare w.memory.blocks (value_at (vs_of es) 0) (value_at (vs_of es) 1)
    compared_well on =
        comparing_means stood on (term_at (ts_of es) 0) (term_at (ts_of es) 1) (value_at (vs_of es) 0) (value_at (vs_of es) 1) (means 0) (means 1)

    pub op_means : (o : Op) → OpIsTyped p xs s type o es
        → ((u : Undefined) (line n : ℕ) → met (at_step u line n) ≡ op_test p xs w type o u n (vs_of es)) → all met (op_checks xs type l o es) ≡ true
        → Means mw env (op_term p xs r type o es (ts_of es)) (total_applied p xs w type o (vs_of es))
    unfolding op_term total_applied op_test applied
    op_means (op.Read path) h test all = read_means stood (plain_root xs path.root) type path (ts_of es) (vs_of es) met refl h means test all
    op_means (op.Address path accessed) h test all = address_value h.1 path h.2
    op_means (op.Decay path accessed) h test all = address_value h.1 path h.2
    op_means op.Negate h test all =
        ap (λ a. number (within p.model (kind_at type) (neg_ℤ a))) (number_at 0)
        ∙ ap (λ z. number (within p.model (kind_at type) z)) (sym (opposite_means (sized stood) (number_term (term_at (ts_of es) 0))))
        ∙ ap number (sym (within_means (sized stood) (kind_at type) (of_one term.Neg (number_term (term_at (ts_of es) 0))) h.0.promoted))
    op_means op.Complement h test all = ap number (complement_value h.0 h.1)
    op_means op.Not h test all = ap (λ b. truth_number (not b)) (sym (condition_means mw env (term_at (ts_of es) 0) (value_at (vs_of es) 0) (means 0)))
    op_means (op.Arithmetic o) h test all =
        let is = integer_given type h.0.no_pointer in
        let a = number_of_kind p _ _ (kind_at type) _ (h.1 ∙ is) (have 0) in
        let b = second_held p _ o (kind_at type) _ _ _ is h.2 (have 1) in
        let e = op_settle p xs tm w type l (op.Arithmetic o) es met test ∙ settle_met (op_checks xs type l (op.Arithmetic o) es) met wrong _ all in
        arithmetic_value stood (kind_at type) l o _ _ _ _ h.0.promoted (number_at 0) (number_at 1) a.held b e
    op_means (op.Compare c) h test all =
        ap truth_number ((λ i. compare c (number_at 0 i) (number_at 1 i)) ∙ sym (comparison_means (sized stood) c _ _))
    op_means (op.ComparePointers c) h test all =
        ap truth_number (pointers_mean stood c (term_at (ts_of es) 0) (term_at (ts_of es) 1)
        (value_at (vs_of es) 0) (value_at (vs_of es) 1) (means 0) (means 1))
    op_means (op.Offset minus index_first size accessed) h test all = moved_value minus index_first size
    op_means (op.Difference size) h test all =
        ap number (difference_means stood size (term_at (ts_of es) 0) (term_at (ts_of es) 1)
        (value_at (vs_of es) 0) (value_at (vs_of es) 1) (means 0) (means 1))
    op_means op.Convert h test all = converted_value
    op_means op.Requalify h test all = means 0
    op_means op.Cast h test all = converted_value

    pub op_says : (o : Op) → OpIsTyped p xs s type o es
        → ((u : Undefined) (line n : ℕ) → met (at_step u line n) ≡ op_test p xs w type o u n (vs_of es))
        → Says So met (op_items p xs r type l o es (ts_of es))
    unfolding op_items op_term op_test
    op_says (op.Read path) h test = read_says stood (plain_root xs path.root) type path (ts_of es) (vs_of es) met refl h means test
    op_says (op.Address path accessed) h test =
        says_asked So met _ pointing path.line _ (λ asks. pointing_means stood h.1 (address_term p r path (ts_of es)) (address p w path (vs_of es))
        (address_value h.1 path h.2) ∙ sym (test pointing path.line 0))
    op_says (op.Decay path accessed) h test =
        says_asked So met _ pointing path.line _ (λ asks. pointing_means stood h.1 (address_term p r path (ts_of es)) (address p w path (vs_of es))
        (address_value h.1 path h.2) ∙ sym (test pointing path.line 0))
    op_says op.Negate h test =
        fit_says stood met (kind_at type) l (of_one term.Neg (number_term (term_at (ts_of es) 0))) _
        (opposite_means (sized stood) (number_term (term_at (ts_of es) 0)) ∙ ap neg_ℤ (sym (number_at 0))) (test overflow l 0)
    op_says op.Complement h test =
        let a = number_of_kind p _ _ (kind_at type) _ (h.1 ∙ integer_given type h.0.no_pointer) (have 0) in
        range_says stood met (kind_at type) (within_term (kind_at type) (of_one term.BitNot (number_term (term_at (ts_of es) 0))))
        (subst (λ z. holds p.model (kind_at type) z ≡ true) (complement_value h.0 h.1) (complement_held p.model (kind_at type) _ a.held))
    op_says op.Not h test = tt
    op_says (op.Arithmetic o) h test =
        let is = integer_given type h.0.no_pointer in
        let a = number_of_kind p _ _ (kind_at type) _ (h.1 ∙ is) (have 0) in
        let b = second_held p _ o (kind_at type) _ _ _ is h.2 (have 1) in
        arithmetic_says stood (kind_at type) l _ _ met o (second_constant es) (λ y e. sym (number_at 1) ∙ constant_second p xs tm w es y e) h.0.promoted
        (subst (λ a. holds p.model (kind_at type) a ≡ true) (number_at 0) a.held) (subst (λ b. may_be_second p.model (kind_at type) o b ≡ true) (number_at 1) b)
        (λ f. test f l 0 ∙ (λ i. arithmetic_test p.model (kind_at type) o f (number_at 0 i) (number_at 1 i)))
    op_says (op.Compare c) h test = tt
    op_says (op.ComparePointers c) h test = says_asked So met (is_order c) comparing l _ (λ asks. compared_well h.1 ∙ sym (test comparing l 0))
    op_says (op.Offset minus index_first size accessed) h test =
        says_asked So met _ pointing l _ (λ asks. pointing_means stood h.1 (moved_terms index_first minus size (ts_of es))
        (moved_in index_first minus size (vs_of es)) (moved_value minus index_first size) ∙ sym (test pointing l 0))
    op_says (op.Difference size) h test = (compared_well h.1 ∙ sym (test comparing l 0), λ behind. tt)
    op_says op.Convert h test = tt
    op_says op.Requalify h test = tt
    op_says op.Cast h test = tt

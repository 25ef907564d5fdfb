-- The results of operators on integers, and what their checks say.
use Rattle.std.proofs.Common.{◌≡◌, ℕ, Bool, true, not, ◌&&◌, ℤ, pos, List, Option, Some, refl, sym, ap, ◌∙◌, subst}
use Rattle.std.proofs.lemmas.Bool.{and_parts}
use Rattle.wp_base.specs.declared.kinds.Kind.{Kind}
use Rattle.wp_base.specs.declared.kinds.Kind.TheVariants as kind
use Rattle.wp_base.specs.Kinds.{is_signed}
use Rattle.c_kinds.specs.Models.{holds}
use Rattle.typed_prog.specs.declared.operators.Arithmetic.{Arithmetic}
use Rattle.typed_prog.specs.declared.operators.Arithmetic.TheVariants as ar
use Rattle.typed_prog.specs.Tree as t
use Rattle.qed_terms.specs.Meaning as m
use Rattle.qed_terms.specs.Operators.{is_zero}
use Rattle.qed_terms.specs.Tree.{Tree, num, equal, not_of}
use Rattle.c_runs.specs.TruthStates.{Value, number}
use Rattle.c_runs.specs.Program.{Facts, Variable}
use Rattle.c_runs.specs.States.{World}
use Rattle.c_runs.specs.Operators.{Undefined, overflow, divzero, shift, is, arithmetic, computed, fits}
use Rattle.c_runs.specs.Values.{Temps}
use Rattle.c_runs.specs.Laws.{may_be_second}
use Rattle.c_runs.specs.Checks.{Check, here, may_be_zero, may_be_minus_one}
use Rattle.c_runs.specs.Tests.{totals, arithmetic_test}
use Rattle.value_terms.specs.Readings.{Term, Reading}
use Rattle.value_terms.specs.Terms.{exact_term, arithmetic_term, terms_of}
use Rattle.value_terms.specs.Words.{asked_if, held_term, division_items, arithmetic_items}
use Rattle.value_terms.specs.Typed.{Scope}
use Rattle.value_terms.specs.Laws.{Stood, Says}
use Rattle.value_terms.proofs.Saying.{says_asked, says_append}
use Rattle.value_terms.proofs.Bitwise.{ands, ors, xors}
use Rattle.value_terms.proofs.Integers.{arithmetic_means, held_means, below_means, if_signed, quotient_fits_means, shift_fits_means, zero_apart, exact_means}
use Rattle.value_terms.proofs.Pointers.{sized, range_says}

module _ {mw : m.World} {env : m.Values} {r : Reading} {p : Facts} {xs : List Variable} {s : Scope} {tm : Temps} {w : World}
    (stood : Stood mw env r p xs s tm w) where
  abbrev V : Tree → ℤ
  V t = m.value mw env t

  abbrev So : Tree → Bool
  So f = m.truth mw env f

  abbrev ts_of : t.Values → List Term
  ts_of es = terms_of p xs r es

  abbrev vs_of : t.Values → List Value
  vs_of es = totals p xs tm w es

  pub arithmetic_value : (k : Kind) (l : ℕ) (o : Arithmetic) (t u : Tree) (a b : ℤ) → (k ≡ kind.Bool → ⊥) → a ≡ V t → b ≡ V u → holds p.model k a ≡ true
      → may_be_second p.model k o b ≡ true → computed p.model k l o a b ≡ is (number (arithmetic p.model k o a b))
      → number (arithmetic p.model k o a b) ≡ number (V (arithmetic_term k o t u))
  arithmetic_value k l o t u a b other ea eb ha hb e =
      (λ i. number (arithmetic p.model k o (ea i) (eb i)))
      ∙ ap number (sym (arithmetic_means (sized stood) k l o t u other (subst (λ a. holds p.model k a ≡ true) ea ha)
      (subst (λ b. may_be_second p.model k o b ≡ true) eb hb)
      ((λ i. computed p.model k l o (sym ea i) (sym eb i)) ∙ e ∙ (λ i. is (number (arithmetic p.model k o (ea i) (eb i)))))))

  pub fit_says : (met : Check → Bool) (k : Kind) (l : ℕ) (t : Tree) (z : ℤ) → V t ≡ z → met (here overflow l) ≡ fits p.model k z
      → Says So met (asked_if (is_signed k) overflow l (held_term p.model k t))
  fit_says met k l t z e test = says_asked So met (is_signed k) overflow l _ (λ s.
      if_signed (is_signed k) _ _ s (held_means (sized stood) k t ∙ ap (holds p.model k) e) ∙ sym test)

  zero_says : (u : Tree) → So (not_of (equal u (num (pos 0)))) ≡ not (is_zero (V u))
  zero_says u = ap not (zero_apart (V u))

  module _ (k : Kind) (l : ℕ) (t u : Tree) (met : Check → Bool) where
    division_says : (z : Option ℤ) → ((y : ℤ) → z ≡ Some y → V u ≡ y) → met (here divzero l) ≡ not (is_zero (V u))
        → met (here overflow l) ≡ arithmetic_test p.model k ar.Div overflow (V t) (V u) → Says So met (division_items p.model k l z t u)
    division_says z h some fit =
        says_append So met (asked_if (may_be_zero z) divzero l _) _ (says_asked So met (may_be_zero z) divzero l _ (λ b. zero_says u ∙ sym some)) (λ behind.
        says_asked So met (is_signed k && may_be_minus_one z) overflow l _ (λ b.
        quotient_fits_means (sized stood) k z t u (and_parts (is_signed k) (may_be_minus_one z) b).0 h ∙ sym fit))

    pub arithmetic_says : (o : Arithmetic) (z : Option ℤ) → ((y : ℤ) → z ≡ Some y → V u ≡ y) → (k ≡ kind.Bool → ⊥) → holds p.model k (V t) ≡ true
        → may_be_second p.model k o (V u) ≡ true → ((f : Undefined) → met (here f l) ≡ arithmetic_test p.model k o f (V t) (V u))
        → Says So met (arithmetic_items p.model k l o z t u)
    arithmetic_says ar.Mul z h other ha hb test = fit_says met k l (exact_term ar.Mul t u) _ (exact_means (sized stood) ar.Mul t u) (test overflow)
    arithmetic_says ar.Div z h other ha hb test = division_says z h (test divzero) (test overflow)
    arithmetic_says ar.Rem z h other ha hb test = division_says z h (test divzero) (test overflow)
    arithmetic_says ar.Add z h other ha hb test = fit_says met k l (exact_term ar.Add t u) _ (exact_means (sized stood) ar.Add t u) (test overflow)
    arithmetic_says ar.Sub z h other ha hb test = fit_says met k l (exact_term ar.Sub t u) _ refl (test overflow)
    arithmetic_says ar.Shl z h other ha hb test = (
      below_means (sized stood) u _ ∙ sym (test shift),
      λ behind.
          says_asked So met (is_signed k) overflow l _ (λ s. shift_fits_means (sized stood) k t u s ∙ sym (test overflow)),
    )
    arithmetic_says ar.Shr z h other ha hb test = (below_means (sized stood) u _ ∙ sym (test shift), λ behind. tt)
    arithmetic_says ar.And z h other ha hb test = range_says stood met k (exact_term ar.And t u) (ands p.model k other (V t) (V u) ha hb).held
    arithmetic_says ar.Xor z h other ha hb test = range_says stood met k (exact_term ar.Xor t u) (xors p.model k other (V t) (V u) ha hb).held
    arithmetic_says ar.Or z h other ha hb test = range_says stood met k (exact_term ar.Or t u) (ors p.model k other (V t) (V u) ha hb).held

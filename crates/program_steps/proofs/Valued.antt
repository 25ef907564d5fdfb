-- What an expression gives: its term's value in the slots.
use Rattle.std.proofs.Common.{◌≡◌, ℕ, ℤ, pos, Bool, true, false, List, [], ◌∷◌, None, refl, sym, ap, ◌∙◌, subst}
use Rattle.std.specs.Prelude.{if◌then◌else◌}
use Rattle.std.specs.List.{list_all}
use Rattle.std.proofs.lemmas.Bool.{false≢true}
use Rattle.wp_base.specs.declared.kinds.CellKind.TheVariants as cell
use Rattle.wp_base.specs.declared.kinds.Kind.{Kind}
use Rattle.wp_base.specs.Blocks.{Table, count}
use Rattle.c_kinds.specs.Models.{holds}
use Rattle.typed_prog.specs.Tree as t
use Rattle.qed_terms.specs.Meaning as sense
use Rattle.qed_terms.specs.Meaning.{Values, truth}
use Rattle.c_runs.specs.TruthStates.{Value, number, pointer}
use Rattle.c_runs.specs.Program.{Variable, Facts}
use Rattle.c_runs.specs.States.{is_nonzero}
use Rattle.c_runs.specs.Operators.{truth_number}
use Rattle.c_runs.specs.Scopes.{is_content}
use Rattle.c_runs.specs.CoreRun.{CoreWorld}
use Rattle.c_runs.specs.Checks.{Check, checks_of}
use Rattle.c_runs.specs.Tests.{total, is_met}
use Rattle.goal_segments.specs.RunSegments.{Asks}
use Rattle.plain_states.specs.Slots.{State}
use Rattle.goal_segments.specs.Told.{Shape}
use Rattle.value_terms.specs.Readings.{Term, as_number, as_test, as_pointer, number_term, condition}
use Rattle.value_terms.specs.Terms.{term_of}
use Rattle.value_terms.specs.Words.{checks_in, word_of}
use Rattle.value_terms.specs.Typed.{kind_given}
use Rattle.value_terms.specs.Worlds.{Means}
use Rattle.value_terms.specs.Laws.{Says}
use Rattle.value_terms.proofs.Meaning.{terms_mean_values, formulas_mean_checks}
use Rattle.value_terms.proofs.Listing.{words_have_the_checks}
use Rattle.value_terms.proofs.Staying.{values_are_of_kind}
use Rattle.program_steps.specs.Leaves.{closed, leaves_of}
use Rattle.program_steps.specs.Temporaries.{Temporaries}
use Rattle.program_steps.specs.Terms.{reading}
use Rattle.program_steps.specs.Standing.{StandsFor}
use Rattle.program_steps.specs.Typed.{scope_at, ValueFits}
use Rattle.program_steps.specs.Placed.{InSetting}
use Rattle.program_steps.proofs.Standing.{holds_kinds, stood}
use Rattle.program_steps.proofs.Asking.{closed_told, closed_value}
use Rattle.program_steps.proofs.Ends.{asks_all}

-- a number of the kind, and the term's value
pub record ValueIs (m : sense.World) (p : Facts) (sts : List State) (u : _) (k : Kind) (v : Value) : Type 0 where
  pub is : v ≡ number (sense.value m (leaves_of sts) (closed u))
  pub fits : holds p.model k (sense.value m (leaves_of sts) (closed u)) ≡ true

truth_is : (b : Bool) → truth_number b ≡ number (if b then pos 1 else pos 0)
truth_is true = refl
truth_is false = refl

module _ (m : sense.World) (p : Facts) (s : Shape) (setting : InSetting m p s) {t0 : Table} (i : ℕ → Bool) (f : Temporaries) (c : CoreWorld) (st : State) (stands : StandsFor p s t0 i f c st)
    (olds : List State) (e : t.Value) (k : Kind) (fits : ValueFits p s f e k) where
  abbrev pub so : Check → Bool
  so = is_met p s.variables c.temps c.world e

  abbrev pub v : Value
  v = total p s.variables c.temps c.world e

  abbrev env : Values
  env = leaves_of (st ∷ olds)

  abbrev term : Term
  term = term_of p s.variables (reading p s) e

  pub says : Says (truth m env) so (word_of p s.variables (reading p s) e)
  says = formulas_mean_checks m env (reading p s) p s.variables (scope_at s f) c.temps c.world
      (stood p s setting.globals setting.integers i f c st stands m setting.model olds) e fits.typed

  pub checks : checks_in (word_of p s.variables (reading p s) e) ≡ checks_of s.variables e
  checks = words_have_the_checks p s.variables (reading p s) e

  number_from : (x : Term) → Means m env x v → is_content p (count c.world.memory.blocks) (cell.Of k) v ≡ true → v ≡ number (sense.value m env (number_term x))
  number_from (as_number t) means kind = means
  number_from (as_test g) means kind = means ∙ truth_is (truth m env g)
  number_from (as_pointer b o) means kind = absurd (false≢true (sym (ap (is_content p (count c.world.memory.blocks) (cell.Of k)) means) ∙ kind))

  pub value_is : Asks so (checks_of s.variables e) None → ValueIs m p (st ∷ olds) (number_term term) k v
  value_is asks =
      let all_met = asks_all asks in
      let meant = terms_mean_values m env (reading p s) p s.variables (scope_at s f) c.temps c.world
      (stood p s setting.globals setting.integers i f c st stands m setting.model olds) e fits.typed all_met in
      let of_kind : is_content p (count c.world.memory.blocks) (cell.Of k) v ≡ true =
      subst (λ x. is_content p (count c.world.memory.blocks) x v ≡ true) fits.kind
      (values_are_of_kind p s.variables (scope_at s f) c.temps c.world (holds_kinds p s setting.globals setting.integers i f c st stands) e fits.typed all_met) in
      let same = closed_value m (st ∷ olds) (number_term term) fits.term in
      let is : v ≡ number (sense.value m env (closed (number_term term))) = number_from term meant.term of_kind ∙ ap number (sym same) in
      record { is = is; fits = sym (ap (is_content p (count c.world.memory.blocks) (cell.Of k)) is) ∙ of_kind }

  pub condition_is : Asks so (checks_of s.variables e) None → truth m env (closed (condition term)) ≡ is_nonzero v
  condition_is asks =
      closed_told m (st ∷ olds) (condition term) fits.condition
      ∙ (terms_mean_values m env (reading p s) p s.variables (scope_at s f) c.temps c.world
      (stood p s setting.globals setting.integers i f c st stands m setting.model olds) e fits.typed (asks_all asks)).condition

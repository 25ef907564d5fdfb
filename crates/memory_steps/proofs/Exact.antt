-- Each goal is valid exactly where no run fails at its check.
use Rattle.std.proofs.Common.{◌≡◌, ℕ, zero, Bool, true, false, List, [], refl, sym, ap, ap₂, ◌∙◌, subst}
use Rattle.std.proofs.lemmas.Bool.{false≢true}
use Rattle.qed_terms.specs.Fresh.{none_used}
use Rattle.qed_terms.specs.Meaning as sense
use Rattle.qed_terms.specs.Meaning.{Values, truth}
use Rattle.qed_terms.specs.Setting.{Setting, world_of, IsBounded, Valid}
use Rattle.walk_steps.specs.State.{In}
use Rattle.walk_steps.specs.Walk.{Goal, formula_of}
use Rattle.walk_steps.proofs.Asking.{falsified, not_valid, Falsified}
use Rattle.walk_steps.proofs.Numbers.{one_goal}
use Rattle.memory_steps.specs.State.{State, state, Base}
use Rattle.memory_steps.specs.Forms.{state_of}
use Rattle.memory_steps.specs.Step.{Step, count}
use Rattle.memory_steps.specs.Run.{fails}
use Rattle.memory_steps.specs.Walk.{walk}
use Rattle.memory_steps.specs.Laws.{Start, AreFit, table_name, start_slots, start_world, goals, Fails, NoneFailsAt, Refuted, GoalsAreTheChecks, GoalsAreNumbered, GoalsAreExact, FalsifiedDecode, FailuresHaveGoals}
use Rattle.memory_steps.proofs.Walking.{to_run}
use Rattle.memory_steps.proofs.Reaching.{from_run}
use Rattle.memory_steps.proofs.Numbers.{walk_numbered}
use Rattle.memory_steps.proofs.Bracketed.{bracketed_steps_meet}
use Rattle.memory_steps.proofs.Entering.{bounded_too, with_table, table_bounded, table_there, start_values, start_met, start_from, nothing_remembered, start_settled, facts_known, facts_so}

pub goals_are_the_checks : GoalsAreTheChecks
goals_are_the_checks bases e a = (walk_numbered bases a [] zero none_used (start_world bases e)).places

pub goals_are_numbered : GoalsAreNumbered
goals_are_numbered bases e a = (walk_numbered bases a [] zero none_used (start_world bases e)).numbers

module _ (s : Setting) (bases : List Base) (e : Start) (a : Step) (fit : AreFit s bases e a) where
  abbrev m : sense.World
  m = world_of s

  meets : (walk bases [] zero a none_used (start_world bases e)).fits ≡ true
  meets = bracketed_steps_meet bases e a fit.bracketed

  fails_at : (g : Goal) → In g (goals bases e a) → (env : Values) → IsBounded s.long_bits env → Falsified m env g → Fails s bases e a (state_of m env (start_slots bases e.origins)) g.number
  fails_at g i env b f =
      let settled = start_settled m bases e fit.size fit.names fit.origins fit.facts in
      let r = to_run m bases fit.names a fit.step [] zero none_used (start_world bases e) settled (nothing_remembered m) meets env (fails g.number)
      (g, i, record { number = refl; falsified = f }) in (
        record {
          from = start_from m env bases e.origins fit.size;
          bounded = b table_name;
          facts = facts_so m bases e fit.size fit.names fit.origins fit.facts env _ refl r.0;
        },
        r.1,
      )

  abbrev HasGoal : ℕ → State → Type 0
  HasGoal i st = (g : Goal) × In g (goals bases e a) × (g.number ≡ i) × (env : Values) × Refuted s bases e st g env

  has_goal : (i : ℕ) (st : State) → Fails s bases e a st i → HasGoal i st
  has_goal i st f =
      let w = start_world bases e in
      let first = with_table st.table in
      let v = start_values m first bases e.origins st.slots f.0.from fit.origins in
      let slots = start_met m v.0 bases e.origins st.slots fit.size f.0.from v.2 in
      let table : v.0.tables table_name ≡ st.table = ap (λ f. f table_name) (sym v.1) ∙ table_there st.table in
      let same : state_of m v.0 (start_slots bases e.origins) ≡ st = ap₂ (λ ds t. state ds t) slots table in
      let known = facts_known m bases e fit.size fit.names fit.origins fit.facts v.0 st same f.0.facts in
      let settled = start_settled m bases e fit.size fit.names fit.origins fit.facts in
      let x = from_run m bases fit.names f.1 fit.step [] none_used w settled (nothing_remembered m) meets v.0 (record { known = known; state = same }) (record { same = refl }) in (
        x.2.0,
        x.2.1,
        x.2.2.number,
        x.0,
        record {
          bounded = bounded_too s.long_bits first x.0 (v.1 ∙ x.1.tables) (table_bounded s.long_bits st.table f.0.bounded);
          start = sym (settled.slots.same v.0 x.0 x.1) ∙ same;
          claim = not_valid m x.0 x.2.0 x.2.2.falsified;
        },
      )

  sound : (g : Goal) → In g (goals bases e a) → Valid s (formula_of g) → NoneFailsAt s bases e a g.number
  sound g i v st f =
      let x = has_goal g.number st f in
      let same : x.0 ≡ g = one_goal (goals bases e a) zero (count a) (goals_are_numbered bases e a) x.0 g x.1 i x.2 in
      false≢true (sym (subst (λ h. truth m x.3 (formula_of h) ≡ false) same x.4.claim) ∙ v x.3 x.4.bounded)

  complete : (g : Goal) → In g (goals bases e a) → NoneFailsAt s bases e a g.number → Valid s (formula_of g)
  complete g i n env b = by (truth m env (formula_of g)) refl
    where
      by : (t : Bool) → truth m env (formula_of g) ≡ t → t ≡ true
      by true e = refl
      by false e = absurd (n _ (fails_at g i env b (falsified m env g e)))

pub goals_are_exact : GoalsAreExact
goals_are_exact s bases e a fit g i = record { sound = sound s bases e a fit g i; complete = complete s bases e a fit g i }

pub falsified_decode : FalsifiedDecode
falsified_decode s bases e a fit g i env b f = fails_at s bases e a fit g i env b (falsified (world_of s) env g f)

pub failures_have_goals : FailuresHaveGoals
failures_have_goals s bases e a fit i st f = has_goal s bases e a fit i st f

-- The segment runs of a call are the runs of its word.
use Rattle.std.proofs.Common.{◌≡◌, ◌⊎◌, ℕ, suc, ◌+◌, Bool, true, false, if◌then◌else◌, List, ◌∷◌, Option, Some, None, refl, sym, ap, ◌∙◌, subst, inl, inr}
use Rattle.std.specs.List.{list_all}
use Rattle.std.proofs.lemmas.Bool.{false≢true}
use Rattle.wp_base.specs.Blocks.{Table, count as blocks_of}
use Rattle.typed_prog.specs.Tree as t
use Rattle.qed_terms.specs.Meaning as sense
use Rattle.c_runs.specs.TruthStates as labelled
use Rattle.c_runs.specs.TruthStates.{Value}
use Rattle.c_runs.specs.Program.{Measure, Contract, Function, Facts, Program}
use Rattle.c_runs.specs.States.{World, Here}
use Rattle.c_runs.specs.Claims as broken
use Rattle.c_runs.specs.Claims.{Stop, failed, unless_true, is_required, required, decreased, goes_down, measure_of, is_less, number_at, in_state, at_entry, granted_in, parts_of}
use Rattle.c_runs.specs.CoreRun.{CoreWorld, Ending, stopped, in_world}
use Rattle.c_runs.specs.Checks.{Check}
use Rattle.c_runs.specs.Tree as core
use Rattle.c_runs.specs.Tree.{Goal, Steps}
use Rattle.c_runs.specs.CheckedRun as exec
use Rattle.c_runs.specs.CheckedRun.{is_met_in}
use Rattle.goal_segments.specs.RunSegments.{Asks}
use Rattle.goal_segments.specs.Sets.{call_inside}
use Rattle.goal_segments.specs.Segments as segs
use Rattle.goal_segments.specs.Segments.{BehindCall, no_deeper, clauses_at}
use Rattle.plain_states.specs.Slots.{State}
use Rattle.plain_states.proofs.Calling.{some_same}
use Rattle.plain_runs.specs.Fitting.{Shape}
use Rattle.value_terms.specs.Words.{checks_in, words}
use Rattle.value_terms.specs.Places.{AreMeant, all_met_among}
use Rattle.walk_steps.specs.Step.{Step, places, count}
use Rattle.walk_steps.specs.Step as step
use Rattle.program_steps.specs.Leaves.{leaves_of}
use Rattle.program_steps.specs.Stops.{broken_place}
use Rattle.program_steps.specs.Temporaries.{Temporaries, live}
use Rattle.program_steps.specs.Terms.{Texts, reading}
use Rattle.program_steps.specs.Words.{Point, items_step, ask_all}
use Rattle.program_steps.specs.Standing.{StandsFor, SeenBy, Ends}
use Rattle.program_steps.specs.Placed.{InSetting, Placed, BothWays}
use Rattle.program_steps.proofs.Ends.{asks_all, after_items}
use Rattle.call_words.specs.Sets.{inclusion_trees}
use Rattle.call_words.specs.Words.{call_requires, lower_by, behind_call, call_of, call_by}
use Rattle.call_words.specs.Fits.{SeenCall, CallFits}
use Rattle.call_words.specs.Laws.{CallsRun}
use Rattle.call_words.proofs.Views.{are_meant}
use Rattle.call_words.proofs.Claims.{call_requires_told, is_lower, lower_told}
use Rattle.call_words.proofs.Inside.{inclusion_told}
use Rattle.call_words.proofs.Tail.{seen_now, tail_both}
use Rattle.call_words.proofs.Stages.{Stage, stage_both}

module _ (m : sense.World) (q : Program Steps) (s : Shape) (texts : Texts) (contract : Contract) (setting : InSetting m q.facts s) (t0 : Table) (here : Here) (pt : Point)
    (olds : List State) (placed : Placed m q.facts s texts contract pt here olds) (i : ℕ → Bool) (f : Temporaries) (cs : List Check) (to : Goal)
    (k l : ℕ) (es : t.Values) (fits : CallFits m q.facts s texts contract q.functions i pt.outs f cs to k l es) (c : CoreWorld) (st : State)
    (stands : StandsFor q.facts s t0 i (live (core.call cs to k l es) pt.outs f) c st) where
  abbrev p : Facts
  p = q.facts

  abbrev g : Function Steps
  g = fits.function

  abbrev vs : List Value
  vs = exec.totals_in q no_deeper s.variables c es

  abbrev entry : labelled.World
  entry = at_entry p vs c.world.memory

  abbrev so : Check → Bool
  so = is_met_in p s.variables c.temps c.world es

  -- ---- the tests of a call, in order

  abbrev required_stop : Option Stop
  required_stop = required p l entry g.contract

  abbrev lower_stop : Option Stop
  lower_stop = decreased p l here k (measure_of p entry g.contract.decreases)

  abbrev inside : Bool
  inside = call_inside p here.granted (clauses_at q s.variables g vs c.world)

  abbrev inside_stop : Option Stop
  inside_stop = unless_true inside broken.assigns l

  abbrev Back : Ending → Type 0
  Back o = (v : Value) × ((u : World) × (BehindCall p k g vs c.world v u × (exec.result_to q no_deeper s.variables here to v (in_world c u) ≡ o)))

  abbrev Tested : Ending → Type 0
  Tested = Stage required_stop (Stage lower_stop (Stage inside_stop Back))

  -- ---- segment runs by what they do

  same_function : (h : Function Steps) → q.functions k ≡ Some h → h ≡ g
  same_function h e = some_same h g (sym e ∙ fits.found)

  is_inside : inside ≡ true → inside_stop ≡ None
  is_inside e = ap (λ b. unless_true b broken.assigns l) e

  abbrev Ways : Ending → Type 0
  Ways o = ((y : Stop) × Asks so cs (Some y) × (stopped y ≡ o)) ⊎ (Asks so cs None × Tested o)

  -- with the function that is called
  required_of : Function Steps → Option Stop
  required_of h = required p l entry h.contract

  call_ways : (o : Ending) → segs.Seg q s.variables here (core.call cs to k l es) c o → Ways o
  call_ways o (segs.single is h) = absurd (false≢true is)
  call_ways _ (segs.argument_stops {s = y} asks) = inl (y, asks, refl)
  call_ways _ (segs.not_required {f = h} {s = y} asks e r) =
      inr (asks, inl (y, (ap (λ (h : Function Steps). required p l entry h.contract) (sym (same_function h e)) ∙ r, refl)))
  call_ways _ (segs.not_lower {f = h} {s = y} asks e r d) =
      let same = sym (same_function h e) in
      inr (asks, inr (ap (λ (h : Function Steps). required p l entry h.contract) same ∙ r, inl (y, (ap (λ (h : Function Steps). decreased p l here k (measure_of p entry h.contract.decreases)) same ∙ d, refl))))
  call_ways _ (segs.call_outside {f = h} asks e r d out) =
      let same = sym (same_function h e) in
      inr (
        asks,
        inr (
          ap (λ (h : Function Steps). required p l entry h.contract) same ∙ r,
          inr (
            ap (λ (h : Function Steps). decreased p l here k (measure_of p entry h.contract.decreases)) same ∙ d,
            inl (failed broken.assigns l, (ap (λ b. unless_true b broken.assigns l) (ap (λ h. call_inside p here.granted (clauses_at q s.variables h vs c.world)) same ∙ out), refl)),
          ),
        ),
      )
  call_ways o (segs.returns_from {f = h} {v = v} {u = u} asks e r d within behind is) =
      let same = sym (same_function h e) in
      inr (
        asks,
        inr (
          ap (λ (h : Function Steps). required p l entry h.contract) same ∙ r,
          inr (
            ap (λ (h : Function Steps). decreased p l here k (measure_of p entry h.contract.decreases)) same ∙ d,
            inr (is_inside (ap (λ h. call_inside p here.granted (clauses_at q s.variables h vs c.world)) same ∙ within), (v, (u, (subst (λ h. BehindCall p k h vs c.world v u) (sym same) behind, is)))),
          ),
        ),
      )

  abbrev Run : Ending → Type 0
  Run o = segs.Seg q s.variables here (core.call cs to k l es) c o

  no_stop : (b : Bool) → unless_true b broken.assigns l ≡ None → b ≡ true
  no_stop true h = refl
  no_stop false h = absurd (some_none h) where
    some_none : {X : Type 0} {x : X} → Some x ≡ None → ⊥
    some_none e = cc

  a_stop : (b : Bool) (y : Stop) → unless_true b broken.assigns l ≡ Some y → (b ≡ false) × (failed broken.assigns l ≡ y)
  a_stop true y h = absurd (none_some h) where
    none_some : {X : Type 0} {x : X} → None ≡ Some x → ⊥
    none_some e = cc
  a_stop false y h = (refl, some_same (failed broken.assigns l) y h)

  tested_run : Asks so cs None → (o : Ending) → Tested o → Run o
  tested_run asks o (inl (y, (r, is))) = subst Run is (segs.not_required asks fits.found r)
  tested_run asks o (inr (r, inl (y, (d, is)))) = subst Run is (segs.not_lower asks fits.found r d)
  tested_run asks o (inr (r, inr (d, inl (y, (out, is))))) =
      let x = a_stop inside y out in
      subst Run (ap stopped x.1 ∙ is) (segs.call_outside asks fits.found r d x.0)
  tested_run asks o (inr (r, inr (d, inr (within, (v, (u, (behind, is))))))) = segs.returns_from asks fits.found r d (no_stop inside within) behind is

  -- ---- what is asked says so

  caller_entry : SeenBy p s (in_state p here.entry) (st ∷ olds) (suc pt.entry) (suc pt.entry) (suc pt.entry)
  caller_entry = record { here_is = placed.entry; pre_is = placed.entry; post_is = placed.entry; loop_entry_is = placed.entry; model = refl; structs = λ n. refl }

  measured : lower_stop ≡ (if p.in_cluster pt.self k then goes_down l (measure_of p (in_state p here.entry) contract.decreases) (measure_of p entry g.contract.decreases) else None)
  measured = λ j. if p.in_cluster (placed.carried.function j) k then goes_down l (placed.carried.measure j) (measure_of p entry g.contract.decreases) else None

  module _ (met : all_met_among p s.variables c.temps c.world es ≡ true) where
    seen : SeenCall m p s texts g es entry (st ∷ olds) 0
    seen = seen_now m q s texts contract setting t0 here pt olds placed i f cs to k l es fits c st stands met olds

    abbrev goes_lower : Bool → Option Measure → Option Measure → Bool
    goes_lower b old now = is_lower m p s texts (st ∷ olds) g es entry seen (suc pt.entry) (in_state p here.entry) caller_entry b old now

    lower_so : (b : Bool) (old now : Option Measure) → goes_lower b old now ≡ true
        → (if b then goes_down l (measure_of p (in_state p here.entry) old) (measure_of p entry now) else None) ≡ None
    lower_so false old now h = refl
    lower_so true None now h = refl
    lower_so true (Some a) None h = refl
    lower_so true (Some a) (Some d) h = ap (λ b. unless_true b broken.decreases l) h

    not_lower_so : (b : Bool) (old now : Option Measure) → goes_lower b old now ≡ false
        → (if b then goes_down l (measure_of p (in_state p here.entry) old) (measure_of p entry now) else None) ≡ Some (failed broken.decreases l)
    not_lower_so false old now h = absurd (false≢true (sym h))
    not_lower_so true None now h = absurd (false≢true (sym h))
    not_lower_so true (Some a) None h = absurd (false≢true (sym h))
    not_lower_so true (Some a) (Some d) h = ap (λ b. unless_true b broken.decreases l) h

    -- ---- the word behind the arguments

    abbrev last_word : Step
    last_word = behind_call m p s texts contract q.functions pt to g es

    abbrev inside_word : Step
    inside_word = step.seq (ask_all m (inclusion_trees p s texts g es contract pt) (broken_place broken.assigns l)) last_word

    abbrev lower_word : Step
    lower_word = step.seq (ask_all m (lower_by p s texts g es (suc pt.entry) (p.in_cluster pt.self k) contract.decreases g.contract.decreases) (broken_place broken.decreases l)) inside_word

    abbrev required_word : Step
    required_word = step.seq (ask_all m (call_requires p s texts g es) (broken_place broken.requires l)) lower_word

    inside_both : (n : ℕ) → BothWays (Stage inside_stop Back) (Ends p s t0 i pt.outs f (places inside_word) n) olds n inside_word st
    inside_both n = stage_both p s t0 i pt.outs f m olds st (broken_place broken.assigns l) (inclusion_trees p s texts g es contract pt) n (failed broken.assigns l) (refl, refl) last_word Back inside_stop
        inside (inclusion_told m p s texts g es setting.globals (st ∷ olds) entry seen fits.callee (blocks_of c.world.memory.blocks) contract fits.caller here pt caller_entry placed.carried.granted)
        is_inside (λ e. ap (λ b. unless_true b broken.assigns l) e)
        (tail_both m q s texts contract setting t0 here pt olds placed i f cs to k l es fits c st stands met _)

    lower_both : (n : ℕ) → BothWays (Stage lower_stop (Stage inside_stop Back)) (Ends p s t0 i pt.outs f (places lower_word) n) olds n lower_word st
    lower_both n = stage_both p s t0 i pt.outs f m olds st (broken_place broken.decreases l)
        (lower_by p s texts g es (suc pt.entry) (p.in_cluster pt.self k) contract.decreases g.contract.decreases) n (failed broken.decreases l) (refl, refl) inside_word (Stage inside_stop Back) lower_stop
        (goes_lower (p.in_cluster pt.self k) contract.decreases g.contract.decreases)
        (lower_told m p s texts (st ∷ olds) g es entry seen (suc pt.entry) (in_state p here.entry) caller_entry (p.in_cluster pt.self k) contract.decreases g.contract.decreases fits.caller.measure fits.callee.measure)
        (λ e. measured ∙ lower_so (p.in_cluster pt.self k) contract.decreases g.contract.decreases e)
        (λ e. measured ∙ not_lower_so (p.in_cluster pt.self k) contract.decreases g.contract.decreases e)
        (inside_both _)

    required_both : (n : ℕ) → BothWays Tested (Ends p s t0 i pt.outs f (places required_word) n) olds n required_word st
    required_both n = stage_both p s t0 i pt.outs f m olds st (broken_place broken.requires l) (call_requires p s texts g es) n (failed broken.requires l) (refl, refl) lower_word
        (Stage lower_stop (Stage inside_stop Back)) required_stop (list_all (is_required p entry) (parts_of g.contract))
        (call_requires_told m p s texts (st ∷ olds) g es entry seen fits.callee)
        (λ e. ap (λ b. unless_true b broken.requires l) e) (λ e. ap (λ b. unless_true b broken.requires l) e)
        (lower_both _)

  -- ---- the whole

  meant : AreMeant m (leaves_of (st ∷ olds)) (reading p s) p s.variables c.temps c.world es
  meant = are_meant m p s setting i (live (core.call cs to k l es) pt.outs f) c st stands (st ∷ olds) 0 refl es fits.typed

  same_checks : checks_in (words p s.variables (reading p s) es) ≡ cs
  same_checks = meant.checks ∙ sym fits.checks

  met_so : Asks so (checks_in (words p s.variables (reading p s) es)) None → all_met_among p s.variables c.temps c.world es ≡ true
  met_so asks = asks_all (subst (λ cs. Asks so cs None) meant.checks asks)

  abbrev word : Step
  word = call_of m p s texts contract q.functions pt to k l g es

  from_ways : (o : Ending) → Ways o → ((y : Stop) × Asks so (checks_in (words p s.variables (reading p s) es)) (Some y) × (stopped y ≡ o)) ⊎ (Asks so (checks_in (words p s.variables (reading p s) es)) None × Tested o)
  from_ways o (inl (y, asks, is)) = inl (y, subst (λ cs. Asks so cs (Some y)) (sym same_checks) asks, is)
  from_ways o (inr (asks, tested)) = inr (subst (λ cs. Asks so cs None) (sym same_checks) asks, tested)

  pub call_both : (n : ℕ) → BothWays Run (Ends p s t0 i pt.outs f (places word) n) olds n word st
  call_both n = after_items p s t0 i pt.outs f m olds st so (words p s.variables (reading p s) es) fits.items meant.word n
      (step.seq (ask_all m (call_requires p s texts g es) (broken_place broken.requires l))
      (step.seq (ask_all m (lower_by p s texts g es (suc pt.entry) (p.in_cluster pt.self k) contract.decreases g.contract.decreases) (broken_place broken.decreases l))
      (step.seq (ask_all m (inclusion_trees p s texts g es contract pt) (broken_place broken.assigns l))
      (behind_call m p s texts contract q.functions pt to g es))))
      Run Tested
      (λ o h. from_ways o (call_ways o h))
      (λ y asks. segs.argument_stops (subst (λ cs. Asks so cs (Some y)) same_checks asks))
      (λ asks o h. tested_run (subst (λ cs. Asks so cs None) same_checks asks) o h)
      (λ asks. required_both (met_so asks) (n + count (items_step m (words p s.variables (reading p s) es))))

pub calls_run : CallsRun
calls_run m q s texts contract setting table here pt olds placed in_scope after cs to k l es fits n c st stands =
    subst (λ o. BothWays (segs.Seg q s.variables here (core.call cs to k l es) c)
    (Ends q.facts s table in_scope pt.outs after (places (call_by m q.facts s texts contract q.functions pt to k l o es)) n) olds n
    (call_by m q.facts s texts contract q.functions pt to k l o es) st) (sym fits.found)
    (call_both m q s texts contract setting table here pt olds placed in_scope after cs to k l es fits c st stands n)

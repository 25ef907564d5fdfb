-- Single statements and their words.
use Rattle.std.proofs.Common.{◌≡◌, ℕ, ◌+◌, ◌<◌, pos, Bool, true, false, not, ◌&&◌, ◌||◌, if◌then◌else◌, List, [], ◌∷◌, ◌++◌, map, Some, None, slice_get, refl, sym, ap, ◌∙◌, subst, inl, inr, append-nil}
use Rattle.std.specs.Prelude.{◌==◌}
use Rattle.std.specs.List.{list_all}
use Rattle.std.proofs.lemmas.Bool.{false≢true, and_parts}
use Rattle.std.proofs.lemmas.Bool.Decides.{Decides-eqb}
use Rattle.wp_base.specs.declared.kinds.CellKind.{CellKind}
use Rattle.typed_prog.specs.declared.types.CoreType.{CoreType}
use Rattle.typed_prog.specs.declared.operators.Path.{Path}
use Rattle.typed_prog.specs.declared.operators.Root.TheVariants as root
use Rattle.typed_prog.specs.declared.operators.Variable as code
use Rattle.typed_prog.specs.declared.operators.Variable.TheVariants as variables
use Rattle.typed_prog.specs.Tree as t
use Rattle.qed_terms.specs.Meaning as sense
use Rattle.qed_terms.specs.Meaning.{truth}
use Rattle.qed_terms.specs.Tree.{Tree}
use Rattle.c_runs.specs.TruthStates.{Value}
use Rattle.c_runs.specs.TruthStates as labelled
use Rattle.c_runs.specs.Truth.{value_at}
use Rattle.c_runs.specs.Program.{Variable, Contract, Facts, Program, Claim}
use Rattle.c_runs.specs.States.{World, Here, plain, seen, with_local, with_memory, stored_in, global_home}
use Rattle.c_runs.specs.Claims as broken
use Rattle.c_runs.specs.Claims.{failed, unless_true, in_body, may_change, may_change_local}
use Rattle.c_runs.specs.Effects as effects
use Rattle.c_runs.specs.Effects.{granted, wrote_act, initial_act, kind_there}
use Rattle.c_runs.specs.Objects.{plain_root, is_plain_in, cell_of, along, start as start_at, address}
use Rattle.c_runs.specs.CoreRun as run
use Rattle.c_runs.specs.CoreRun.{CoreWorld, Ending, stopped, with_eval, in_world, with_temp}
use Rattle.c_runs.specs.Checks.{Check, checks_of, all_checks, in_operand, later}
use Rattle.c_runs.specs.Tree as core
use Rattle.c_runs.specs.Tree.{Steps}
use Rattle.c_runs.specs.CheckedRun as exec
use Rattle.c_runs.specs.CheckedRun.{place_test, way_values, stored_value}
use Rattle.goal_segments.specs.RunSegments.{Asks}
use Rattle.goal_segments.specs.Segments as segs
use Rattle.goal_segments.specs.Segments.{is_single, no_deeper}
use Rattle.typed_memories.proofs.Tests.{chosen}
use Rattle.value_terms.specs.Readings.{Term, term_at, plain_global}
use Rattle.value_terms.specs.Words.{Item, asked, known, checks_in, word_of, words}
use Rattle.value_terms.specs.Typed.{operand_kind}
use Rattle.value_terms.specs.Laws.{Says}
use Rattle.memory_steps.specs.State.{State}
use Rattle.memory_steps.specs.Step.{Step, places, count}
use Rattle.memory_steps.specs.Step as step
use Rattle.memory_steps.specs.Run.{End, goes_on, fails, Seg}
use Rattle.memory_steps.specs.Run as seg
use Rattle.memory_steps.proofs.Readings.{Asked, ask_ways}
use Rattle.memory_words.specs.Leaves.{closed, leaves_of}
use Rattle.program_steps.specs.Stops.{broken_place}
use Rattle.program_steps.specs.Temporaries.{Temporaries, uses, some_use, live}
use Rattle.memory_words.specs.Shapes.{Shape, FileCells, sizes, kind_of}
use Rattle.memory_words.specs.Readings.{Texts, reading, body_reading}
use Rattle.memory_words.specs.Standing.{Frame, AllLive, StandsFor}
use Rattle.memory_words.specs.Seen.{InSetting, ValueFits, ClaimFits, BodySeen, SeenInBody, state_of}
use Rattle.memory_words.specs.Points.{Point, uses_of}
use Rattle.memory_words.specs.Words as word
use Rattle.memory_words.specs.Words.{Others, items_step, ask_all, set_variable, set_temporary, rest_of}
use Rattle.memory_words.specs.Sets.{variable_trees, claim_tree, or_none}
use Rattle.memory_words.specs.Typed.{ValuesFit, StoreFits, way_checks}
use Rattle.memory_words.specs.Placed.{Openings, Placed, Ends, BothWays, all_told}
use Rattle.memory_words.specs.Puts.{ScopeHas, Reaches}
use Rattle.memory_words.specs.Values.{HasValue, AllEvaluate, met_in, met_among}
use Rattle.memory_words.specs.PutLaws.{SinglesAreRuns, word_at, SingleRuns, SinglesRun}
use Rattle.memory_words.proofs.PutStanding.{slots_go_on}
use Rattle.memory_words.proofs.Setting.{keeps_own, temporaries_are_set, locals_are_set, globals_are_set}
use Rattle.memory_words.proofs.Valued.{closed_told, expressions_evaluate, operands_evaluate}
use Rattle.memory_words.proofs.Ends.{asks_all, one_end, items_run_well, asked_run}
use Rattle.memory_words.proofs.Seeing.{bodies_see}
use Rattle.memory_words.proofs.Worlds.{annotations_read}

-- ---- segment runs of single statements

single_is : (q : Program Steps) (xs : List Variable) (here : Here) (a : core.Step) (c : CoreWorld) (o : Ending) → is_single a ≡ true → segs.Seg q xs here a c o
    → exec.exec q no_deeper xs here a c ≡ o
single_is q xs here a c o is (segs.single x h) = h
single_is q xs here a c o is (segs.first_arm x y z) = absurd (false≢true is)
single_is q xs here a c o is (segs.other_arm x y z) = absurd (false≢true is)
single_is q xs here a c o is (segs.test_stops x) = absurd (false≢true is)
single_is q xs here a c o is (segs.blocks x y) = absurd (false≢true is)
single_is q xs here a c o is (segs.scopes x y) = absurd (false≢true is)
single_is q xs here a c o is (segs.set_outside x) = absurd (false≢true is)
single_is q xs here a c o is (segs.entry_fails x y) = absurd (false≢true is)
single_is q xs here a c o is (segs.pass_ends x y z u v w) = absurd (false≢true is)
single_is q xs here a c o is (segs.again_fails x y z u v w) = absurd (false≢true is)
single_is q xs here a c o is (segs.argument_stops x) = absurd (false≢true is)
single_is q xs here a c o is (segs.not_required x y z) = absurd (false≢true is)
single_is q xs here a c o is (segs.not_lower x y z u) = absurd (false≢true is)
single_is q xs here a c o is (segs.call_outside x y z u v) = absurd (false≢true is)
single_is q xs here a c o is (segs.returns_from x y z u v w k) = absurd (false≢true is)

pub singles_are_runs : SinglesAreRuns
singles_are_runs q xs here a c o is = record { is = single_is q xs here a c o is; runs = λ h. segs.single is h }

pub of_single : (q : Program Steps) (xs : List Variable) (here : Here) (a : core.Step) (c : CoreWorld) → is_single a ≡ true
    → {ends : Ending → End → Type 0} {olds : List State} {n : ℕ} {b : Step} {st : State}
    → BothWays (λ o. exec.exec q no_deeper xs here a c ≡ o) ends olds n b st → BothWays (segs.Seg q xs here a c) ends olds n b st
of_single q xs here a c is both = record {
  forth = λ o h. both.forth o (single_is q xs here a c o is h);
  back = λ e k. let x = both.back e k in (x.0, segs.single is x.1, x.2);
}

-- ---- checks of operands are those of a place

abbrev has_way : Check → Bool
has_way c = by c.way where
  by : List ℕ → Bool
  by [] = false
  by (i ∷ way) = true

joined_ways : (cs ds : List Check) → list_all has_way cs ≡ true → list_all has_way ds ≡ true → list_all has_way (cs ++ ds) ≡ true
joined_ways [] ds h k = k
joined_ways (c ∷ cs) ds h k = let both = and_parts (has_way c) (list_all has_way cs) h in ap (λ b. b && list_all has_way (cs ++ ds)) both.0 ∙ joined_ways cs ds both.1 k

operand_ways : (cs : List Check) → list_all has_way (map (in_operand 0) cs) ≡ true
operand_ways [] = refl
operand_ways (c ∷ cs) = operand_ways cs

later_way : (c : Check) → has_way c ≡ true → has_way (later c) ≡ true
later_way c h = by c.way h where
  by : (way : List ℕ) → has_way (record c { way = way }) ≡ true → has_way (later (record c { way = way })) ≡ true
  by [] h = h
  by (i ∷ way) h = refl

later_ways : (cs : List Check) → list_all has_way cs ≡ true → list_all has_way (map later cs) ≡ true
later_ways [] h = refl
later_ways (c ∷ cs) h =
    let both = and_parts (has_way c) (list_all has_way cs) h in
    ap (λ b. b && list_all has_way (map later cs)) (later_way c both.0) ∙ later_ways cs both.1

pub all_ways : (xs : List Variable) (es : t.Values) → list_all has_way (all_checks xs es) ≡ true
all_ways xs t.stop = refl
all_ways xs (t.more e es) =
    joined_ways (map (in_operand 0) (checks_of xs e)) (map later (all_checks xs es)) (operand_ways (checks_of xs e))
    (later_ways (all_checks xs es) (all_ways xs es))

-- two tests that are the same for them
pub says_else : (so : Tree → Bool) (one two : Check → Bool) → ((c : Check) → has_way c ≡ true → two c ≡ one c) → (is : List Item) → list_all has_way (checks_in is) ≡ true
    → Says so one is → Says so two is
says_else so one two same [] ways h = tt
says_else so one two same (asked c f ∷ is) ways h =
    let both = and_parts (has_way c) (list_all has_way (checks_in is)) ways in
    let e = same c both.0 in
    (h.0 ∙ sym e, λ met. says_else so one two same is both.1 (h.1 (sym e ∙ met)))
says_else so one two same (known f ∷ is) ways h = (h.0, says_else so one two same is ways h.1)

pub all_else : (one two : Check → Bool) → ((c : Check) → has_way c ≡ true → two c ≡ one c) → (cs : List Check)
    → list_all has_way cs ≡ true → list_all two cs ≡ true → list_all one cs ≡ true
all_else one two same [] ways h = refl
all_else one two same (c ∷ cs) ways h =
    let both = and_parts (has_way c) (list_all has_way cs) ways in
    let met = and_parts (two c) (list_all two cs) h in
    ap (λ b. b && list_all one cs) (sym (same c both.0) ∙ met.0) ∙ all_else one two same cs both.1 met.1

pub place_same : (p : Facts) (s : Shape) (c : CoreWorld) (type : CoreType) (path : Path) (vs : List Value) (es : t.Values) (a : Check) → has_way a ≡ true
    → place_test p s.variables c.temps c.world type path vs es a ≡ exec.is_met_in p s.variables c.temps c.world es a
place_same p s c type path vs es a h = by a.way h where
  by : (way : List ℕ) → has_way (record a { way = way }) ≡ true
      → place_test p s.variables c.temps c.world type path vs es (record a { way = way }) ≡ exec.is_met_in p s.variables c.temps c.world es (record a { way = way })
  by [] h = absurd (false≢true h)
  by (i ∷ way) h = refl

-- ---- frames

-- a variable that is in scope
same_scope : (x : ℕ) (fr : Frame) → fr.in_scope x ≡ true → ScopeHas x fr fr
same_scope x fr h = record { now = h; scope = λ y differ. refl; lives = λ y differ l. l; table = refl; homes = λ y. refl }

or_left : (a b : Bool) → a ≡ true → (a || b) ≡ true
or_left a b e = ap (λ t. t || b) e

or_right : (a b : Bool) → b ≡ true → (a || b) ≡ true
or_right true b e = refl
or_right false b e = e

module _ (m : sense.World) (q : Program Steps) (s : Shape) (cells : FileCells) (texts : Texts) (contract : Contract) (others : Others) (setting : InSetting m q.facts s cells)
    (here : Here) (pt : Point) (olds : List State) (fr : Frame) (os : Openings) (placed : Placed m q.facts s cells texts contract pt here olds fr os)
    (after : Temporaries) (n : ℕ) (c : CoreWorld) (st : State) where
  abbrev p : Facts
  p = q.facts

  abbrev outs : List Temporaries
  outs = uses_of pt.outs

  abbrev EndsAt : Step → ℕ → Ending → End → Type 0
  EndsAt b k o e = Ends p s cells fr os outs after (places b) k o e

  abbrev word_of_it : core.Step → Step
  word_of_it a = word_at m q s cells texts contract others pt a after

  live_all : AllLive fr
  live_all = placed.lives

  same_scopes : pt.stands.in_scope ≡ fr.in_scope
  same_scopes = λ i x. sym (placed.scope x) i

  -- ---- temporaries that go on being used

  used_less : (f : Temporaries) → ((j : ℕ) → after j ≡ true → f j ≡ true) → StandsFor p s cells fr f c st → StandsFor p s cells fr after c st
  used_less f less stands = slots_go_on p s cells fr f c st stands after less st (keeps_own (sizes p s) after (λ a. ⊥) st stands.size)

  -- ---- a value behind its checks

  behind_value : (f : Temporaries) (e : t.Value) (k : CellKind) → StandsFor p s cells fr f c st → ValueFits p s cells pt.stands.in_scope f e k → (b : Step) (behind : Ending)
      → (HasValue m p s cells c st olds k (word.term_in m p s cells texts contract others e) (exec.total_in q no_deeper s.variables c e) → (n' : ℕ)
      → BothWays (λ o. behind ≡ o) (EndsAt b n') olds n' b st)
      → (cs : List Check) → cs ≡ checks_of s.variables e
      → BothWays (λ o. exec.asked_of q no_deeper s.variables cs c e behind ≡ o) (EndsAt (step.seq (word.value_step m p s cells texts contract others e) b) n) olds n
      (step.seq (word.value_step m p s cells texts contract others e) b) st
  behind_value f e k stands fits b behind tail cs same =
      let ev = expressions_evaluate m p s cells setting fr live_all f c st stands olds e k (subst (λ i. ValueFits p s cells i f e k) same_scopes fits) in
      items_run_well m p s cells fr os outs after (sizes p s) olds st (met_in m p s cells c st olds e) (word_of p s.variables (reading p s cells) e) fits.items ev.says cs
      (ev.checks ∙ sym same) n b behind
      (λ asks. tail (ev.value (subst (λ cs. list_all (met_in m p s cells c st olds e) cs ≡ true) same (asks_all asks)))
      (n + count (items_step m (sizes p s) (word_of p s.variables (reading p s cells) e))))

  -- ---- a temporary

  less_set : (k : ℕ) (e : t.Value) (j : ℕ) → (k ≡ j → ⊥) → after j ≡ true → (uses e j || (not (k == j) && after j)) ≡ true
  less_set k e j differ h = by (uses e j) (k == j) refl where
    by : (a b : Bool) → (k == j) ≡ b → (a || (not b && after j)) ≡ true
    by true b r = refl
    by false true r = absurd (differ ((Decides-eqb k j).0 r))
    by false false r = h

  set_both : (cs : List Check) (k : ℕ) (e : t.Value) → k < s.temporaries → ValueFits p s cells pt.stands.in_scope (live (core.set cs k e) outs after) e (s.temp_kind k)
      → cs ≡ checks_of s.variables e → SingleRuns m q s cells texts contract others here pt olds fr os after n c st (core.set cs k e)
  set_both cs k e below fits same stands = of_single q s.variables here (core.set cs k e) c refl
      (behind_value (live (core.set cs k e) outs after) e (s.temp_kind k) stands fits (set_temporary m (sizes p s) (s.temp_kind k) k (word.term_in m p s cells texts contract others e))
      (run.goes_on (with_temp k (exec.total_in q no_deeper s.variables c e) c))
      (λ v n'. let r = temporaries_are_set m p s cells fr (live (core.set cs k e) outs after) c st stands olds after k below (λ j differ h. less_set k e j differ h)
      (word.term_in m p s cells texts contract others e) (exec.total_in q no_deeper s.variables c e) (v.gives _ refl) v.fits in
      one_end (EndsAt (set_temporary m (sizes p s) (s.temp_kind k) k (word.term_in m p s cells texts contract others e)) n') olds n'
      (set_temporary m (sizes p s) (s.temp_kind k) k (word.term_in m p s cells texts contract others e)) st r.state
      (run.goes_on (with_temp k (exec.total_in q no_deeper s.variables c e) c)) r.end r.is) cs same)

  -- ---- a variable's first value

  start_both : (cs : List Check) (x : ℕ) (e : t.Value) (k : CellKind) (y : Variable) → slice_get s.variables x ≡ Some y → y.is_plain ≡ true → pt.stands.in_scope x ≡ true
      → kind_of y ≡ k → ValueFits p s cells pt.stands.in_scope (live (core.start cs x e) outs after) e k → cs ≡ checks_of s.variables e
      → SingleRuns m q s cells texts contract others here pt olds fr os after n c st (core.start cs x e)
  start_both cs x e k y found plainly scoped kind fits same stands = of_single q s.variables here (core.start cs x e) c refl
      (behind_value (live (core.start cs x e) outs after) e k stands fits (word.start_of m p s cells texts contract others x (slice_get s.variables x) u)
      (run.goes_on (in_world c (initial_act s.variables x v c.world))) tail cs same)
    where
      u : Term
      u = word.term_in m p s cells texts contract others e

      v : Value
      v = exec.total_in q no_deeper s.variables c e

      stands_after : StandsFor p s cells fr after c st
      stands_after = used_less (live (core.start cs x e) outs after) (λ j h. or_right (uses e j) (after j) h) stands

      made : initial_act s.variables x v c.world ≡ with_local x (plain v true) c.world
      made = ap (λ o. effects.initial_by o x (c.world.locals x) v c.world) found ∙ chosen y.is_plain _ _ plainly

      word_is : word.start_of m p s cells texts contract others x (slice_get s.variables x) u ≡ set_variable m (sizes p s) (kind_of y) (variables.Local x) u
      word_is = ap (λ o. word.start_of m p s cells texts contract others x o u) found ∙ chosen y.is_plain _ _ plainly

      tail : HasValue m p s cells c st olds k u v → (n' : ℕ)
          → BothWays (λ o. run.goes_on (in_world c (initial_act s.variables x v c.world)) ≡ o)
          (EndsAt (word.start_of m p s cells texts contract others x (slice_get s.variables x) u) n') olds n'
          (word.start_of m p s cells texts contract others x (slice_get s.variables x) u) st
      tail h n' =
          let own : HasValue m p s cells c st olds (kind_of y) u v = subst (λ k. HasValue m p s cells c st olds k u v) (sym kind) h in
          let r = locals_are_set m p s cells fr after c st stands_after olds x y found plainly fr (same_scope x fr (placed.scope x ∙ scoped)) u v (own.gives _ refl) own.fits in
          subst (λ b. BothWays (λ o. run.goes_on (in_world c (initial_act s.variables x v c.world)) ≡ o) (EndsAt b n') olds n' b st) (sym word_is)
          (subst (λ w. BothWays (λ o. run.goes_on (in_world c w) ≡ o) (EndsAt (set_variable m (sizes p s) (kind_of y) (variables.Local x) u) n') olds n'
          (set_variable m (sizes p s) (kind_of y) (variables.Local x) u) st) (sym made)
          (one_end (EndsAt (set_variable m (sizes p s) (kind_of y) (variables.Local x) u) n') olds n' (set_variable m (sizes p s) (kind_of y) (variables.Local x) u) st r.state
          (run.goes_on (in_world c (with_local x (plain v true) c.world))) r.end r.is))

  -- ---- assignments

  less_store : (es : t.Values) (j : ℕ) → after j ≡ true → (some_use es j || after j) ≡ true
  less_store es j h = or_right (some_use es j) (after j) h

  -- what is asked before a write, and the write
  module _ (x : code.Variable) (l : ℕ) (type : CoreType) (u : Term) (v : Value) (w : World) (leave : Bool)
      (told : all_told m (st ∷ olds) (variable_trees p s cells texts contract pt x) ≡ leave)
      (r : Reaches olds (set_variable m (sizes p s) (cell_of type) x u) st (StandsFor p s cells fr after (in_world c w))) where
    abbrev variable_word : Step
    variable_word = word.store_to_variable m p s cells texts contract others pt l (cell_of type) x u

    write_both : (n' : ℕ) → BothWays (λ o. with_eval (wrote_act v (granted leave l w)) (λ z w. run.goes_on (in_world c w)) ≡ o) (EndsAt variable_word n') olds n' variable_word st
    write_both n' =
        let fs = variable_trees p s cells texts contract pt x in
        asked_run m p s cells fr os outs after (sizes p s) olds st fs (broken_place broken.assigns l) (failed broken.assigns l) (refl, refl) leave told n'
        (set_variable m (sizes p s) (cell_of type) x u) (run.goes_on (in_world c w)) (with_eval (wrote_act v (granted leave l w)) (λ z w. run.goes_on (in_world c w)))
        (λ e. ap (λ b. with_eval (wrote_act v (granted b l w)) (λ z w. run.goes_on (in_world c w))) e)
        (λ e. ap (λ b. with_eval (wrote_act v (granted b l w)) (λ z w. run.goes_on (in_world c w))) e)
        (λ e. let n'' = n' + count (ask_all m (sizes p s) fs (broken_place broken.assigns l)) in
        one_end (EndsAt (set_variable m (sizes p s) (cell_of type) x u) n'') olds n'' (set_variable m (sizes p s) (cell_of type) x u) st r.state (run.goes_on (in_world c w)) r.end r.is)

  module _ (cs : List Check) (type : CoreType) (l : ℕ) (path : Path) (es : t.Values)
      (fits : StoreFits p s cells pt.stands.in_scope (live (core.store cs type l path es) outs after) cs type path es)
      (stands : StandsFor p s cells fr (live (core.store cs type l path es) outs after) c st) where
    abbrev u : Term
    u = term_at (word.terms_in m p s cells texts contract others es) 0

    abbrev vs : List Value
    vs = exec.totals_in q no_deeper s.variables c es

    abbrev v : Value
    v = stored_value vs

    abbrev tests : Check → Bool
    tests = place_test p s.variables c.temps c.world type path (way_values vs) es

    abbrev written : Ending
    written = exec.put_to q no_deeper s.variables here type l path (way_values vs) v c

    abbrev store_word : Step
    store_word = word.store_to m p s cells texts contract others pt l type path (λ l. rest_of (word.terms_at m p s cells texts contract others es l)) u

    evaluates : AllEvaluate m p s cells c st olds es
    evaluates = operands_evaluate m p s cells setting fr live_all (live (core.store cs type l path es) outs after) c st stands olds es
        (subst (λ i. ValuesFit p s cells i (live (core.store cs type l path es) outs after) es) same_scopes fits.values)

    first_is : (es : t.Values) → (t.stop ≡ es → ⊥) → value_at (exec.totals_in q no_deeper s.variables c es) 0 ≡ stored_value (exec.totals_in q no_deeper s.variables c es)
    first_is t.stop some = absurd (some refl)
    first_is (t.more e es) some = refl

    same_test : (a : Check) → has_way a ≡ true → tests a ≡ met_among m p s cells c st olds es a
    same_test a h = place_same p s c type path (way_values vs) es a h

    -- behind the operands' checks, where no way is checked
    store_both : way_checks p s cells pt.stands.in_scope (live (core.store cs type l path es) outs after) (plain_root s.variables path.root) (plain_global p.globals path.root) path ≡ []
        → (HasValue m p s cells c st olds (cell_of type) u v → (n' : ℕ) → BothWays (λ o. written ≡ o) (EndsAt store_word n') olds n' store_word st)
        → BothWays (segs.Seg q s.variables here (core.store cs type l path es) c) (EndsAt (word_of_it (core.store cs type l path es)) n) olds n
        (word_of_it (core.store cs type l path es)) st
    store_both no_way tail = of_single q s.variables here (core.store cs type l path es) c refl
        (items_run_well m p s cells fr os outs after (sizes p s) olds st tests (words p s.variables (reading p s cells) es) fits.values.items
        (says_else (truth m (leaves_of (st ∷ olds))) (met_among m p s cells c st olds es) tests same_test (words p s.variables (reading p s cells) es)
        (ap (list_all has_way) evaluates.checks ∙ all_ways s.variables es) evaluates.says) cs (evaluates.checks ∙ sym listed) n store_word written
        (λ asks. tail (own asks) (n + count (items_step m (sizes p s) (words p s.variables (reading p s cells) es)))))
      where
        listed : cs ≡ all_checks s.variables es
        listed = fits.checks ∙ ap (λ ds. all_checks s.variables es ++ ds) no_way ∙ append-nil (all_checks s.variables es)

        own : Asks tests cs None → HasValue m p s cells c st olds (cell_of type) u v
        own asks =
            let met = all_else (met_among m p s cells c st olds es) tests same_test (all_checks s.variables es) (all_ways s.variables es)
            (subst (λ cs. list_all tests cs ≡ true) listed (asks_all asks)) in
            subst (λ k. HasValue m p s cells c st olds k u v) fits.stored
            (subst (λ v. HasValue m p s cells c st olds (operand_kind es 0) u v) (first_is es fits.some) (evaluates.values met 0))

    stands_after : StandsFor p s cells fr after c st
    stands_after = used_less (live (core.store cs type l path es) outs after) (λ j h. less_store es j h) stands

    local_both : (x : ℕ) (y : Variable) → path.root ≡ root.Variable (variables.Local x) → slice_get s.variables x ≡ Some y → y.is_plain ≡ true → kind_of y ≡ cell_of type
        → pt.stands.in_scope x ≡ true
        → BothWays (segs.Seg q s.variables here (core.store cs type l path es) c) (EndsAt (word_of_it (core.store cs type l path es)) n) olds n
        (word_of_it (core.store cs type l path es)) st
    local_both x y r found plainly kind scoped = store_both
        (ap (λ o. way_checks p s cells pt.stands.in_scope (live (core.store cs type l path es) outs after) o (plain_global p.globals path.root) path) plain_is) tail
      where
        plain_is : plain_root s.variables path.root ≡ Some x
        plain_is = ap (plain_root s.variables) r ∙ ap (λ o. if is_plain_in o then Some x else None) found ∙ ap (λ b. if b then Some x else None) plainly

        run_is : with_eval (wrote_act v (granted (may_change_local p here.granted x) l (with_local x (plain v true) c.world))) (λ z w. run.goes_on (in_world c w)) ≡ written
        run_is = sym (ap (λ o. with_eval (wrote_act v (exec.put_by o p here l type path c.world (way_values vs) v)) (λ z w. run.goes_on (in_world c w))) plain_is)

        word_is : word.store_to_variable m p s cells texts contract others pt l (cell_of type) (variables.Local x) u ≡ store_word
        word_is = sym (ap (λ o. word.store_by m p s cells texts contract others o (plain_global p.globals path.root) pt l type path
            (λ l. rest_of (word.terms_at m p s cells texts contract others es l)) u) plain_is)

        tail : HasValue m p s cells c st olds (cell_of type) u v → (n' : ℕ) → BothWays (λ o. written ≡ o) (EndsAt store_word n') olds n' store_word st
        tail h n' =
            let own : HasValue m p s cells c st olds (kind_of y) u v = subst (λ k. HasValue m p s cells c st olds k u v) (sym kind) h in
            let set = locals_are_set m p s cells fr after c st stands_after olds x y found plainly fr (same_scope x fr (placed.scope x ∙ scoped)) u v (own.gives _ refl) own.fits in
            subst (λ b. BothWays (λ o. written ≡ o) (EndsAt b n') olds n' b st) word_is
            (subst (λ z. BothWays (λ o. z ≡ o) (EndsAt (word.store_to_variable m p s cells texts contract others pt l (cell_of type) (variables.Local x) u) n') olds n'
            (word.store_to_variable m p s cells texts contract others pt l (cell_of type) (variables.Local x) u) st) run_is
            (write_both (variables.Local x) l type u v (with_local x (plain v true) c.world) (may_change_local p here.granted x) (placed.locals x y found plainly st)
            (subst (λ k. Reaches olds (set_variable m (sizes p s) k (variables.Local x) u) st
            (StandsFor p s cells fr after (in_world c (with_local x (plain v true) c.world)))) kind set) n'))

    global_both : (x : ℕ) (y : Variable) → path.root ≡ root.Variable (variables.Global x) → path.steps ≡ [] → slice_get p.globals x ≡ Some y → y.is_plain ≡ true
        → kind_of y ≡ cell_of type
        → BothWays (segs.Seg q s.variables here (core.store cs type l path es) c) (EndsAt (word_of_it (core.store cs type l path es)) n) olds n
        (word_of_it (core.store cs type l path es)) st
    global_both x y r steps found plainly kind = store_both
        (ap (λ o. way_checks p s cells pt.stands.in_scope (live (core.store cs type l path es) outs after) o (plain_global p.globals path.root) path) none_is
        ∙ ap (λ o. way_checks p s cells pt.stands.in_scope (live (core.store cs type l path es) outs after) None o path) plain_is) tail
      where
        none_is : plain_root s.variables path.root ≡ None
        none_is = ap (plain_root s.variables) r

        plain_is : plain_global p.globals path.root ≡ Some x
        plain_is = ap (plain_global p.globals) r ∙ ap (λ o. if is_plain_in o then Some x else None) found ∙ ap (λ b. if b then Some x else None) plainly

        there : address p c.world path (way_values vs) ≡ labelled.pointer (global_home p x) (pos 0)
        there = ap (λ ss. along (way_values vs) ss (start_at p c.world path.root (way_values vs))) steps ∙ ap (λ r. start_at p c.world r (way_values vs)) r

        kind_at_home : CellKind
        kind_at_home = kind_there c.world.memory.blocks (cell_of type) (labelled.pointer (global_home p x) (pos 0))

        run_is : with_eval (wrote_act v (granted (may_change here.granted kind_at_home (global_home p x) (pos 0)) l
            (with_memory (stored_in (global_home p x) (pos 0) v c.world.memory) c.world))) (λ z w. run.goes_on (in_world c w)) ≡ written
        run_is = sym (ap (λ o. with_eval (wrote_act v (exec.put_by o p here l type path c.world (way_values vs) v)) (λ z w. run.goes_on (in_world c w))) none_is
            ∙ ap (λ a. with_eval (wrote_act v (effects.cell_written here l (cell_of type) c.world a v)) (λ z w. run.goes_on (in_world c w))) there)

        word_is : word.store_to_variable m p s cells texts contract others pt l (cell_of type) (variables.Global x) u ≡ store_word
        word_is = sym (ap (λ o. word.store_by m p s cells texts contract others o (plain_global p.globals path.root) pt l type path
            (λ l. rest_of (word.terms_at m p s cells texts contract others es l)) u) none_is
            ∙ ap (λ o. word.store_by m p s cells texts contract others None o pt l type path
            (λ l. rest_of (word.terms_at m p s cells texts contract others es l)) u) plain_is)

        tail : HasValue m p s cells c st olds (cell_of type) u v → (n' : ℕ) → BothWays (λ o. written ≡ o) (EndsAt store_word n') olds n' store_word st
        tail h n' =
            let own : HasValue m p s cells c st olds (kind_of y) u v = subst (λ k. HasValue m p s cells c st olds k u v) (sym kind) h in
            let set = globals_are_set m p s cells fr after c st stands_after olds x y found plainly u v (own.gives _ refl) own.fits in
            let w = with_memory (stored_in (global_home p x) (pos 0) v c.world.memory) c.world in
            subst (λ b. BothWays (λ o. written ≡ o) (EndsAt b n') olds n' b st) word_is
            (subst (λ z. BothWays (λ o. z ≡ o) (EndsAt (word.store_to_variable m p s cells texts contract others pt l (cell_of type) (variables.Global x) u) n') olds n'
            (word.store_to_variable m p s cells texts contract others pt l (cell_of type) (variables.Global x) u) st) run_is
            (write_both (variables.Global x) l type u v w (may_change here.granted kind_at_home (global_home p x) (pos 0)) (placed.globals x y found plainly kind_at_home st)
            (subst (λ k. Reaches olds (set_variable m (sizes p s) k (variables.Global x) u) st (StandsFor p s cells fr after (in_world c w))) kind set) n'))

  -- ---- assertions

  claim_both : (a : Claim) → ClaimFits m p (body_reading p s cells texts pt.stands) a.what → SingleRuns m q s cells texts contract others here pt olds fr os after n c st (core.claim a)
  claim_both a fits stands = of_single q s.variables here (core.claim a) c refl (by (broken.holds p (in_body p here c.world) a.what) told) where
    at_here : state_of (st ∷ olds) pt.stands.here ≡ st
    at_here = ap (state_of (st ∷ olds)) placed.present

    sees : SeenInBody m p s cells texts pt.stands.in_scope (state_of (st ∷ olds) pt.stands.here) (seen p c.world)
    sees = subst (λ x. SeenInBody m p s cells texts pt.stands.in_scope x (seen p c.world)) (sym at_here)
        (subst (λ i. SeenInBody m p s cells texts i st (seen p c.world)) (sym same_scopes)
        (bodies_see m p s cells texts setting fr live_all after c st stands))

    body_seen : BodySeen m p s cells texts pt.stands (st ∷ olds) (in_body p here c.world)
    body_seen = record {
      file = record { model = refl; structs = λ n. refl };
      here_is = sees;
      pre_is = placed.entry st;
      post_is = sees;
      loop_is = placed.loop_entry st;
    }

    told : truth m (leaves_of (st ∷ olds)) (closed (claim_tree (body_reading p s cells texts pt.stands) a.what)) ≡ broken.holds p (in_body p here c.world) a.what
    told = ap (λ o. truth m (leaves_of (st ∷ olds)) (closed (or_none o))) fits.is ∙ closed_told m (st ∷ olds) fits.formula fits.closed
        ∙ fits.means (in_body p here c.world) (st ∷ olds) ((annotations_read m p s cells texts setting (st ∷ olds) (in_body p here c.world) a.what).body pt.stands body_seen)

    g : Tree
    g = claim_tree (body_reading p s cells texts pt.stands) a.what

    by : (b : Bool) → truth m (leaves_of (st ∷ olds)) (closed (claim_tree (body_reading p s cells texts pt.stands) a.what)) ≡ b
        → BothWays (λ o. run.unless (unless_true b broken.assert a.line) (run.goes_on c) ≡ o) (EndsAt (word_of_it (core.claim a)) n) olds n (word_of_it (core.claim a)) st
    by true e = one_end (EndsAt (word_of_it (core.claim a)) n) olds n (word_of_it (core.claim a)) st st (run.goes_on c)
        (record { runs = λ n. seg.asks (e, tt); only = λ n x h. holds_way n x (ask_ways h) }) stands
      where
        holds_way : (n : ℕ) (x : End) → Asked olds n (word.check m (sizes p s) (claim_tree (body_reading p s cells texts pt.stands) a.what) (broken_place broken.assert a.line) ∷ []) st x
            → goes_on st ≡ x
        holds_way n x (inl h) = h.1
        holds_way n x (inr (j, inl h, same)) = absurd (false≢true (sym h.0 ∙ e))
        holds_way n x (inr (j, inr h, same)) = absurd h.1
    by false e = record {
      forth = λ o same. (fails n, seg.ask_fails (inl (e, refl)), subst (λ o. EndsAt (word_of_it (core.claim a)) n o (fails n)) same fails_there);
      back = λ x h. (
        stopped (failed broken.assert a.line),
        refl,
        subst (EndsAt (word_of_it (core.claim a)) n (stopped (failed broken.assert a.line)))
            (fails_way x (ask_ways h)) fails_there,
      );
    }
      where
        fails_there : EndsAt (word_of_it (core.claim a)) n (stopped (failed broken.assert a.line)) (fails n)
        fails_there = (broken_place broken.assert a.line, inl (refl, refl), (refl, refl))

        fails_way : (x : End) → Asked olds n (word.check m (sizes p s) (claim_tree (body_reading p s cells texts pt.stands) a.what) (broken_place broken.assert a.line) ∷ []) st x
            → fails n ≡ x
        fails_way x (inl h) = absurd (false≢true (sym e ∙ h.0.0))
        fails_way x (inr (j, inl h, same)) = ap fails h.1 ∙ same
        fails_way x (inr (j, inr h, same)) = absurd h.1

pub singles_run : SinglesRun
singles_run m q s cells texts contract others setting here pt olds fr os placed after n c st = record {
  set = set_both m q s cells texts contract others setting here pt olds fr os placed after n c st;
  start = start_both m q s cells texts contract others setting here pt olds fr os placed after n c st;
  store_to_local = λ cs type l path es fits x y r found plainly kind scoped stands.
      local_both m q s cells texts contract others setting here pt olds fr os placed after n c st cs type l path es fits stands x y r found plainly kind scoped;
  store_to_global = λ cs type l path es fits x y r steps found plainly kind stands.
      global_both m q s cells texts contract others setting here pt olds fr os placed after n c st cs type l path es fits stands x y r steps found plainly kind;
  claim = claim_both m q s cells texts contract others setting here pt olds fr os placed after n c st;
}

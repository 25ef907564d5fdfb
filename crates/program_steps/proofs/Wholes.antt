-- Whole functions and their words.
use Rattle.std.proofs.Common.{◌≡◌, ◌⊎◌, ℕ, zero, suc, ◌+◌, ◌-◌, ◌<◌, ℤ, pos, negsuc, Bool, true, false, ◌&&◌, if◌then◌else◌, List, [], ◌∷◌, ◌++◌, map, length, Option, Some, None, slice_get, refl, sym, ap, ◌∙◌, subst, inl, inr, arith, append-nil}
use Rattle.std.proofs.lemmas.Bool.{false≢true}
use Rattle.wp_base.specs.declared.kinds.CellKind.{CellKind}
use Rattle.wp_base.specs.declared.kinds.CellKind.TheVariants as cell
use Rattle.wp_base.specs.declared.kinds.Kind.{Kind}
use Rattle.wp_base.specs.Blocks.{Table, count}
use Rattle.typed_prog.specs.declared.operators.Variable.TheVariants as variables
use Rattle.c_runs.specs.TruthStates as labelled
use Rattle.c_runs.specs.TruthStates.{Value, number}
use Rattle.qed_terms.specs.Meaning as sense
use Rattle.qed_terms.specs.Tree.{false_tree}
use Rattle.c_runs.specs.Program.{Variable, Contract, Function, Facts, Program}
use Rattle.c_runs.specs.States.{World, Here, Granted, seen_by_contract, params_from, held_by, hidden, plain_globals}
use Rattle.c_runs.specs.Operators.{noreturn}
use Rattle.c_runs.specs.Claims.{Stop, undefined, in_order, at_entry, at_return, entered_well, ensured, here_in, granted_in, parts_of, lets_cell, lets_local, may_change_local}
use Rattle.c_runs.specs.Scopes.{arrived}
use Rattle.c_runs.specs.Calls.{Eval, gives, stops, nought}
use Rattle.c_runs.specs.CoreRun as run
use Rattle.c_runs.specs.CoreRun.{CoreWorld, Ending, begun}
use Rattle.c_runs.specs.Tree.{Steps}
use Rattle.goal_segments.specs.RunSegments as segment
use Rattle.goal_segments.specs.RunSegments.{BodyEnds, behind_call}
use Rattle.goal_segments.specs.Segments.{AllSeg, FunctionSeg, not_entered, goes_wrong, breaks_promise, returns_well}
use Rattle.plain_states.specs.Slots.{State, at, value_slot, result_slot}
use Rattle.plain_states.proofs.Calling.{some_same}
use Rattle.plain_states.proofs.Scoping.{none_some}
use Rattle.goal_segments.specs.Told.{Shape, sizes, shape_of, is_param, IsResult, may_change_global}
use Rattle.walk_steps.specs.State.{FirstFalse}
use Rattle.walk_steps.specs.Forms.{Check, Place}
use Rattle.walk_steps.specs.Step.{Step, places, count as checks_in}
use Rattle.walk_steps.specs.Step as step
use Rattle.walk_steps.specs.Run.{End, goes_on, leaves, fails, out, Seg}
use Rattle.walk_steps.specs.Run as seg
use Rattle.walk_steps.proofs.Readings.{seq_ways, block_way, remember_way, last_asks}
use Rattle.program_steps.specs.Leaves.{closed, leaves_of}
use Rattle.program_steps.specs.Stops.{undefined_place}
use Rattle.program_steps.specs.Temporaries.{no_temporaries}
use Rattle.program_steps.specs.Terms.{Texts, kind_given}
use Rattle.program_steps.specs.Words as word
use Rattle.program_steps.specs.Words.{Others}
use Rattle.program_steps.specs.Standing.{StandsFor, SeenAs, SeenBy, FailsAs, ReturnsIt, Ends}
use Rattle.program_steps.specs.Carried.{Carried}
use Rattle.program_steps.specs.Placed.{InSetting, all_told, Placed, BothWays}
use Rattle.program_steps.specs.Typed.{OtherFits}
use Rattle.program_steps.specs.Others.{OthersRun}
use Rattle.program_steps.specs.Functions.{body_point, together_check, ensure_checks, all_ensured, ending, function_word, SeenReturn, FunctionFits, EntersAs, FunctionEnds, FunctionRuns}
use Rattle.program_steps.proofs.Listing.{comes, fails_first, fails_second}
use Rattle.program_steps.proofs.Standing.{file_fits}
use Rattle.program_steps.proofs.Seeing.{behind_file, in_file, among_locals}
use Rattle.program_steps.proofs.Statements.{all_both}
use Rattle.program_steps.proofs.Tests.{Comes, Asks, goes, stops as asks_stop, asks_way, ask_stops, ask_goes}
use Rattle.program_steps.proofs.Contracts.{togethers_come, all_come}
use Rattle.program_steps.proofs.Granting.{all_append, and_so, writes_so, locals_so}
use Rattle.acsl_encode.specs.Meaning.{IsOfKind}
use Rattle.c_kinds.specs.Models.{holds}

goes_parts : {a b : State} → goes_on a ≡ goes_on b → a ≡ b
goes_parts e = cc

none_below : (n : ℕ) → n < 0 → ⊥
none_below n l = omega (arith, l)

module _ (m : sense.World) (q : Program Steps) (own : ℕ) (f : Function Steps) (temporaries : ℕ) (temp_kind : ℕ → Kind) (texts : Texts) (others : Others) (asked : OtherFits)
    (run_so : OthersRun m q (shape_of f temporaries temp_kind) texts f.contract others asked) (setting : InSetting m q.facts (shape_of f temporaries temp_kind))
    (fits : FunctionFits m q.facts (shape_of f temporaries temp_kind) texts asked f) (vs : List Value) (w : World) (st : State)
    (enters : EntersAs q.facts (shape_of f temporaries temp_kind) f vs w st) where
  abbrev p : Facts
  p = q.facts

  abbrev s : Shape
  s = shape_of f temporaries temp_kind

  abbrev here : Here
  here = here_in p own vs w.memory f.contract []

  abbrev olds : List State
  olds = st ∷ []

  abbrev entry : labelled.World
  entry = at_entry p vs w.memory

  entry_seen : (st' : State) → SeenBy p s entry (st' ∷ st ∷ []) 1 1 1
  entry_seen st' = record { here_is = enters.seen; pre_is = enters.seen; post_is = enters.seen; loop_entry_is = enters.seen; model = refl; structs = λ n. refl }

  placed : Placed m p s texts f.contract (body_point own) here olds
  placed = record { entry = enters.seen; loop_entry = enters.seen; locals = locals; globals = globals; carried = carried } where
    carried : Carried p f.contract here own (body_point own)
    carried = record { function = refl; measure = refl; granted = (count w.memory.blocks, append-nil (granted_in p entry (count w.memory.blocks) (parts_of f.contract))) }

    locals : (x : ℕ) (v : Variable) → slice_get s.variables x ≡ Some v → (st' : State)
        → all_told m (st' ∷ olds) (word.write_trees p s texts f.contract (body_point own) (variables.Local x)) ≡ may_change_local p here.granted x
    locals x v e st' = sym (all_append (lets_local p x) (granted_in p entry (count w.memory.blocks) (parts_of f.contract)) []
        ∙ and_so _ ∙ locals_so m p s texts setting.globals st' st entry (entry_seen st') (count w.memory.blocks) x (parts_of f.contract))

    globals : (x : ℕ) (v : Variable) → slice_get p.globals x ≡ Some v → (st' : State)
        → all_told m (st' ∷ olds) (word.write_trees p s texts f.contract (body_point own) (variables.Global x)) ≡ may_change_global here.granted x
    globals x v e st' =
        writes_so m p s texts setting.globals st' st entry (entry_seen st') (count w.memory.blocks) x v e f.contract fits.plain fits.assumes fits.behaviors
        ∙ sym (all_append (λ (g : Granted). lets_cell cell.Ptr (negsuc x) (pos 0) g) (granted_in p entry (count w.memory.blocks) (parts_of f.contract)) [] ∙ and_so _)

  -- ---- the body

  abbrev body_word : Step
  body_word = word.steps m p s texts f.contract others (body_point own) f.body no_temporaries

  abbrev end_word : Option CellKind → Step
  end_word o = ending m p s texts o f.end

  abbrev first : CoreWorld
  first = begun (arrived f.variables vs w)

  abbrev EndsIn : List Place → ℕ → Ending → End → Type 0
  EndsIn ps n o e = Ends p s w.memory.blocks (is_param f.params) [] no_temporaries ps n o e

  body_both : (n : ℕ) → BothWays (AllSeg q f.variables here f.body first) (EndsIn (places body_word) n) olds n body_word st
  body_both n = all_both m q s texts f.contract others asked run_so setting w.memory.blocks f.body here (body_point own) olds placed (is_param f.params) no_temporaries n first st fits.body enters.stands

  -- where it has returned
  record Back (v : Value) (u : World) (st' : State) : Type 0 where
    core : CoreWorld
    is : core.world ≡ u
    stands : StandsFor p s w.memory.blocks (is_param f.params) no_temporaries core st'
    result : IsResult p s.result v
    slot : (k : CellKind) → s.result ≡ Some k → v ≡ number (at st' (result_slot (sizes p s)))

  abbrev middle : Option CellKind → Step
  middle o = step.block (step.seq body_word (end_word o))

  abbrev MidEnds : Option CellKind → ℕ → Eval → End → Type 0
  MidEnds o n (gives v u) (goes_on st') = Back v u st'
  MidEnds o n (gives v u) (leaves k st') = ⊥
  MidEnds o n (gives v u) (fails i) = ⊥
  MidEnds o n (stops x) (goes_on st') = ⊥
  MidEnds o n (stops x) (leaves k st') = ⊥
  MidEnds o n (stops x) (fails i) = FailsAs (places (middle o)) n i x

  abbrev MidRuns : Option CellKind → ℕ → Eval → Type 0
  MidRuns o n r = (e : End) × Seg olds n (middle o) st e × MidEnds o n r e

  returned : (o : Option CellKind) (n : ℕ) (v : Value) (c : CoreWorld) (e : End) → Seg olds n body_word st e → EndsIn (places body_word) n (run.returns v c) e
      → MidRuns o n (gives v c.world)
  returned o n v c (goes_on st') k h = absurd h
  returned o n v c (leaves zero st') k h =
      (goes_on st', seg.blocks (seg.ends_first k tt), record { core = c; is = refl; stands = h.1.stands; result = h.1.result; slot = h.1.slot })
  returned o n v c (leaves (suc l) st') k h = absurd (no_zero h.0) where
    no_zero : {k : ℕ} → suc k ≡ zero → ⊥
    no_zero e = cc
  returned o n v c (fails i) k h = absurd h

  stopped_so : (o : Option CellKind) (n : ℕ) (x : Stop) (e : End) → Seg olds n body_word st e → EndsIn (places body_word) n (run.stopped x) e → MidRuns o n (stops x)
  stopped_so o n x (goes_on st') k h = absurd h
  stopped_so o n x (leaves l st') k h = absurd h
  stopped_so o n x (fails i) k h = (fails i, seg.blocks (seg.ends_first k tt), fails_first body_word (end_word o) n i x h)

  exited : (n : ℕ) (k : ℕ) (c : CoreWorld) (e : End) → EndsIn (places body_word) n (run.exits k c) e → ⊥
  exited n k c (goes_on st') h = h
  exited n k c (leaves l st') h = none_below k h.1
  exited n k c (fails i) h = h

  at_end : (o : Option CellKind) → f.result ≡ o → (n : ℕ) (c : CoreWorld) (r : Eval) → BodyEnds f (run.goes_on c) r → (e : End) → Seg olds n body_word st e
      → EndsIn (places body_word) n (run.goes_on c) e → MidRuns o n r
  at_end None same n c _ (segment.at_brace none) (goes_on st') k h = (
    goes_on st',
    seg.blocks (seg.goes_both k seg.skips),
    record {
      core = c;
      is = refl;
      stands = h;
      result = subst (λ o. IsResult p o nought) (sym same) refl;
      slot = λ k e. absurd (none_some k (sym same ∙ e));
    },
  )
  at_end None same n c _ (segment.without_result {k = k} some) (goes_on st') r h = absurd (none_some k (sym same ∙ some))
  at_end (Some k) same n c _ (segment.at_brace none) (goes_on st') r h = absurd (none_some k (sym none ∙ same))
  at_end (Some k) same n c _ (segment.without_result some) (goes_on st') r h = (
    fails (n + checks_in body_word),
    seg.blocks (seg.goes_both r (seg.ends_first (seg.ask_fails (inl (refl, refl))) tt)),
    fails_second body_word (end_word (Some k)) n (n + checks_in body_word) (undefined noreturn f.end) (comes r)
        (undefined_place noreturn f.end, inl (refl, refl), (refl, refl)),
  )
  at_end o same n c r ends (leaves l st') k h = absurd h
  at_end o same n c r ends (fails i) k h = absurd h

  mid_forth : (n : ℕ) (o : Ending) (r : Eval) → AllSeg q f.variables here f.body first o → BodyEnds f o r → MidRuns f.result n r
  mid_forth n (run.goes_on c) r h ends = let x = (body_both n).forth (run.goes_on c) h in at_end f.result refl n c r ends x.0 x.1 x.2
  mid_forth n (run.exits k c) r h ends = let x = (body_both n).forth (run.exits k c) h in absurd (exited n k c x.0 x.2)
  mid_forth n (run.returns v c) _ h segment.by_return = let x = (body_both n).forth (run.returns v c) h in returned f.result n v c x.0 x.1 x.2
  mid_forth n (run.stopped y) _ h segment.by_stop = let x = (body_both n).forth (run.stopped y) h in stopped_so f.result n y x.0 x.1 x.2

  -- and back
  record MidFound (o : Option CellKind) (n : ℕ) (e : End) : Type 0 where
    from : Ending
    eval : Eval
    runs : AllSeg q f.variables here f.body first from
    ends : BodyEnds f from eval
    meets : MidEnds o n eval e

  over_found : (o : Option CellKind) (n : ℕ) (x : Ending) (e : End) → AllSeg q f.variables here f.body first x → seg.IsOver e → EndsIn (places body_word) n x e → MidFound o n (out e)
  over_found o n (run.goes_on c) (goes_on st') h over k = absurd over
  over_found o n (run.goes_on c) (leaves l st') h over k = absurd k
  over_found o n (run.goes_on c) (fails i) h over k = absurd k
  over_found o n (run.exits j c) e h over k = absurd (exited n j c e k)
  over_found o n (run.returns v c) (goes_on st') h over k = absurd k
  over_found o n (run.returns v c) (leaves zero st') h over k = record {
    from = run.returns v c;
    eval = gives v c.world;
    runs = h;
    ends = segment.by_return;
    meets = record { core = c; is = refl; stands = k.1.stands; result = k.1.result; slot = k.1.slot };
  }
  over_found o n (run.returns v c) (leaves (suc l) st') h over k = absurd (no_zero k.0) where
    no_zero : {k : ℕ} → suc k ≡ zero → ⊥
    no_zero e = cc
  over_found o n (run.returns v c) (fails i) h over k = absurd k
  over_found o n (run.stopped x) (goes_on st') h over k = absurd k
  over_found o n (run.stopped x) (leaves l st') h over k = absurd k
  over_found o n (run.stopped x) (fails i) h over k = record {
    from = run.stopped x;
    eval = stops x;
    runs = h;
    ends = segment.by_stop;
    meets = fails_first body_word (end_word o) n i x k;
  }

  skip_way : {n : ℕ} {st : State} (e : End) → Seg olds n step.skip st e → goes_on st ≡ e
  skip_way _ seg.skips = refl

  end_found : (o : Option CellKind) → f.result ≡ o → (n : ℕ) (mid : State) → Seg olds n body_word st (goes_on mid) → (x : Ending) → AllSeg q f.variables here f.body first x
      → EndsIn (places body_word) n x (goes_on mid) → (e : End) → Seg olds (n + checks_in body_word) (end_word o) mid e → MidFound o n (out e)
  end_found None same n mid r (run.goes_on c) h k e l = subst (λ e. MidFound None n (out e)) (skip_way e l) (record {
    from = run.goes_on c;
    eval = gives nought c.world;
    runs = h;
    ends = segment.at_brace same;
    meets = record {
      core = c;
      is = refl;
      stands = k;
      result = subst (λ o. IsResult p o nought) (sym same) refl;
      slot = λ k e. absurd (none_some k (sym same ∙ e));
    };
  })
  end_found (Some j) same n mid r (run.goes_on c) h k e l = by (last_asks l) where
    by : (i : ℕ) × (((false ≡ false) × (n + checks_in body_word ≡ i)) ⊎ ((false ≡ true) × ⊥)) × (fails i ≡ e) → MidFound (Some j) n (out e)
    by (i, inl x, is_it) = subst (λ e. MidFound (Some j) n (out e)) is_it (record {
      from = run.goes_on c;
      eval = stops (undefined noreturn f.end);
      runs = h;
      ends = segment.without_result same;
      meets = subst (λ i. FailsAs (places (middle (Some j))) n i (undefined noreturn f.end)) x.1
          (fails_second body_word (end_word (Some j)) n (n + checks_in body_word) (undefined noreturn f.end) (comes r)
          (undefined_place noreturn f.end, inl (refl, refl), (refl, refl)));
    })
    by (i, inr x, is_it) = absurd x.1
  end_found o same n mid r (run.exits j c) h k e l = absurd k
  end_found o same n mid r (run.returns v c) h k e l = absurd k
  end_found o same n mid r (run.stopped x) h k e l = absurd k

  mid_back : (n : ℕ) (e : End) → Seg olds n (middle f.result) st e → MidFound f.result n e
  mid_back n e k = by (block_way k) where
    on : (x : End) → (seg.IsOver x × Seg olds n body_word st x) ⊎ ((mid : State) × Seg olds n body_word st (goes_on mid) × Seg olds (n + checks_in body_word) (end_word f.result) mid x)
        → MidFound f.result n (out x)
    on x (inl (over, r)) = let y = (body_both n).back x r in over_found f.result n y.0 x y.1 over y.2
    on x (inr (mid, r, l)) = let y = (body_both n).back (goes_on mid) r in end_found f.result refl n mid r y.0 y.1 y.2 x l

    by : ((x : End) × Seg olds n (step.seq body_word (end_word f.result)) st x × (out x ≡ e)) → MidFound f.result n e
    by (x, r, same) = subst (MidFound f.result n) same (on x (seq_ways r))

  -- ---- promises

  return_seen : (v : Value) (u : World) (st' : State) → Back v u st' → SeenReturn p s (at_return p here (behind_call w u).memory v) (st' ∷ st ∷ [])
  return_seen v u st' back = record {
    here_is = there;
    pre_is = enters.seen;
    post_is = there;
    loop_entry_is = enters.seen;
    result = back.slot;
    result_fits = of_kind f.result back.result back.slot;
    model = refl;
    structs = λ n. refl;
  }
    where
      same_number : {a b : ℤ} → number a ≡ number b → a ≡ b
      same_number e = cc

      of_kind : (o : Option CellKind) → IsResult p o v → ((k : CellKind) → o ≡ Some k → v ≡ number (at st' (result_slot (sizes p s)))) → IsOfKind p.model (kind_given o) (at st' (result_slot (sizes p s)))
      of_kind (Some (cell.Of k)) (z, is, h) slot = ap (holds p.model k) (same_number (sym (slot (cell.Of k) refl) ∙ is)) ∙ h
      of_kind (Some cell.Ptr) r slot = absurd r
      of_kind None r slot = tt

      there : SeenAs p s (seen_by_contract p vs (behind_call w u).memory) st' st
      there = record {
        file_homes = enters.seen.file_homes;
        globals = λ x v e. ap (λ t. if t then u.memory.cells (negsuc x) (pos 0) else held_by (params_from 0 vs (x - plain_globals p))) (in_file p s setting.globals setting.integers x v e)
            ∙ ap (λ (w : World). w.memory.cells (negsuc x) (pos 0)) (sym back.is) ∙ back.stands.globals x v e;
        file_fits = λ x v e. file_fits p s setting.globals setting.integers back.core.world.memory back.stands.good x v e (at st' (value_slot x)) (back.stands.globals x v e);
        homes = enters.seen.homes;
        locals = λ x v e.
            ap (λ t. if t then u.memory.cells (hidden p x) (pos 0) else held_by (params_from 0 vs ((plain_globals p + x) - plain_globals p))) (behind_file p s setting.globals setting.integers x)
            ∙ sym (ap (λ t. if t then w.memory.cells (hidden p x) (pos 0) else held_by (params_from 0 vs ((plain_globals p + x) - plain_globals p))) (behind_file p s setting.globals setting.integers x))
            ∙ enters.seen.locals x v e;
        fits = enters.seen.fits;
      }

  abbrev last_checks : List Check
  last_checks = ensure_checks m p s texts true f.contract.plain ++ all_ensured m p s texts f.contract.behaviors

  promised : (v : Value) (u : World) (st' : State) → Back v u st' → Comes (st' ∷ olds) last_checks (ensured p here (behind_call w u).memory v f.contract)
  promised v u st' back =
      all_come m p s texts st' st entry (entry_seen st') (at_return p here (behind_call w u).memory v) (return_seen v u st' back) f.contract.plain fits.plain fits.assumes
      f.contract.behaviors fits.behaviors

  -- ---- the whole

  abbrev first_checks : List Check
  first_checks = map (together_check m p s texts f.contract.behaviors) (in_order f.contract.together)

  entered : Comes (st ∷ olds) first_checks (entered_well p entry f.contract)
  entered = togethers_come m p s texts st st entry (entry_seen st) f.contract.behaviors fits.behaviors (in_order f.contract.together)

  abbrev t_word : Step
  t_word = step.ask first_checks

  abbrev p_word : Step
  p_word = step.ask last_checks

  abbrev rest_word : Step
  rest_word = step.seq (middle f.result) p_word

  abbrev whole_word : Step
  whole_word = function_word m p s texts others own f

  abbrev n1 : ℕ
  n1 = 0 + checks_in t_word

  abbrev n2 : ℕ
  n2 = n1 + checks_in (middle f.result)

  abbrev WholeRuns : Eval → Type 0
  WholeRuns r = (e : End) × Seg [] 0 whole_word st e × FunctionEnds p s (places whole_word) r e

  of_rest : Seg olds 0 t_word st (goes_on st) → (i : ℕ) (x : Stop) → FailsAs (places rest_word) n1 i x → FailsAs (places whole_word) 0 i x
  of_rest k i x h = fails_second t_word rest_word 0 i x (comes k) h

  mid_stops : entered_well p entry f.contract ≡ None → (x : Stop) (e : End) → Seg olds n1 (middle f.result) st e → MidEnds f.result n1 (stops x) e → WholeRuns (stops x)
  mid_stops none x (goes_on st') k h = absurd h
  mid_stops none x (leaves l st') k h = absurd h
  mid_stops none x (fails i) k h =
      let t = ask_goes olds st first_checks 0 (entered_well p entry f.contract) entered none in
      (fails i, seg.remembers (seg.goes_both t (seg.ends_first k tt)), of_rest t i x (fails_first (middle f.result) p_word n1 i x h))

  mid_goes : entered_well p entry f.contract ≡ None → (v : Value) (u : World) (e : End) → Seg olds n1 (middle f.result) st e → MidEnds f.result n1 (gives v u) e
      → (o : Option Stop) → ensured p here (behind_call w u).memory v f.contract ≡ o → (r : Eval) → (o ≡ None → r ≡ gives v (behind_call w u)) → ((x : Stop) → o ≡ Some x → r ≡ stops x)
      → WholeRuns r
  mid_goes none v u (leaves l st') k h o is r good bad = absurd h
  mid_goes none v u (fails i) k h o is r good bad = absurd h
  mid_goes none v u (goes_on st') k h None is r good bad =
      let t = ask_goes olds st first_checks 0 (entered_well p entry f.contract) entered none in
      let l = ask_goes olds st' last_checks n2 (ensured p here (behind_call w u).memory v f.contract) (promised v u st' h) is in
      subst WholeRuns (sym (good refl)) (goes_on st', seg.remembers (seg.goes_both t (seg.goes_both k l)), (h.result, h.slot))
  mid_goes none v u (goes_on st') k h (Some x) is r good bad =
      let t = ask_goes olds st first_checks 0 (entered_well p entry f.contract) entered none in
      let l = ask_stops olds st' last_checks n2 (ensured p here (behind_call w u).memory v f.contract) x (promised v u st' h) is in
      subst WholeRuns (sym (bad x refl)) (
        fails l.0,
        seg.remembers (seg.goes_both t (seg.goes_both k l.1)),
        of_rest t l.0 x (fails_second (middle f.result) p_word n1 l.0 x (comes k) l.2),
      )

  pub forth : (o : Eval) → FunctionSeg q own f vs w o → WholeRuns o
  forth _ (not_entered {s = x} h) =
      let t = ask_stops olds st first_checks 0 (entered_well p entry f.contract) x entered h in
      (fails t.0, seg.remembers (seg.ends_first t.1 tt), fails_first t_word rest_word 0 t.0 x t.2)
  forth _ (goes_wrong {o = o} {s = x} none h ends) = let y = mid_forth n1 o (stops x) h ends in mid_stops none x y.0 y.1 y.2
  forth _ (breaks_promise {o = o} {v = v} {u = u} {s = x} none h ends bad) =
      let y = mid_forth n1 o (gives v u) h ends in
      mid_goes none v u y.0 y.1 y.2 (Some x) bad (stops x) (λ e. absurd (none_some x (sym e))) (λ z e. ap stops (some_same x z e))
  forth _ (returns_well {o = o} {v = v} {u = u} none h ends good) =
      let y = mid_forth n1 o (gives v u) h ends in
      mid_goes none v u y.0 y.1 y.2 None good (gives v (behind_call w u)) (λ e. refl) (λ z e. absurd (none_some z e))

  abbrev WholeFound : End → Type 0
  WholeFound e = (o : Eval) × FunctionSeg q own f vs w o × FunctionEnds p s (places whole_word) o e

  promises_found : entered_well p entry f.contract ≡ None → Seg olds 0 t_word st (goes_on st) → (mid : State) → Seg olds n1 (middle f.result) st (goes_on mid) → (o : Ending) (v : Value) (u : World)
      → AllSeg q f.variables here f.body first o → BodyEnds f o (gives v u) → Back v u mid → (e : End) → (x : Option Stop) → ensured p here (behind_call w u).memory v f.contract ≡ x
      → Asks last_checks mid n2 x e → WholeFound e
  promises_found none t mid k o v u h ends back _ None is goes = (gives v (behind_call w u), returns_well none h ends is, (back.result, back.slot))
  promises_found none t mid k o v u h ends back _ (Some x) is (asks_stop {i = i} y) =
      (stops x, breaks_promise none h ends is, of_rest t i x (fails_second (middle f.result) p_word n1 i x (comes k) y))

  mid_found : entered_well p entry f.contract ≡ None → Seg olds 0 t_word st (goes_on st) → (e : End) → MidFound f.result n1 e → seg.IsOver e → WholeFound e
  mid_found none t e found over = by found.from found.eval e found.runs found.ends found.meets over where
    by : (o : Ending) (r : Eval) (e : End) → AllSeg q f.variables here f.body first o → BodyEnds f o r → MidEnds f.result n1 r e → seg.IsOver e → WholeFound e
    by o (gives v u) (goes_on st') h ends meets over = absurd over
    by o (gives v u) (leaves l st') h ends meets over = absurd meets
    by o (gives v u) (fails i) h ends meets over = absurd meets
    by o (stops x) (goes_on st') h ends meets over = absurd over
    by o (stops x) (leaves l st') h ends meets over = absurd meets
    by o (stops x) (fails i) h ends meets over = (stops x, goes_wrong none h ends, of_rest t i x (fails_first (middle f.result) p_word n1 i x meets))

  mid_further : entered_well p entry f.contract ≡ None → Seg olds 0 t_word st (goes_on st) → (mid : State) → Seg olds n1 (middle f.result) st (goes_on mid) → MidFound f.result n1 (goes_on mid)
      → (e : End) → Seg olds n2 p_word mid e → WholeFound e
  mid_further none t mid k found e l = by found.from found.eval found.runs found.ends found.meets where
    by : (o : Ending) (r : Eval) → AllSeg q f.variables here f.body first o → BodyEnds f o r → MidEnds f.result n1 r (goes_on mid) → WholeFound e
    by o (gives v u) h ends meets =
        promises_found none t mid k o v u h ends meets e (ensured p here (behind_call w u).memory v f.contract) refl
        (asks_way olds mid last_checks n2 (ensured p here (behind_call w u).memory v f.contract) (promised v u mid meets) e l)
    by o (stops x) h ends meets = absurd meets

  rest_found : entered_well p entry f.contract ≡ None → Seg olds 0 t_word st (goes_on st) → (e : End)
      → (seg.IsOver e × Seg olds n1 (middle f.result) st e) ⊎ ((mid : State) × Seg olds n1 (middle f.result) st (goes_on mid) × Seg olds n2 p_word mid e) → WholeFound e
  rest_found none t e (inl (over, k)) = mid_found none t e (mid_back n1 e k) over
  rest_found none t e (inr (mid, k, l)) = mid_further none t mid k (mid_back n1 (goes_on mid) k) e l

  first_found : (o : Option Stop) → entered_well p entry f.contract ≡ o → (e : End) → seg.IsOver e → Asks first_checks st 0 o e → WholeFound e
  first_found _ is _ over goes = absurd over
  first_found (Some x) is _ over (asks_stop {i = i} y) = (stops x, not_entered is, fails_first t_word rest_word 0 i x y)

  then_found : (o : Option Stop) → entered_well p entry f.contract ≡ o → (mid : State) → Seg olds 0 t_word st (goes_on mid) → Asks first_checks st 0 o (goes_on mid) → (e : End)
      → Seg olds n1 rest_word mid e → WholeFound e
  then_found None is _ t goes e k = rest_found is t e (seq_ways k)
  then_found (Some x) is mid t a e k = elim a [ ]

  pub back : (e : End) → Seg [] 0 whole_word st e → WholeFound e
  back e k = by (seq_ways (remember_way k)) where
    by : (seg.IsOver e × Seg olds 0 t_word st e) ⊎ ((mid : State) × Seg olds 0 t_word st (goes_on mid) × Seg olds n1 rest_word mid e) → WholeFound e
    by (inl (over, t)) = first_found (entered_well p entry f.contract) refl e over (asks_way olds st first_checks 0 (entered_well p entry f.contract) entered e t)
    by (inr (mid, t, r)) = then_found (entered_well p entry f.contract) refl mid t (asks_way olds st first_checks 0 (entered_well p entry f.contract) entered (goes_on mid) t) e r

  pub function_runs : FunctionRuns (FunctionSeg q own f vs w) (FunctionEnds p s (places whole_word)) whole_word st
  function_runs = record { forth = forth; back = back }

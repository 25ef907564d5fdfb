-- Whole functions and their words.
use Rattle.std.proofs.Common.{◌≡◌, ◌⊎◌, ◌<◌, ℕ, zero, suc, ◌+◌, Bool, true, false, not, ◌||◌, List, [], ◌∷◌, ◌++◌, map, length, Option, Some, None, slice_get, refl, sym, ap, ◌∙◌, subst, inl, inr, arith, if◌then◌else◌}
use Rattle.std.specs.List.{list_all}
use Rattle.std.proofs.lemmas.Bool.{false≢true}
use Rattle.std.proofs.lemmas.Option.{none-some, same_Some}
use Rattle.wp_base.specs.declared.kinds.CellKind.{CellKind}
use Rattle.wp_base.specs.declared.kinds.CellKind.TheVariants as cell
use Rattle.wp_base.specs.Blocks.{count}
use Rattle.c_runs.specs.TruthStates as labelled
use Rattle.c_runs.specs.TruthStates.{Value}
use Rattle.qed_terms.specs.Meaning as sense
use Rattle.c_runs.specs.Program.{Variable, Function, Facts, Program}
use Rattle.c_runs.specs.States.{World, Here, seen_by_contract}
use Rattle.c_runs.specs.Claims.{Stop, in_order, at_entry, at_return, entered_well, ensured, here_in}
use Rattle.c_runs.specs.Scopes.{arrived}
use Rattle.c_runs.specs.Calls.{Eval, gives, stops}
use Rattle.c_runs.specs.CoreRun.{CoreWorld, Ending, begun}
use Rattle.c_runs.specs.Tree.{Steps}
use Rattle.run_blocks.specs.Ends.{is_short}
use Rattle.goal_segments.specs.RunSegments.{BodyEnds, behind_call}
use Rattle.goal_segments.specs.Segments.{AllSeg, FunctionSeg, not_entered, goes_wrong, breaks_promise, returns_well, IsResult}
use Rattle.typed_memories.proofs.Tests.{on_test, neither}
use Rattle.walk_steps.specs.Forms.{Place}
use Rattle.memory_steps.specs.State.{State}
use Rattle.memory_steps.specs.Forms.{Check}
use Rattle.memory_steps.specs.Step.{Step, places, count as checks_in}
use Rattle.memory_steps.specs.Step as step
use Rattle.memory_steps.specs.Run.{End, goes_on, leaves, fails, out, on_state, put_back, Seg}
use Rattle.memory_steps.specs.Run as seg
use Rattle.memory_steps.proofs.Readings.{seq_ways, block_way, scope_way, remember_way}
use Rattle.memory_words.specs.Shapes.{FileCells, Shape, sizes}
use Rattle.memory_words.specs.Readings.{Texts}
use Rattle.memory_words.specs.Standing.{IsHeldAs, FileStands}
use Rattle.memory_words.specs.Seen.{InSetting, SeenByContract, EntrySeen, ResultIs, ReturnSeen}
use Rattle.memory_words.proofs.Contents.{content_is}
use Rattle.memory_words.proofs.Contracts.{contracts_see}
use Rattle.memory_words.specs.Places.{result, result_offset, number_at}
use Rattle.program_steps.specs.Temporaries.{no_temporaries}
use Rattle.memory_words.specs.Words as word
use Rattle.memory_words.specs.Words.{Others, has_home, slots_of}
use Rattle.memory_words.specs.Typed.{OtherFits}
use Rattle.memory_words.specs.Placed.{FailsAs}
use Rattle.memory_words.specs.Others.{OthersRun}
use Rattle.memory_words.proofs.PutListing.{comes, fails_first, fails_second}
use Rattle.memory_statements.proofs.Block.{has_home_of}
use Rattle.memory_functions.specs.GoalFunctions.{is_param, numbers_from, together_check, ensure_checks, all_ensured, param_made, params_made, body_point, ending, in_params, function_word}
use Rattle.memory_functions.specs.Words.{Written, shape_in}
use Rattle.memory_functions.specs.FunctionFunctions.{FunctionFits, EntersAs, ArrivedAs, ReturnsAs, FunctionEnds, FunctionRuns}
use Rattle.memory_functions.specs.FunctionLaws.{Arrives, FunctionsRun}
use Rattle.memory_functions.proofs.Arriving.{parameters_arrive}
use Rattle.memory_functions.proofs.Tests.{Comes, Asks, goes, stops as asks_stop, asks_way, ask_stops, ask_goes}
use Rattle.memory_functions.proofs.Contracts.{togethers_come, all_come}
use Rattle.memory_functions.proofs.Homes.{AllBelow, below_from}
use Rattle.memory_functions.proofs.Placing.{seen_entry, entry_seen}
use Rattle.memory_functions.proofs.Returning.{kind_content, put_back_as}
use Rattle.memory_functions.proofs.Bodies.{tail as tail_word, TailEnds, tail_forth, tail_back}

goes_parts : {a b : State} → goes_on a ≡ goes_on b → a ≡ b
goes_parts e = cc

or_two : (a b : Bool) → (a || b) ≡ false → ((a || false) ≡ false) × (b ≡ false)
or_two true b h = absurd (false≢true (sym h))
or_two false b h = (refl, h)

skip_way : {olds : List State} {n : ℕ} {st : State} (e : End) → Seg olds n step.skip st e → goes_on st ≡ e
skip_way _ seg.skips = refl

-- ---- parameters without blocks

module _ (m : sense.World) (p : Facts) (s : Shape) (cells : FileCells) (texts : Texts) (params : ℕ) where
  if_skip : {olds : List State} {n : ℕ} {st : State} (t : Bool) (z : Step) → t ≡ true → (e : End) → Seg olds n (if t then step.skip else z) st e → goes_on st ≡ e
  if_skip true z h e k = skip_way e k
  if_skip false z h e k = absurd (false≢true h)

  one_stays : (y : ℕ) → has_home s.variables (y ∷ []) ≡ false → (olds : List State) (n : ℕ) (st : State) (e : End)
      → Seg olds n (param_made m p s cells texts params y (slice_get s.variables y)) st e → goes_on st ≡ e
  one_stays y none olds n st e k = by (slice_get s.variables y) refl k where
    by : (o : Option Variable) → slice_get s.variables y ≡ o → Seg olds n (param_made m p s cells texts params y o) st e → goes_on st ≡ e
    by None same k = skip_way e k
    by (Some v) same k =
        on_test v.is_plain (λ t. if_skip v.is_plain _ t e k)
        (λ block. absurd (false≢true (sym none ∙ has_home_of s.variables y v same ∙ ap (λ t. not t || false) block)))

  all_stay : (ys : List ℕ) → has_home s.variables ys ≡ false → (olds : List State) (n : ℕ) (st : State) (e : End)
      → Seg olds n (params_made m p s cells texts params ys) st e → goes_on st ≡ e
  all_stay [] none olds n st e k = skip_way e k
  all_stay (y ∷ ys) none olds n st e k = by (or_two _ (has_home s.variables ys) none) (seq_ways k) (λ mid. all_stay ys (or_two _ (has_home s.variables ys) none).1 olds _ mid e) where
    by : (has_home s.variables (y ∷ []) ≡ false) × (has_home s.variables ys ≡ false)
        → (seg.IsOver e × Seg olds n (param_made m p s cells texts params y (slice_get s.variables y)) st e)
        ⊎ ((mid : State) × Seg olds n (param_made m p s cells texts params y (slice_get s.variables y)) st (goes_on mid)
        × Seg olds (n + checks_in (param_made m p s cells texts params y (slice_get s.variables y))) (params_made m p s cells texts params ys) mid e)
        → ((mid : State) → Seg olds (n + checks_in (param_made m p s cells texts params y (slice_get s.variables y))) (params_made m p s cells texts params ys) mid e → goes_on mid ≡ e)
        → goes_on st ≡ e
    by both (inl (over, k)) rest = absurd (subst seg.IsOver (sym (one_stays y both.0 olds n st e k)) over)
    by both (inr (mid, k, l)) rest = ap goes_on (goes_parts (one_stays y both.0 olds n st (goes_on mid) k)) ∙ rest mid l

module _ (m : sense.World) (q : Program Steps) (cells : FileCells) (texts : Texts) (own : ℕ) (f : Function Steps) (g : Written) (others : Others) (asked : OtherFits)
    (run_so : OthersRun m q (shape_in f g) cells texts f.contract others asked) (setting : InSetting m q.facts (shape_in f g) cells)
    (fits : FunctionFits m q.facts (shape_in f g) cells texts asked own f) (short : list_all (is_short q.facts) f.variables ≡ true) (vs : List Value) (w : World) (st : State)
    (enters : EntersAs q.facts (shape_in f g) cells f vs w st) where
  abbrev p : Facts
  p = q.facts

  abbrev s : Shape
  s = shape_in f g

  abbrev here : Here
  here = here_in p own vs w.memory f.contract []

  abbrev olds : List State
  olds = st ∷ []

  abbrev entry : labelled.World
  entry = at_entry p vs w.memory

  entry_there : (st' : State) → EntrySeen m p s cells texts 1 (is_param f.params) (st' ∷ st ∷ []) entry
  entry_there st' = entry_seen m p s cells texts own f asked setting fits vs w st enters st'

  -- ---- the block that an exit of the body ends, with the parameters' blocks around the body

  abbrev params : List ℕ
  params = numbers_from 0 f.params

  abbrev has : Bool
  has = has_home s.variables params

  abbrev params_word : Step
  params_word = params_made m p s cells texts f.params params

  abbrev inner : Step
  inner = step.seq (word.steps m p s cells texts f.contract others (body_point m p s cells texts f.params own) f.body no_temporaries) (ending m p s cells texts f.params f.result f.end)

  abbrev tail : Bool → Step
  tail t = tail_word m q cells texts own f g others asked run_so setting fits short vs w st enters t f.result

  abbrev around : Bool → Step
  around t = in_params m p s cells texts f.params t inner

  abbrev middle : Step
  middle = step.block (around has)

  abbrev first : CoreWorld
  first = begun (arrived f.variables vs w)

  abbrev Back : Value → World → State → Type 0
  Back v u st' = ReturnsAs p s cells v (behind_call w u).memory st'

  abbrev Tail : Bool → ℕ → Eval → End → Type 0
  Tail t n r e = TailEnds m q cells texts own f g others asked run_so setting fits short vs w st enters t f.result n r e

  abbrev EndsAs : Step → ℕ → Eval → End → Type 0
  EndsAs b n (gives v u) (goes_on st') = Back v u st'
  EndsAs b n (gives v u) (leaves k st') = ⊥
  EndsAs b n (gives v u) (fails i) = ⊥
  EndsAs b n (stops x) (goes_on st') = ⊥
  EndsAs b n (stops x) (leaves k st') = ⊥
  EndsAs b n (stops x) (fails i) = FailsAs (places b) n i x

  abbrev MidEnds : ℕ → Eval → End → Type 0
  MidEnds n r e = EndsAs middle n r e

  abbrev MidRuns : Bool → ℕ → Eval → Type 0
  MidRuns t n r = (e : End) × Seg olds n (step.block (around t)) st e × EndsAs (step.block (around t)) n r e

  arrives : (n : ℕ) → Arrives m p s cells texts f vs w st n
  arrives n = parameters_arrive asked m p s cells texts own f setting fits short vs w st enters n

  below : AllBelow (length s.variables) params
  below = below_from (length s.variables) 0 f.params (let l = fits.params_there in omega (arith, l))

  -- where no parameter has a block, the body starts where the function is entered
  arrived_there : has ≡ false → ArrivedAs p s cells f vs w st
  arrived_there none =
      let x = (arrives 0).forth in
      subst (ArrivedAs p s cells f vs w) (sym (goes_parts (all_stay m p s cells texts f.params params none olds 0 st (goes_on x.0) x.1))) x.2

  -- ---- with the scope of the parameters around

  put_so : (v : Value) (u : World) (st' : State) → Back v u st' → Back v u (put_back (slots_of m (sizes p s) params) st st')
  put_so v u st' h = put_back_as m p s cells st params below st' v (behind_call w u).memory h

  scoped : (n : ℕ) (at_body : State) → Seg olds n params_word st (goes_on at_body) → (r : Eval) (e : End) → Tail true (n + checks_in params_word) r e
      → EndsAs (step.block (around true)) n r (out (on_state (put_back (slots_of m (sizes p s) params) st) e))
  scoped n at_body k (gives v u) (goes_on st') h = put_so v u st' h
  scoped n at_body k (gives v u) (leaves zero st') h = put_so v u st' h
  scoped n at_body k (gives v u) (leaves (suc l) st') h = absurd h
  scoped n at_body k (gives v u) (fails i) h = absurd h
  scoped n at_body k (stops x) (goes_on st') h = absurd h
  scoped n at_body k (stops x) (leaves l st') h = absurd h
  scoped n at_body k (stops x) (fails i) h = fails_second params_word (tail true) n i x (comes k) h

  unscoped : (n : ℕ) (r : Eval) (e : End) → Tail false n r e → EndsAs (step.block (around false)) n r (out e)
  unscoped n (gives v u) (goes_on st') h = h
  unscoped n (gives v u) (leaves zero st') h = h
  unscoped n (gives v u) (leaves (suc l) st') h = absurd h
  unscoped n (gives v u) (fails i) h = absurd h
  unscoped n (stops x) (goes_on st') h = absurd h
  unscoped n (stops x) (leaves l st') h = absurd h
  unscoped n (stops x) (fails i) h = h

  abbrev TailRuns : Bool → State → ℕ → Eval → Type 0
  TailRuns t at_body n r = (e : End) × Seg olds n (tail t) at_body e × Tail t n r e

  runs_tail : (at_body : State) → ArrivedAs p s cells f vs w at_body → (t : Bool) → has ≡ t → (n : ℕ) (o : Ending) (r : Eval) → AllSeg q f.variables here f.body first o
      → BodyEnds f o r → TailRuns t at_body n r
  runs_tail at_body a t same n o r h ends =
      subst (λ t. TailRuns t at_body n r) same (tail_forth m q cells texts own f g others asked run_so setting fits short vs w st enters at_body a n o r h ends)

  mid_on : (t : Bool) → has ≡ t → (n : ℕ) (o : Ending) (r : Eval) → AllSeg q f.variables here f.body first o → BodyEnds f o r → MidRuns t n r
  mid_on true same n o r h ends =
      let x = (arrives n).forth in
      let y = runs_tail x.0 x.2 true same (n + checks_in params_word) o r h ends in
      (out (on_state (put_back (slots_of m (sizes p s) params) st) y.0), seg.blocks (seg.scopes (seg.goes_both x.1 y.1)), scoped n x.0 x.1 r y.0 y.2)
  mid_on false same n o r h ends =
      let y = runs_tail st (arrived_there same) false same n o r h ends in
      (out y.0, seg.blocks y.1, unscoped n r y.0 y.2)

  mid_forth : (n : ℕ) (o : Ending) (r : Eval) → AllSeg q f.variables here f.body first o → BodyEnds f o r → MidRuns has n r
  mid_forth n o r h ends = mid_on has refl n o r h ends

  -- and back
  record FoundBy (so : Eval → End → Type 0) (e : End) : Type 0 where
    from : Ending
    eval : Eval
    runs : AllSeg q f.variables here f.body first from
    ends : BodyEnds f from eval
    meets : so eval e

  abbrev MidFound : ℕ → End → Type 0
  MidFound n e = FoundBy (MidEnds n) e

  from_tail : (at_body : State) → ArrivedAs p s cells f vs w at_body → (t : Bool) → has ≡ t → (n : ℕ) (e : End) → Seg olds n (tail t) at_body e → FoundBy (Tail t n) e
  from_tail at_body a t same n e k =
      let x = tail_back m q cells texts own f g others asked run_so setting fits short vs w st enters at_body a n e (subst (λ t. Seg olds n (tail t) at_body e) (sym same) k) in
      subst (λ t. FoundBy (Tail t n) e) same (record { from = x.from; eval = x.eval; runs = x.runs; ends = x.ends; meets = x.meets })

  mid_from : (t : Bool) → has ≡ t → (n : ℕ) (e : End) → Seg olds n (step.block (around t)) st e → FoundBy (EndsAs (step.block (around t)) n) e
  mid_from false same n e k = by (block_way k) where
    by : ((x : End) × Seg olds n inner st x × (out x ≡ e)) → FoundBy (EndsAs (step.block (around false)) n) e
    by (x, r, is) =
        let y = from_tail st (arrived_there same) false same n x r in
        subst (FoundBy (EndsAs (step.block (around false)) n)) is
        (record { from = y.from; eval = y.eval; runs = y.runs; ends = y.ends; meets = unscoped n y.eval x y.meets })
  mid_from true same n e k = by (block_way k) where
    inside : (x : End) → (seg.IsOver x × Seg olds n params_word st x) ⊎ ((mid : State) × Seg olds n params_word st (goes_on mid) × Seg olds (n + checks_in params_word) (tail true) mid x)
        → FoundBy (EndsAs (step.block (around true)) n) (out (on_state (put_back (slots_of m (sizes p s) params) st) x))
    inside x (inl (over, r)) = let a = (arrives n).back x r in absurd (subst seg.IsOver (sym a.1) over)
    inside x (inr (mid, r, l)) =
        let a = (arrives n).back (goes_on mid) r in
        let y = from_tail mid (subst (ArrivedAs p s cells f vs w) (goes_parts a.1) a.2) true same (n + checks_in params_word) x l in
        record { from = y.from; eval = y.eval; runs = y.runs; ends = y.ends; meets = scoped n mid r y.eval x y.meets }

    by : ((x : End) × Seg olds n (around true) st x × (out x ≡ e)) → FoundBy (EndsAs (step.block (around true)) n) e
    by (x, r, is) = subst (FoundBy (EndsAs (step.block (around true)) n)) is (of_scope (scope_way r)) where
      of_scope : ((y : End) × Seg olds n (step.seq params_word (tail true)) st y × (on_state (put_back (slots_of m (sizes p s) params) st) y ≡ x))
          → FoundBy (EndsAs (step.block (around true)) n) (out x)
      of_scope (y, r, is) = subst (λ x. FoundBy (EndsAs (step.block (around true)) n) (out x)) is (inside y (seq_ways r))

  mid_back : (n : ℕ) (e : End) → Seg olds n middle st e → MidFound n e
  mid_back n e k = mid_from has refl n e k

  -- ---- promises

  return_seen : (v : Value) (u : World) (st' : State) → Back v u st'
      → ReturnSeen m p s cells texts 1 (is_param f.params) (st' ∷ st ∷ []) (at_return p here (behind_call w u).memory v)
  return_seen v u st' back = record {
    file = record { model = refl; structs = λ n. refl };
    here_is = there;
    pre_is = seen_entry m p s cells texts own f asked setting fits vs w st enters;
    post_is = there;
    loop_is = seen_entry m p s cells texts own f asked setting fits vs w st enters;
    result_is = of_kind s.result refl back.given;
  }
    where
      there : SeenByContract m p s cells texts (is_param f.params) st' st (seen_by_contract p vs (behind_call w u).memory)
      there = contracts_see m p s cells texts (behind_call w u).memory st' back.file w.memory.blocks (is_param f.params) vs st enters.arguments

      of_kind : (o : Option CellKind) → s.result ≡ o → IsResult p (behind_call w u).memory.blocks o v → ResultIs m p s cells texts o st' v
      of_kind None same h = tt
      of_kind (Some k) same h = (
        back.slot k same,
        kind_content p (count (behind_call w u).memory.blocks) (count st'.table) k v
            (λ e. ap count (sym (back.file.table_is (fits.result (same ∙ ap (λ k. Some k) e))))) (content_is p (behind_call w u).memory.blocks k v h.0 h.1),
      )

  abbrev last_checks : List Check
  last_checks = ensure_checks m p s cells texts f.params true f.contract.plain ++ all_ensured m p s cells texts f.params f.contract.behaviors

  promised : (v : Value) (u : World) (st' : State) → Back v u st' → Comes (st' ∷ olds) last_checks (ensured p here (behind_call w u).memory v f.contract)
  promised v u st' back =
      all_come m p s cells texts f.params setting st' st entry (entry_there st') (at_return p here (behind_call w u).memory v) (return_seen v u st' back) f.contract.plain fits.plain fits.assumes
      f.contract.behaviors fits.behaviors

  -- ---- the whole

  abbrev first_checks : List Check
  first_checks = map (together_check m p s cells texts f.params f.contract.behaviors) (in_order f.contract.together)

  entered : Comes (st ∷ olds) first_checks (entered_well p entry f.contract)
  entered = togethers_come m p s cells texts f.params setting st st entry (entry_there st) f.contract.behaviors fits.behaviors (in_order f.contract.together)

  abbrev t_word : Step
  t_word = step.ask first_checks

  abbrev p_word : Step
  p_word = step.ask last_checks

  abbrev rest_word : Step
  rest_word = step.seq middle p_word

  abbrev whole_word : Step
  whole_word = function_word m p s cells texts f.params others own f

  abbrev n1 : ℕ
  n1 = 0 + checks_in t_word

  abbrev n2 : ℕ
  n2 = n1 + checks_in middle

  abbrev WholeRuns : Eval → Type 0
  WholeRuns r = (e : End) × Seg [] 0 whole_word st e × FunctionEnds p s cells (places whole_word) r e

  of_rest : Seg olds 0 t_word st (goes_on st) → (i : ℕ) (x : Stop) → FailsAs (places rest_word) n1 i x → FailsAs (places whole_word) 0 i x
  of_rest k i x h = fails_second t_word rest_word 0 i x (comes k) h

  mid_stops : entered_well p entry f.contract ≡ None → (x : Stop) (e : End) → Seg olds n1 middle st e → MidEnds n1 (stops x) e → WholeRuns (stops x)
  mid_stops none x (goes_on st') k h = absurd h
  mid_stops none x (leaves l st') k h = absurd h
  mid_stops none x (fails i) k h =
      let t = ask_goes olds st first_checks 0 (entered_well p entry f.contract) entered none in
      (fails i, seg.remembers (seg.goes_both t (seg.ends_first k tt)), of_rest t i x (fails_first middle p_word n1 i x h))

  mid_goes : entered_well p entry f.contract ≡ None → (v : Value) (u : World) (e : End) → Seg olds n1 middle st e → MidEnds n1 (gives v u) e
      → (o : Option Stop) → ensured p here (behind_call w u).memory v f.contract ≡ o → (r : Eval) → (o ≡ None → r ≡ gives v (behind_call w u)) → ((x : Stop) → o ≡ Some x → r ≡ stops x)
      → WholeRuns r
  mid_goes none v u (leaves l st') k h o is r good bad = absurd h
  mid_goes none v u (fails i) k h o is r good bad = absurd h
  mid_goes none v u (goes_on st') k h None is r good bad =
      let t = ask_goes olds st first_checks 0 (entered_well p entry f.contract) entered none in
      let l = ask_goes olds st' last_checks n2 (ensured p here (behind_call w u).memory v f.contract) (promised v u st' h) is in
      subst WholeRuns (sym (good refl)) (goes_on st', seg.remembers (seg.goes_both t (seg.goes_both k l)), h)
  mid_goes none v u (goes_on st') k h (Some x) is r good bad =
      let t = ask_goes olds st first_checks 0 (entered_well p entry f.contract) entered none in
      let l = ask_stops olds st' last_checks n2 (ensured p here (behind_call w u).memory v f.contract) x (promised v u st' h) is in
      subst WholeRuns (sym (bad x refl)) (
        fails l.0,
        seg.remembers (seg.goes_both t (seg.goes_both k l.1)),
        of_rest t l.0 x (fails_second middle p_word n1 l.0 x (comes k) l.2),
      )

  pub forth : (o : Eval) → FunctionSeg q own f vs w o → WholeRuns o
  forth _ (not_entered {s = x} h) =
      let t = ask_stops olds st first_checks 0 (entered_well p entry f.contract) x entered h in
      (fails t.0, seg.remembers (seg.ends_first t.1 tt), fails_first t_word rest_word 0 t.0 x t.2)
  forth _ (goes_wrong {o = o} {s = x} none h ends) = let y = mid_forth n1 o (stops x) h ends in mid_stops none x y.0 y.1 y.2
  forth _ (breaks_promise {o = o} {v = v} {u = u} {s = x} none h ends bad) =
      let y = mid_forth n1 o (gives v u) h ends in
      mid_goes none v u y.0 y.1 y.2 (Some x) bad (stops x) (λ e. absurd (none-some x (sym e))) (λ z e. ap stops (same_Some x z e))
  forth _ (returns_well {o = o} {v = v} {u = u} none h ends good) =
      let y = mid_forth n1 o (gives v u) h ends in
      mid_goes none v u y.0 y.1 y.2 None good (gives v (behind_call w u)) (λ e. refl) (λ z e. absurd (none-some z e))

  abbrev WholeFound : End → Type 0
  WholeFound e = (o : Eval) × FunctionSeg q own f vs w o × FunctionEnds p s cells (places whole_word) o e

  promises_found : entered_well p entry f.contract ≡ None → Seg olds 0 t_word st (goes_on st) → (mid : State) → Seg olds n1 middle st (goes_on mid) → (o : Ending) (v : Value) (u : World)
      → AllSeg q f.variables here f.body first o → BodyEnds f o (gives v u) → Back v u mid → (e : End) → (x : Option Stop) → ensured p here (behind_call w u).memory v f.contract ≡ x
      → Asks last_checks mid n2 x e → WholeFound e
  promises_found none t mid k o v u h ends back _ None is goes = (gives v (behind_call w u), returns_well none h ends is, back)
  promises_found none t mid k o v u h ends back _ (Some x) is (asks_stop {i = i} y) =
      (stops x, breaks_promise none h ends is, of_rest t i x (fails_second middle p_word n1 i x (comes k) y))

  mid_found : entered_well p entry f.contract ≡ None → Seg olds 0 t_word st (goes_on st) → (e : End) → MidFound n1 e → seg.IsOver e → WholeFound e
  mid_found none t e found over = by found.from found.eval e found.runs found.ends found.meets over where
    by : (o : Ending) (r : Eval) (e : End) → AllSeg q f.variables here f.body first o → BodyEnds f o r → MidEnds n1 r e → seg.IsOver e → WholeFound e
    by o (gives v u) (goes_on st') h ends meets over = absurd over
    by o (gives v u) (leaves l st') h ends meets over = absurd meets
    by o (gives v u) (fails i) h ends meets over = absurd meets
    by o (stops x) (goes_on st') h ends meets over = absurd over
    by o (stops x) (leaves l st') h ends meets over = absurd meets
    by o (stops x) (fails i) h ends meets over = (stops x, goes_wrong none h ends, of_rest t i x (fails_first middle p_word n1 i x meets))

  mid_further : entered_well p entry f.contract ≡ None → Seg olds 0 t_word st (goes_on st) → (mid : State) → Seg olds n1 middle st (goes_on mid) → MidFound n1 (goes_on mid)
      → (e : End) → Seg olds n2 p_word mid e → WholeFound e
  mid_further none t mid k found e l = by found.from found.eval found.runs found.ends found.meets where
    by : (o : Ending) (r : Eval) → AllSeg q f.variables here f.body first o → BodyEnds f o r → MidEnds n1 r (goes_on mid) → WholeFound e
    by o (gives v u) h ends meets =
        promises_found none t mid k o v u h ends meets e (ensured p here (behind_call w u).memory v f.contract) refl
        (asks_way olds mid last_checks n2 (ensured p here (behind_call w u).memory v f.contract) (promised v u mid meets) e l)
    by o (stops x) h ends meets = absurd meets

  rest_found : entered_well p entry f.contract ≡ None → Seg olds 0 t_word st (goes_on st) → (e : End)
      → (seg.IsOver e × Seg olds n1 middle st e) ⊎ ((mid : State) × Seg olds n1 middle st (goes_on mid) × Seg olds n2 p_word mid e) → WholeFound e
  rest_found none t e (inl (over, k)) = mid_found none t e (mid_back n1 e k) over
  rest_found none t e (inr (mid, k, l)) = mid_further none t mid k (mid_back n1 (goes_on mid) k) e l

  first_found : (o : Option Stop) → entered_well p entry f.contract ≡ o → (e : End) → seg.IsOver e → Asks first_checks st 0 o e → WholeFound e
  first_found _ is _ over goes = absurd over
  first_found (Some x) is _ over (asks_stop {i = i} y) = (stops x, not_entered is, fails_first t_word rest_word 0 i x y)

  then_found : (o : Option Stop) → entered_well p entry f.contract ≡ o → (mid : State) → Seg olds 0 t_word st (goes_on mid) → Asks first_checks st 0 o (goes_on mid) → (e : End)
      → Seg olds n1 rest_word mid e → WholeFound e
  then_found None is _ t goes e k = rest_found is t e (seq_ways k)
  then_found (Some x) is mid t a e k = elim a [ ]

  pub back : (e : End) → Seg [] 0 whole_word st e → WholeFound e
  back e k = by (seq_ways (remember_way k)) where
    by : (seg.IsOver e × Seg olds 0 t_word st e) ⊎ ((mid : State) × Seg olds 0 t_word st (goes_on mid) × Seg olds n1 rest_word mid e) → WholeFound e
    by (inl (over, t)) = first_found (entered_well p entry f.contract) refl e over (asks_way olds st first_checks 0 (entered_well p entry f.contract) entered e t)
    by (inr (mid, t, r)) = then_found (entered_well p entry f.contract) refl mid t (asks_way olds st first_checks 0 (entered_well p entry f.contract) entered (goes_on mid) t) e r

  pub function_runs : FunctionRuns (FunctionSeg q own f vs w) (FunctionEnds p s cells (places whole_word)) whole_word st
  function_runs = record { forth = forth; back = back }

pub functions_run : (asked : OtherFits) → FunctionsRun asked
functions_run asked m q cells texts own f g others runs setting fits short vs w st enters =
    function_runs m q cells texts own f g others asked runs setting fits short vs w st enters

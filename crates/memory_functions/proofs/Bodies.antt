-- The body of a function, behind which its parameters' blocks end.
use Rattle.std.proofs.Common.{◌≡◌, ◌⊎◌, ◌<◌, ℕ, zero, suc, ◌+◌, Bool, true, false, List, [], ◌∷◌, length, Option, Some, None, refl, sym, ap, ◌∙◌, subst, inl, inr, arith}
use Rattle.std.specs.List.{list_all}
use Rattle.std.proofs.lemmas.Bool.{false≢true}
use Rattle.std.proofs.lemmas.Option.{none-some}
use Rattle.wp_base.specs.declared.kinds.CellKind.{CellKind}
use Rattle.c_runs.specs.TruthStates.{Value}
use Rattle.qed_terms.specs.Meaning as sense
use Rattle.c_runs.specs.Program.{Function, Facts, Program}
use Rattle.c_runs.specs.States.{World, Here}
use Rattle.c_runs.specs.Operators.{noreturn}
use Rattle.c_runs.specs.Claims.{Stop, undefined, here_in}
use Rattle.c_runs.specs.Scopes.{arrived}
use Rattle.c_runs.specs.Calls.{Eval, gives, stops, nought}
use Rattle.c_runs.specs.CoreRun as run
use Rattle.c_runs.specs.CoreRun.{CoreWorld, Ending, begun}
use Rattle.c_runs.specs.Tree.{Steps}
use Rattle.run_blocks.specs.Ends.{is_short}
use Rattle.goal_segments.specs.RunSegments as segment
use Rattle.goal_segments.specs.RunSegments.{BodyEnds, behind_call}
use Rattle.goal_segments.specs.Segments.{AllSeg, IsResult}
use Rattle.walk_steps.specs.Forms.{Place}
use Rattle.program_steps.specs.Stops.{undefined_place}
use Rattle.program_steps.specs.Temporaries.{no_temporaries}
use Rattle.memory_steps.specs.State.{State}
use Rattle.memory_steps.specs.Step.{Step, places, count as checks_in}
use Rattle.memory_steps.specs.Step as step
use Rattle.memory_steps.specs.Run.{End, goes_on, leaves, fails, IsOver, Seg}
use Rattle.memory_steps.specs.Run as seg
use Rattle.memory_steps.proofs.Readings.{seq_ways, last_asks}
use Rattle.memory_words.specs.Places.{result, result_offset, number_in, number_at}
use Rattle.memory_words.specs.Shapes.{FileCells, Shape, sizes}
use Rattle.memory_words.specs.Readings.{Texts}
use Rattle.memory_words.specs.Standing.{IsHeldAs, Frame, StandsFor}
use Rattle.memory_words.specs.Seen.{InSetting}
use Rattle.memory_words.specs.Points.{Point}
use Rattle.memory_words.specs.Words as word
use Rattle.memory_words.specs.Words.{Others, has_home}
use Rattle.memory_words.specs.Typed.{OtherFits}
use Rattle.memory_words.specs.Placed.{FailsAs, Openings, ReturnsIt, Ends, BothWays}
use Rattle.memory_words.specs.Others.{OthersRun}
use Rattle.memory_words.proofs.PutListing.{comes, fails_first, fails_second}
use Rattle.memory_statements.specs.Scopes.{GoesTo, EndedAs}
use Rattle.memory_statements.proofs.Ending.{scopes_end}
use Rattle.memory_statements.proofs.StatementStatements.{statements_run}
use Rattle.memory_functions.specs.GoalFunctions.{numbers_from, param_scope, body_point, ending}
use Rattle.memory_functions.specs.Words.{Written, shape_in}
use Rattle.memory_functions.specs.FunctionFunctions.{FunctionFits, EntersAs, ArrivedAs, ReturnsAs, body_frame}
use Rattle.memory_functions.proofs.Placing.{opened_of, openings_of, open_so, placed}
use Rattle.memory_functions.proofs.Returning.{back_as}

none_below : (n : ℕ) → n < 0 → ⊥
none_below n l = omega (arith, l)

no_zero : {k : ℕ} → suc k ≡ zero → ⊥
no_zero e = cc

module _ (m : sense.World) (q : Program Steps) (cells : FileCells) (texts : Texts) (own : ℕ) (f : Function Steps) (g : Written) (others : Others) (asked : OtherFits)
    (run_so : OthersRun m q (shape_in f g) cells texts f.contract others asked) (setting : InSetting m q.facts (shape_in f g) cells)
    (fits : FunctionFits m q.facts (shape_in f g) cells texts asked own f) (short : list_all (is_short q.facts) f.variables ≡ true) (vs : List Value) (w : World) (st : State)
    (enters : EntersAs q.facts (shape_in f g) cells f vs w st) where
  abbrev p : Facts
  p = q.facts

  abbrev s : Shape
  s = shape_in f g

  abbrev here : Here
  here = here_in p own vs w.memory f.contract []

  abbrev olds : List State
  olds = st ∷ []

  abbrev pt : Point
  pt = body_point m p s cells texts f.params own

  abbrev body_word : Step
  body_word = word.steps m p s cells texts f.contract others pt f.body no_temporaries

  abbrev end_word : Option CellKind → Step
  end_word o = ending m p s cells texts f.params o f.end

  abbrev pub inner : Option CellKind → Step
  inner o = step.seq body_word (end_word o)

  abbrev close_word : Step
  close_word = word.scope_ends m p s cells (param_scope m p s cells texts f.params)

  abbrev pub tail : Bool → Option CellKind → Step
  tail true o = step.seq (inner o) close_word
  tail false o = inner o

  abbrev first : CoreWorld
  first = begun (arrived f.variables vs w)

  abbrev Back : Value → World → State → Type 0
  Back v u st' = ReturnsAs p s cells v (behind_call w u).memory st'

  -- how the body ends with all that belongs to it
  abbrev pub TailEnds : Bool → Option CellKind → ℕ → Eval → End → Type 0
  TailEnds t o n (gives v u) (goes_on st') = Back v u st'
  TailEnds t o n (gives v u) (leaves zero st') = Back v u st'
  TailEnds t o n (gives v u) (leaves (suc k) st') = ⊥
  TailEnds t o n (gives v u) (fails i) = ⊥
  TailEnds t o n (stops x) (goes_on st') = ⊥
  TailEnds t o n (stops x) (leaves k st') = ⊥
  TailEnds t o n (stops x) (fails i) = FailsAs (places (tail t o)) n i x

  module _ (at_body : State) (arrives : ArrivedAs p s cells f vs w at_body) where
    abbrev fr : Frame
    fr = body_frame f.params (arrived s.variables vs w).memory.blocks arrives.homes

    abbrev has : Bool
    has = has_home s.variables (numbers_from 0 f.params)

    abbrev os : Openings
    os = openings_of w has

    abbrev EndsIn : List Place → ℕ → Ending → End → Type 0
    EndsIn ps n o e = Ends p s cells fr os [] no_temporaries ps n o e

    body_both : (n : ℕ) → BothWays (AllSeg q f.variables here f.body first) (EndsIn (places body_word) n) olds n body_word at_body
    body_both n = statements_run asked m q s cells texts f.contract others run_so setting short here pt olds fr os
        (placed m p s cells texts own f asked setting fits vs w st enters at_body arrives) no_temporaries f.body fits.body n first at_body arrives.stands

    -- ---- the body and its end

    -- it comes to its end, returns, or fails
    pub data InnerEnds (o : Option CellKind) (n : ℕ) : Eval → End → Type 0 where
      goes_through : {c : CoreWorld} {st' : State} → s.result ≡ None → StandsFor p s cells fr no_temporaries c st' → InnerEnds o n (gives nought c.world) (goes_on st')
      returns_it : {v : Value} {c : CoreWorld} {st' : State} → ReturnsIt p s cells fr os v c st' → InnerEnds o n (gives v c.world) (leaves zero st')
      fails_so : {x : Stop} {i : ℕ} → FailsAs (places (inner o)) n i x → InnerEnds o n (stops x) (fails i)

    abbrev InnerRuns : Option CellKind → ℕ → Eval → Type 0
    InnerRuns o n r = (e : End) × Seg olds n (inner o) at_body e × InnerEnds o n r e

    returned : (o : Option CellKind) (n : ℕ) (v : Value) (c : CoreWorld) (e : End) → Seg olds n body_word at_body e → EndsIn (places body_word) n (run.returns v c) e
        → InnerRuns o n (gives v c.world)
    returned o n v c (goes_on st') k h = absurd h
    returned o n v c (leaves zero st') k h = (leaves zero st', seg.ends_first k tt, returns_it h.1)
    returned o n v c (leaves (suc l) st') k h = absurd (no_zero h.0)
    returned o n v c (fails i) k h = absurd h

    stopped_so : (o : Option CellKind) (n : ℕ) (x : Stop) (e : End) → Seg olds n body_word at_body e → EndsIn (places body_word) n (run.stopped x) e → InnerRuns o n (stops x)
    stopped_so o n x (goes_on st') k h = absurd h
    stopped_so o n x (leaves l st') k h = absurd h
    stopped_so o n x (fails i) k h = (fails i, seg.ends_first k tt, fails_so (fails_first body_word (end_word o) n i x h))

    exited : (n k : ℕ) (c : CoreWorld) (e : End) → EndsIn (places body_word) n (run.exits k c) e → ⊥
    exited n k c (goes_on st') h = h
    exited n k c (leaves l st') h = none_below k h.1
    exited n k c (fails i) h = h

    at_end : (o : Option CellKind) → f.result ≡ o → (n : ℕ) (c : CoreWorld) (r : Eval) → BodyEnds f (run.goes_on c) r → (e : End) → Seg olds n body_word at_body e
        → EndsIn (places body_word) n (run.goes_on c) e → InnerRuns o n r
    at_end None same n c _ (segment.at_brace none) (goes_on st') k h = (goes_on st', seg.goes_both k seg.skips, goes_through none h)
    at_end None same n c _ (segment.without_result {k = k} some) (goes_on st') r h = absurd (none-some k (sym same ∙ some))
    at_end (Some k) same n c _ (segment.at_brace none) (goes_on st') r h = absurd (none-some k (sym none ∙ same))
    at_end (Some k) same n c _ (segment.without_result some) (goes_on st') r h = (
      fails (n + checks_in body_word),
      seg.goes_both r (seg.ends_first (seg.ask_fails (inl (refl, refl))) tt),
      fails_so (fails_second body_word (end_word (Some k)) n (n + checks_in body_word) (undefined noreturn f.end) (comes r)
          (undefined_place noreturn f.end, inl (refl, refl), (refl, refl))),
    )
    at_end o same n c r ends (leaves l st') k h = absurd h
    at_end o same n c r ends (fails i) k h = absurd h

    inner_forth : (n : ℕ) (o : Ending) (r : Eval) → AllSeg q f.variables here f.body first o → BodyEnds f o r → InnerRuns f.result n r
    inner_forth n (run.goes_on c) r h ends = let x = (body_both n).forth (run.goes_on c) h in at_end f.result refl n c r ends x.0 x.1 x.2
    inner_forth n (run.exits k c) r h ends = let x = (body_both n).forth (run.exits k c) h in absurd (exited n k c x.0 x.2)
    inner_forth n (run.returns v c) _ h segment.by_return = let x = (body_both n).forth (run.returns v c) h in returned f.result n v c x.0 x.1 x.2
    inner_forth n (run.stopped y) _ h segment.by_stop = let x = (body_both n).forth (run.stopped y) h in stopped_so f.result n y x.0 x.1 x.2

    -- and back
    pub record Found (meets_it : Eval → End → Type 0) (e : End) : Type 0 where
      pub from : Ending
      pub eval : Eval
      pub runs : AllSeg q f.variables here f.body first from
      pub ends : BodyEnds f from eval
      pub meets : meets_it eval e

    over_found : (o : Option CellKind) (n : ℕ) (x : Ending) (e : End) → AllSeg q f.variables here f.body first x → IsOver e → EndsIn (places body_word) n x e
        → Found (InnerEnds o n) e
    over_found o n (run.goes_on c) (goes_on st') h over k = absurd over
    over_found o n (run.goes_on c) (leaves l st') h over k = absurd k
    over_found o n (run.goes_on c) (fails i) h over k = absurd k
    over_found o n (run.exits j c) e h over k = absurd (exited n j c e k)
    over_found o n (run.returns v c) (goes_on st') h over k = absurd k
    over_found o n (run.returns v c) (leaves zero st') h over k =
        record { from = run.returns v c; eval = gives v c.world; runs = h; ends = segment.by_return; meets = returns_it k.1 }
    over_found o n (run.returns v c) (leaves (suc l) st') h over k = absurd (no_zero k.0)
    over_found o n (run.returns v c) (fails i) h over k = absurd k
    over_found o n (run.stopped x) (goes_on st') h over k = absurd k
    over_found o n (run.stopped x) (leaves l st') h over k = absurd k
    over_found o n (run.stopped x) (fails i) h over k =
        record { from = run.stopped x; eval = stops x; runs = h; ends = segment.by_stop; meets = fails_so (fails_first body_word (end_word o) n i x k) }

    skip_way : {n : ℕ} {st : State} (e : End) → Seg olds n step.skip st e → goes_on st ≡ e
    skip_way _ seg.skips = refl

    end_found : (o : Option CellKind) → f.result ≡ o → (n : ℕ) (mid : State) → Seg olds n body_word at_body (goes_on mid) → (x : Ending) → AllSeg q f.variables here f.body first x
        → EndsIn (places body_word) n x (goes_on mid) → (e : End) → Seg olds (n + checks_in body_word) (end_word o) mid e → Found (InnerEnds o n) e
    end_found None same n mid r (run.goes_on c) h k e l = subst (Found (InnerEnds None n)) (skip_way e l)
        (record { from = run.goes_on c; eval = gives nought c.world; runs = h; ends = segment.at_brace same; meets = goes_through same k })
    end_found (Some j) same n mid r (run.goes_on c) h k e l = by (last_asks l) where
      by : (i : ℕ) × (((false ≡ false) × (n + checks_in body_word ≡ i)) ⊎ ((false ≡ true) × ⊥)) × (fails i ≡ e) → Found (InnerEnds (Some j) n) e
      by (i, inl x, is_it) = subst (Found (InnerEnds (Some j) n)) is_it (record {
        from = run.goes_on c;
        eval = stops (undefined noreturn f.end);
        runs = h;
        ends = segment.without_result same;
        meets = fails_so (subst (λ i. FailsAs (places (inner (Some j))) n i (undefined noreturn f.end)) x.1
            (fails_second body_word (end_word (Some j)) n (n + checks_in body_word) (undefined noreturn f.end) (comes r)
            (undefined_place noreturn f.end, inl (refl, refl), (refl, refl))));
      })
      by (i, inr x, is_it) = absurd x.1
    end_found o same n mid r (run.exits j c) h k e l = absurd k
    end_found o same n mid r (run.returns v c) h k e l = absurd k
    end_found o same n mid r (run.stopped x) h k e l = absurd k

    inner_back : (n : ℕ) (e : End) → Seg olds n (inner f.result) at_body e → Found (InnerEnds f.result n) e
    inner_back n e k = by (seq_ways k) where
      by : (IsOver e × Seg olds n body_word at_body e) ⊎ ((mid : State) × Seg olds n body_word at_body (goes_on mid) × Seg olds (n + checks_in body_word) (end_word f.result) mid e)
          → Found (InnerEnds f.result n) e
      by (inl (over, r)) = let y = (body_both n).back e r in over_found f.result n y.0 e y.1 over y.2
      by (inr (mid, r, l)) = let y = (body_both n).back (goes_on mid) r in end_found f.result refl n mid r y.0 y.1 y.2 e l

    -- ---- the end of the parameters' blocks

    nothing_given : (c : CoreWorld) → s.result ≡ None → IsResult p c.world.memory.blocks s.result nought
    nothing_given c none = subst (λ o. IsResult p c.world.memory.blocks o nought) (sym none) refl

    return_back : (t : Bool) → has ≡ t → (v : Value) (c : CoreWorld) (st' : State) → ReturnsIt p s cells fr (openings_of w t) v c st' → Back v c.world st'
    return_back t same v c st' h = back_as p s cells f vs w at_body arrives t same no_temporaries c v st' h.stands h.given h.slot

    closes : has ≡ true → (c : CoreWorld) (st' : State) → StandsFor p s cells fr no_temporaries c st'
        → GoesTo olds close_word st' (EndedAs p s cells fr no_temporaries (opened_of w true) c st')
    closes same c st' stands =
        scopes_end m p s cells setting olds fr no_temporaries (param_scope m p s cells texts f.params) (record { before = w.memory; around = w.memory.blocks; lives = λ x. false })
        (open_so m p s cells texts own f asked setting fits vs w st enters at_body arrives true same).0 c st' stands

    closed_back : (same : has ≡ true) → s.result ≡ None → (c : CoreWorld) (st' new : State) → EndedAs p s cells fr no_temporaries (opened_of w true) c st' new → Back nought c.world new
    closed_back same none c st' new ended =
        back_as p s cells f vs w at_body arrives true same no_temporaries c nought new ended.stands (nothing_given c none) (λ k e. absurd (none-some k (sym none ∙ e)))

    tail_on : (t : Bool) → has ≡ t → (o : Option CellKind) (n : ℕ) (r : Eval) → InnerRuns o n r → (e : End) × Seg olds n (tail t o) at_body e × TailEnds t o n r e
    tail_on true same o n _ (e, k, goes_through {c = c} {st' = st'} none stands) =
        let x = (closes same c st' stands).forth (n + checks_in (inner o)) in
        (goes_on x.0, seg.goes_both k x.1, closed_back same none c st' x.0 x.2)
    tail_on true same o n _ (e, k, returns_it {v = v} {c = c} {st' = st'} h) =
        (leaves zero st', seg.ends_first k tt, return_back true same v c st' (subst (λ t. ReturnsIt p s cells fr (openings_of w t) v c st') same h))
    tail_on true same o n _ (e, k, fails_so {x = x} {i = i} h) = (fails i, seg.ends_first k tt, fails_first (inner o) close_word n i x h)
    tail_on false same o n _ (e, k, goes_through {c = c} {st' = st'} none stands) =
        (goes_on st', k, back_as p s cells f vs w at_body arrives false same no_temporaries c nought st' stands (nothing_given c none) (λ k e. absurd (none-some k (sym none ∙ e))))
    tail_on false same o n _ (e, k, returns_it {v = v} {c = c} {st' = st'} h) =
        (leaves zero st', k, return_back false same v c st' (subst (λ t. ReturnsIt p s cells fr (openings_of w t) v c st') same h))
    tail_on false same o n _ (e, k, fails_so {x = x} {i = i} h) = (fails i, k, h)

    pub tail_forth : (n : ℕ) (o : Ending) (r : Eval) → AllSeg q f.variables here f.body first o → BodyEnds f o r
        → (e : End) × Seg olds n (tail has f.result) at_body e × TailEnds has f.result n r e
    tail_forth n o r h ends = tail_on has refl f.result n r (inner_forth n o r h ends)

    -- and back

    goes_parts : {a b : State} → goes_on a ≡ goes_on b → a ≡ b
    goes_parts e = cc

    tail_over : (t : Bool) → has ≡ t → (o : Option CellKind) (n : ℕ) (r : Eval) (e : End) → IsOver e → InnerEnds o n r e → TailEnds t o n r e
    tail_over t same o n _ _ over (goes_through none stands) = absurd over
    tail_over t same o n _ _ over (returns_it {v = v} {c = c} {st' = st'} h) =
        return_back t same v c st' (subst (λ t. ReturnsIt p s cells fr (openings_of w t) v c st') same h)
    tail_over true same o n _ _ over (fails_so {x = x} {i = i} h) = fails_first (inner o) close_word n i x h
    tail_over false same o n _ _ over (fails_so {x = x} {i = i} h) = h

    tail_further : (same : has ≡ true) (o : Option CellKind) (n : ℕ) (r : Eval) (mid : State) (e : End) → InnerEnds o n r (goes_on mid)
        → Seg olds (n + checks_in (inner o)) close_word mid e → TailEnds true o n r e
    tail_further same o n _ mid e (goes_through {c = c} none stands) l =
        let x = (closes same c mid stands).back (n + checks_in (inner o)) e l in
        subst (TailEnds true o n (gives nought c.world)) x.1 (closed_back same none c mid x.0 x.2)

    tail_through : (same : has ≡ false) (o : Option CellKind) (n : ℕ) (r : Eval) (e : End) → InnerEnds o n r e → TailEnds false o n r e
    tail_through same o n _ _ (goes_through {c = c} {st' = st'} none stands) =
        back_as p s cells f vs w at_body arrives false same no_temporaries c nought st' stands (nothing_given c none) (λ k e. absurd (none-some k (sym none ∙ e)))
    tail_through same o n _ _ (returns_it {v = v} {c = c} {st' = st'} h) =
        return_back false same v c st' (subst (λ t. ReturnsIt p s cells fr (openings_of w t) v c st') same h)
    tail_through same o n _ _ (fails_so h) = h

    tail_from : (t : Bool) → has ≡ t → (n : ℕ) (e : End) → Seg olds n (tail t f.result) at_body e → Found (TailEnds t f.result n) e
    tail_from false same n e k =
        let x = inner_back n e k in
        record { from = x.from; eval = x.eval; runs = x.runs; ends = x.ends; meets = tail_through same f.result n x.eval e x.meets }
    tail_from true same n e k = by (seq_ways k) where
      by : (IsOver e × Seg olds n (inner f.result) at_body e)
          ⊎ ((mid : State) × Seg olds n (inner f.result) at_body (goes_on mid) × Seg olds (n + checks_in (inner f.result)) close_word mid e) → Found (TailEnds true f.result n) e
      by (inl (over, r)) =
          let x = inner_back n e r in
          record { from = x.from; eval = x.eval; runs = x.runs; ends = x.ends; meets = tail_over true same f.result n x.eval e over x.meets }
      by (inr (mid, r, l)) =
          let x = inner_back n (goes_on mid) r in
          record { from = x.from; eval = x.eval; runs = x.runs; ends = x.ends; meets = tail_further same f.result n x.eval mid e x.meets l }

    pub tail_back : (n : ℕ) (e : End) → Seg olds n (tail has f.result) at_body e → Found (TailEnds has f.result n) e
    tail_back n e k = tail_from has refl n e k

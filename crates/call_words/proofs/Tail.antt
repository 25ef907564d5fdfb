-- Behind what is asked for a call: the worlds in which its caller may go on are those that the rest of its word comes to.
use Rattle.std.proofs.Common.{◌≡◌, ℕ, ◌+◌, ◌<◌, ◌≤◌, ℤ, pos, negsuc, Bool, true, false, not, ◌&&◌, ◌||◌, List, [], ◌∷◌, map, length, Option, Some, None, slice_get, refl, sym, ap, ◌∙◌, subst, arith}
use Rattle.std.proofs.lemmas.Bool.{false≢true, and_parts}
use Rattle.wp_base.specs.declared.kinds.CellKind.{CellKind}
use Rattle.wp_base.specs.Blocks.{Table}
use Rattle.c_kinds.specs.Models.{holds}
use Rattle.typed_prog.specs.Tree as t
use Rattle.qed_terms.specs.Meaning as sense
use Rattle.qed_terms.specs.Meaning.{truth}
use Rattle.qed_terms.specs.Tree.{Tree}
use Rattle.c_runs.specs.TruthStates as labelled
use Rattle.c_runs.specs.TruthStates.{Value, number, number_of}
use Rattle.c_runs.specs.Program.{Variable, Contract, Function, Facts, Program}
use Rattle.c_runs.specs.States.{World, Memory, Here}
use Rattle.c_runs.specs.Claims.{Stop, at_entry, at_return, ensured, here_in, parts_of}
use Rattle.c_runs.specs.Calls.{nought}
use Rattle.c_runs.specs.CoreRun.{CoreWorld, Ending, in_world}
use Rattle.c_runs.specs.Checks.{Check}
use Rattle.c_runs.specs.Tests.{totals}
use Rattle.c_runs.specs.Tree as core
use Rattle.c_runs.specs.Tree.{Goal, Steps}
use Rattle.c_runs.specs.CheckedRun as exec
use Rattle.goal_segments.specs.Segments.{BehindCall, no_deeper}
use Rattle.goal_segments.specs.Segments as segment
use Rattle.plain_states.specs.Slots.{State, at, double, put, value_slot, answer_slot}
use Rattle.plain_states.specs.Scopes.{kind_of}
use Rattle.plain_states.proofs.Lists.{double_is, put_here}
use Rattle.plain_states.proofs.Scoping.{found_below, none_some}
use Rattle.plain_runs.specs.Fitting.{IsGood, Shape, sizes}
use Rattle.plain_runs.specs.Kept.{goal_temp}
use Rattle.plain_runs.proofs.Whole.{number_value}
use Rattle.value_terms.specs.Places.{all_met_among}
use Rattle.walk_steps.specs.State.{AllTrue}
use Rattle.walk_steps.specs.Forms.{Place, told_forms}
use Rattle.walk_steps.specs.Step.{Step, places}
use Rattle.walk_steps.specs.Step as step
use Rattle.walk_steps.specs.Run.{End, on_state, put_back, Changes, Seg}
use Rattle.walk_steps.specs.Run as seg
use Rattle.walk_steps.proofs.Readings.{changes_then, knows_then, scope_way, remember_way}
use Rattle.program_steps.specs.Leaves.{form, closed, leaves_of}
use Rattle.program_steps.specs.Temporaries.{Temporaries, some_use, goal_uses, live}
use Rattle.program_steps.specs.Terms.{Texts, kind_given}
use Rattle.program_steps.specs.Words.{Point}
use Rattle.program_steps.specs.Standing.{StandsFor, Ends}
use Rattle.program_steps.specs.Functions.{AllOf}
use Rattle.program_steps.specs.Placed.{InSetting, all_told, Placed, BothWays}
use Rattle.program_steps.proofs.Filling.{on_bool}
use Rattle.program_steps.proofs.Asking.{behind}
use Rattle.program_steps.proofs.Standing.{file_fits}
use Rattle.call_words.specs.Sets.{may_differ, file_changes}
use Rattle.call_words.specs.Words.{stay_trees, call_promises, answer_step, answer_term, received, behind_call}
use Rattle.call_words.specs.Fits.{SeenCall, ResultGoes, none_nowhere, none_to, goes_to, CallFits}
use Rattle.call_words.proofs.Views.{sees}
use Rattle.call_words.proofs.Claims.{is_none, call_promises_told}
use Rattle.call_words.proofs.Further.{placed_further}
use Rattle.call_words.proofs.Changing.{with_values, with_length, with_value, with_behind, Differs, file_changes_so, FileChanged, file_changed}
use Rattle.call_words.proofs.Staying.{KeepsBy, allowed_keeps, stays_told, keeps_stay, stays_keep, plain_keeps, plain_fixed}
use Rattle.call_words.proofs.Behind.{file_number, stands_behind, behind_world, behind_good, behind_cells, behind_call as world_behind}
use Rattle.call_words.proofs.Answers.{ends_back, Answered, answered_length, answered_else, answer_places, then_answer, answer_then, ResultAt, given_both}
use Rattle.acsl_encode.specs.Meaning.{IsOfKind}
use Rattle.wp_base.specs.declared.kinds.CellKind.TheVariants as cell

-- ---- what is known

module _ (m : sense.World) (sts : List State) where
  pub known_so : (fs : List Tree) → all_told m sts fs ≡ true → AllTrue (told_forms sts (map (form m) fs))
  known_so [] h = tt
  known_so (f ∷ fs) h = let both = and_parts (truth m (leaves_of sts) (closed f)) (all_told m sts fs) h in (both.0, known_so fs both.1)

  pub so_known : (fs : List Tree) → AllTrue (told_forms sts (map (form m) fs)) → all_told m sts fs ≡ true
  so_known [] h = refl
  so_known (f ∷ fs) h = λ i. (h.0 i) && (so_known fs h.1 i)

module _ (m : sense.World) (q : Program Steps) (s : Shape) (texts : Texts) (contract : Contract) (setting : InSetting m q.facts s) (t0 : Table) (here : Here) (pt : Point)
    (olds : List State) (placed : Placed m q.facts s texts contract pt here olds) (i : ℕ → Bool) (f : Temporaries) (cs : List Check) (to : Goal) (k l : ℕ) (es : t.Values)
    (fits : CallFits m q.facts s texts contract q.functions i pt.outs f cs to k l es) (c : CoreWorld) (st : State)
    (stands : StandsFor q.facts s t0 i (live (core.call cs to k l es) pt.outs f) c st) (met : all_met_among q.facts s.variables c.temps c.world es ≡ true) where
  abbrev p : Facts
  p = q.facts

  abbrev g : Function Steps
  g = fits.function

  abbrev used : Temporaries
  used = live (core.call cs to k l es) pt.outs f

  abbrev vs : List Value
  vs = totals p s.variables c.temps c.world es

  abbrev mem : Memory
  mem = c.world.memory

  abbrev pub entry : labelled.World
  entry = at_entry p vs mem

  abbrev a : ℕ
  a = answer_slot (sizes p s)

  abbrev n0 : ℕ
  n0 = length p.globals

  enough : double n0 ≤ length st
  enough =
      let e = stands.size in
      let x = double_is n0 in
      let y = double_is (n0 + length s.variables) in
      omega (arith, e, x, y)

  in_list : a < length st
  in_list = let e = stands.size in omega (arith, e)

  file_no_answer : (x : ℕ) → x < n0 → value_slot x ≡ a → ⊥
  file_no_answer x h e =
      let u = double_is x in
      let y = double_is (n0 + length s.variables) in
      omega (arith, h, e, u, y)

  less : (j : ℕ) → (not (goal_temp to j) && f j) ≡ true → used j ≡ true
  less j h = by (some_use es j) (goal_uses to j) where
    by : (b d : Bool) → (b || d || (not (goal_temp to j) && f j)) ≡ true
    by true d = refl
    by false true = refl
    by false false = h

  -- ---- what the function sees

  pub seen_now : (olds' : List State) → SeenCall m p s texts g es entry (st ∷ olds') 0
  seen_now olds' =
      let v = sees m p s setting i used c st stands (st ∷ olds') 0 refl es fits.typed met texts g fits.count fits.kinds mem st stands.good stands.globals in
      record { here_is = v; pre_is = v; post_is = v; loop_entry_is = v; model = refl; structs = λ n. refl }

  seen_before : (b : State) → SeenCall m p s texts g es entry (b ∷ st ∷ olds) 1
  seen_before b =
      let v = sees m p s setting i used c st stands (b ∷ st ∷ olds) 1 refl es fits.typed met texts g fits.count fits.kinds mem st stands.good stands.globals in
      record { here_is = v; pre_is = v; post_is = v; loop_entry_is = v; model = refl; structs = λ n. refl }

  -- a memory whose variables of the file have these slots, and a result that stands there
  of_kind : (o : Option CellKind) (before b : State) → Answered m p s texts contract q o before b → IsOfKind p.model (kind_given o) (at b a)
  of_kind None before b h = tt
  of_kind (Some (cell.Of k)) before b h = h.1
  of_kind (Some cell.Ptr) before b h = absurd h

  record AtEnd (u : Memory) (v : Value) (b : State) : Type 0 where
    good : IsGood p u
    cells : (x : ℕ) (y : Variable) → slice_get p.globals x ≡ Some y → u.cells (negsuc x) (pos 0) ≡ number (at b (value_slot x))
    answer : (r : CellKind) → g.result ≡ Some r → v ≡ number (at b a)
    kind : IsOfKind p.model (kind_given g.result) (at b a)

  abbrev caller : Here
  caller = here_in p k vs mem g.contract []

  promised_told : (u : Memory) (v : Value) (b : State) → AtEnd u v b
      → all_told m (b ∷ st ∷ olds) (call_promises p s texts g es) ≡ is_none m p s texts (b ∷ st ∷ olds) g es (ensured p caller u v g.contract)
  promised_told u v b h =
      let now = sees m p s setting i used c st stands (b ∷ st ∷ olds) 1 refl es fits.typed met texts g fits.count fits.kinds u b h.good h.cells in
      let before = (seen_before b).here_is in
      call_promises_told m p s texts (b ∷ st ∷ olds) g es entry (at_return p caller u v) (seen_before b)
      (record { here_is = now; pre_is = before; post_is = now; loop_entry_is = before; result = h.answer; result_fits = h.kind; model = refl; structs = λ n. refl }) fits.callee

  none_so : (o : Option Stop) (b : State) → o ≡ None → is_none m p s texts (b ∷ st ∷ olds) g es o ≡ true
  none_so None b h = refl
  none_so (Some x) b h = absurd (none_some x (sym h))

  so_none : (o : Option Stop) (b : State) → is_none m p s texts (b ∷ st ∷ olds) g es o ≡ true → o ≡ None
  so_none None b h = refl
  so_none (Some x) b h = absurd (false≢true h)

  -- ---- the parts of the word

  abbrev given_word : Step
  given_word = received m p s texts contract q.functions pt to (answer_term m p s texts contract q.functions g.result)

  abbrev known_word : Step
  known_word = step.seq (step.know (map (form m) (call_promises p s texts g es))) given_word

  abbrev answer_word : Step
  answer_word = step.seq (answer_step m p s texts contract q.functions g.result) known_word

  abbrev stay_word : Step
  stay_word = step.seq (step.know (map (form m) (stay_trees p s texts g es))) answer_word

  abbrev inner : Step
  inner = step.seq (step.change (file_changes p g.contract 0 p.globals)) stay_word

  abbrev pub whole : Step
  whole = behind_call m p s texts contract q.functions pt to g es

  abbrev EndsAt : List Place → ℕ → Ending → End → Type 0
  EndsAt ps n o e = Ends p s t0 i pt.outs f ps n o e

  same_places : places whole ≡ places given_word
  same_places = answer_places m p s texts contract q g.result known_word

  -- what a call comes to that has returned
  abbrev pub Returns : Ending → Type 0
  Returns o = (v : Value) × ((u : World) × (BehindCall p k g vs c.world v u × (exec.result_to q no_deeper s.variables here to v (in_world c u) ≡ o)))

  abbrev Goes : State → Value → World → ℕ → Type 0
  Goes b v u n = BothWays (λ o. exec.result_to q no_deeper s.variables here to v (in_world c u) ≡ o) (EndsAt (places given_word) n) (st ∷ olds) n given_word b

  result_goes : (u : World) (v : Value) (b : State) → StandsFor p s t0 i used (in_world c u) b → ResultAt m p s texts contract q g.result v b → (n : ℕ) → Goes b v u n
  result_goes u v b stands_b result n =
      given_both m q s texts contract setting t0 here pt (st ∷ olds) (placed_further m p s texts g es contract fits.caller here pt olds placed st) i used f (in_world c u) b stands_b v g.result to fits.result result less n

  -- ---- forth

  module _ (v : Value) (u : World) (call : BehindCall p k g vs c.world v u) where
    abbrev new : ℕ → ℤ
    new x = number_of (u.memory.cells (negsuc x) (pos 0))

    abbrev one : State
    one = with_values n0 new st

    one_value : (x : ℕ) → x < n0 → at one (value_slot x) ≡ new x
    one_value x h = with_value n0 new st enough x h

    one_cells : (x : ℕ) (y : Variable) → slice_get p.globals x ≡ Some y → u.memory.cells (negsuc x) (pos 0) ≡ number (at one (value_slot x))
    one_cells x y e = (file_number p s setting.globals setting.integers u.memory call.good x y e).0 ∙ ap number (sym (one_value x (found_below p.globals x y e)))

    keeps : AllOf (KeepsBy m p s texts g es setting.globals mem vs one st) (parts_of g.contract)
    keeps = allowed_keeps m p s texts g es setting.globals mem vs one st u.memory stands.globals one_cells (parts_of g.contract) (fits.callee.plain, fits.callee.behaviors) call.changes

    changes : Changes (st ∷ st ∷ olds) (file_changes p g.contract 0 p.globals) st one
    changes = file_changes_so p (st ∷ st ∷ olds) g.contract 0 p.globals new st enough (λ x y e.
        let n : x ≡ 0 + x = omega arith in subst (λ n. Differs p (st ∷ st ∷ olds) g.contract n y (at st (value_slot x)) (new x)) n (record {
          fits = λ d. (file_number p s setting.globals setting.integers u.memory call.good x y e).1;
          same = λ d. sym (plain_fixed m p s texts g es setting.globals mem vs one st fits.callee keeps.0 x y e d) ∙ one_value x (found_below p.globals x y e);
        }))

    stay_told : all_told m (one ∷ st ∷ olds) (stay_trees p s texts g es) ≡ true
    stay_told = stays_told m p s texts g es setting.globals mem vs one st olds (seen_before one) g.contract.behaviors fits.callee.behaviors
        ∙ keeps_stay m p s texts g es setting.globals mem vs one st g.contract.behaviors keeps.1

    one_long : a < length one
    one_long = let e = with_length n0 new st in let h = in_list in omega (arith, e, h)

    record Filled : Type 0 where
      state : State
      answered : Answered m p s texts contract q g.result one state
      result : ResultAt m p s texts contract q g.result v state
      stands_so : (r : CellKind) → g.result ≡ Some r → v ≡ number (at state a)

    filled_by : (r : Option CellKind) (d : Goal) → ResultGoes p s i r d → segment.IsResult p u.memory.blocks r v
        → (b : State) × (Answered m p s texts contract q r one b × (ResultAt m p s texts contract q r v b × ((k' : CellKind) → r ≡ Some k' → v ≡ number (at b a))))
    filled_by _ _ none_nowhere h = (one, (refl, (h, λ k' e. absurd (none_some k' e))))
    filled_by _ _ (none_to below) h = (one, (refl, (h, λ k' e. absurd (none_some k' e))))
    filled_by _ d (goes_to {k = k'} r) h =
        let both = number_value p u.memory.blocks k' v h.0 in
        let there = put_here (pos 0) one a (number_of v) one_long in
        let is : v ≡ number (at (put one a (number_of v)) a) = sym both.0 ∙ ap number (sym there) in (
          put one a (number_of v),
          (
            (ap (put one a) (sym there), ap (holds p.model k') there ∙ both.1),
            ((is, ap (holds p.model k') there ∙ both.1), λ r e. is),
          ),
        )

    filled : Filled
    filled = let x = filled_by g.result to fits.result call.result in record { state = x.0; answered = x.1.0; result = x.1.1.0; stands_so = x.1.1.1 }

    abbrev two : State
    two = filled.state

    two_cells : (x : ℕ) (y : Variable) → slice_get p.globals x ≡ Some y → u.memory.cells (negsuc x) (pos 0) ≡ number (at two (value_slot x))
    two_cells x y e = one_cells x y e ∙ ap number (sym (answered_else m p s texts contract q g.result one two filled.answered (value_slot x) (file_no_answer x (found_below p.globals x y e))))

    two_stands : StandsFor p s t0 i used (in_world c u) two
    two_stands = stands_behind p s setting.globals setting.integers i used c st stands u two
        (answered_length m p s texts contract q g.result one two filled.answered ∙ with_length n0 new st) call.good call.blocks two_cells call.locals
        (λ j h differ. answered_else m p s texts contract q g.result one two filled.answered j differ ∙ with_behind n0 new st j h)

    known_told : all_told m (two ∷ st ∷ olds) (call_promises p s texts g es) ≡ true
    known_told = promised_told u.memory v two (record { good = call.good; cells = two_cells; answer = filled.stands_so; kind = of_kind g.result one two filled.answered })
        ∙ none_so (ensured p caller u.memory v g.contract) two call.promises

    forth_by : (n : ℕ) (o : Ending) → exec.result_to q no_deeper s.variables here to v (in_world c u) ≡ o → (e : End) × Seg olds n whole st e × EndsAt (places whole) n o e
    forth_by n o h =
        let x = (result_goes u v two two_stands filled.result n).forth o h in (
          on_state (put_back (a ∷ []) st) x.0,
          seg.remembers (seg.scopes (seg.goes_both (seg.changes changes) (behind (seg.goes_both (seg.knows_so (known_so m (one ∷ st ∷ olds) (stay_trees p s texts g es) stay_told))
              (behind (then_answer m p s texts contract q (st ∷ olds) n known_word g.result one two one_long filled.answered x.0
              (seg.goes_both (seg.knows_so (known_so m (two ∷ st ∷ olds) (call_promises p s texts g es) known_told)) (behind x.1)))))))),
          ends_back m p s setting t0 i pt.outs f (places whole) n st o x.0 (subst (λ ps. EndsAt ps n o x.0) (sym same_places) x.2),
        )

  -- ---- back

  module _ (one : State) (changed : FileChanged p (st ∷ st ∷ olds) g.contract 0 p.globals st one)
      (stay : all_told m (one ∷ st ∷ olds) (stay_trees p s texts g es) ≡ true) (two : State) (answered : Answered m p s texts contract q g.result one two)
      (known : all_told m (two ∷ st ∷ olds) (call_promises p s texts g es) ≡ true) where
    differs : (x : ℕ) (y : Variable) → slice_get p.globals x ≡ Some y → Differs p (st ∷ st ∷ olds) g.contract x y (at st (value_slot x)) (at one (value_slot x))
    differs x y e = let n : 0 + x ≡ x = omega arith in subst (λ n. Differs p (st ∷ st ∷ olds) g.contract n y (at st (value_slot x)) (at one (value_slot x))) n (changed.values x y e)

    fixed : (x : ℕ) (y : Variable) → slice_get p.globals x ≡ Some y → may_differ g.contract x ≡ false → at one (value_slot x) ≡ at st (value_slot x)
    fixed x y e d = sym ((differs x y e).same d)

    one_fits : (x : ℕ) (y : Variable) → slice_get p.globals x ≡ Some y → holds p.model (kind_of y) (at one (value_slot x)) ≡ true
    one_fits x y e = on_bool (may_differ g.contract x) (differs x y e).fits
        (λ d. ap (holds p.model (kind_of y)) (fixed x y e d) ∙ file_fits p s setting.globals setting.integers mem stands.good x y e (at st (value_slot x)) (stands.globals x y e))

    kept : AllOf (KeepsBy m p s texts g es setting.globals mem vs one st) (parts_of g.contract)
    kept = (
      plain_keeps m p s texts g es setting.globals mem vs one st fixed,
      stays_keep m p s texts g es setting.globals mem vs one st fixed g.contract.behaviors
          (sym (stays_told m p s texts g es setting.globals mem vs one st olds (seen_before one) g.contract.behaviors fits.callee.behaviors) ∙ stay),
    )

    abbrev u : World
    u = behind_world p s setting.globals setting.integers c.world stands.good one one_fits

    result_by : (r : Option CellKind) (d : Goal) → ResultGoes p s i r d → Answered m p s texts contract q r one two
        → (v : Value) × (ResultAt m p s texts contract q r v two × (segment.IsResult p u.memory.blocks r v × ((k' : CellKind) → r ≡ Some k' → v ≡ number (at two a))))
    result_by _ _ none_nowhere h = (nought, (refl, (refl, λ k' e. absurd (none_some k' e))))
    result_by _ _ (none_to below) h = (nought, (refl, (refl, λ k' e. absurd (none_some k' e))))
    result_by _ d (goes_to {k = k'} r) h = (number (at two a), ((refl, h.1), ((h.1, refl), λ k' e. refl)))

    two_cells_back : (x : ℕ) (y : Variable) → slice_get p.globals x ≡ Some y → u.memory.cells (negsuc x) (pos 0) ≡ number (at two (value_slot x))
    two_cells_back x y e = behind_cells p s setting.globals setting.integers c.world stands.good one one_fits x y e
        ∙ ap number (sym (answered_else m p s texts contract q g.result one two answered (value_slot x) (file_no_answer x (found_below p.globals x y e))))

    back_by : (n : ℕ) (e : End) → Seg (st ∷ olds) n given_word two e → (o : Ending) × (Returns o × EndsAt (places whole) n o (on_state (put_back (a ∷ []) st) e))
    back_by n e h =
        let r = result_by g.result to fits.result answered in
        let good = behind_good p s setting.globals setting.integers c.world stands.good one one_fits in
        let promised : ensured p caller u.memory r.0 g.contract ≡ None = so_none (ensured p caller u.memory r.0 g.contract) two
        (sym (promised_told u.memory r.0 two (record { good = good; cells = two_cells_back; answer = r.1.1.1; kind = of_kind g.result one two answered })) ∙ known) in
        let call : BehindCall p k g vs c.world r.0 u =
        world_behind p s setting.globals setting.integers c.world stands.good one one_fits m texts g es fits.callee vs st stands.globals kept k r.0 r.1.1.0 promised in
        let two_stands = stands_behind p s setting.globals setting.integers i used c st stands u two
        (answered_length m p s texts contract q g.result one two answered ∙ changed.size) good call.blocks two_cells_back (λ x. refl)
        (λ j b differ. answered_else m p s texts contract q g.result one two answered j differ ∙ changed.behind j b) in
        let x = (result_goes u r.0 two two_stands r.1.0 n).back e h in
        (x.0, ((r.0, (u, (call, x.1))), ends_back m p s setting t0 i pt.outs f (places whole) n st x.0 e (subst (λ ps. EndsAt ps n x.0 e) (sym same_places) x.2)))

  back_from : (n : ℕ) (e : End) → Seg (st ∷ olds) n inner st e → (o : Ending) × (Returns o × EndsAt (places whole) n o (on_state (put_back (a ∷ []) st) e))
  back_from n e h =
      let x = changes_then h in
      let changed = file_changed p (st ∷ st ∷ olds) g.contract 0 p.globals st x.0 enough x.1 in
      let y = knows_then x.2 in
      let long : a < length x.0 = (let d = changed.size in let b = in_list in omega (arith, d, b)) in
      let z = answer_then m p s texts contract q (st ∷ olds) n known_word to i g.result fits.result x.0 long e y.1 in
      let w = knows_then z.2 in
      back_by x.0 changed (so_known m (x.0 ∷ st ∷ olds) (stay_trees p s texts g es) y.0) z.0 z.1 (so_known m (z.0 ∷ st ∷ olds) (call_promises p s texts g es) w.0) n e w.1

  pub tail_both : (n : ℕ) → BothWays Returns (EndsAt (places whole) n) olds n whole st
  tail_both n = record {
    forth = λ o h. forth_by h.0 h.1.0 h.1.1.0 n o h.1.1.1;
    back = λ e h.
        let x = scope_way (remember_way h) in
        let y = back_from n x.0 x.1 in
        (y.0, y.1.0, subst (EndsAt (places whole) n y.0) x.2 y.1.1);
  }

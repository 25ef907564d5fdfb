use Rattle.std.proofs.Common.{rules, ◌≡◌, [], ◌∷◌, ◌+◌, true, false, length, drop, ap, subst, sym, ◌∙◌, Some}
use Rattle.checked_trees.proofs.Equations.{view_step-Set, view_step-Store, view_step-Start, view_step-Call, view_step-Branch, view_step-Repeat, view_step-Around, view_step-Exit, view_step-Give, view_step-Claim, view_step-Scope}
use Rattle.checked_trees.specs.View.{view_goal, view_step, view_steps}
use Rattle.check_lists.specs.View.{view_checks}
use Rattle.c_runs.specs.Tree as core
use Rattle.core_trees.specs.View.{view_loop}
use Rattle.typed_prog.specs.Tree.{values_of}
use Rattle.typed_prog.specs.View.{view_value, view_values}
use Rattle.std.specs.Option.{option_map}
use Rattle.plain_states.specs.Slots.{Sizes}
use Rattle.program_trees.specs.View.{view_contract}
use Rattle.program_steps.specs.Temporaries.{all_live, no_temporaries}
use Rattle.program_steps.specs.Words as words
use Rattle.value_words.specs.View.{view_term}
use Rattle.walk_live.specs.Bits.{all_bits, unused_behind, unused_in}
use Rattle.call_walks.specs.View.{functions_in}
use Rattle.walk_words.specs.View.{exits_at, view_world}
use Rattle.step_walks.specs.View.{view_state}
use Rattle.step_walks.specs.Walks.{Walks}
use Rattle.step_walks.specs.Ways.{BlockEnds, Meets}
use Rattle.step_walks.proofs.Walking.{arm_begins, choose_walks, turned_begins}
use Rattle.qed_terms.specs.Tree.{not_of}
use Rattle.value_terms.specs.Readings.{condition}
use Rattle.step_walks.proofs.Along.{along_start, along_end, along_same}
use Rattle.loop_walks.proofs.Passing.{loop_walks}
use Rattle.walk_frames.specs.View.{facts_in, shape_in, view_point}
use Rattle.walk_frames.specs.Words.{StepClosed, StepsClosed, Still}
use Rattle.walk_live.specs.declared.behind.Behind.{Behind}
use Rattle.program_walk.specs.View.{step_word, steps_word}
use Rattle.program_walk.proofs.Branching.{arm_walks, around_walks, behind_at, both_arms, first_alone, own_arm, second_alone, test_form, if_ok_more, outs_long, return_told, scope_walk, statement_goes, statement_stops, steps_at, steps_over, still_told, told}
use Rattle.program_walk.proofs.walks.+walking.Goals as goal

pub walk_step-returns-in-Set : goal.walk_step-returns-in-Set
walk_step-returns-in-Set g t c first o os f ho ha closed =
    let x = c.args.frame in
    let fs = functions_in c.args.functions.now in
    let tx = g.T.Texts.text c.args.texts.now in
    let pt = view_point x os c.args.point in
    let p = facts_in x in
    let s = shape_in x o.kinds in
    let seen = ap view_step c.in-Set.is ∙ view_step-Set c.in-Set.field-0 c.in-Set.temporary c.in-Set.value in
    told o x fs tx pt f _ _ _ _ c.walk_set.result (view_step c.args.step.now) _ seen (c.walk_set.ensures first o.world o.kinds (subst (StepClosed p s) seen closed))

pub walk_step-returns-in-Store : goal.walk_step-returns-in-Store
walk_step-returns-in-Store g t c first o os f ho ha closed =
    let x = c.args.frame in
    let fs = functions_in c.args.functions.now in
    let tx = g.T.Texts.text c.args.texts.now in
    let pt = view_point x os c.args.point in
    let p = facts_in x in
    let s = shape_in x o.kinds in
    let seen = ap view_step c.in-Store.is ∙ view_step-Store c.in-Store.field-0 c.in-Store.ty c.in-Store.line c.in-Store.path c.in-Store.values in
    told o x fs tx pt f _ _ _ _ c.walk_store.result (view_step c.args.step.now) _ seen (c.walk_store.ensures first o fs (view_checks c.in-Store.field-0) os f (subst (StepClosed p s) seen closed))

pub walk_step-returns-in-Start : goal.walk_step-returns-in-Start
walk_step-returns-in-Start g t c first o os f ho ha closed =
    let x = c.args.frame in
    let fs = functions_in c.args.functions.now in
    let tx = g.T.Texts.text c.args.texts.now in
    let pt = view_point x os c.args.point in
    let p = facts_in x in
    let s = shape_in x o.kinds in
    let seen = ap view_step c.in-Start.is ∙ view_step-Start c.in-Start.field-0 c.in-Start.variable c.in-Start.value in
    told o x fs tx pt f _ _ _ _ c.walk_start.result (view_step c.args.step.now) _ seen (c.walk_start.ensures first o.world o.kinds (subst (StepClosed p s) seen closed))

pub walk_step-returns-in-Call : goal.walk_step-returns-in-Call
walk_step-returns-in-Call g t c first o os f ho ha closed =
    let x = c.args.frame in
    let fs = functions_in c.args.functions.now in
    let tx = g.T.Texts.text c.args.texts.now in
    let pt = view_point x os c.args.point in
    let p = facts_in x in
    let s = shape_in x o.kinds in
    let slice : c.as_slice.result.now ≡ c.in-Call.values.now = search (rules, c.as_slice.ensures) in
    let cs = view_checks c.in-Call.field-0 in
    let seen =
    ap view_step c.in-Call.is ∙ view_step-Call c.in-Call.field-0 c.in-Call.to c.in-Call.function c.in-Call.line c.in-Call.values
    ∙ ap (λ vs. core.call cs (view_goal c.in-Call.to) c.in-Call.function c.in-Call.line (values_of (view_values vs))) (sym slice) in
    let both = subst (StepClosed p s) seen closed in
    told o x fs tx pt f _ _ _ _ c.walk_call.result (view_step c.args.step.now) _ seen (c.walk_call.ensures first o.world o.kinds os cs both.0 both.1)

pub walk_step-returns-in-Repeat : goal.walk_step-returns-in-Repeat
walk_step-returns-in-Repeat g t c first o os f ho ha closed =
    let x = c.args.frame in
    let fs = functions_in c.args.functions.now in
    let tx = g.T.Texts.text c.args.texts.now in
    let pt = view_point x os c.args.point in
    let p = facts_in x in
    let s = shape_in x o.kinds in
    let slice : c.as_slice-in-Repeat.result.now ≡ c.in-Repeat.body = search (rules, c.as_slice-in-Repeat.ensures) in
    let seen = ap view_step c.in-Repeat.is ∙ view_step-Repeat c.in-Repeat.l c.in-Repeat.body ∙ ap (λ ss. core.repeat (view_loop c.in-Repeat.l.now) (view_steps ss)) (sym slice) in
    told o x fs tx pt f _ _ _ _ c.walk_loop.result (view_step c.args.step.now) _ seen (c.walk_loop.ensures first o os f ho ha (subst (StepClosed p s) seen closed))

pub walk_step-returns-in-Around : goal.walk_step-returns-in-Around
walk_step-returns-in-Around g t c first o os f ho ha closed =
    let x = c.args.frame in
    let fs = functions_in c.args.functions.now in
    let tx = g.T.Texts.text c.args.texts.now in
    let pt = view_point x os c.args.point in
    let p = facts_in x in
    let s = shape_in x o.kinds in
    let slice : c.as_slice-in-Around.result.now ≡ c.in-Around.body = search (rules, c.as_slice-in-Around.ensures) in
    let seen = ap view_step c.in-Around.is ∙ view_step-Around c.in-Around.body ∙ ap (λ ss. core.around (view_steps ss)) (sym slice) in
    told o x fs tx pt f _ _ _ _ c.walk_around.result (view_step c.args.step.now) _ seen (c.walk_around.ensures first o os f ho ha (subst (StepClosed p s) seen closed))

pub walk_step-returns-in-Exit : goal.walk_step-returns-in-Exit
walk_step-returns-in-Exit g t c first o os f ho ha closed =
    let x = c.args.frame in
    let fs = functions_in c.args.functions.now in
    let tx = g.T.Texts.text c.args.texts.now in
    let pt = view_point x os c.args.point in
    let p = facts_in x in
    let s = shape_in x o.kinds in
    let seen = ap view_step c.in-Exit.is ∙ view_step-Exit c.in-Exit.block in
    told o x fs tx pt f _ _ _ _ c.walk_exit.result (view_step c.args.step.now) _ seen (still_told _ _ _ _ _ c.walk_exit.result (λ gs. c.walk_exit.ensures x.bases.now gs))

pub walk_step-returns-in-Give : goal.walk_step-returns-in-Give
walk_step-returns-in-Give g t c first o os f ho ha closed =
    let x = c.args.frame in
    let fs = functions_in c.args.functions.now in
    let tx = g.T.Texts.text c.args.texts.now in
    let pt = view_point x os c.args.point in
    let p = facts_in x in
    let s = shape_in x o.kinds in
    let seen = ap view_step c.in-Give.is ∙ view_step-Give c.in-Give.field-0 c.in-Give.value in
    told o x fs tx pt f _ _ _ _ c.walk_return.result (view_step c.args.step.now) _ seen (return_told o x fs tx pt f _ _ _ _ c.walk_return.result (view_checks c.in-Give.field-0) (length c.args.outs.now) (option_map view_value c.in-Give.value.now) (outs_long x.temporaries os c.args.outs.now ho) (c.walk_return.ensures first o.world o.kinds (subst (StepClosed p s) seen closed)))

pub walk_step-returns-in-Claim : goal.walk_step-returns-in-Claim
walk_step-returns-in-Claim g t c first o os f ho ha closed =
    let x = c.args.frame in
    let fs = functions_in c.args.functions.now in
    let tx = g.T.Texts.text c.args.texts.now in
    let pt = view_point x os c.args.point in
    let p = facts_in x in
    let s = shape_in x o.kinds in
    let seen = ap view_step c.in-Claim.is ∙ view_step-Claim c.in-Claim.claim in
    told o x fs tx pt f _ _ _ _ c.walk_claim.result (view_step c.args.step.now) _ seen (c.walk_claim.ensures first o.world o.kinds)

pub walk_step-returns : goal.walk_step-returns
walk_step-returns g t c first o os f ho ha closed =
    let x = c.args.frame in
    let fs = functions_in c.args.functions.now in
    let tx = g.T.Texts.text c.args.texts.now in
    let pt = view_point x os c.args.point in
    let p = facts_in x in
    let s = shape_in x o.kinds in
    let slice : c.as_slice-in-Scope.result.now ≡ c.in-Scope.body = search (rules, c.as_slice-in-Scope.ensures) in
    let names : c.as_slice-in-Scope-2.result.now ≡ c.in-Scope.variables.now = search (rules, c.as_slice-in-Scope-2.ensures) in
    let seen = ap view_step c.in-Scope.is ∙ view_step-Scope c.in-Scope.variables c.in-Scope.body ∙ (λ i. core.scope (sym names i) (view_steps (sym slice i))) in
    told o x fs tx pt f _ _ _ _ c.walk_scope.result (view_step c.args.step.now) _ seen (c.walk_scope.ensures first o os f ho ha (subst (StepClosed p s) seen closed))

pub walk_arm-returns : goal.walk_arm-returns
walk_arm-returns g t c first o os f u ho ha hu closed =
    let x = c.args.frame in
    let fs = functions_in c.args.functions.now in
    let tx = g.T.Texts.text c.args.texts.now in
    let pt = view_point x os c.args.point in
    let p = facts_in x in
    let s = shape_in x o.kinds in
    if_ok_more c.walk_steps.result (λ goes h. arm_walks o x fs tx pt f u (view_steps c.args.steps.now) (λ gs. c.in_ok-enter_arm.ensures o.world x.temporaries u gs hu) h) (c.walk_steps.ensures first o os f ho ha closed)

pub walk_loop-returns : goal.walk_loop-returns
walk_loop-returns g t c first o os f ho ha closed =
    let x = c.args.frame in
    let fs = functions_in c.args.functions.now in
    let tx = g.T.Texts.text c.args.texts.now in
    let pt = view_point x os c.args.point in
    let p = facts_in x in
    let s = shape_in x o.kinds in
    let l = view_loop c.args.l.now in
    let ss = view_steps c.args.body.now in
    let none : c.as_slice.result.now ≡ c.in_ok-none.none = search (rules, c.as_slice.ensures) in
    let pass =
    subst (λ q. Walks x.bases.now (steps_word o x fs tx q ss no_temporaries) (view_state c.enter_loop.new.state) (view_state c.walk_steps.new.state) (g.S.GoalSink.fits first c.enter_loop.new.sink)
    (g.S.GoalSink.fits first c.walk_steps.new.sink) c.in_ok-goes.goes) (c.in_ok-inner.ensures x os)
    (c.in_ok-goes.ensures first o os no_temporaries ho (none ∙ c.in_ok-none.ensures x.temporaries f ha) closed) in
    loop_walks o.world p s tx (view_contract x.contract.now) pt l ss (steps_word o x fs tx (words.in_pass l pt) ss no_temporaries) (c.in_ok-enter_loop.ensures first o.world o.kinds os) pass
    (c.in_ok-leave_loop.ensures first o.world o.kinds os)

pub walk_around-returns : goal.walk_around-returns
walk_around-returns g t c first o os f ho ha closed =
    let x = c.args.frame in
    let fs = functions_in c.args.functions.now in
    let tx = g.T.Texts.text c.args.texts.now in
    let pt = view_point x os c.args.point in
    let p = facts_in x in
    let s = shape_in x o.kinds in
    let inner : c.as_slice.result.now ≡ c.in_ok-inner.inner = search (rules, c.as_slice.ensures) in
    let bases : c.as_slice-2.result.now ≡ x.bases.now = search (rules, c.as_slice-2.ensures) in
    let made : c.in_ok-inner.inner ≡ c.args.after.now ∷ c.args.outs.now = search (rules, c.in_ok-inner.ensures) in
    let outs : c.as_slice.result.now ≡ all_bits x.temporaries (f ∷ os) = inner ∙ made ∙ (λ i. ha i ∷ ho i) in
    let outer = exits_at c.begin_block-outer.result.items in
    if_ok_more c.end_block.result
    (λ on h. around_walks o x fs tx pt f (view_steps c.args.body.now) outer c.begin_block-outer.ensures.state (ap exits_at c.begin_block-outer.ensures.outer) (c.in_ok-goes.ensures first o (f ∷ os) f outs ha closed)
    (subst (λ bs. BlockEnds bs outer c.in_ok-goes.goes (view_state c.walk_steps.new.state) (view_state c.end_block.new.state) on) bases h)) c.end_block.ensures

pub walk_scope-returns : goal.walk_scope-returns
walk_scope-returns g t c first o os f ho ha closed =
    let x = c.args.frame in
    let fs = functions_in c.args.functions.now in
    let tx = g.T.Texts.text c.args.texts.now in
    let pt = view_point x os c.args.point in
    let p = facts_in x in
    let s = shape_in x o.kinds in
    scope_walk o x fs tx pt f c.args.variables.now (view_steps c.args.body.now) (view_world c.in_ok-before.before) (exits_at c.begin_block-outer.result.items) c.in_ok-before.ensures c.begin_block-outer.ensures.state
    (ap exits_at c.begin_block-outer.ensures.outer) (λ gs. c.in_ok-open_all.ensures o.world o.kinds gs) (c.in_ok-goes.ensures first o os f ho ha closed) (c.in_ok-close_scope.ensures o.kinds)

pub walk_steps-loop-step-init : goal.walk_steps-loop-step-init
walk_steps-loop-step-init g t c = record {
  behind = λ os f ho ha. c.in_ok-behind.ensures c.args.frame.temporaries os f ho ha;
  closed = λ o h. h;
  along = λ first o os f ho ha h. along_start _;
}

pub walk_steps-loop-step-preserved : goal.walk_steps-loop-step-preserved
walk_steps-loop-step-preserved g t c =
    let x = c.args.frame in
    let n = x.temporaries in
    let fs = functions_in c.args.functions.now in
    let tx = g.T.Texts.text c.args.texts.now in
    let ss = c.args.steps.now in
    let i = c.loop-step.step-index in
    let a = c.step-item.result in
    let rest = view_steps (drop (i + 1) ss) in
    record {
      behind = λ os f ho ha. (c.next_behind-live.ensures _ _ (c.loop-step.invariant.behind os f ho ha ∙ behind_at n os f ss i a c.loop-step-test.true c.step-item.is)).1;
      closed = λ o h. (subst (StepsClosed (facts_in x) (shape_in x o.kinds)) (steps_at ss i a c.loop-step-test.true c.step-item.is) (c.loop-step.invariant.closed o h)).1;
      along = λ first o os f ho ha h.
          let pt = view_point x os c.args.point in
          let next = (c.next_behind-live.ensures _ _ (c.loop-step.invariant.behind os f ho ha ∙ behind_at n os f ss i a c.loop-step-test.true c.step-item.is)).0 in
          let live : c.as_slice.result.now ≡ c.next_behind-live.result.live = search (rules, c.as_slice.ensures) in
          let unused : c.as_slice-in-loop-step.result.now ≡ c.next_behind-live.result.unused = search (rules, c.as_slice-in-loop-step.ensures) in
          let is_live = live ∙ ap (λ (b : Behind). b.live) next in
          let is_unused = unused ∙ ap (λ (b : Behind). b.unused) next in
          let both = subst (StepsClosed (facts_in x) (shape_in x o.kinds)) (steps_at ss i a c.loop-step-test.true c.step-item.is) (c.loop-step.invariant.closed o h) in
          let walked =
          subst (λ b. Walks x.bases.now (step_word o x fs tx pt (view_step a) (all_live rest os f)) (view_state c.loop-step.state) (view_state c.walk_step.new.state) (g.S.GoalSink.fits first c.loop-step.sink) (g.S.GoalSink.fits first c.walk_step.new.sink) b) c.if-not-branch.false
          (c.in_ok-walk_step.ensures first o os (all_live rest os f) ho is_live both.0) in
          statement_goes o x fs tx pt f (view_step a) rest (c.loop-step.invariant.along first o os f ho ha h) (ap (λ zs. steps_word o x fs tx pt zs f) (steps_at ss i a c.loop-step-test.true c.step-item.is)) walked
          (λ gs. subst (λ (z : Sizes). Walks x.bases.now (words.drop o.world z n (unused_behind (view_step a) os (all_live rest os f))) (view_state c.walk_step.new.state) (view_state c.drop_unused.new.state) (Still gs) (Still gs) true)
          c.sizes_in.ensures (c.in_ok-drop_unused.ensures o.world x.bases.now n (unused_behind (view_step a) os (all_live rest os f)) gs is_unused));
    }

pub walk_steps-returns-then-not-branch : goal.walk_steps-returns-then-not-branch
walk_steps-returns-then-not-branch g t c first o os f ho ha h =
    let x = c.args.frame in
    let n = x.temporaries in
    let fs = functions_in c.args.functions.now in
    let tx = g.T.Texts.text c.args.texts.now in
    let pt = view_point x os c.args.point in
    let ss = c.args.steps.now in
    let i = c.loop-step.step-index in
    let a = c.step-item.result in
    let rest = view_steps (drop (i + 1) ss) in
    let next = (c.next_behind-live.ensures _ _ (c.loop-step.invariant.behind os f ho ha ∙ behind_at n os f ss i a c.loop-step-test.true c.step-item.is)).0 in
    let live : c.as_slice.result.now ≡ c.next_behind-live.result.live = search (rules, c.as_slice.ensures) in
    let is_live = live ∙ ap (λ (b : Behind). b.live) next in
    let both = subst (StepsClosed (facts_in x) (shape_in x o.kinds)) (steps_at ss i a c.loop-step-test.true c.step-item.is) (c.loop-step.invariant.closed o h) in
    let walked =
    subst (λ b. Walks x.bases.now (step_word o x fs tx pt (view_step a) (all_live rest os f)) (view_state c.loop-step.state) (view_state c.walk_step.new.state) (g.S.GoalSink.fits first c.loop-step.sink) (g.S.GoalSink.fits first c.walk_step.new.sink) b) c.if-not-branch.true
    (c.in_ok-walk_step.ensures first o os (all_live rest os f) ho is_live both.0) in
    statement_stops o x fs tx pt f (view_step a) rest (c.loop-step.invariant.along first o os f ho ha h) (ap (λ zs. steps_word o x fs tx pt zs f) (steps_at ss i a c.loop-step-test.true c.step-item.is)) walked

pub walk_steps-returns : goal.walk_steps-returns
walk_steps-returns g t c first o os f ho ha h =
    let x = c.args.frame in
    let pt = view_point x os c.args.point in
    along_end (along_same (c.loop-step.invariant.along first o os f ho ha h)
    (ap (λ zs. steps_word o x (functions_in c.args.functions.now) (g.T.Texts.text c.args.texts.now) pt zs f) (steps_over c.args.steps.now c.loop-step.step-index c.loop-step-test.false)))

pub walk_first-returns : goal.walk_first-returns
walk_first-returns g t c first o os f u ho ha hu closed =
    let slice : c.as_slice.result.now ≡ c.args.tested.now.sets.first = search (rules, c.as_slice.ensures) in
    let walked = c.in_ok-goes.ensures first o os f u ho ha (slice ∙ hu) closed in
    record {
      end = view_state c.walk_arm.new.state;
      walks = walked;
      turns = c.in_ok-arm.ensures (view_state c.args.state.now) c.in_ok-fork.ensures (arm_begins (condition (view_term c.args.tested.now.made) ∷ []) walked);
    }

pub walk_second-returns : goal.walk_second-returns
walk_second-returns g t c first o os f u form a p before ho ha hu closed is h =
    let x = c.args.frame in
    let slice : c.as_slice.result.now ≡ c.args.tested.now.sets.second = search (rules, c.as_slice.ensures) in
    let bases : c.as_slice-2.result.now ≡ x.bases.now = search (rules, c.as_slice-2.ensures) in
    let walked = c.in_ok-other.ensures first o os f u ho ha (slice ∙ hu) closed in
    if_ok_more c.meet.result
    (λ goes m. choose_walks form (condition (view_term c.args.tested.now.made)) is h.walks h.turns walked
    (subst (λ bs. Meets bs p c.args.walked.goes h.end.world c.in_ok-other.other (view_state c.walk_arm.new.state) (view_state c.meet.new.state) goes) bases m))
    (c.meet.ensures p h.end.world h.turns.is_arm (turned_begins (not_of (condition (view_term c.args.tested.now.made)) ∷ []) h.turns walked))

pub walk_step-returns-in-Some-true : goal.walk_step-returns-in-Some-true
walk_step-returns-in-Some-true g t c first o os f ho ha closed =
    let x = c.args.frame in
    let fs = functions_in c.args.functions.now in
    let tx = g.T.Texts.text c.args.texts.now in
    let pt = view_point x os c.args.point in
    let p = facts_in x in
    let s = shape_in x o.kinds in
    let one : c.as_slice-first.result.now ≡ c.in-Branch.first = search (rules, c.as_slice-first.ensures) in
    let two : c.as_slice-second.result.now ≡ c.in-Branch.second = search (rules, c.as_slice-second.ensures) in
    let e = view_value c.in-Branch.test.now in
    let cs = view_checks c.in-Branch.field-0 in
    let a = view_steps c.as_slice-first.result.now in
    let b = view_steps c.as_slice-second.result.now in
    let seen =
    ap view_step c.in-Branch.is ∙ view_step-Branch c.in-Branch.field-0 c.in-Branch.test c.in-Branch.first c.in-Branch.second ∙ (λ i. core.branch cs e (view_steps (sym one i)) (view_steps (sym two i))) in
    let parts = subst (StepClosed p s) seen closed in
    let tested = c.in_ok-tested-in-Branch.tested in
    let tests = c.in_ok-tested-in-Branch.ensures first o.world o.kinds os f ho ha parts.0 in
    let made = view_term tested.made in
    let is = sym c.known_test.ensures ∙ c.in-Some-true.is ∙ ap Some c.in-Some-true.field-0-test in
    let set : c.as_slice-in-Some-true.result.now ≡ tested.sets.first = search (rules, c.as_slice-in-Some-true.ensures) in
    told o x fs tx pt f _ _ _ _ c.walk_arm.result (view_step c.args.step.now) _ seen
    (if_ok_more c.walk_arm.result (λ goes h. first_alone o x fs tx pt f cs e a b made parts.0 tests.value is h)
    (c.walk_arm.ensures first o os f (unused_in e b a os f) ho ha (set ∙ tests.first) parts.1))

pub walk_step-returns-in-Some-false : goal.walk_step-returns-in-Some-false
walk_step-returns-in-Some-false g t c first o os f ho ha closed =
    let x = c.args.frame in
    let fs = functions_in c.args.functions.now in
    let tx = g.T.Texts.text c.args.texts.now in
    let pt = view_point x os c.args.point in
    let p = facts_in x in
    let s = shape_in x o.kinds in
    let one : c.as_slice-first.result.now ≡ c.in-Branch.first = search (rules, c.as_slice-first.ensures) in
    let two : c.as_slice-second.result.now ≡ c.in-Branch.second = search (rules, c.as_slice-second.ensures) in
    let e = view_value c.in-Branch.test.now in
    let cs = view_checks c.in-Branch.field-0 in
    let a = view_steps c.as_slice-first.result.now in
    let b = view_steps c.as_slice-second.result.now in
    let seen =
    ap view_step c.in-Branch.is ∙ view_step-Branch c.in-Branch.field-0 c.in-Branch.test c.in-Branch.first c.in-Branch.second ∙ (λ i. core.branch cs e (view_steps (sym one i)) (view_steps (sym two i))) in
    let parts = subst (StepClosed p s) seen closed in
    let tested = c.in_ok-tested-in-Branch.tested in
    let tests = c.in_ok-tested-in-Branch.ensures first o.world o.kinds os f ho ha parts.0 in
    let made = view_term tested.made in
    let is = sym c.known_test.ensures ∙ c.in-Some-false.is ∙ ap Some c.in-Some-false.field-0-test in
    let set : c.as_slice-in-Some-false.result.now ≡ tested.sets.second = search (rules, c.as_slice-in-Some-false.ensures) in
    told o x fs tx pt f _ _ _ _ c.walk_arm-in-Some-false.result (view_step c.args.step.now) _ seen
    (if_ok_more c.walk_arm-in-Some-false.result (λ goes h. second_alone o x fs tx pt f cs e a b made parts.0 tests.value is h)
    (c.walk_arm-in-Some-false.ensures first o os f (unused_in e a b os f) ho ha (set ∙ tests.second) parts.2))

pub walk_step-returns-in-Branch : goal.walk_step-returns-in-Branch
walk_step-returns-in-Branch g t c first o os f ho ha closed =
    let x = c.args.frame in
    let fs = functions_in c.args.functions.now in
    let tx = g.T.Texts.text c.args.texts.now in
    let pt = view_point x os c.args.point in
    let p = facts_in x in
    let s = shape_in x o.kinds in
    let one : c.as_slice-first.result.now ≡ c.in-Branch.first = search (rules, c.as_slice-first.ensures) in
    let two : c.as_slice-second.result.now ≡ c.in-Branch.second = search (rules, c.as_slice-second.ensures) in
    let e = view_value c.in-Branch.test.now in
    let cs = view_checks c.in-Branch.field-0 in
    let a = view_steps c.as_slice-first.result.now in
    let b = view_steps c.as_slice-second.result.now in
    let seen =
    ap view_step c.in-Branch.is ∙ view_step-Branch c.in-Branch.field-0 c.in-Branch.test c.in-Branch.first c.in-Branch.second ∙ (λ i. core.branch cs e (view_steps (sym one i)) (view_steps (sym two i))) in
    let parts = subst (StepClosed p s) seen closed in
    let tested = c.in_ok-tested-in-Branch.tested in
    let tests = c.in_ok-tested-in-Branch.ensures first o.world o.kinds os f ho ha parts.0 in
    let made = view_term tested.made in
    let is = sym c.known_test.ensures ∙ c.in-None.is in
    let walked = c.in_ok-walked-in-None.ensures first o os f (unused_in e b a os f) ho ha tests.first parts.1 in
    told o x fs tx pt f _ _ _ _ c.walk_second.result (view_step c.args.step.now) _ seen
    (if_ok_more c.walk_second.result (λ goes h. both_arms o x fs tx pt f cs e a b made parts.0 tests.value is h)
    (c.walk_second.ensures first o os f (unused_in e a b os f) (test_form o x fs tx pt f e) (own_arm o x fs tx pt f e a b) (view_state c.walk_test.new.state) c.walk_test.new.sink ho ha tests.second parts.2
    tests.value.condition walked))

use Rattle.std.proofs.Common.{rules, ◌≡◌, ◌∷◌, IfOk, ap, sym, subst, ◌∙◌}
use Rattle.checked_trees.proofs.Equations.{view_step-Branch, view_step-Repeat, view_step-Around, view_step-Exit, view_step-Scope}
use Rattle.checked_trees.specs.View.{view_step, view_steps}
use Rattle.program_steps.specs.Temporaries.{all_live, live, no_temporaries}
use Rattle.walk_live.specs.Bits.{all_bits, bits}
use Rattle.walk_live.proofs.live.+live.Goals as goal

pub live-returns-in_ok-second-in-Branch : goal.live-returns-in_ok-second-in-Branch
live-returns-in_ok-second-in-Branch t c k os f ho ha =
    let seen = ap view_step c.in-Branch.is ∙ view_step-Branch c.in-Branch.field-0 c.in-Branch.test c.in-Branch.first c.in-Branch.second in
    let other : c.in_ok-other-in-Branch.other.items ≡ c.args.after.items = search (rules, c.in_ok-other-in-Branch.ensures, c.as_slice-in-Branch.ensures.value) in
    let steps_one : c.as_slice-in-Branch-2.result.now ≡ c.in-Branch.first = search (rules, c.as_slice-in-Branch-2.ensures) in
    let steps_two : c.as_slice-in-Branch-3.result.now ≡ c.in-Branch.second = search (rules, c.as_slice-in-Branch-3.ensures) in
    let made_one : c.as_slice-in-Branch-4.result.now ≡ c.in_ok-first-in-Branch.first.items = search (rules, c.as_slice-in-Branch-4.ensures.value) in
    let made_two : c.as_slice-in-Branch-5.result.now ≡ c.in_ok-second-in-Branch.second.items = search (rules, c.as_slice-in-Branch-5.ensures.value) in
    let first = made_one ∙ c.in_ok-first-in-Branch.ensures k os f ho ha ∙ ap (λ ss. bits k (all_live (view_steps ss) os f)) steps_one in
    let second = made_two ∙ c.in_ok-second-in-Branch.ensures k os f ho (other ∙ ha) ∙ ap (λ ss. bits k (all_live (view_steps ss) os f)) steps_two in
    subst (λ s. IfOk c.before_branch.result (λ made. made.items ≡ bits k (live s os f))) (sym seen)
    (c.before_branch.ensures k (all_live (view_steps c.in-Branch.first) os f) (all_live (view_steps c.in-Branch.second) os f) first second)

pub live-returns-in_ok-none-in-Repeat : goal.live-returns-in_ok-none-in-Repeat
live-returns-in_ok-none-in-Repeat t c k os f ho ha =
    let seen = ap view_step c.in-Repeat.is ∙ view_step-Repeat c.in-Repeat.field-0 c.in-Repeat.body in
    let after : c.as_slice-in-Repeat.result.now ≡ c.args.after.items = search (rules, c.as_slice-in-Repeat.ensures.value) in
    let steps : c.as_slice-in-Repeat-2.result.now ≡ c.in-Repeat.body = search (rules, c.as_slice-in-Repeat-2.ensures) in
    subst (λ s. IfOk c.all_live-in-Repeat.result (λ made. made.items ≡ bits k (live s os f))) (sym seen)
    (subst (λ ss. IfOk c.all_live-in-Repeat.result (λ made. made.items ≡ bits k (all_live (view_steps ss) os no_temporaries))) steps
    (c.all_live-in-Repeat.ensures k os no_temporaries ho (c.in_ok-none-in-Repeat.ensures k f (after ∙ ha))))

pub live-returns-in_ok-inner-in-Around : goal.live-returns-in_ok-inner-in-Around
live-returns-in_ok-inner-in-Around t c k os f ho ha =
    let seen = ap view_step c.in-Around.is ∙ view_step-Around c.in-Around.body in
    let after : c.as_slice-in-Around.result.now ≡ c.args.after.items = search (rules, c.as_slice-in-Around.ensures.value) in
    let steps : c.as_slice-in-Around-2.result.now ≡ c.in-Around.body = search (rules, c.as_slice-in-Around-2.ensures) in
    let inner : c.as_slice-in-Around-3.result.now ≡ c.in_ok-inner-in-Around.inner = search (rules, c.as_slice-in-Around-3.ensures) in
    let made : c.in_ok-inner-in-Around.inner ≡ c.as_slice-in-Around.result.now ∷ c.args.outs.now = search (rules, c.in_ok-inner-in-Around.ensures) in
    let outs : c.as_slice-in-Around-3.result.now ≡ all_bits k (f ∷ os) = inner ∙ made ∙ (λ i. (after ∙ ha) i ∷ ho i) in
    subst (λ s. IfOk c.all_live-in-Around.result (λ made. made.items ≡ bits k (live s os f))) (sym seen)
    (subst (λ ss. IfOk c.all_live-in-Around.result (λ made. made.items ≡ bits k (all_live (view_steps ss) (f ∷ os) f))) steps
    (c.all_live-in-Around.ensures k (f ∷ os) f outs ha))

pub live-returns-in-Exit : goal.live-returns-in-Exit
live-returns-in-Exit t c k os f ho ha =
    let seen = ap view_step c.in-Exit.is ∙ view_step-Exit c.in-Exit.block in
    subst (λ s. IfOk c.before_exit.result (λ made. made.items ≡ bits k (live s os f))) (sym seen) (c.before_exit.ensures k os f ho ha)

pub live-returns-in-Scope : goal.live-returns-in-Scope
live-returns-in-Scope t c k os f ho ha =
    let seen = ap view_step c.in-Scope.is ∙ view_step-Scope c.in-Scope.field-0 c.in-Scope.body in
    let steps : c.as_slice-in-Scope.result.now ≡ c.in-Scope.body = search (rules, c.as_slice-in-Scope.ensures) in
    subst (λ s. IfOk c.all_live-in-Scope.result (λ made. made.items ≡ bits k (live s os f))) (sym seen)
    (subst (λ ss. IfOk c.all_live-in-Scope.result (λ made. made.items ≡ bits k (all_live (view_steps ss) os f))) steps (c.all_live-in-Scope.ensures k os f ho ha))

use Rattle.std.proofs.Common.{refl}
use Rattle.qed_terms.specs.View.{view_logic}
use Rattle.call_instances.proofs.CaseLaws.{cases_drawn}
use Rattle.call_instances.proofs.cases.cases_by.Goals as goal

pub returns : goal.returns
returns g c =
    let held = g.S.TermStore.held c.args.store.now in
    let tree = g.S.TermStore.tree c.args.store.now in
    let made = c.in_ok-made.ensures in
    cases_drawn held tree _ _ c.args.kids.now c.args.id _ (view_logic c.args.function.now) c.args.function.now.number _ made.ids c.in_ok-ids.ensures c.requires.kids_held c.requires.call_held
    c.if-at-count.false refl (λ f. made.formulas f _ (c.base_up_to_cut.ensures f, (c.step_above_cut.ensures f, tt)))

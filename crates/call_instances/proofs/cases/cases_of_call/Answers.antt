use Rattle.std.proofs.Common.{map}
use Rattle.qed_terms.specs.View.{view_logic}
use Rattle.drawn_instances.proofs.DrawnLaws.{none_drawn}
use Rattle.call_instances.proofs.CaseLaws.{no_call, call_drawn}
use Rattle.call_instances.proofs.cases.cases_of_call.Goals as goal

pub returns-in_default : goal.returns-in_default
returns-in_default g c =
    let none = c.no_instances.ensures in
    none_drawn _ _ _ _ _ none.ids none.formulas (no_call (map view_logic c.args.functions.now) _ c.head.result.now c.head.ensures c.in_default.ensures)

pub returns : goal.returns
returns g c =
    let held = g.S.TermStore.held c.args.store.now in
    let tree = g.S.TermStore.tree c.args.store.now in
    let function = c.in-Some-function_for.function.now in
    call_drawn held tree _ _ (map view_logic c.args.functions.now) c.args.id c.kids-kids.result.now c.head.result.now c.in-Some.name.now (view_logic function) function.number c.head.ensures c.in-Some.ensures c.kids-kids.ensures.stand c.in-Some-function_for.ensures
    c.in_ok-made.ensures

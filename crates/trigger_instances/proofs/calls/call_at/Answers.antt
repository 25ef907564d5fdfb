use Rattle.std.proofs.Common.{refl, map}
use Rattle.qed_terms.specs.View.{view_logic}
use Rattle.trigger_instances.proofs.CallLaws.{uncalled, untaken, with_number, without_number}
use Rattle.trigger_instances.proofs.calls.call_at.Goals as goal

pub returns-in_default-clause-call : goal.returns-in_default-clause-call
returns-in_default-clause-call g c =
    uncalled (map view_logic c.args.functions.now) (g.S.TermStore.tree c.args.store.now c.args.id) c.head.result.now c.head.ensures c.in_default.ensures

pub returns-in_default-function_for-clause-call : goal.returns-in_default-function_for-clause-call
returns-in_default-function_for-clause-call g c =
    let tree = g.S.TermStore.tree c.args.store.now in
    untaken tree (map view_logic c.args.functions.now) (tree c.args.id) c.head.result.now c.in-Some.name.now c.kids-kids.result.now c.head.ensures c.in-Some.ensures c.kids-kids.ensures.stand c.in_default-function_for.ensures

pub returns-then-place-kids-clause-call : goal.returns-then-place-kids-clause-call
returns-then-place-kids-clause-call g c =
    let tree = g.S.TermStore.tree c.args.store.now in
    let f = view_logic c.in-Some-function_for.function.now in
    without_number tree (map view_logic c.args.functions.now) (tree c.args.id) c.head.result.now c.in-Some.name.now c.kids-kids.result.now c.head.ensures c.in-Some.ensures c.kids-kids.ensures.stand
    f c.in-Some-function_for.ensures f.number refl c.if-place-kids.true

pub returns-clause-call : goal.returns-clause-call
returns-clause-call g c =
    let tree = g.S.TermStore.tree c.args.store.now in
    let f = view_logic c.in-Some-function_for.function.now in
    with_number tree (map view_logic c.args.functions.now) (tree c.args.id) c.head.result.now c.in-Some.name.now c.kids-kids.result.now c.head.ensures c.in-Some.ensures c.kids-kids.ensures.stand
    f c.in-Some-function_for.ensures f.number c.index-kids-place.result c.in_ok-name.name refl c.if-place-kids.false c.index-kids-place.is c.in_ok-name.ensures

use Rattle.std.proofs.Common.{◌==◌, ◌&&◌, length, sym, ◌∙◌, ap}
use Rattle.added_instances.proofs.Bare.{truth_is}
use Rattle.added_instances.proofs.additions.is_true.Goals as goal

pub returns-then-is_truth : goal.returns-then-is_truth
returns-then-is_truth g c =
    let tree = g.S.TermStore.tree c.args.store.now in
    let kids = c.kids.result.now in
    sym (ap (λ b. b && (length kids == 0)) c.if-is_truth.true) ∙ truth_is tree kids (tree c.args.id) c.head.result.now c.is_truth.result c.head.ensures c.kids.ensures.stand c.is_truth.ensures

pub returns-else-is_truth : goal.returns-else-is_truth
returns-else-is_truth g c =
    let tree = g.S.TermStore.tree c.args.store.now in
    let kids = c.kids.result.now in
    c.if-is_truth.false ∙ sym (ap (λ b. b && (length kids == 0)) c.if-is_truth.false) ∙ truth_is tree kids (tree c.args.id) c.head.result.now c.is_truth.result c.head.ensures c.kids.ensures.stand c.is_truth.ensures

use Rattle.std.proofs.Common.{[], ◌∷◌}
use Rattle.instance_rows.specs.Triggers.{instance_by_access}
use Rattle.branch_accesses.specs.Ids.{access_of}
use Rattle.trigger_instances.proofs.Given.{may_told, no_instance, other_kind}
use Rattle.trigger_instances.proofs.accesses.may_be_one.Goals as goal

pub returns-then-not-is_same_kind-clause-told : goal.returns-then-not-is_same_kind-clause-told
returns-then-not-is_same_kind-clause-told g c = λ ls is q b.
    let tree = g.S.TermStore.tree c.args.store.now in
    let t = access_of tree c.args.trigger in
    let u = access_of tree c.args.there in
    no_instance ls (instance_by_access q t u) ((t.block, u.block) ∷ []) b (other_kind q t u c.is_same_kind.result c.is_same_kind.ensures c.if-not-is_same_kind.true)

pub returns-clause-told : goal.returns-clause-told
returns-clause-told g c = λ ls is.
    let tree = g.S.TermStore.tree c.args.store.now in
    may_told ls (access_of tree c.args.trigger) (access_of tree c.args.there) c.in_ok-may.may (c.in_ok-may.ensures.same ls is)

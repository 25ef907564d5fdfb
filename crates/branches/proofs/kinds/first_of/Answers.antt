use Rattle.std.proofs.Common.{sym, ◌∙◌, ap}
use Rattle.branches.specs.Branch.{is_kind}
use Rattle.branches.proofs.Places.{none_of_kind}
use Rattle.branches.proofs.Found.{kind_here, kind_nowhere}
use Rattle.branches.proofs.kinds.first_of.Goals as goal

pub loop-at-preserved : goal.loop-at-preserved
loop-at-preserved g c =
    none_of_kind (g.S.TermStore.tree c.args.store.now) c.args.kind c.args.ids.now c.loop-at.at c.index-ids-at.result c.loop-at.invariant c.loop-at-test.true c.index-ids-at.is
    (ap (is_kind c.args.kind) (sym c.head.ensures) ∙ sym c.has_kind.ensures ∙ c.if-has_kind.false)

pub returns-then-has_kind : goal.returns-then-has_kind
returns-then-has_kind g c =
    kind_here (g.S.TermStore.tree c.args.store.now) c.args.kind c.args.ids.now c.loop-at.at c.index-ids-at.result c.loop-at.invariant c.loop-at-test.true c.index-ids-at.is
    (ap (is_kind c.args.kind) (sym c.head.ensures) ∙ sym c.has_kind.ensures ∙ c.if-has_kind.true)

pub returns : goal.returns
returns g c = kind_nowhere (g.S.TermStore.tree c.args.store.now) c.args.kind c.args.ids.now c.loop-at.at c.loop-at.invariant c.loop-at-test.false

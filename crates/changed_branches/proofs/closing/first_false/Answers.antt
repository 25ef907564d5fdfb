use Rattle.std.proofs.Common.{map, sym, ◌∙◌, ap}
use Rattle.branches.specs.declared.kinds.Kind.TheVariants as kind
use Rattle.branches.specs.Branch.{is_kind}
use Rattle.branches.specs.Ids.{branch_of}
use Rattle.changed_branches.proofs.Firsts.{false_by}
use Rattle.changed_branches.proofs.closing.first_false.Goals as goal

pub returns-clause-first : goal.returns-clause-first
returns-clause-first g c =
    let tree = g.S.TermStore.tree c.args.store.now in
    let is_or = ap (is_kind kind.Or) (sym c.head.ensures) ∙ sym c.has_kind.ensures ∙ c.if-not-has_kind.false in
    false_by g.R.ChangeRules.closed (branch_of tree c.args.branch.now) (tree c.args.id) (map tree c.kids.result.now) c.in_ok-found.found is_or c.kids.ensures.stand c.in_ok-found.ensures.first

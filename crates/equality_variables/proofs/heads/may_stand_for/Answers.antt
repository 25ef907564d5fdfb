use Rattle.std.proofs.Common.{sym, ◌∙◌, ap}
use Rattle.equality_variables.specs.Heads.{stands_for}
use Rattle.equality_variables.proofs.Stands.{stands_by_head}
use Rattle.equality_variables.proofs.heads.may_stand_for.Goals as goal

pub returns : goal.returns
returns g c =
    let s = c.args.store.now in
    let t = g.S.TermStore.tree s c.args.id in
    c.stands_for.ensures ∙ ap (stands_for c.args.sort) c.head.ensures ∙ sym (stands_by_head c.args.sort t (g.met.S.TermStore.well_formed s c.args.id c.requires))

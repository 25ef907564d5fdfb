use Rattle.std.proofs.Common.{◌∙◌, ap}
use Rattle.variable_changes.specs.Found.{is_zero_head}
use Rattle.variable_changes.proofs.Equations.{zero_by_head}
use Rattle.variable_changes.proofs.literals.is_nothing.Goals as goal

pub returns : goal.returns
returns g c =
    let s = c.args.store.now in
    c.is_zero_head.ensures ∙ ap is_zero_head c.head.ensures ∙ zero_by_head (g.S.TermStore.tree s c.args.id) (g.met.S.TermStore.well_formed s c.args.id c.requires)

use Rattle.std.proofs.Common.{◌≡◌, ◌∙◌}
use Rattle.program_trees.specs.View.{view_contract}
use Rattle.call_walks.proofs.Parts.{unless_not}
use Rattle.call_walks.proofs.sets.inclusions.Goals as goal

pub returns : goal.returns
returns g c k = c.in_ok-made.ensures k ∙ unless_not (view_contract c.args.contract.now).plain.assigns _ c.names_nothing.result c.names_nothing.ensures c.if-names_nothing.false

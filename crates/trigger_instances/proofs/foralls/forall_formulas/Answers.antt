use Rattle.tree_places.specs.View.{nodes_of}
use Rattle.tree_places.proofs.Nodes.{grows_on}
use Rattle.trigger_instances.proofs.foralls.forall_formulas.Goals as goal

pub returns-clause-grows : goal.returns-clause-grows
returns-clause-grows g c = grows_on (nodes_of c.args.table.now) (nodes_of c.asked_classes.new.table) (nodes_of c.given_instances.new.table) c.in_ok-closed.ensures.grows c.in_ok-made.ensures.grows

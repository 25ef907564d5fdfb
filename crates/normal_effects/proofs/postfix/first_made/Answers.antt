use Rattle.typed_prog.specs.View.{view_value}
use Rattle.core_trees.specs.View.{view_variables}
use Rattle.normal_effects.proofs.Storing.{none_made}
use Rattle.normal_effects.proofs.postfix.first_made.Goals as goal

pub returns-in-None : goal.returns-in-None
returns-in-None c =
    none_made c.args.out.now (view_variables c.args.variables.now) (view_value c.args.done.now) c.args.operands.now c.args.next c.no_value.result c.in-None.ensures.cases c.no_value.ensures

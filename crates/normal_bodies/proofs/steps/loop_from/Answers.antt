use Rattle.core_trees.specs.View.{view_cores, view_loop, view_variables}
use Rattle.program_trees.specs.View.{view_option}
use Rattle.normal_bodies.proofs.Looping.{loop_closed}
use Rattle.normal_bodies.proofs.steps.loop_from.Goals as goal

pub returns : goal.returns
returns c =
    loop_closed c.args.out.now c.push_repeat.new.out c.args.before c.push_around.new.out c.loop_step.new.out c.loop_test.new.out
    (view_variables c.args.variables.now) (view_loop c.args.claims.now) (view_option c.args.turns.step) (view_option c.args.turns.behind) (view_cores c.args.body)
    c.args.next c.in_ok-next.next c.in_ok-next-2.next c.in_ok-push_around.ensures c.in_ok-next.ensures c.in_ok-next-2.ensures c.in_ok-push_repeat.ensures

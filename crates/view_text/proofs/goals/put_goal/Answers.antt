use Rattle.std.proofs.lemmas.Result.{IfOk-weaker}
use Rattle.report_read.specs.View.{view_goal}
use Rattle.view_text.proofs.Putting.{goal_put}
use Rattle.view_text.proofs.goals.put_goal.Goals as goal

pub returns : goal.returns
returns c =
    IfOk-weaker c.put.result _ _ (λ x e. goal_put c.args.color (view_goal c.args.goal.now) _ _ _ _ _ c.in_ok-put_name.ensures c.in_ok-put_verdict.ensures c.in_ok-put_some.ensures e) c.put.ensures

use Rattle.std.proofs.lemmas.Result.{IfOk-weaker}
use Rattle.report_read.specs.View.{view_goal}
use Rattle.view_text.proofs.Putting.{name_put}
use Rattle.view_text.proofs.goals.put_name.Goals as goal

pub returns : goal.returns
returns c =
    IfOk-weaker c.put-6.result _ _
    (λ x e. name_put (view_goal c.args.goal.now) _ _ _ _ _ _ _ _ c.in_ok-put.ensures c.in_ok-put-2.ensures c.in_ok-put-3.ensures c.in_ok-put_number.ensures c.in_ok-put-4.ensures c.in_ok-put-5.ensures e)
    c.put-6.ensures

use Rattle.std.proofs.lemmas.Result.{IfOk-weaker}
use Rattle.report_read.specs.View.{view_refusal}
use Rattle.view_text.proofs.Told.{refusal_put}
use Rattle.view_text.proofs.refused.put_refusal.Goals as goal

pub returns : goal.returns
returns c =
    IfOk-weaker c.put-5.result _ _
    (λ x e. refusal_put (view_refusal c.args.refusal.now) _ _ _ _ _ _ _ _ c.in_ok-put.ensures c.in_ok-put_number.ensures c.in_ok-put-2.ensures c.in_ok-put_number-2.ensures c.in_ok-put-3.ensures c.in_ok-put-4.ensures e)
    c.put-5.ensures

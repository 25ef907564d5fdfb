use Rattle.std.proofs.Common.{map}
use Rattle.std.proofs.lemmas.Result.{IfOk-weaker}
use Rattle.report_read.specs.View.{bytes_of}
use Rattle.report_view.proofs.Naming.{name_put}
use Rattle.report_view.proofs.names.put_no_name.Goals as goal

pub returns : goal.returns
returns c =
    IfOk-weaker c.put_names.result _ _
    (λ x e. name_put c.args.sort.now c.args.name.now (map bytes_of c.args.names.now) _ _ _ _ _ _ _ c.in_ok-put.ensures c.in_ok-put-2.ensures c.in_ok-put-3.ensures c.in_ok-put-4.ensures c.in_ok-put-5.ensures e)
    c.put_names.ensures

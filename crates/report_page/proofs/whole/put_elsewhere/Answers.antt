use Rattle.std.proofs.Common.{sym, ◌∙◌, eq-eqb, length}
use Rattle.std.proofs.lemmas.Bool.{false≢true}
use Rattle.report_page.proofs.Counts.{some_elsewhere}
use Rattle.report_page.proofs.Pieces.{then_two}
use Rattle.report_page.proofs.whole.put_elsewhere.Goals as goal

pub returns : goal.returns
returns c =
    then_two c.put_details.result _ _ _ _ _ _ c.in_ok-put_heading.ensures
    (some_elsewhere c.args.goals.now (λ e. false≢true (sym c.if-is_empty.false ∙ c.is_empty.ensures ∙ eq-eqb (length c.args.goals.now) 0 e))) c.put_details.ensures

use Rattle.std.proofs.Common.{refl}
use Rattle.report_page.proofs.Pieces.{then_one}
use Rattle.report_page.proofs.Parts.{goal_is}
use Rattle.report_page.proofs.details.put_goal.Goals as goal

pub returns : goal.returns
returns c =
    then_one c.put_pieces.result _ _ _ _ (goal_is c.args.goal.now _ _ _ _ _ c.from.ensures c.goal_tag.ensures c.verdict_name.ensures c.unwrap_or.ensures refl) c.put_pieces.ensures

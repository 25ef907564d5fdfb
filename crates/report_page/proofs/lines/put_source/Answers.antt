use Rattle.std.proofs.Common.{map, ap, ◌∙◌}
use Rattle.report_page.proofs.Pieces.{then_one}
use Rattle.report_page.proofs.Parts.{source_is}
use Rattle.report_shown.specs.View.{view_list}
use Rattle.report_page.proofs.lines.put_source.Goals as goal

pub returns : goal.returns
returns c =
    then_one c.put_lines.result _ _ _ _ (source_is c.args.lines.now _ _ (ap (map view_list) c.as_slice.ensures.value ∙ c.in_ok-lists.ensures)) c.put_lines.ensures

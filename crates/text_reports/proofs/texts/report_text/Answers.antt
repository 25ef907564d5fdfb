use Rattle.wp_words.specs.CommandView.{view_wanted}
use Rattle.text_reports.proofs.Answering.{text_err}
use Rattle.text_reports.proofs.texts.report_text.Goals as goal

pub returns-in-Err : goal.returns-in-Err
returns-in-Err c = text_err c.args.model (view_wanted c.args.wanted) c.args.text.now c.in-Err.stop c.in-Err.ensures

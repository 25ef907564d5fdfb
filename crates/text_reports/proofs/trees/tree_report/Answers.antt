use Rattle.c_syntax.specs.View as syntax
use Rattle.typed_unit.specs.View.{view_typed}
use Rattle.wp_words.specs.CommandView.{view_wanted}
use Rattle.text_reports.proofs.Answering.{tree_err}
use Rattle.text_reports.proofs.trees.tree_report.Goals as goal

pub returns-in-Err : goal.returns-in-Err
returns-in-Err c = tree_err c.args.model (view_wanted c.args.wanted) (syntax.view_program c.args.program.now) view_typed c.in-Err.stop c.in-Err.ensures

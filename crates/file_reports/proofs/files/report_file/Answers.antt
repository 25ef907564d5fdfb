use Rattle.std.proofs.Common.{sym, ap, ◌∙◌}
use Rattle.acsl_typing.specs.Annotations.{view_annotations}
use Rattle.c_syntax.specs.View as syntax
use Rattle.plain_goals.specs.Files.{names_in}
use Rattle.typed_unit.specs.View.{view_typed}
use Rattle.file_reports.specs.Made.{source_by}
use Rattle.file_reports.proofs.Making.{unplain}
use Rattle.file_reports.proofs.files.report_file.Goals as goal

pub returns-then-not-is_plain : goal.returns-then-not-is_plain
returns-then-not-is_plain c =
    unplain (source_by (syntax.view_program c.args.spelled.now) (view_typed c.args.typed.now) (view_annotations c.args.annotations.now)) (sym c.is_plain.ensures ∙ c.if-not-is_plain.true)

pub returns : goal.returns
returns c =
    c.of_program.ensures (view_annotations c.args.annotations.now) c.in_ok-program.ensures
    (c.as_slice-2.ensures ∙ c.in_ok-file.ensures ∙ ap names_in c.as_slice.ensures)

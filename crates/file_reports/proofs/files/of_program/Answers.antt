use Rattle.std.proofs.Common.{ap, sym, ◌∙◌}
use Rattle.c_runs.specs.Adding.{add_checks}
use Rattle.c_runs.specs.Normal.{normal}
use Rattle.typed_unit.specs.View.{view_typed}
use Rattle.file_reports.specs.Bases.{bases_by}
use Rattle.file_reports.proofs.files.of_program.Goals as goal

pub of_parts-requires : goal.of_parts-requires
of_parts-requires c = c.as_slice.ensures ∙ c.in_ok-bases.ensures ∙ ap (λ q. bases_by (view_typed c.args.typed.now) q c.args.file.now) (sym c.in_ok-checked.ensures)

pub returns : goal.returns
returns c annots of_file of_names = c.of_parts.ensures annots of_file (c.in_ok-checked.ensures ∙ ap add_checks (c.in_ok-core.ensures ∙ ap normal of_file)) c.in_ok-table.ensures of_names

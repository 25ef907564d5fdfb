use Rattle.std.proofs.Common.{◌≡◌, IfOk, subst}
use Rattle.c_runs.specs.Tree.{Steps}
use Rattle.c_runs.specs.Program.{Program}
use Rattle.typed_unit.specs.View.{view_typed}
use Rattle.file_reports.specs.Bases.{bases_by}
use Rattle.file_reports.proofs.bases.all_bases.Goals as goal

pub returns : goal.returns
returns c = subst (λ (q : Program Steps). IfOk c.bases_of.result (λ made. made ≡ bases_by (view_typed c.args.typed.now) q c.args.file.now)) c.in_ok-checked.ensures c.bases_of.ensures

use Rattle.std.proofs.Common.{List, map, sym, ap, ◌∙◌}
use Rattle.checked_trees.specs.View.{view_checked_function, view_checked_program}
use Rattle.plain_sources.specs.Built.{first_names}
use Rattle.slot_names.specs.Bases.{Name}
use Rattle.typed_unit.specs.View.{view_body}
use Rattle.file_reports.specs.Bases.{bases_if}
use Rattle.file_reports.proofs.Found.{is_found, is_missing, based_some}
use Rattle.file_reports.proofs.bases.bases_of_body.Goals as goal

pub returns-in-Some : goal.returns-in-Some
returns-in-Some c =
    let n = c.args.body.now.function in
    let own : List Name = first_names n (map view_body c.args.typed.now.bodies) in
    let found = is_found view_checked_function c.as_slice-2.result.now c.args.program.now.functions n c.in-Some.function.now c.in-Some.ensures c.as_slice-2.ensures in
    based_some c.args.file.now own c.as_slice-in-Some.result.now (view_checked_function c.in-Some.function.now) ((view_checked_program c.args.program.now).functions n) c.bases_of_function.result found
    (c.as_slice-in-Some.ensures ∙ c.in_ok-own.ensures ∙ ap (λ bs. first_names n (map view_body bs)) c.as_slice.ensures) c.bases_of_function.ensures

pub returns : goal.returns
returns c =
    let n = c.args.body.now.function in
    let own : List Name = first_names n (map view_body c.args.typed.now.bodies) in
    let none = is_missing view_checked_function c.as_slice-2.result.now c.args.program.now.functions n c.in-None.ensures c.as_slice-2.ensures in
    c.new.ensures ∙ sym (ap (bases_if c.args.file.now own) none)

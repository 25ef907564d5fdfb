use Rattle.std.proofs.Common.{Option, subst}
use Rattle.binder_tables.specs.View.{view_table}
use Rattle.c_syntax.specs.View as syntax
use Rattle.checked_trees.specs.View.{view_checked_program}
use Rattle.file_spellings.specs.Spelled.{file_names}
use Rattle.logic_settings.specs.declared.orders.Order.{Order}
use Rattle.program_trees.specs.View.{view_program}
use Rattle.typed_unit.specs.View.{view_typed}
use Rattle.verified_sources.specs.Tests.{Verifies}
use Rattle.wp_words.specs.CommandView.{view_wanted}
use Rattle.file_reports.proofs.Making.{unverified, made, regular}
use Rattle.file_reports.proofs.files.of_parts.Goals as goal

pub invariant_of-judge : goal.invariant_of-judge
invariant_of-judge c =
    let t = view_typed c.args.typed.now in
    let p = view_program c.args.program.now in
    let found =
    subst (λ (v : Option Order). Verifies t p (view_checked_program c.args.checked.now) (view_table c.args.table.now) c.args.file.now v) c.in-Some.is c.in_ok-verified_order.ensures in
    record { regular = regular p.facts (file_names t) c.in-Some.order found.1 }

pub returns-in-None : goal.returns-in-None
returns-in-None c annots of_file of_core of_table of_names =
    let t = view_typed c.args.typed.now in
    let p = view_program c.args.program.now in
    let q = view_checked_program c.args.checked.now in
    let table = view_table c.args.table.now in
    let found = subst (λ (v : Option Order). Verifies t p q table c.args.file.now v) c.in-None.is c.in_ok-verified_order.ensures in
    unverified (syntax.view_program c.args.spelled.now) t annots p q table c.args.file.now of_file of_core of_table of_names (view_wanted c.args.wanted) found

pub returns-in_ok-report-in-Some : goal.returns-in_ok-report-in-Some
returns-in_ok-report-in-Some c annots of_file of_core of_table of_names =
    let t = view_typed c.args.typed.now in
    let p = view_program c.args.program.now in
    let q = view_checked_program c.args.checked.now in
    let table = view_table c.args.table.now in
    let found = subst (λ (v : Option Order). Verifies t p q table c.args.file.now v) c.in-Some.is c.in_ok-verified_order.ensures in
    made (syntax.view_program c.args.spelled.now) t annots p q table c.args.file.now of_file of_core of_table of_names (view_wanted c.args.wanted) c.in-Some.order
    c.in_ok-report-in-Some.report found.0 found.1 c.in_ok-report-in-Some.ensures

use Rattle.std.proofs.Common.{List, map, subst, arith}
use Rattle.binder_tables.specs.View.{view_table}
use Rattle.checked_trees.specs.View.{view_checked_program}
use Rattle.logic_texts.specs.Laws.{texts_by}
use Rattle.qed_terms.specs.View.{view_setting}
use Rattle.source_goals.specs.Walked.{body_goals_by}
use Rattle.typed_unit.specs.declared.unit.Body.{Body}
use Rattle.typed_unit.specs.View.{view_body, view_typed}
use Rattle.wp_words.specs.CommandView.{view_wanted}
use Rattle.file_reports.specs.Bases.{body_bases_by}
use Rattle.file_reports.specs.Lines.{FileLines}
use Rattle.file_reports.specs.View.{view_page}
use Rattle.file_reports.proofs.Found.{seen_item}
use Rattle.file_reports.proofs.Putting.{body_more, all_done}
use Rattle.file_reports.proofs.bodies.put_bodies.Goals as goal

pub put_body-requires : goal.put_body-requires
put_body-requires c =
    seen_item view_body (body_bases_by (view_typed c.args.typed.now) (view_checked_program c.args.program.now) c.args.file.now) c.as_slice-bodies.result.now c.args.typed.now.bodies c.args.bases.now c.loop-index.index
    c.index-bodies-index.result c.index-bases-index.result c.requires c.as_slice-bodies.ensures (omega arith) c.index-bodies-index.is c.index-bases-index.is

pub loop-index-preserved : goal.loop-index-preserved
loop-index-preserved c kinds closed =
    let setting = view_setting c.args.judge.order.now.setting in
    let t = view_typed c.args.typed.now in
    let g = body_goals_by setting t (view_checked_program c.args.program.now) (texts_by (view_table c.args.table.now) c.args.judge.order.now) c.args.file.now kinds in
    body_more setting (view_wanted c.args.judge.wanted) t view_body g c.as_slice-bodies.result.now c.loop-index.index c.index-bodies-index.result (view_page c.args.page.now) (view_page c.loop-index.page) (view_page c.put_body.new.page) (omega arith)
    c.index-bodies-index.is (c.loop-index.invariant kinds closed) (c.in_ok-put_body.ensures kinds closed)

pub returns : goal.returns
returns c kinds closed =
    let setting = view_setting c.args.judge.order.now.setting in
    let t = view_typed c.args.typed.now in
    let g = body_goals_by setting t (view_checked_program c.args.program.now) (texts_by (view_table c.args.table.now) c.args.judge.order.now) c.args.file.now kinds in
    subst (λ (bs : List Body). FileLines setting (view_wanted c.args.judge.wanted) t (map g (map view_body bs)) (view_page c.args.page.now) (view_page c.loop-index.page)) c.as_slice-bodies.ensures
    (all_done setting (view_wanted c.args.judge.wanted) t view_body g c.as_slice-bodies.result.now c.loop-index.index (view_page c.args.page.now) (view_page c.loop-index.page) (omega arith) (c.loop-index.invariant kinds closed))

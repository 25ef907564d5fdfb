use Rattle.std.proofs.Common.{◌≡◌, ap, ◌∙◌, ◌++◌, map, length, vec_len, List, ℕ, arith}
use Rattle.report_read.specs.View.{bytes_of}
use Rattle.report_shown.specs.Source.{elsewhere}
use Rattle.report_shown.specs.View.{view_goals}
use Rattle.report_page.specs.Markup.{texts}
use Rattle.report_page.specs.Page.{page_head, page}
use Rattle.report_page.proofs.Parts.{page_is}
use Rattle.report_page.proofs.Pieces.{five_put}
use Rattle.report_page.proofs.whole.page.Goals as goal

pub returns : goal.returns
unfolding page
returns c =
    let goals = view_goals c.args.goals.now in
    let head = c.in_ok-put_head.ensures ∙ ap (λ (t : List ℕ). t ++ texts (page_head c.args.title.now)) c.new-page.ensures.items in
    let count : vec_len c.in_ok-lines.lines ≡ length c.in_ok-lines.lines.items = omega (arith, c.in_ok-lines.lines.ok.0) in
    let those = ap view_goals c.as_slice-2.ensures.value ∙ c.in_ok-others.ensures ∙ ap (λ (n : ℕ). elsewhere n goals) (c.len.ensures ∙ count) in
    five_put _ _ _ _ _ _ _ _ _ _ _ head c.in_ok-put_table.ensures c.in_ok-put_source.ensures c.in_ok-put_elsewhere.ensures c.in_ok-put_end.ensures
    (page_is c.args.title.now c.args.source.now goals _ c.in_ok-lines.lines.items _ c.in_ok-lines.ensures (ap (map bytes_of) c.as_slice.ensures.value) those)

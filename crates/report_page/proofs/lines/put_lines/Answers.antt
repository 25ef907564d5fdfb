use Rattle.report_page.proofs.Listing.{line_more, line_end}
use Rattle.report_page.proofs.lines.put_lines.Goals as goal

pub loop-index-preserved : goal.loop-index-preserved
loop-index-preserved c = line_more c.args.lines.now c.args.lists.now c.loop-index.index _ _ _ _ c.loop-index-test.true c.in_ok-put_line_at.ensures c.loop-index.invariant

pub returns : goal.returns
returns c = line_end c.args.lines.now c.args.lists.now c.loop-index.index _ _ c.loop-index-test.false c.loop-index.invariant

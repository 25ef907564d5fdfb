use Rattle.std.proofs.Common.{map}
use Rattle.report_read.specs.Bytes.{until}
use Rattle.report_read.specs.View.{bytes_of}
use Rattle.report_read.proofs.Many.{seen_more, behind_more}
use Rattle.report_shown.proofs.Placed.{newline_consumes, lines_done}
use Rattle.report_shown.proofs.source.lines.Goals as goal

pub loop-line-preserved : goal.loop-line-preserved
loop-line-preserved c = record {
  found = seen_more (until 10) bytes_of newline_consumes c.loop-line.rest.now c.in-Some.behind.now c.in-Some.line c.loop-line.found.items c.push.new.self.items _ c.in-Some.ensures c.in_ok-push.ensures.items c.loop-line.invariant.found;
  behind = behind_more (until 10) newline_consumes c.loop-line.rest.now c.in-Some.behind.now (bytes_of c.in-Some.line) _ c.in-Some.ensures c.loop-line.invariant.behind;
}

pub returns : goal.returns
returns c = lines_done c.args.text.now c.loop-line.rest.now (map bytes_of c.loop-line.found.items) (map bytes_of c.push_last.new.found.items) c.in_default.ensures c.loop-line.invariant.found c.loop-line.invariant.behind c.in_ok-push_last.ensures

use Rattle.report_read.specs.Read.{ignored_at}
use Rattle.report_read.proofs.Many.{found_more, behind_more, behind_end}
use Rattle.report_read.proofs.Spelled.{ignored_consumes}
use Rattle.report_read.proofs.sections.ignored_in.Goals as goal

pub loop-line-preserved : goal.loop-line-preserved
loop-line-preserved c = record {
  found = found_more ignored_at ignored_consumes c.loop-line.rest.now c.in-Some.behind.now c.in-Some.line c.loop-line.found.items c.push.new.self.items _ c.in-Some.ensures c.in_ok-push.ensures.items c.loop-line.invariant.found;
  behind = behind_more ignored_at ignored_consumes c.loop-line.rest.now c.in-Some.behind.now c.in-Some.line _ c.in-Some.ensures c.loop-line.invariant.behind;
}

pub returns-clause-behind : goal.returns-clause-behind
returns-clause-behind c = behind_end ignored_at c.loop-line.rest.now _ c.in_default.ensures c.loop-line.invariant.behind

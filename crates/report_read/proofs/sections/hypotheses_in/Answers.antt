use Rattle.report_read.specs.Read.{hypothesis_at}
use Rattle.report_read.specs.View.{bytes_of}
use Rattle.report_read.proofs.Many.{seen_more, behind_more, behind_end}
use Rattle.report_read.proofs.Spelled.{hypothesis_consumes}
use Rattle.report_read.proofs.sections.hypotheses_in.Goals as goal

pub loop-name-preserved : goal.loop-name-preserved
loop-name-preserved c = record {
  found = seen_more hypothesis_at bytes_of hypothesis_consumes c.loop-name.rest.now c.in-Some.behind.now c.in-Some.name c.loop-name.found.items c.push.new.self.items _ c.in-Some.ensures c.in_ok-push.ensures.items c.loop-name.invariant.found;
  behind = behind_more hypothesis_at hypothesis_consumes c.loop-name.rest.now c.in-Some.behind.now (bytes_of c.in-Some.name) _ c.in-Some.ensures c.loop-name.invariant.behind;
}

pub returns-clause-behind : goal.returns-clause-behind
returns-clause-behind c = behind_end hypothesis_at c.loop-name.rest.now _ c.in_default.ensures c.loop-name.invariant.behind

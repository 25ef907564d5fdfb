use Rattle.std.proofs.Common.{Option, Some, List, ℕ, take, drop, sym, ap, ◌∙◌, ◌+◌}
use Rattle.std.proofs.lemmas.List.{take_rest}
use Rattle.report_read.specs.Bytes.{until}
use Rattle.report_read.proofs.Fronts.{until_more, until_found, until_broken}
use Rattle.report_read.proofs.bytes.until.Goals as goal

pub returns-then-byte-end : goal.returns-then-byte-end
returns-then-byte-end c =
    let bytes = c.args.bytes.now in
    let at = c.loop-at.at in
    let found : List ℕ → Option (List ℕ × List ℕ) = λ r. Some (take at bytes, r) in
    until_found c.args.end at bytes (until c.args.end bytes) c.loop-at-test.true c.if-byte-end.true c.loop-at.invariant ∙ ap found (sym (take_rest bytes (at + 1)))

pub returns-then-byte-eq10 : goal.returns-then-byte-eq10
returns-then-byte-eq10 c = until_broken c.args.end c.loop-at.at c.args.bytes.now (until c.args.end c.args.bytes.now) c.loop-at-test.true c.if-byte-end.false c.if-byte-eq10.true c.loop-at.invariant

pub loop-at-preserved : goal.loop-at-preserved
loop-at-preserved c = until_more c.args.end c.loop-at.at c.args.bytes.now (until c.args.end c.args.bytes.now) c.loop-at-test.true c.if-byte-end.false c.if-byte-eq10.false c.loop-at.invariant

use Rattle.std.proofs.Common.{◌≡◌, ◌++◌, drop}
use Rattle.goal_report.specs.Report as spec
use Rattle.goal_report.proofs.lines.put_hypotheses.Given as goal

abbrev pub invariant-loop-name : goal.invariant-loop-name
invariant-loop-name l = l.text.items ++ spec.hypothesis_lines (drop l.name-index l.names) ≡ l.fn.text.items ++ spec.hypothesis_lines l.names

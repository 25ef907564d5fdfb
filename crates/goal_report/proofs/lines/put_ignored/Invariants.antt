use Rattle.std.proofs.Common.{◌≡◌, ◌++◌, drop}
use Rattle.goal_report.specs.Report as spec
use Rattle.goal_report.proofs.lines.put_ignored.Given as goal

abbrev pub invariant-loop-line : goal.invariant-loop-line
invariant-loop-line l = l.text.items ++ spec.ignored_lines (drop l.line-index l.lines) ≡ l.fn.text.items ++ spec.ignored_lines l.lines

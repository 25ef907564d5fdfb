use Rattle.std.proofs.Common.{◌+◌, ◌≤◌, length}
use Rattle.wpgoal_cli.specs.Lines.{Answered}
use Rattle.wpgoal_cli.specs.View.{view_wish}
use Rattle.wpgoal_cli.proofs.lines.text_answer.Given as goal

-- the lines before what is left are answered
abbrev pub invariant-loop-left : goal.invariant-loop-left
invariant-loop-left l = record {
  answered : Answered (view_wish l.wish) l.text l.left l.lines l.out.items;
  few : l.lines + length l.left ≤ length l.text;
}

abbrev pub decreases-loop-left : goal.decreases-loop-left
decreases-loop-left l = length l.left

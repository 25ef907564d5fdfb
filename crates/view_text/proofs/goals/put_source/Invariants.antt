use Rattle.std.proofs.Common.{◌≡◌, ◌+◌, ◌++◌, map, drop}
use Rattle.report_read.specs.View.{bytes_of}
use Rattle.report_shown.specs.View.{view_list}
use Rattle.view_text.specs.Text.{source_text}
use Rattle.view_text.proofs.goals.put_source.Given as goal

-- the lines that are put, and those to come, are all
abbrev pub invariant-loop-index : goal.invariant-loop-index
invariant-loop-index l =
    l.text.items ++ source_text l.color (l.index + 1) (map bytes_of (drop l.index l.lines)) (map view_list (drop l.index l.lists)) ≡ l.initial.text.items ++ source_text l.color 1 (map bytes_of l.lines) (map view_list l.lists)

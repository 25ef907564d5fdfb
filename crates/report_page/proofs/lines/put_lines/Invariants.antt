use Rattle.std.proofs.Common.{◌≡◌, ◌+◌, ◌++◌, map, drop}
use Rattle.report_read.specs.View.{bytes_of}
use Rattle.report_shown.specs.View.{view_list}
use Rattle.report_page.specs.Markup.{texts}
use Rattle.report_page.specs.Page.{lines_pieces}
use Rattle.report_page.proofs.lines.put_lines.Given as goal

abbrev pub invariant-loop-index : goal.invariant-loop-index
invariant-loop-index l =
    l.page.items ++ texts (lines_pieces (l.index + 1) (map bytes_of (drop l.index l.lines)) (map view_list (drop l.index l.lists)))
    ≡ l.initial.page.items ++ texts (lines_pieces 1 (map bytes_of l.lines) (map view_list l.lists))

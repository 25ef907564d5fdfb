-- The lines of a report so far, as a plain value.
use Rattle.file_reports.specs.declared.pages.Page as memory
use Rattle.file_reports.specs.Lines.{Page}

abbrev pub view_page : memory.Page → Page
view_page p = record { text = p.text.items; goals = p.goals; proved = p.proved }

-- What is in memory, as plain values.
use Rattle.std.specs.Prelude.{ℕ, List, map, Option, Some, None, option_map, Vec}
use Rattle.std.specs.declared.alloc.Global.{Global}
use Rattle.std.specs.Borrow.{Bor}
use Rattle.report_read.specs.declared.report.Goal.{Goal}
use Rattle.report_read.specs.View.{bytes_of, view_goal}
use Rattle.report_read.specs.Report as spec
use Rattle.report_shown.specs.declared.wanted.Wanted.{Wanted}
use Rattle.report_shown.specs.Shown as shown

abbrev pub view_wanted : Wanted → shown.Wanted
view_wanted w = record { function = option_map bytes_of w.function; check = option_map bytes_of w.check; only = w.only }

abbrev pub view_goals : List Goal → List spec.Goal
view_goals goals = map view_goal goals

abbrev pub view_run : Bor (List Goal) → List spec.Goal
view_run run = view_goals run.now

abbrev pub view_list : Vec Goal Global → List spec.Goal
view_list list = view_goals list.items

use Rattle.std.proofs.Common.{◌≡◌, map}
use Rattle.std.specs.List.{list_all}
use Rattle.logic_calls.specs.View.{view_spelling}
use Rattle.logic_order.specs.Names as spec
use Rattle.logic_calls.proofs.Passing.{names_from}
use Rattle.logic_calls.proofs.names.are_unmarked.Given as goal

-- what is left decides
abbrev pub invariant-loop-at : goal.invariant-loop-at
invariant-loop-at l =
    list_all spec.is_unmarked (map spec.name_in (map view_spelling l.functions)) ≡ list_all spec.is_unmarked (names_from l.functions l.at)

use Rattle.std.proofs.Common.{◌≡◌, map, drop}
use Rattle.std.specs.List.{list_any}
use Rattle.std.specs.Str.{bytes_eq}
use Rattle.logic_calls.specs.View.{view_spelling}
use Rattle.logic_order.specs.Names as spec
use Rattle.logic_calls.proofs.Passing.{names_from}
use Rattle.logic_calls.proofs.names.is_named.Given as goal

-- what is left decides
abbrev pub invariant-loop-at : goal.invariant-loop-at
invariant-loop-at l =
    list_any (bytes_eq l.name) (map spec.name_in (map view_spelling (drop l.from l.functions))) ≡ list_any (bytes_eq l.name) (names_from l.functions l.at)

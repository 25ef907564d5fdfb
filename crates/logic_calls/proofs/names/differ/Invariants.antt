use Rattle.std.proofs.Common.{◌≡◌, map}
use Rattle.std.specs.Str.{bytes_eq}
use Rattle.logic_calls.specs.View.{view_spelling}
use Rattle.logic_order.specs.Names as spec
use Rattle.qed_terms.specs.Setting.{all_differ}
use Rattle.logic_calls.proofs.Passing.{names_from}
use Rattle.logic_calls.proofs.names.differ.Given as goal

-- what is left decides
abbrev pub invariant-loop-at : goal.invariant-loop-at
invariant-loop-at l = all_differ bytes_eq (map spec.name_in (map view_spelling l.functions)) ≡ all_differ bytes_eq (names_from l.functions l.at)

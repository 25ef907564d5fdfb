use Rattle.std.proofs.Common.{◌≡◌, map, drop}
use Rattle.std.specs.List.{list_all}
use Rattle.annotation_words.specs.View.{view_named}
use Rattle.logic_order.specs.Order as spec
use Rattle.logic_calls.proofs.fits.all_named_fit.Given as goal

-- what is left decides
abbrev pub invariant-loop-at : goal.invariant-loop-at
invariant-loop-at l = list_all spec.named_fits (map view_named l.params) ≡ list_all spec.named_fits (map view_named (drop l.at l.params))

use Rattle.std.proofs.Common.{◌≡◌, map, drop}
use Rattle.std.specs.List.{list_all}
use Rattle.annotation_words.specs.View.{view_global}
use Rattle.logic_order.specs.Order as spec
use Rattle.logic_calls.proofs.fits.all_globals_fit.Given as goal

-- what is left decides
abbrev pub invariant-loop-at : goal.invariant-loop-at
invariant-loop-at l = list_all spec.global_fits (map view_global l.globals) ≡ list_all spec.global_fits (map view_global (drop l.at l.globals))

use Rattle.std.proofs.Common.{◌≡◌, map, drop}
use Rattle.std.specs.List.{list_all}
use Rattle.annotation_words.specs.View.{view_named}
use Rattle.plain_annotations.specs.Places as places
use Rattle.logic_calls.proofs.fits.are_integers.Given as goal

-- what is left decides
abbrev pub invariant-loop-at : goal.invariant-loop-at
invariant-loop-at l = list_all places.is_one (map view_named l.params) ≡ list_all places.is_one (map view_named (drop l.at l.params))

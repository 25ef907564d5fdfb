use Rattle.std.proofs.Common.{◌≡◌, map, drop}
use Rattle.std.specs.List.{list_all}
use Rattle.annotation_words.specs.View.{view_global}
use Rattle.plain_annotations.specs.Places as places
use Rattle.program_trees.specs.View.{view_facts}
use Rattle.logic_calls.proofs.fits.are_given.Given as goal

-- what is left decides
abbrev pub invariant-loop-at : goal.invariant-loop-at
invariant-loop-at l =
    list_all (places.is_given (view_facts l.facts)) (map view_global l.globals)
    ≡ list_all (places.is_given (view_facts l.facts)) (map view_global (drop l.at l.globals))

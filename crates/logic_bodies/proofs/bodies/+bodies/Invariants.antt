use Rattle.std.proofs.Common.{◌≡◌, ◌++◌, map, drop}
use Rattle.acsl_trees.specs.Tree.{trees_of, view_trees}
use Rattle.annotation_heads.specs.View.{view_terms}
use Rattle.logic_bodies.specs.Bodies as spec
use Rattle.logic_bodies.specs.View.{names_in, reading_in}
use Rattle.logic_bodies.proofs.bodies.+bodies.Given as goal

-- what is made, and what the kids to come make
abbrev pub invariant-all_terms-loop-at : goal.invariant-all_terms-loop-at
invariant-all_terms-loop-at l =
    map view_terms l.made ++ spec.all_terms (reading_in l.reading) (names_in l.reading) (trees_of (view_trees (drop l.at l.kids)))
    ≡ spec.all_terms (reading_in l.reading) (names_in l.reading) (trees_of (view_trees l.kids))

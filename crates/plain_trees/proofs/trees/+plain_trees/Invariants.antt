use Rattle.std.proofs.Common.{◌≡◌, ℕ, drop}
use Rattle.acsl_trees.specs.Tree.{trees_of, view_trees}
use Rattle.plain_annotations.specs.Plain as spec
use Rattle.plain_trees.specs.Around.{Reaches}
use Rattle.plain_trees.specs.View.{view_place}
use Rattle.plain_trees.proofs.trees.+plain_trees.Given as goal

-- the kids that are to come make the whole
abbrev pub invariant-are_plain_under-loop-at : goal.invariant-are_plain_under-loop-at
invariant-are_plain_under-loop-at l =
    (d : ℕ) → Reaches l.around d
    → spec.are_plain (view_place l.place l.takes) d l.in_binder (trees_of (view_trees (drop l.at l.kids)))
    ≡ spec.are_plain (view_place l.place l.takes) d l.in_binder (trees_of (view_trees l.kids))

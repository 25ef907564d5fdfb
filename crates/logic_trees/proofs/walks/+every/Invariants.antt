use Rattle.std.proofs.Common.{◌≡◌, drop}
use Rattle.acsl_trees.specs.Tree.{trees_of, view_trees}
use Rattle.logic_trees.specs.Every as spec
use Rattle.logic_trees.proofs.walks.+every.Given as goal

-- the kids that are to come decide
abbrev pub invariant-all_every-loop-at : goal.invariant-all_every-loop-at
invariant-all_every-loop-at l =
    spec.all_every (spec.passes l.test) (spec.ends l.test) (trees_of (view_trees l.kids))
    ≡ spec.all_every (spec.passes l.test) (spec.ends l.test) (trees_of (view_trees (drop l.at l.kids)))

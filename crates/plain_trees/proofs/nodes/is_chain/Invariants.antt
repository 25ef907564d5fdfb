use Rattle.std.proofs.Common.{◌≡◌, drop}
use Rattle.acsl_trees.specs.Tree.{trees_of, view_trees}
use Rattle.c_runs.specs.Truth.{heads_of}
use Rattle.plain_annotations.specs.Plain as spec
use Rattle.plain_trees.proofs.nodes.is_chain.Given as goal

abbrev pub invariant-loop-at : goal.invariant-loop-at
invariant-loop-at l = spec.are_links (heads_of (trees_of (view_trees (drop l.at l.kids)))) ≡ spec.is_chain (heads_of (trees_of (view_trees l.kids)))

use Rattle.std.proofs.Common.{◌≡◌, ◌+◌, ◌*◌, length, drop, ◌++◌}
use Rattle.acsl_trees.specs.declared.tree.Tree.{size-Tree}
use Rattle.acsl_trees.specs.Tree.{trees_of, view_trees}
use Rattle.acsl_expand.specs.Expansion.{expand_kids, calls_in}
use Rattle.acsl_expand.proofs.Calling.{weight}
use Rattle.acsl_expand.proofs.expansion.+expanding.Given as goal

abbrev pub decreases-expand : goal.decreases-expand
decreases-expand l = (weight l.definitions.now + size-Tree l.tree.now) * 3

abbrev pub decreases-expand_kids : goal.decreases-expand_kids
decreases-expand_kids l = (weight l.definitions.now + goal.size-expand_kids l) * 3 + 1

abbrev pub decreases-called : goal.decreases-called
decreases-called l = weight l.definitions.now * 3 + 2

-- the kids so far, and those that are to come
abbrev pub invariant-expand_kids-loop-kid : goal.invariant-expand_kids-loop-kid
invariant-expand_kids-loop-kid l = record {
  count : length l.made ≡ l.kid-index;
  so_far :
      view_trees l.made
      ++ expand_kids (calls_in l.definitions) (view_trees l.arguments) l.base l.around l.in_binder (trees_of (view_trees (drop l.kid-index l.kids)))
      ≡ expand_kids (calls_in l.definitions) (view_trees l.arguments) l.base l.around l.in_binder (trees_of (view_trees l.kids));
}

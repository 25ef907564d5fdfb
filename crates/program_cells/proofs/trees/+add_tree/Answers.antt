use Rattle.core_trees.specs.View.{view_variables}
use Rattle.program_trees.specs.View.{view_facts}
use Rattle.program_cells.specs.View.{view_declared}
use Rattle.program_cells.proofs.Kids.{tree_added}
use Rattle.program_cells.proofs.trees.+add_tree.Goals as goal

pub add_tree-returns : goal.add_tree-returns
add_tree-returns t c =
    tree_added (view_facts c.args.facts.now) (view_variables c.args.own.now) (view_declared c.args.declared) c.args.tree.now c.as_slice-kids.result.now
    c.args.cells.now c.add_own.new.cells c.add_kids.new.cells c.as_slice-kids.ensures c.in_ok-add_own.ensures c.in_ok-add_kids.ensures

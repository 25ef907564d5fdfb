use Rattle.std.proofs.Common.{List, ◌++◌, map, All}
use Rattle.qed_terms.specs.Store.{KeepsOlder}
use Rattle.qed_terms.specs.View.{view_setting}
use Rattle.branches.specs.Branch.{Branch}
use Rattle.branches.specs.Expansion.{Runs, rules_of, from_formula, End}
use Rattle.branches.specs.Ids.{branch_of, tasks_of, BranchHeld, TasksHeld}
use Rattle.branches.proofs.walk.run.Given as goal

-- what the expansion comes to from here on, it comes to from its beginning, with what was passed over so far before
abbrev pub invariant-loop : goal.invariant-loop
invariant-loop g l =
    let tree = g.S.TermStore.tree in
    let held = g.S.TermStore.held in
    let world = view_setting l.world in
    let rules = rules_of l.course.passes g.R.BranchRules.closed (g.R.BranchRules.change world) (g.R.BranchRules.round world) in
    record {
      ready : g.R.BranchRules.ready l.rules l.store;
      kept : KeepsOlder (held l.fn.store) (held l.store) (tree l.fn.store) (tree l.store);
      tasks : TasksHeld (held l.store) l.todo.items;
      over : All (BranchHeld (held l.store)) l.passed;
      runs : (bs : List Branch) (e : End) → Runs rules l.course.budget (tasks_of (tree l.store) l.todo.items) l.leaves bs e
          → Runs rules l.course.budget (from_formula l.fn.fuel (tree l.fn.store l.fn.start)) 0 (map (branch_of (tree l.store)) l.passed ++ bs) e;
    }

use Rattle.std.proofs.Common.{◌≡◌, ◌+◌, ◌-◌, ◌++◌, take, drop, map, length}
use Rattle.branches.specs.Expansion.{with_each}
use Rattle.branches.specs.Ids.{tasks_of, TasksHeld}
use Rattle.branches.proofs.disjuncts.push_disjuncts.Given as goal

-- the disjuncts from the last one on
abbrev pub invariant-loop-i : goal.invariant-loop-i
invariant-loop-i g l =
    let tree = g.S.TermStore.tree l.store in
    let waiting = map tree l.branch.waiting in
    record {
      pushed : tasks_of tree l.todo.items
          ≡ with_each l.fuel (map tree l.branch.literals) (take l.at waiting) (drop (l.at + 1) waiting) (drop (length l.kids - l.i) (map tree l.kids)) ++ tasks_of tree l.initial.todo.items;
      held : TasksHeld (g.S.TermStore.held l.store) l.todo.items;
    }

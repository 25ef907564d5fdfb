use Rattle.std.proofs.Common.{take, map}
use Rattle.qed_terms.specs.Store.{KeepsOlder}
use Rattle.branches.specs.Steps.{NoneSo}
use Rattle.branches.specs.Ids.{branch_of}
use Rattle.branch_changes.specs.Changes.{Gives}
use Rattle.variable_changes.proofs.literals.first_elimination.Given as goal

abbrev pub invariant-loop-at : goal.invariant-loop-at
invariant-loop-at g l =
    let tree = g.S.TermStore.tree in
    let held = g.S.TermStore.held in
    let s = l.initial.store in
    record {
      ready : g.R.ChangeRules.ready l.rules l.store;
      older : KeepsOlder (held s) (held l.store) (tree s) (tree l.store);
      none : NoneSo (Gives (branch_of (tree s) l.branch)) (take l.at (map (tree s) l.branch.literals));
    }

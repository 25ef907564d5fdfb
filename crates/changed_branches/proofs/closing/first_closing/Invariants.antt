use Rattle.std.proofs.Common.{take, map}
use Rattle.branches.specs.Steps.{NoneSo}
use Rattle.branches.specs.Ids.{branch_of}
use Rattle.branch_changes.specs.Changes.{WouldClose}
use Rattle.changed_branches.proofs.closing.first_closing.Given as goal

abbrev pub invariant-loop-at : goal.invariant-loop-at
invariant-loop-at g l =
    let tree = g.S.TermStore.tree l.store in
    record {
      ready : g.R.ChangeRules.ready l.rules l.store;
      none : NoneSo (WouldClose g.R.ChangeRules.closed (branch_of tree l.branch)) (take l.at (map tree l.ids));
    }

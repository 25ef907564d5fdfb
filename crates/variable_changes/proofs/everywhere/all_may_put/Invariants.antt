use Rattle.std.proofs.Common.{◌≡◌, map, drop}
use Rattle.std.specs.List.{list_all}
use Rattle.branch_changes.specs.Givens.{may_put}
use Rattle.branch_changes.specs.Ids.{given_of}
use Rattle.variable_changes.proofs.everywhere.all_may_put.Given as goal

abbrev pub invariant-loop-at : goal.invariant-loop-at
invariant-loop-at g l =
    let tree = g.S.TermStore.tree l.store in
    let may = may_put (given_of tree l.given) in
    record { ready : g.R.ChangeRules.ready l.rules l.store; all : list_all may (map tree l.ids) ≡ list_all may (drop l.at (map tree l.ids)) }

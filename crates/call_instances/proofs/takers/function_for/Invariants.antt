use Rattle.std.proofs.Common.{◌≡◌, map}
use Rattle.qed_terms.specs.Tree.{trees_of}
use Rattle.qed_terms.specs.View.{view_logic}
use Rattle.instance_rows.specs.Calls.{cases_among}
use Rattle.call_instances.proofs.TakerLaws.{CasesFrom}
use Rattle.call_instances.proofs.takers.function_for.Given as goal

-- what is left decides
abbrev pub invariant-loop-function : goal.invariant-loop-function
invariant-loop-function g l =
    let ts = trees_of (map (g.S.TermStore.tree l.store) l.kids) in
    cases_among (map view_logic l.functions) l.name ts ≡ CasesFrom l.functions l.name ts l.function-index

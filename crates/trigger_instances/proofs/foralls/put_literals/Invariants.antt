use Rattle.std.proofs.Common.{map, take}
use Rattle.qed_terms.specs.View.{view_logic}
use Rattle.instance_rows.specs.Candidates.{forall_candidates}
use Rattle.branch_accesses.specs.Ids.{access_of}
use Rattle.trigger_instances.specs.Ids.{call_of}
use Rattle.trigger_instances.specs.Puts.{Puts}
use Rattle.trigger_instances.proofs.foralls.put_literals.Given as goal

-- those of the literals so far are put
abbrev pub invariant-loop-literal : goal.invariant-loop-literal
invariant-loop-literal g l =
    let tree = g.S.TermStore.tree in
    let held = g.S.TermStore.held in
    let first = tree l.initial.store in
    Puts l.closed (held l.initial.store) (held l.store) first (tree l.store) l.initial.table l.table l.initial.out.items l.out.items
    (forall_candidates (map view_logic l.functions) (map (access_of first) l.accesses) (map (call_of first) l.calls) (map first (take l.literal-index l.literals)))

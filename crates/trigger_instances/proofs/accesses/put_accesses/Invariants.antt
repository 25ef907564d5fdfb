use Rattle.std.proofs.Common.{map, take}
use Rattle.instance_rows.specs.Candidates.{by_access}
use Rattle.branch_accesses.specs.Ids.{access_of}
use Rattle.forall_instances.specs.Foralls.{forall_of}
use Rattle.trigger_instances.specs.Puts.{Puts}
use Rattle.trigger_instances.proofs.accesses.put_accesses.Given as goal

-- those by the accesses so far are put
abbrev pub invariant-loop-there : goal.invariant-loop-there
invariant-loop-there g l =
    let tree = g.S.TermStore.tree in
    let held = g.S.TermStore.held in
    Puts l.closed (held l.initial.store) (held l.store) (tree l.initial.store) (tree l.store) l.initial.table l.table l.initial.out.items l.out.items
    (by_access (forall_of (tree l.initial.store) l.quantified) (access_of (tree l.initial.store) l.trigger) (map (access_of (tree l.initial.store)) (take l.there-index l.accesses)))

use Rattle.std.proofs.Common.{map, take}
use Rattle.instance_rows.specs.Candidates.{by_call}
use Rattle.forall_instances.specs.Foralls.{forall_of}
use Rattle.trigger_instances.specs.Ids.{call_of}
use Rattle.trigger_instances.specs.Puts.{PutsAll}
use Rattle.trigger_instances.proofs.by_calls.put_calls.Given as goal

-- those by the calls so far are put
abbrev pub invariant-loop-there : goal.invariant-loop-there
invariant-loop-there g l =
    let tree = g.S.TermStore.tree in
    let held = g.S.TermStore.held in
    PutsAll (held l.initial.store) (held l.store) (tree l.initial.store) (tree l.store) l.initial.out.items l.out.items
    (by_call (forall_of (tree l.initial.store) l.quantified) (call_of (tree l.initial.store) l.trigger) (map (call_of (tree l.initial.store)) (take l.there-index l.calls)))

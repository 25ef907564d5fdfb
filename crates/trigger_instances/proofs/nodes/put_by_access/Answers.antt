use Rattle.std.proofs.Common.{sym, ap, map}
use Rattle.instance_rows.specs.Candidates.{if_access}
use Rattle.branch_accesses.specs.Ids.{access_of}
use Rattle.forall_instances.specs.Foralls.{forall_of}
use Rattle.trigger_instances.proofs.Given.{puts_none}
use Rattle.trigger_instances.proofs.nodes.put_by_access.Goals as goal

pub returns-in-None : goal.returns-in-None
returns-in-None g c =
    let tree = g.S.TermStore.tree c.args.store.now in
    puts_none c.args.closed.now (g.S.TermStore.held c.args.store.now) tree c.args.table.now c.args.out.now.items _ c.requires.kept c.requires.out
    (ap (λ o. if_access (forall_of tree c.args.quantified.now) o (map (access_of tree) c.args.accesses.now)) (sym c.in-None.ensures.access))

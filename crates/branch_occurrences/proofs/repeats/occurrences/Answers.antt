use Rattle.branch_occurrences.proofs.Gathered.{found_all}
use Rattle.branch_occurrences.proofs.repeats.occurrences.Goals as goal

pub returns-clause-trees : goal.returns-clause-trees
returns-clause-trees g c =
    found_all (g.S.TermStore.tree c.args.store.now) c.in_ok-found.found.items c.args.branch.now.literals c.args.branch.now.waiting _ _ _ _ _ _
    c.as_slice.ensures c.as_slice-2.ensures c.as_slice-3.ensures.value c.new-nodes.ensures.items c.in_ok-all_nodes.ensures.nodes c.in_ok-all_nodes-2.ensures.nodes c.in_ok-found.ensures.trees

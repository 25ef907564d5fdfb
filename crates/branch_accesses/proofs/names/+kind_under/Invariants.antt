use Rattle.qed_terms.specs.Tree.{size}
use Rattle.branch_accesses.proofs.names.+kind_under.Given as goal

abbrev pub decreases-kind_under : goal.decreases-kind_under
decreases-kind_under g l = size (g.S.TermStore.tree l.store.now l.memory)

use Rattle.linear_chains.specs.Links.{IsOrdered}
use Rattle.linear_chains.specs.Sums.{IsBelow}
use Rattle.test_prover.proofs.links.form_of.Given as goal

abbrev pub invariant-loop-class : goal.invariant-loop-class
invariant-loop-class l = record {
  ordered : IsOrdered l.form.items;
  below : IsBelow l.form.items l.class;
}

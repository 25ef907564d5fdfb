use Rattle.std.proofs.Common.{map}
use Rattle.linear_chains.specs.Chains.{AreOrdered}
use Rattle.linear_chains.specs.View.{link_of}
use Rattle.test_prover.proofs.links.random_links.Given as goal

abbrev pub invariant-loop : goal.invariant-loop
invariant-loop l = AreOrdered (map link_of l.forms.items)

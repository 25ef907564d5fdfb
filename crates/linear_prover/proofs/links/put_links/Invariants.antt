use Rattle.std.proofs.Common.{◌≡◌, map, ◌++◌}
use Rattle.linear_chains.specs.View.{link_of}
use Rattle.linear_prover.specs.LiteralLinks.{beside}
use Rattle.linear_prover.proofs.links.put_links.Given as goal

abbrev pub invariant-loop-link : goal.invariant-loop-link
invariant-loop-link l = record {
  links : map link_of l.all.links.items ++ map link_of l.link-iterator.rest.items ≡ map link_of l.initial.all.links.items ++ map link_of l.fn.links.items;
  literals : l.all.literals.items ++ map (beside l.literal) (map link_of l.link-iterator.rest.items) ≡ l.initial.all.literals.items ++ map (beside l.literal) (map link_of l.fn.links.items);
}

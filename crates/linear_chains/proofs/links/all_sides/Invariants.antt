use Rattle.std.proofs.Common.{◌≡◌, map, take}
use Rattle.linear_chains.specs.Links.{step_of}
use Rattle.linear_chains.specs.View.{link_of, side_step}
use Rattle.linear_chains.proofs.links.all_sides.Given as goal

abbrev pub invariant-loop-link : goal.invariant-loop-link
invariant-loop-link l = map side_step l.sides.items ≡ map step_of (map link_of (take l.link-index l.links))

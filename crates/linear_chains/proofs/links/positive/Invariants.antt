use Rattle.std.proofs.Common.{◌≡◌, ◌++◌, drop}
use Rattle.linear_chains.specs.Links.{positive}
use Rattle.linear_chains.proofs.links.positive.Given as goal

abbrev pub invariant-loop-part : goal.invariant-loop-part
invariant-loop-part l = l.side.items ++ positive (drop l.part-index l.form) ≡ positive l.form

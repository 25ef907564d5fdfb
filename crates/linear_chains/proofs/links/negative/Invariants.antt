use Rattle.std.proofs.Common.{◌≡◌, ◌++◌, drop}
use Rattle.linear_chains.specs.Links.{negative}
use Rattle.linear_chains.proofs.links.negative.Given as goal

abbrev pub invariant-loop-part : goal.invariant-loop-part
invariant-loop-part l = l.side.items ++ negative (drop l.part-index l.form) ≡ negative l.form

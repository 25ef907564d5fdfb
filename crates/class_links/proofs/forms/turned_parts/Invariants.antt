use Rattle.std.proofs.Common.{◌≡◌, ◌++◌, map, drop}
use Rattle.linear_chains.specs.Links.{turned}
use Rattle.class_links.proofs.forms.turned_parts.Given as goal

abbrev pub invariant-loop-part : goal.invariant-loop-part
invariant-loop-part l = l.made.items ++ map turned (drop l.part-index l.parts) ≡ map turned l.parts

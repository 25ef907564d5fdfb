use Rattle.std.proofs.Common.{map, drop}
use Rattle.linear_chains.specs.Chains.{AllDiffer}
use Rattle.linear_chains.specs.View.{vec_items}
use Rattle.linear_chains.proofs.checks.all_differ.Given as goal

abbrev pub invariant-loop-i : goal.invariant-loop-i
invariant-loop-i l = AllDiffer (map vec_items (drop l.i l.sides)) → AllDiffer (map vec_items l.sides)

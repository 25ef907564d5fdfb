use Rattle.std.proofs.Common.{◌≡◌, ◌++◌, drop}
use Rattle.acsl_guards.specs.Parts.{pointed}
use Rattle.acsl_guards.proofs.gather.put_each.Given as goal

abbrev pub invariant-loop-item : goal.invariant-loop-item
invariant-loop-item g l = pointed l.left.items ++ drop l.item-index l.items ≡ pointed l.initial.left.items ++ l.items

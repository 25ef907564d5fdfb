use Rattle.std.proofs.Common.{◌≡◌, ◌++◌, take}
use Rattle.c_taken.specs.Pieces.{pointed}
use Rattle.c_taken.proofs.gather.put_each.Given as goal

-- the items so far stand behind the others
abbrev pub invariant-loop-item : goal.invariant-loop-item
invariant-loop-item g l = pointed l.left.items ≡ pointed l.initial.left.items ++ take l.item-index l.items

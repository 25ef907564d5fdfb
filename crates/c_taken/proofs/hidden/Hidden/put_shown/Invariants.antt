use Rattle.std.proofs.Common.{◌≡◌, ◌++◌, take}
use Rattle.c_taken.specs.Addressed.{outside}
use Rattle.c_taken.specs.Pieces.{pointed}
use Rattle.c_taken.proofs.hidden.Hidden.put_shown.Given as goal

-- those so far that aren't hidden stand behind the others
abbrev pub invariant-loop-name : goal.invariant-loop-name
invariant-loop-name l = pointed l.names.items ≡ pointed l.initial.names.items ++ outside l.self (pointed (take l.name-index l.found))

use Rattle.std.proofs.Common.{◌≡◌, take}
use Rattle.logic_calls.proofs.copies.copy_globals.Given as goal

-- the copies so far
abbrev pub invariant-loop-global : goal.invariant-loop-global
invariant-loop-global l = l.made ≡ take l.global-index l.globals

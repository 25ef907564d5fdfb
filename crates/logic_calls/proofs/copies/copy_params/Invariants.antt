use Rattle.std.proofs.Common.{◌≡◌, take}
use Rattle.logic_calls.proofs.copies.copy_params.Given as goal

-- the copies so far
abbrev pub invariant-loop-parameter : goal.invariant-loop-parameter
invariant-loop-parameter l = l.made ≡ take l.parameter-index l.params

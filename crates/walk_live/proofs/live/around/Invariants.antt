use Rattle.std.proofs.Common.{◌≡◌, ◌∷◌, take}
use Rattle.walk_live.proofs.live.around.Given as goal

abbrev pub invariant-loop-set : goal.invariant-loop-set
invariant-loop-set l = l.made.items ≡ l.after ∷ take l.set-index l.outs

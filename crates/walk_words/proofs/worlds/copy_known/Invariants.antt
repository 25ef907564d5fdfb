use Rattle.std.proofs.Common.{◌≡◌, take}
use Rattle.walk_words.proofs.worlds.copy_known.Given as goal

abbrev pub invariant-loop-formula : goal.invariant-loop-formula
invariant-loop-formula l = l.copy.items ≡ take l.formula-index l.known

use Rattle.std.proofs.Common.{◌≡◌, map}
use Rattle.walk_words.specs.View.{view_change}
use Rattle.program_walk.proofs.Opening.{keep_all}
use Rattle.program_walk.proofs.scopes.any_at.Given as goal

abbrev pub invariant-loop-slot : goal.invariant-loop-slot
invariant-loop-slot l = map view_change l.made.items ≡ keep_all l._slot

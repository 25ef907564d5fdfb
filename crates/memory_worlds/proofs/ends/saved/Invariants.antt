use Rattle.std.proofs.Common.{◌≡◌, map, take}
use Rattle.qed_terms.specs.View.{term_tree}
use Rattle.memory_worlds.specs.Scopes.{saved_at}
use Rattle.memory_worlds.proofs.ends.saved.Given as goal

abbrev pub invariant-loop-place : goal.invariant-loop-place
invariant-loop-place l = map term_tree l.saved.items ≡ saved_at (take l.place-index l.places) (map term_tree l.terms)

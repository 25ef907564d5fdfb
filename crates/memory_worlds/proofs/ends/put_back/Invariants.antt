use Rattle.std.proofs.Common.{◌≡◌, map, drop}
use Rattle.qed_terms.specs.View.{term_tree}
use Rattle.memory_worlds.specs.Scopes.{put_all}
use Rattle.memory_worlds.proofs.ends.put_back.Given as goal

abbrev pub invariant-loop-at : goal.invariant-loop-at
invariant-loop-at l =
    put_all (drop l.at l.places) (map term_tree (drop l.at l.saved)) (map term_tree l.terms.items) ≡ put_all l.places (map term_tree l.saved) (map term_tree l.initial.terms.items)

use Rattle.std.proofs.Common.{◌≡◌, ◌++◌, map, drop}
use Rattle.qed_terms.specs.View.{term_tree}
use Rattle.walk_steps.specs.Laws.{start_slots}
use Rattle.function_walks.specs.Entry.{view_origins}
use Rattle.function_walks.proofs.origins.slots_of.Given as goal

abbrev pub invariant-loop-index : goal.invariant-loop-index
invariant-loop-index l =
    map term_tree l.made.items ++ start_slots (drop l.index l.bases) (view_origins (drop l.index l.origins)) ≡ start_slots l.bases (view_origins l.origins)

use Rattle.std.proofs.Common.{◌≡◌, ◌++◌, map, take}
use Rattle.qed_terms.specs.View.{formula_tree, term_tree}
use Rattle.memory_worlds.specs.Changes.{fact_tree}
use Rattle.memory_worlds.proofs.renewals.add_given.Given as goal

abbrev pub invariant-loop-fact : goal.invariant-loop-fact
invariant-loop-fact l =
    map formula_tree l.known.items ≡ map formula_tree l.initial.known.items ++ map (λ f. fact_tree f (term_tree l.new)) (take l.fact-index l.facts)

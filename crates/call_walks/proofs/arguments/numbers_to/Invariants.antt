use Rattle.std.proofs.Common.{◌≡◌, map}
use Rattle.qed_terms.specs.View.{term_tree}
use Rattle.value_words.specs.View.{view_terms}
use Rattle.call_walks.specs.View.{numbers_to}
use Rattle.call_walks.proofs.arguments.numbers_to.Given as goal

abbrev pub invariant-loop-at : goal.invariant-loop-at
invariant-loop-at l = map term_tree l.made ≡ numbers_to (view_terms l.terms) l.at

-- The goals of the examples compute to those worked out by hand.
use Rattle.std.proofs.Common.{refl}
use Rattle.qed_terms.specs.Fresh.{fresh_name}
use Rattle.qed_terms.specs.Order as order
use Rattle.value_terms.specs.Terms.{op_term}
use Rattle.value_terms.specs.Words.{op_items}
use Rattle.acsl_encode.specs.Binders.{numbered}
use Rattle.memory_words.specs.Leaves.{leaf_name}
use Rattle.memory_words.specs.Places.{slot, places}
use Rattle.memory_functions.specs.Examples.{ExampleGoals}

pub example_goals : ExampleGoals
unfolding fresh_name order.tree_cmp op_term op_items numbered leaf_name slot places
example_goals = record { pointers = refl; locals = refl; fields = refl; calls = refl; behaviors = refl; ranges = refl }

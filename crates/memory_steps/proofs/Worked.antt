-- The goals of the examples compute to those worked out by hand.
use Rattle.std.proofs.Common.{refl}
use Rattle.qed_terms.specs.Fresh.{fresh_name}
use Rattle.qed_terms.specs.Order as order
use Rattle.memory_steps.specs.Examples.{ExampleGoals}

pub example_goals : ExampleGoals
unfolding fresh_name order.tree_cmp
example_goals = record { stores = refl; scoped = refl; called = refl; leaving = refl; joined = refl; bracketed = refl; refused = refl; unbracketed = refl }

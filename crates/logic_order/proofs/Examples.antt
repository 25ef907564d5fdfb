-- Examples, computed.
use Rattle.std.proofs.Common.{refl}
use Rattle.qed_terms.specs.Names.{is_name, is_memory_name}
use Rattle.acsl_encode.specs.Setting.{known_first}
use Rattle.logic_order.specs.Examples.{ExamplesHold}
use Rattle.logic_order.specs.Order.{is_in_order, takes_in}

pub examples_hold : ExamplesHold
unfolding is_in_order takes_in is_name is_memory_name known_first
examples_hold = record { ordered = refl; given = refl; takes = refl; two_steps = refl; same_name = refl }

-- Runs of small programs in which something is done within an expression, by computing them.
use Rattle.std.proofs.Common.{refl}
use Rattle.test_runs.specs.Orders.{Decides, Assigns, GoesOn, OnOrders}
use Rattle.c_runs.specs.Run.{levels}
use Rattle.c_runs.specs.Values.{applied}
use Rattle.c_runs.specs.Effects.{write}
use Rattle.wp_base.specs.Blocks.{block_at}

decides : Decides
unfolding levels applied write block_at
decides = record {
  either_first = refl;
  either_second = refl;
  both_first = refl;
  both_second = refl;
  chosen_first = refl;
  chosen_second = refl;
  divides_well = refl;
  divides_first = refl;
}

assigns : Assigns
unfolding levels applied write block_at
assigns = record { adds_ = refl; passes_on_ = refl; steps_in_ = refl }

goes_on : GoesOn
unfolding levels applied write block_at
goes_on = refl

pub on_orders : OnOrders
on_orders = record { decides = decides; assigns = assigns; goes_on_ = goes_on }

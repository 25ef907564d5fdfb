-- Runs of the small programs with annotations, by computing them.
use Rattle.std.proofs.Common.{refl}
use Rattle.test_runs.specs.Annotations.{Asserts, Sets, Counts, StepsOn, Asks, Splits, Mixes, GoesDown}
use Rattle.test_runs.specs.Laws.{RunsAsAnnotated}
use Rattle.c_runs.specs.Run.{levels}
use Rattle.c_runs.specs.Values.{applied}
use Rattle.c_runs.specs.Effects.{write}
use Rattle.wp_base.specs.Blocks.{block_at}

asserts : Asserts
unfolding levels applied write block_at
asserts = record { so = refl; not_so = refl }

sets : Sets
unfolding levels applied write block_at
sets = record { first = refl; second = refl }

counts : Counts
unfolding levels applied write block_at
counts = record { three = refl; past = refl; grows = refl; never = refl; negative = refl }

steps_on : StepsOn
unfolding levels applied write block_at
steps_on = record { at_entry = refl; not_behind = refl }

asks : Asks
unfolding levels applied write block_at
asks = record { met = refl; not_met = refl }

splits : Splits
unfolding levels applied write block_at
splits = record { well = refl; gap = refl; overlap = refl }

mixes : Mixes
unfolding levels applied write block_at
mixes = record { well = refl; both = refl }

goes_down : GoesDown
unfolding levels applied write block_at
goes_down = record { less = refl; same = refl; negative = refl }

pub runs_as_annotated : RunsAsAnnotated
runs_as_annotated = record { asserts = asserts; sets = sets; counts = counts; steps_on = steps_on; asks = asks; splits = splits; mixes = mixes; goes_down = goes_down }

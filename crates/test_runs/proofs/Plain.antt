-- Runs of the small programs, by computing them.
use Rattle.std.proofs.Common.{refl}
use Rattle.test_runs.specs.Programs.{FallsThrough, GoesRound, CountsOn, Recurs, StopsEarly, ReadsUnset, TakesContents, Points, Dangles, LeavesSwitch, Computes}
use Rattle.test_runs.specs.Laws.{RunsAsC}
use Rattle.c_runs.specs.Run.{levels}
use Rattle.c_runs.specs.Values.{applied}
use Rattle.c_runs.specs.Effects.{write}
use Rattle.wp_base.specs.Blocks.{block_at}

falls_through : FallsThrough
unfolding levels applied write block_at
falls_through = record { one = refl; two = refl; other = refl; no_turn = refl }

goes_round : GoesRound
unfolding levels applied write block_at
goes_round = record { enough = refl; just = refl; short = refl }

counts_on : CountsOn
unfolding levels applied write block_at
counts_on = refl

recurs : Recurs
unfolding levels applied write block_at
recurs = record { enough = refl; short = refl }

stops_early : StopsEarly
unfolding levels applied write block_at
stops_early = record { first = refl; both = refl; wrong = refl }

reads_unset : ReadsUnset
unfolding levels applied write block_at
reads_unset = record { set = refl; unset = refl }

takes_contents : TakesContents
unfolding levels applied write block_at
takes_contents = record { first = refl; second = refl; none_left = refl; no_int = refl; outside = refl; below = refl }

points : Points
unfolding levels applied write block_at
points = record { inside = refl; behind = refl; beyond = refl }

dangles : Dangles
unfolding levels applied write block_at
dangles = refl

leaves_switch : LeavesSwitch
unfolding levels applied write block_at
leaves_switch = record { inside = refl; behind = refl }

computes : Computes
unfolding levels applied write block_at
computes = record { towards_zero = refl; sign_of_first = refl; by_zero = refl; no_quotient = refl; no_remainder = refl; product = refl; shifted = refl; too_far = refl; negative = refl; right = refl; off_the_end = refl; no_result = refl }

pub runs_as_c : RunsAsC
runs_as_c = record { falls_through = falls_through; goes_round = goes_round; counts_on = counts_on; recurs = recurs; stops_early = stops_early; reads_unset = reads_unset; takes_contents = takes_contents; points = points; dangles = dangles; leaves_switch = leaves_switch; computes = computes }

-- What these programs come to, together.
use Rattle.test_runs.specs.Programs.{FallsThrough, GoesRound, CountsOn, Recurs, StopsEarly, ReadsUnset, TakesContents, Points, Dangles, LeavesSwitch, Computes}
use Rattle.test_runs.specs.Annotations.{Asserts, Sets, Counts, StepsOn, Asks, Splits, Mixes, GoesDown}

pub record RunsAsC : Type 0 where
  pub falls_through : FallsThrough
  pub goes_round : GoesRound
  pub counts_on : CountsOn
  pub recurs : Recurs
  pub stops_early : StopsEarly
  pub reads_unset : ReadsUnset
  pub takes_contents : TakesContents
  pub points : Points
  pub dangles : Dangles
  pub leaves_switch : LeavesSwitch
  pub computes : Computes

pub record RunsAsAnnotated : Type 0 where
  pub asserts : Asserts
  pub sets : Sets
  pub counts : Counts
  pub steps_on : StepsOn
  pub asks : Asks
  pub splits : Splits
  pub mixes : Mixes
  pub goes_down : GoesDown

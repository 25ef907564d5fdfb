-- What crates below define, passed on to those above.
pub use Rattle.c_runs.specs.Core.{Cores}
pub use Rattle.c_runs.specs.CoreRun.{CoreWorld, Ending, goes_on, then_do, with_eval, in_world, block_end, scope_end, unless, exits, returns, stopped, begun}
pub use Rattle.c_runs.specs.CoreRun.{with_temp, scope_left}
pub use Rattle.c_runs.specs.NormalLaws.{are_core}
pub use Rattle.c_runs.specs.Normal.{normal, normal_function}
pub use Rattle.c_runs.specs.NormalTold.{Check, total, totals, is_met}

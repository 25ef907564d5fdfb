-- What crates below define, passed on to those above.
pub use Rattle.c_runs.specs.CoreRun.{CoreWorld, Ending, goes_on, exits, returns, stopped, begun, then_do, block_end, unless, one_turn, scope_left, scope_end}
pub use Rattle.c_runs.specs.CoreRun.{in_world, with_eval, with_temp}

-- What crates below define, passed on to those above.
pub use Rattle.c_runs.specs.Checks.{checks_of, all_checks, is_pure, are_pure, Check, one_if, index_checks}
pub use Rattle.c_runs.specs.CheckLaws.{settle}
pub use Rattle.c_runs.specs.Tests.{total, totals, is_met, step_test, holds_in}

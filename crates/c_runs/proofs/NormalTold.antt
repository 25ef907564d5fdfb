-- Laws of crates below, passed on to those above.
pub use Rattle.c_runs.proofs.Checking.{checked, operands_same, all_checked}
pub use Rattle.c_runs.proofs.Operators.{at_step, indexed_settle, unless_pointed}
pub use Rattle.c_runs.proofs.Settling.{settle_through, settle_append, last_settle}

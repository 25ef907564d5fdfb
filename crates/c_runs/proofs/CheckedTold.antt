-- Laws of crates below, passed on to those above.
pub use Rattle.c_runs.proofs.Outcomes.{same_outcome}
pub use Rattle.c_runs.proofs.Pureness.{all_core}

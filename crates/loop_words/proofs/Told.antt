-- Laws of crates below, passed on to those above.
pub use Rattle.program_steps.proofs.Starting.{leaf_closed}

-- Laws of crates below, passed on to those above.
pub use Rattle.logic_sources.proofs.Verified.{verified_is_met}

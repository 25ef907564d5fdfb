-- Laws of crates below, passed on to those above.
pub use Rattle.plain_files.proofs.Told.{is_found}

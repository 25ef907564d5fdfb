-- Laws of crates below, passed on to those above.
pub use Rattle.plain_programs.proofs.Variables.{is_found, plain_parts}

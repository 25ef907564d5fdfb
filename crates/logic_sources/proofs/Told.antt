-- Laws of crates below, passed on to those above.
pub use Rattle.plain_sources.proofs.Told.{core_found, body_in, valid_goals_of_texts_run_well, goals_of_texts_are_exact}
pub use Rattle.plain_sources.proofs.Verified.{names_are}

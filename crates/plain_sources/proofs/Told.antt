-- Laws of crates below, passed on to those above.
pub use Rattle.plain_goals.proofs.Files.{core_found, body_in, files_in_order_meet}
pub use Rattle.plain_goals.proofs.Standing.{plain_texts_stand}
pub use Rattle.plain_goals.proofs.Told.{is_found}
pub use Rattle.plain_goals.proofs.Whole.{valid_goals_of_texts_run_well, goals_of_texts_are_exact}

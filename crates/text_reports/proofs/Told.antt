-- Laws of crates below on texts and their reports, passed on to those above.
pub use Rattle.plain_front.proofs.Reading.{no_fault}
pub use Rattle.plain_front.proofs.Told.{verified_is_met}
pub use Rattle.file_reports.proofs.Told.{reports_claim}

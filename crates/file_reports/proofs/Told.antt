-- Laws of crates below, passed on to those above.
pub use Rattle.plain_reports.proofs.Claimed.{reports_claim}

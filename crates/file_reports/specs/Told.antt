-- What crates below define, passed on to those above.
pub use Rattle.plain_reports.specs.Claims.{Claims}
pub use Rattle.plain_reports.specs.Reports.{IsReportOf, report_of}

-- What crates below say of a text and of its report, passed on to those above.
pub use Rattle.plain_front.specs.Text.{Spells, HasFault}
pub use Rattle.plain_front.specs.Told.{IsMet, Source, names_of}
pub use Rattle.file_reports.specs.Told.{IsReportOf, report_of, Claims}
pub use Rattle.file_reports.specs.declared.reports.FileReport.{FileReport}

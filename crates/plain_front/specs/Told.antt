-- What crates below define, passed on to those above.
pub use Rattle.logic_sources.specs.Built.{is_verified, names_of}
pub use Rattle.logic_sources.specs.Told.{Source, IsMet}
unfoldable pub use Rattle.logic_sources.specs.Told.{source_of}

-- What crates below define, passed on to those above.
pub use Rattle.logic_sources.specs.Built.{names_of, spelled_in, texts_in, body_fits}
unfoldable pub use Rattle.logic_sources.specs.Built.{is_verified}

-- What crates below define, passed on to those above.
pub use Rattle.plain_sources.specs.Built.{facts_in, table_in, loops_fit, sets_fit, first_names}
pub use Rattle.plain_sources.specs.Sources.{Source}
unfoldable pub use Rattle.plain_sources.specs.Sources.{source_of}
pub use Rattle.plain_sources.specs.Told.{core_of, names_in, FunctionGoals, own_names, text_at, setting_of_file, written_for, written_by, goals_at, body_goals}
pub use Rattle.plain_sources.specs.Told.{file_goals, IsMet, texts_of_file, written_of, AreExact}

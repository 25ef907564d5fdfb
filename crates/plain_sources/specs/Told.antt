-- What crates below define, passed on to those above.
pub use Rattle.plain_goals.specs.Files.{core_of, names_in, EachMeets, SetsStand, texts_of_file, setting_of_file, FunctionGoals, own_names, text_at}
pub use Rattle.plain_goals.specs.Files.{written_for, written_by, goals_at, body_goals, file_goals, written_of}
pub use Rattle.plain_goals.specs.Laws.{IsMet, AreExact}
pub use Rattle.plain_goals.specs.Told.{IsOfText, notes_of, program_of}

-- What crates below define, passed on to those above.
pub use Rattle.plain_files.specs.Laws.{IsOfText}
pub use Rattle.plain_files.specs.Told.{Text, notes_of, text_of, program_of, file_expanded}

-- What crates below define, passed on to those above.
pub use Rattle.acsl_annotated.specs.Annotated.{file_expanded}
pub use Rattle.plain_programs.specs.Told.{notes_of, result_of, Text, text_of, values_of}
unfoldable pub use Rattle.plain_programs.specs.Told.{program_of}

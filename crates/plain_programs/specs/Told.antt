-- What crates below define, passed on to those above.
pub use Rattle.c_programs.specs.Bodies.{one, then_, whole, initials, initial_of, clauses_at, placed, all_placed, behind, number_of, declared_by, variables_in}
pub use Rattle.c_programs.specs.Bodies.{declared_behind}
pub use Rattle.c_programs.specs.Clauses.{loop_with}
pub use Rattle.c_programs.specs.Clusters.{at}
pub use Rattle.c_programs.specs.Files.{or_none, variable_of, variables_from, Text, values_of, clauses_for, notes_of, text_of, function_with, result_of}
pub use Rattle.c_programs.specs.Files.{notes_in, function_of, functions_from}
unfoldable pub use Rattle.c_programs.specs.Files.{functions_of, program_of}

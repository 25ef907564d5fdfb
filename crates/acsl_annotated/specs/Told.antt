-- What crates below define, passed on to those above.
pub use Rattle.acsl_typing.specs.Annotations.{Annotation, of_function, of_definition, Annotations, Annotating, before_of, enclosing_of, notes_in, notes_of}
pub use Rattle.acsl_typing.specs.Annotations.{contract_of, with_function, bodies_behind, function_annotated, definition_annotated, part_by, part_annotated}
pub use Rattle.acsl_typing.specs.Annotations.{parts_annotated, at_start, finished}
unfoldable pub use Rattle.acsl_typing.specs.Annotations.{file_annotated}

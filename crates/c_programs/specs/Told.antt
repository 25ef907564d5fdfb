-- What crates below define, passed on to those above.
pub use Rattle.acsl_annotated.specs.Told.{Annotations}

-- What crates below define, passed on to those above.
pub use Rattle.goal_segments.specs.Told.{Shape, sizes, shape_of}

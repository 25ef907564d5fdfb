-- What crates below define, passed on to those above.
pub use Rattle.program_steps.specs.Leaves.{after_as}

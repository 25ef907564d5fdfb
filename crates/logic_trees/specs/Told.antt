-- What crates below define, passed on to those above.
pub use Rattle.plain_annotations.specs.Settings.{shared}
pub use Rattle.logic_order.specs.Simple.{node_is_simple, is_simple, are_simple}

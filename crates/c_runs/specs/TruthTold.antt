-- What crates below define, passed on to those above.
pub use Rattle.acsl_trees.specs.Tree.{Tree}
pub use Rattle.acsl_expand.specs.Expansion.{Definition}
pub use Rattle.qed_terms.specs.Operators.{is_zero, is_equal, quotient}

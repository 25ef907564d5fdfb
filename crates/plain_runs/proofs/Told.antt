-- Laws of crates below, passed on to those above.
pub use Rattle.plain_states.proofs.Calling.{some_same}
pub use Rattle.plain_states.proofs.Entering.{when_true, arrives, comes_back}
pub use Rattle.plain_states.proofs.Puts.{equal_is}
pub use Rattle.plain_states.proofs.Scoping.{found_below, listed_integer, cell_of_integer, none_some, content_number, enters_scope}

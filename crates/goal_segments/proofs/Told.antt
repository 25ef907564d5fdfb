-- Laws of crates below, passed on to those above.
pub use Rattle.plain_runs.proofs.Calls.{more_slots, entry_fits, entry_scoped}
pub use Rattle.plain_runs.proofs.Cells.{no_negative}
pub use Rattle.plain_runs.proofs.Objects.{home_is}
pub use Rattle.plain_runs.proofs.Scopes.{zero_of}
pub use Rattle.plain_runs.proofs.Whole.{outer, start, start_fits, same_memory, first_world, all_plain, file_slots}

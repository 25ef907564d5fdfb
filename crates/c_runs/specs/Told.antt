-- What crates below define, passed on to those above.
pub use Rattle.c_runs.specs.TruthStates.{Value, number, number_of, block_of, offset_of, null, pointer, addresses, region, nothing_of}
pub use Rattle.c_runs.specs.Truth.{first, second, value_at, compare, compare_pointers}

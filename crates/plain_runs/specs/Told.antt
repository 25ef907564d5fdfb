-- What crates below define, passed on to those above.
pub use Rattle.plain_states.specs.Scopes.{is_integer, are_one_integer, kind_in, kind_of, IsClean, entry_state, behind_state, scope_state, scope_contents}
pub use Rattle.plain_states.specs.Slots.{State, world_in, core_in, Sizes, at, held, value_slot, local_value, local_flag, temp_slot, local_in, cell_in}
pub use Rattle.plain_states.specs.Slots.{memory_in}

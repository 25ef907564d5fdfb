-- What crates below define, passed on to those above.
pub use Rattle.program_steps.specs.Leaves.{is_closed}
pub use Rattle.program_steps.specs.Temporaries.{Temporaries, no_temporaries, uses, some_use, goal_uses, node_uses, out_at, live, all_live}
pub use Rattle.program_steps.specs.Terms.{reading, same_variable, is_region_of, has_variable}
pub use Rattle.program_steps.specs.Typed.{temporary_kind, scope_at, ValueFits, Takes, Declares, is_closed_item}

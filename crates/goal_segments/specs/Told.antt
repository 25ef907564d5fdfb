-- What crates below define, passed on to those above.
pub use Rattle.plain_runs.specs.Fitting.{Shape, sizes, LeadsTo, to_local, to_global, shape_of, is_param, IsGood, with_name, with_names, Fit, AreOf, IsFlag}
pub use Rattle.plain_runs.specs.Kept.{may_change_global, IsResult, IsScoped, temps, goal_temp}

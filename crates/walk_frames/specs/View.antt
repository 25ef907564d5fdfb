-- What the program holds in memory, as plain values.
use Rattle.std.specs.Prelude.{ℕ, List}
use Rattle.wp_base.specs.declared.kinds.Kind.{Kind}
use Rattle.acsl_trees.specs.Tree.{view_trees}
use Rattle.core_trees.specs.View.{view_variables}
use Rattle.program_trees.specs.View.{view_facts}
use Rattle.c_runs.specs.Program as program
use Rattle.plain_runs.specs.Fitting.{Shape}
use Rattle.program_steps.specs.Temporaries.{Temporaries}
use Rattle.program_steps.specs.Words as words
use Rattle.walk_frames.specs.declared.frames.Frame.{Frame}
use Rattle.walk_frames.specs.declared.frames.Force.{Force}
use Rattle.walk_frames.specs.declared.frames.Force.TheVariants as force
use Rattle.walk_frames.specs.declared.frames.Point.{Point}

abbrev pub facts_in : Frame → program.Facts
facts_in x = view_facts x.facts.now

abbrev pub variables_in : Frame → List program.Variable
variables_in x = view_variables x.variables.now

abbrev pub shape_in : Frame → (kinds : ℕ → Kind) → Shape
shape_in x k = record { variables = variables_in x; temporaries = x.temporaries; temp_kind = k; result = x.result }

abbrev pub view_force : Force → words.Force
view_force force.OfFunction = words.of_function
view_force (force.OfLoop rs n) = words.of_loop (view_trees rs.now) n

abbrev pub view_point : Frame → List Temporaries → Point → words.Point
view_point x os pt = record { self = x.number; entry = pt.entry; loop_entry = pt.loop_entry; outs = os; force = view_force pt.force }

use Rattle.std.proofs.Common.{length, map}
use Rattle.std.specs.Option.{option_map}
use Rattle.c_programs.specs.Clusters.{calls_directly}
use Rattle.program_trees.specs.View.{view_function}
use Rattle.call_clusters.specs.Rows.{AreRows}
use Rattle.call_clusters.proofs.clusters.direct.Given as goal

abbrev pub invariant-loop-caller : goal.invariant-loop-caller
invariant-loop-caller l = AreRows (length l.functions) l.caller (calls_directly (map (option_map view_function) l.functions)) l.rows.items

use Rattle.std.proofs.Common.{length, map}
use Rattle.std.specs.Option.{option_map}
use Rattle.c_programs.specs.Clusters.{calls_directly, reaches_through}
use Rattle.program_trees.specs.View.{view_function}
use Rattle.call_clusters.specs.Rows.{AreRows}
use Rattle.call_clusters.proofs.clusters.reached.Given as goal

abbrev pub invariant-loop-via : goal.invariant-loop-via
invariant-loop-via l = AreRows (length l.functions) (length l.functions) (reaches_through (calls_directly (map (option_map view_function) l.functions)) l.via) l.rows.items

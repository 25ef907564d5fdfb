-- A whole run begins in a good memory, and leaves one.
use Rattle.std.proofs.Common.{Option, Some, None}
use Rattle.wp_base.specs.declared.kinds.CellKind.{CellKind}
use Rattle.wp_base.specs.Blocks.{Table, count}
use Rattle.c_runs.specs.TruthStates.{Value}
use Rattle.c_runs.specs.Program.{Facts}
use Rattle.c_runs.specs.Calls.{Eval, gives, stops}
use Rattle.c_runs.specs.Run as spelled
use Rattle.c_runs.specs.CheckedRun as run
use Rattle.goal_segments.specs.Segments as segments
use Rattle.typed_runs.specs.Kept.{IsResult}
use Rattle.typed_runs.specs.Laws.{LeavesWell, RunsLeaveWell}
use Rattle.typed_runs.proofs.Values.{content_value}
use Rattle.typed_runs.proofs.Calls.{Given, call_given}
use Rattle.typed_runs.proofs.Levels.{levels_keep}

-- a result as segments have it
pub segment_result : (p : Facts) (t : Table) (r : Option CellKind) (v : Value) → IsResult p (count t) r v → segments.IsResult p t r v
segment_result p t None v h = h
segment_result p t (Some k) v h = content_value p t k v h

pub runs_leave_well : RunsLeaveWell
runs_leave_well q fits k g e m good vs args lead n contents =
    by (run.run_function q k vs m n contents)
    (call_given q fits k g e (spelled.outside k q.facts m) vs (spelled.at_first n contents m) good args lead tt (run.levels q n) (levels_keep q fits n) 0) where
      by : (o : Eval) → Given q fits k g e (spelled.outside k q.facts m) vs (spelled.at_first n contents m) good args lead tt o → LeavesWell q g o
      by (gives v w) h = (h.good, segment_result q.facts w.memory.blocks g.result v h.result)
      by (stops x) h = tt

use Rattle.std.proofs.Common.{◌≡◌, ◌++◌, drop}
use Rattle.typed_prog.specs.Tree.{values_of}
use Rattle.typed_prog.specs.View.{view_values}
use Rattle.call_clusters.specs.Callees.{all_callees}
use Rattle.call_clusters.proofs.callees.+value_callees.Given as goal

abbrev pub invariant-put_all_callees-loop-i : goal.invariant-put_all_callees-loop-i
invariant-put_all_callees-loop-i l = l.out ++ all_callees (values_of (view_values (drop l.i l.values))) ≡ l.initial.out ++ all_callees (values_of (view_values l.values))

use Rattle.std.proofs.Common.{◌≡◌, drop}
use Rattle.c_runs.specs.Plans.{need}
use Rattle.typed_prog.specs.Tree.{values_of}
use Rattle.typed_prog.specs.View.{view_values}
use Rattle.value_facts.proofs.needed.+needing.Given as goal

-- what holds of those that are left holds of all
abbrev pub invariant-need-loop-value : goal.invariant-need-loop-value
invariant-need-loop-value l = need (values_of (view_values (drop l.value-index l.values))) ≡ need (values_of (view_values l.values))

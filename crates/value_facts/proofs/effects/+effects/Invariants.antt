use Rattle.std.proofs.Common.{◌≡◌, drop}
use Rattle.c_runs.specs.Values.{have_effect}
use Rattle.typed_prog.specs.Tree.{values_of}
use Rattle.typed_prog.specs.View.{view_values}
use Rattle.value_facts.proofs.effects.+effects.Given as goal

-- what holds of those that are left holds of all
abbrev pub invariant-have_effect-loop-value : goal.invariant-have_effect-loop-value
invariant-have_effect-loop-value l = have_effect (values_of (view_values (drop l.value-index l.values))) ≡ have_effect (values_of (view_values l.values))

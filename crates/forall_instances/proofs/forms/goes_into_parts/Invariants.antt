use Rattle.std.proofs.Common.{◌≡◌, drop}
use Rattle.qed_linear.specs.View.{parts_of}
use Rattle.instance_rows.specs.Triggers.{goes_into_parts}
use Rattle.forall_instances.proofs.forms.goes_into_parts.Given as goal

-- those that are left tell
abbrev pub invariant-loop-at : goal.invariant-loop-at
invariant-loop-at l = goes_into_parts l.by (parts_of l.parts) ≡ goes_into_parts l.by (parts_of (drop l.at l.parts))

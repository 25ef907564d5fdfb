use Rattle.std.proofs.Common.{◌≡◌, ◌+◌, drop}
use Rattle.qed_linear.specs.View.{parts_of}
use Rattle.forall_instances.specs.Forms.{place_in}
use Rattle.forall_instances.proofs.forms.place_in.Given as goal

-- none so far is of the name
abbrev pub invariant-loop-at : goal.invariant-loop-at
invariant-loop-at l = place_in l.name (parts_of l.parts) ≡ l.at + place_in l.name (parts_of (drop l.at l.parts))

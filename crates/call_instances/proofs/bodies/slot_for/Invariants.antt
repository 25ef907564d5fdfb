use Rattle.std.proofs.Common.{◌≡◌, ℕ}
use Rattle.qed_terms.specs.Tree.{Tree}
use Rattle.qed_calls.specs.Calls.{argument_for}
use Rattle.qed_calls.specs.View.{params}
use Rattle.call_instances.specs.Bodies.{in_slots}
use Rattle.call_instances.proofs.BodyLaws.{ArgumentFrom}
use Rattle.call_instances.proofs.bodies.slot_for.Given as goal

-- what is left decides
abbrev pub invariant-loop-at : goal.invariant-loop-at
invariant-loop-at l = (f : ℕ → Tree) → argument_for (params l.names) (in_slots f 0 l.count) l.name l.sort ≡ ArgumentFrom l.names l.count f l.name l.sort l.at

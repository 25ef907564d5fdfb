use Rattle.std.proofs.Common.{◌≡◌, drop}
use Rattle.c_machine.specs.Literals.{first_holding}
use Rattle.c_machine.proofs.literals.first_holding.Given as goal

-- none of the kinds so far holds it
abbrev pub invariant-loop-kind : goal.invariant-loop-kind
invariant-loop-kind l = first_holding l.model l.value (drop l.kind-index l.kinds) ≡ first_holding l.model l.value l.kinds

use Rattle.std.proofs.Common.{◌≡◌, ◌||◌, ℕ, take}
use Rattle.program_steps.specs.Temporaries.{Temporaries, some_use}
use Rattle.typed_prog.specs.Tree.{values_of}
use Rattle.typed_prog.specs.View.{view_values}
use Rattle.walk_live.specs.Bits.{bits}
use Rattle.walk_live.proofs.uses.+uses.Given as goal

abbrev pub invariant-mark_all-loop-value : goal.invariant-mark_all-loop-value
invariant-mark_all-loop-value l =
    (c : ℕ) (f : Temporaries) → l.initial.set.items ≡ bits c f → l.set.items ≡ bits c (λ n. some_use (values_of (view_values (take l.value-index l.values))) n || f n)

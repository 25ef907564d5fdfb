-- A size that 128 bits don't hold is none that `sizeof` can tell.
use Rattle.std.proofs.Common.{◌≡◌, ℤ, Some, None, false, FitsSigned, sym, ap, arith, if◌then◌else◌}
use Rattle.std.proofs.lemmas.Int.{ints}
use Rattle.std.proofs.lemmas.Bool.{false_from_ne_true}
use mir.Syntax.{w128}
use Rattle.wp_base.specs.declared.kinds.Kind.{Kind}
use Rattle.c_kinds.specs.declared.models.Machdep.{Machdep}
use Rattle.c_kinds.specs.Models.{holds}
use Rattle.c_kinds.specs.Numbers.{held}
use Rattle.c_kinds.proofs.Sizes.{small}

pub held_fits : (m : Machdep) (k : Kind) (z : ℤ) → (FitsSigned w128 z → ⊥) → None ≡ held m k z
unfolding held
held_fits m k z large =
    let not_held : holds m k z ≡ false = false_from_ne_true (holds m k z) (λ h. let s = small m k z h in large (omega (arith, ints, s.above, s.below))) in
    ap (λ b. if b then Some z else None) (sym not_held)

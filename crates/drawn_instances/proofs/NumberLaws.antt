-- Numbers that are drawn, where the code hands them on.
use Rattle.std.proofs.Common.{◌≡◌, ℕ, ℤ, to_z, of_z, FitsSigned, ◌∙◌, subst}
use Rattle.std.specs.Prelude.{Result}
use Rattle.std.specs.Int.{w128}
use Rattle.std.proofs.lemmas.Int.{to_z-of_z}
use Rattle.wp_base.specs.declared.memory.NoMemory.{NoMemory}
use Rattle.qed_terms.specs.Tree.{Tree, num}
use Rattle.term_sketches.specs.declared.sketch.Sketch.{Sketch}
use Rattle.term_sketches.specs.Sketches.{Draws}

-- a number that was handed on, and is known to be this one
pub number_kept : (f : ℕ → Tree) (d : Result Sketch NoMemory) (y z : ℤ) → Draws f d (num (to_z w128 (of_z w128 y))) → FitsSigned w128 y → y ≡ z → Draws f d (num z)
number_kept f d y z w k e = let P : ℤ → Type 0 = λ x. Draws f d (num x) in subst P (to_z-of_z w128 y k ∙ e) w

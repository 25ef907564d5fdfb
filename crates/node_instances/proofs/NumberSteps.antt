-- Sums and differences of numbers that the code hands on, drawn as numbers.
use Rattle.std.proofs.Common.{◌≡◌, ℕ, ℤ, to_z, of_z, FitsSigned, ◌∙◌, ap, subst}
use Rattle.std.specs.Prelude.{Result}
use Rattle.std.specs.Int.{w128}
use Rattle.std.proofs.lemmas.Int.{to_z-of_z}
use Rattle.wp_base.specs.declared.memory.NoMemory.{NoMemory}
use Rattle.qed_terms.specs.Tree.{Tree, num}
use Rattle.term_sketches.specs.declared.sketch.Sketch.{Sketch}
use Rattle.term_sketches.specs.Sketches.{Draws}

abbrev seen : ℤ → ℤ
seen z = to_z w128 (of_z w128 z)

pub two_kept : (f : ℕ → Tree) (d : Result Sketch NoMemory) (op : ℤ → ℤ → ℤ) (a b : ℤ) → FitsSigned w128 a → FitsSigned w128 b → FitsSigned w128 (op a b)
    → Draws f d (num (seen (op (seen a) (seen b)))) → Draws f d (num (op a b))
two_kept f d op a b first second both w =
    let same : seen (op (seen a) (seen b)) ≡ op a b =
    ap (λ x. seen (op x (seen b))) (to_z-of_z w128 a first) ∙ ap (λ x. seen (op a x)) (to_z-of_z w128 b second) ∙ to_z-of_z w128 (op a b) both in
    let P : ℤ → Type 0 = λ x. Draws f d (num x) in
    subst P same w

-- The formulas of a quotient by a number, by the sign of the dividend.
use Rattle.std.specs.Prelude.{ℤ, pos, ◌-ℤ◌, [], ◌∷◌}
use Rattle.qed_terms.specs.Tree.{Tree, num, at_most, and_of, or_of}
use Rattle.instance_rows.specs.Rows.{sum_of, product_of, below_zero}

abbrev pub above_zero_case : (k : ℤ) → (q t : Tree) → Tree
above_zero_case k q t =
    or_of (
    below_zero t
    ∷ and_of (
    at_most (num (pos 0)) q ∷ at_most q t ∷ at_most (product_of (num k) q) t ∷ at_most t (sum_of (product_of (num k) q) (num (k -ℤ pos 1))) ∷ []
    )
    ∷ []
    )

abbrev pub smaller_case : (q t : Tree) → Tree
smaller_case q t = or_of (at_most t (num (pos 0)) ∷ at_most (sum_of q (num (pos 1))) t ∷ [])

abbrev pub below_zero_case : (k : ℤ) → (q t : Tree) → Tree
below_zero_case k q t =
    or_of (
    at_most (num (pos 0)) t
    ∷ and_of (
    at_most q (num (pos 0)) ∷ at_most t q ∷ at_most t (product_of (num k) q) ∷ at_most (sum_of (product_of (num k) q) (num (pos 1 -ℤ k))) t ∷ []
    )
    ∷ []
    )

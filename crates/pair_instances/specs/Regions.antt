-- Regions by the slots of their terms. Slot 0 has a block and slot 1 an offset.
use Rattle.std.specs.Prelude.{ℕ, ◌+◌, [], ◌∷◌}
use Rattle.qed_terms.specs.declared.head.Shape.{Shape}
use Rattle.qed_terms.specs.declared.head.Shape.TheVariants as shape
use Rattle.qed_terms.specs.Tree.{Tree, at_most, less, equal, and_of}

-- how many terms a region has
abbrev pub terms_of : Shape → ℕ
terms_of shape.Cells = 3
terms_of shape.New = 1

-- the address lies in these cells
abbrev pub cells_of : (block offset cells low high : Tree) → Tree
cells_of b o c low high = and_of (equal b c ∷ at_most low o ∷ less o high ∷ [])

-- the address lies in the region whose terms stand from this slot on
abbrev pub region_at : Shape → (ℕ → Tree) → ℕ → Tree
region_at shape.Cells f at = cells_of (f 0) (f 1) (f at) (f (at + 1)) (f (at + 2))
region_at shape.New f at = at_most (f at) (f 0)

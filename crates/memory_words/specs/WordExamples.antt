-- Formulas of sets, worked out by hand.
use Rattle.std.specs.Prelude.{◌≡◌, pos, List, [], ◌∷◌, codes}
use Rattle.wp_base.specs.declared.kinds.CellKind.{CellKind}
use Rattle.wp_base.specs.declared.kinds.CellKind.TheVariants as cell
use Rattle.wp_base.specs.declared.kinds.Kind.TheVariants as kind
use Rattle.qed_terms.specs.Tree.{Tree, num, var, equal, at_most, less, and_of, or_of, true_tree}
use Rattle.memory_steps.specs.World.{count_of, table_var}
use Rattle.memory_words.specs.Regions.{RegionTree, cell_inside, regions_inside}

-- ---- regions: the integer at `p`, and a pointer with an integer behind it from cell 2 of block 1 on

abbrev p : Tree
p = var (codes "p:b")

abbrev one_int : RegionTree
one_int = record { cells = cell.Of kind.Int ∷ []; block = p; low = num (pos 0); high = num (pos 1) }

abbrev mixed : RegionTree
mixed = record { cells = cell.Ptr ∷ cell.Of kind.Int ∷ []; block = num (pos 1); low = num (pos 2); high = num (pos 4) }

abbrev e : Tree
e = count_of (table_var (codes "T"))

abbrev q : Tree
q = var (codes "q:b")

abbrev o : Tree
o = var (codes "q:o")

abbrev int : CellKind
int = cell.Of kind.Int

abbrev in_one : Tree
in_one = and_of (equal q p ∷ at_most (num (pos 0)) o ∷ less o (num (pos 1)) ∷ [])

abbrev in_mixed : Tree
in_mixed = and_of (equal q (num (pos 1)) ∷ at_most (num (pos 2)) o ∷ less o (num (pos 4)) ∷ [])

-- the mixed region lies in the set of both
abbrev int_within : Tree
int_within =
    or_of (at_most (num (pos 4)) (num (pos 2)) ∷ at_most e (num (pos 1))
    ∷ and_of (equal (num (pos 1)) p ∷ at_most (num (pos 0)) (num (pos 2)) ∷ at_most (num (pos 4)) (num (pos 1)) ∷ [])
    ∷ and_of (equal (num (pos 1)) (num (pos 1)) ∷ at_most (num (pos 2)) (num (pos 2)) ∷ at_most (num (pos 4)) (num (pos 4)) ∷ []) ∷ [])

abbrev pointer_within : Tree
pointer_within =
    or_of (at_most (num (pos 4)) (num (pos 2)) ∷ at_most e (num (pos 1))
    ∷ and_of (equal (num (pos 1)) (num (pos 1)) ∷ at_most (num (pos 2)) (num (pos 2)) ∷ at_most (num (pos 4)) (num (pos 4)) ∷ []) ∷ [])

pub record WorkedSets : Type 0 where
  -- a region of another kind doesn't count, and a newer block lies in each set
  pub of_int : cell_inside e (one_int ∷ mixed ∷ []) int q o ≡ or_of (in_one ∷ in_mixed ∷ at_most e q ∷ [])
  pub of_pointer : cell_inside e (one_int ∷ mixed ∷ []) cell.Ptr q o ≡ or_of (in_mixed ∷ at_most e q ∷ [])
  pub of_none : cell_inside e [] int q o ≡ at_most e q
  -- one formula for each kind of a region, in the order of kinds
  pub within : regions_inside e (one_int ∷ mixed ∷ []) (mixed ∷ []) ≡ and_of (int_within ∷ pointer_within ∷ [])
  pub nothing_within : regions_inside e (one_int ∷ []) [] ≡ true_tree

-- Why regions of sets have no gaps.
use Rattle.std.specs.Prelude.{◌≡◌, ℕ, true, false, pos, [], ◌∷◌}
use Rattle.wp_base.specs.declared.kinds.CellKind.{CellKind}
use Rattle.wp_base.specs.declared.kinds.CellKind.TheVariants as cell
use Rattle.wp_base.specs.declared.kinds.Kind.TheVariants as kind
use Rattle.c_runs.specs.TruthStates.{Value, region, covers}
use Rattle.c_runs.specs.States.{Granted}
use Rattle.goal_segments.specs.Sets.{region_inside}
use Rattle.c_runs.specs.Program.{Facts}

abbrev integer : CellKind
integer = cell.Of kind.Int

-- one member of each of ten structs with two, from this offset on
abbrev member : (offset : ℕ) → Value
member o = region (integer ∷ []) (record { block = pos 1; offset = pos o; size = pos 2; low = pos 0; high = pos 9 })

abbrev first_members : Granted
first_members = record { regions = member 0 ∷ []; count = pos 2; declared = 0 }

-- four of the other members
abbrev second_members : Value
second_members = region (integer ∷ []) (record { block = pos 1; offset = pos 1; size = pos 2; low = pos 0; high = pos 3 })

-- They count as inside of the first ones, which have none of their cells.
pub record LieInGaps (p : Facts) : Type 0 where
  pub inside : region_inside p first_members second_members ≡ true
  pub inner : covers second_members (pos 1) (pos 1) ≡ true
  pub outer : covers (member 0) (pos 1) (pos 1) ≡ false

abbrev pub OthersLieInGaps : Type 0
OthersLieInGaps = (p : Facts) → LieInGaps p

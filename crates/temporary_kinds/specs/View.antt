-- What is gathered of temporaries, as plain values.
use Rattle.std.specs.Prelude.{◌≡◌, ℕ, List, map, Option, None, length, slice_index_or}
use Rattle.wp_base.specs.declared.kinds.CellKind.{CellKind}
use Rattle.std.specs.Option.{option_map}
use Rattle.checked_trees.specs.declared.files.CheckedFunction.{CheckedFunction}
use Rattle.checked_trees.specs.View.{view_checked_function}
use Rattle.program_trees.specs.Files.{at}
use Rattle.temporary_kinds.specs.Kinds.{or_else, greater, result_of}

-- the kind of a temporary, as far as it was told
abbrev pub kind_at : List (Option CellKind) → (number : ℕ) → Option CellKind
kind_at xs n = slice_index_or xs n None

-- these kinds were told, behind those before, of so many temporaries
pub record Tells (old new : List (Option CellKind)) (kinds : (number : ℕ) → Option CellKind) (count : ℕ) : Type 0 where
  pub kinds_are : (n : ℕ) → kind_at new n ≡ or_else (kind_at old n) (kinds n)
  pub count_is : length new ≡ greater (length old) count

-- what the functions of a program give, by their numbers
abbrev pub results_in : List (Option CheckedFunction) → (function : ℕ) → Option CellKind
results_in fs n = result_of (at (map (option_map view_checked_function) fs) n)

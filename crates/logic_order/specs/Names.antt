-- How a file spells its logic functions with their parameters, and its variables (ACSL 2.6, C11 6.4.2).
use Rattle.std.specs.Prelude.{ℕ, ◌==◌, Bool, not, ◌&&◌, List, [], ◌∷◌, map, slice_get, Option, Some, None}
use Rattle.std.specs.List.{list_all}
use Rattle.std.specs.Str.{bytes_eq}
use Rattle.qed_terms.specs.Setting.{all_differ}
use Rattle.acsl_trees.specs.Tree as acsl
use Rattle.acsl_encode.specs.Binders.{Spelled, mark}
use Rattle.acsl_encode.specs.Told.{Spelling}
use Rattle.plain_annotations.specs.Told.{after_as}
use Rattle.plain_annotations.specs.Settings.{Names}

-- logic functions by their numbers, and variables
pub record FileNames : Type 0 where
  pub functions : List Spelling
  pub variables : List (List ℕ)

-- A number that no logic function has is given a name that no text spells.
abbrev pub unspelled : (number : ℕ) → Spelling
unspelled n = record { name = mark ∷ after_as n []; params = [] }

abbrev pub spelling_or : (number : ℕ) → Option Spelling → Spelling
spelling_or n (Some s) = s
spelling_or n None = unspelled n

abbrev pub spelled_in : List Spelling → (number : ℕ) → Spelling
spelled_in ss n = spelling_or n (slice_get ss n)

-- with the binders of each annotation
abbrev pub names_with : FileNames → (acsl.Tree → Spelled) → Names
names_with names binders = record { functions = spelled_in names.functions; variables = names.variables; binders = binders }

-- ---- tests

-- without the mark that names of binders have
abbrev pub is_unmarked : List ℕ → Bool
is_unmarked x = list_all (λ b. not (b == mark)) x

abbrev pub name_in : Spelling → List ℕ
name_in s = s.name

-- The names of logic functions have no mark, and no two are the same.
abbrev pub are_apart : List Spelling → Bool
are_apart ss = list_all is_unmarked (map name_in ss) && all_differ bytes_eq (map name_in ss)

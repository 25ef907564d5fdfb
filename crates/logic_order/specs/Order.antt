-- Files over plain integers whose logic functions that call themselves are in order (ACSL 2.6.3): a test.
use Rattle.std.specs.Prelude.{ℕ, suc, Bool, true, not, ◌&&◌, if◌then◌else◌, List, [], ◌∷◌, Option}
use Rattle.std.specs.List.{list_all}
use Rattle.acsl_trees.specs.Tree.{Tree}
use Rattle.acsl_expand.specs.Expansion.{Definition}
use Rattle.c_runs.specs.Truth.{kid}
use Rattle.qed_terms.specs.Names.{is_name, is_memory_name}
use Rattle.qed_terms.specs.Setting.{Setting, all_differ, same_param}
use Rattle.c_runs.specs.Program.{Facts}
use Rattle.acsl_encode.specs.Readings.{Named, one, two, Global, integer_global, pointer_global, Called}
use Rattle.acsl_encode.specs.Setting.{params_in}
use Rattle.plain_annotations.specs.Places.{takes_integers, params_of}
use Rattle.plain_annotations.specs.Settings.{told, file_setting, texts_of}
use Rattle.regular_settings.specs.Shapes.{are_shaped_after}
use Rattle.logic_order.specs.Names.{FileNames, names_with, is_unmarked, are_apart}
use Rattle.logic_order.specs.Recursive.{descends}
use Rattle.logic_order.specs.Simple.{is_simple}

-- ---- a function

-- a name of an integer, which no memory and no binder has
abbrev pub name_fits : List ℕ → Bool
name_fits x = is_name x && (not (is_memory_name x) && is_unmarked x)

abbrev pub named_fits : Named → Bool
named_fits (one x) = name_fits x
named_fits (two b o) = name_fits b && name_fits o

abbrev pub global_fits : Global → Bool
global_fits (integer_global n k x) = name_fits x
global_fits (pointer_global n b o) = name_fits b && name_fits o

-- It has a name, and its parameters and the variables of the file that it is given have names that differ.
abbrev pub called_fits : Called → Bool
called_fits c = is_name c.name && (list_all named_fits c.params && (list_all global_fits c.globals && all_differ same_param (params_in c)))

-- its base and its step
abbrev pub has_simple_parts : Tree → Bool
has_simple_parts t = is_simple (kid t 1) && is_simple (kid t 2)

-- It takes integers alone, as an annotation over plain integers gives nothing else; its names fit; it goes down by its last parameter; and its parts are terms
-- over plain integers that bind nothing.
abbrev pub is_function : Facts → (number : ℕ) → Called → Tree → Bool
is_function p n c t = takes_integers p c && (called_fits c && (descends n c.params t && has_simple_parts t))

-- ---- a file

module _ (p : Facts) (names : FileNames) where
  -- how each definition is called, the setting that all of them make, and which of them may be called; whatever the binders of annotations
  abbrev pub told_as : (number : ℕ) → Called
  told_as n = told p (names_with names (λ a. [])) n

  abbrev pub setting_by : Setting
  setting_by = file_setting p (names_with names (λ a. []))

  abbrev pub known_by : (number : ℕ) → Option Called
  known_by = (texts_of p (names_with names (λ a. []))).called

  -- a definition that doesn't call itself is expanded in place
  abbrev pub definition_fits : (number : ℕ) → Definition → Bool
  definition_fits n d = if d.is_recursive then is_function p n (told_as n) d.body else true

  -- those with these numbers on
  abbrev pub all_fit : (number : ℕ) → List Definition → Bool
  all_fit n [] = true
  all_fit n (d ∷ ds) = definition_fits n d && all_fit (suc n) ds

  -- The names of logic functions tell them apart; those that call themselves are as above; and in their bodies stand their own names, functions before them and
  -- themselves one step further down, as the setting of a prover asks.
  unfoldable pub is_in_order : Bool
  is_in_order = are_apart names.functions && (all_fit 0 p.definitions && are_shaped_after [] setting_by.logic)

  -- ---- how many integers each function takes that may be called, by their numbers

  abbrev pub takes_from : (number : ℕ) → List Definition → List (Option ℕ)
  takes_from n [] = []
  takes_from n (d ∷ ds) = params_of p (known_by n) ∷ takes_from (suc n) ds

  unfoldable pub takes_in : List (Option ℕ)
  takes_in = takes_from 0 p.definitions

-- Which sources are verified: those over integers that no pointer leads to, in annotations too, whose logic functions that call themselves are in order.
use Rattle.std.specs.Prelude.{ℕ, ◌==◌, Bool, true, ◌&&◌, List, [], ◌∷◌, Option, Some, None}
use Rattle.std.specs.List.{list_all}
use Rattle.typed_unit.specs.Unit as u
use Rattle.c_runs.specs.Program.{Function, Facts, Program}
use Rattle.c_runs.specs.Tree.{Steps}
use Rattle.plain_test.specs.Plain.{is_plain_file}
use Rattle.plain_annotations.specs.Annotated.{is_annotated}
use Rattle.plain_annotations.specs.Settings.{Names}
use Rattle.program_steps.specs.Terms.{Texts}
use Rattle.slot_names.specs.Bases.{Name, are_fit}
use Rattle.plain_sources.specs.Told.{core_of, texts_of_file, names_in}
use Rattle.plain_trees.specs.Taking.{taking}
use Rattle.binder_names.specs.Tables.{named_in, is_named_table}
use Rattle.plain_sources.specs.Sources.{Source}
use Rattle.plain_sources.specs.Built.{first_names, facts_in, table_in, sets_fit}
use Rattle.logic_order.specs.Names.{FileNames, names_with}
use Rattle.logic_order.specs.Order.{is_in_order, takes_in}
use Rattle.file_spellings.specs.Spelled.{file_names}

-- where logic functions take so many integers
module _ (takes : List (Option ℕ)) where
  -- whether a function's annotations are plain, and its variables have names that differ where they have to
  abbrev pub named_fit : Facts → (file : List Name) → List u.Body → (number : ℕ) → Option (Function Steps) → Bool
  named_fit facts file bs n None = true
  named_fit facts file bs n (Some f) = is_annotated facts (taking takes) f && are_fit file f.params (first_names n bs)

  -- the function of a body does
  abbrev pub fits_in : Program Steps → (file : List Name) → (all : List u.Body) → u.Body → Bool
  fits_in p file bs b = named_fit p.facts file bs b.function (p.functions b.function)

module _ (s : Source) where
  -- the names of its logic functions and variables as they are spelled
  abbrev pub spelled_in : FileNames
  spelled_in = file_names s.typed

  abbrev pub names_of : Names
  names_of = names_with spelled_in (named_in (table_in s))

  abbrev pub texts_in : Texts
  texts_in = texts_of_file s.typed s.annots names_of

  -- its functions fit
  abbrev pub function_fits : (number : ℕ) → Option (Function Steps) → Bool
  function_fits n o = named_fit (takes_in (facts_in s) spelled_in) (facts_in s) (names_in s.typed.file.globals) s.typed.bodies n o

  abbrev pub body_fits : u.Body → Bool
  body_fits b = function_fits b.function ((core_of s.typed s.annots).functions b.function)

  unfoldable pub is_verified : Bool
  is_verified =
      is_plain_file s.typed
      && (is_in_order (facts_in s) spelled_in
      && (is_named_table (table_in s) && (list_all (sets_fit s) s.typed.bodies && list_all body_fits s.typed.bodies)))

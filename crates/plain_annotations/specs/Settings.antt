-- The setting of a file over plain integers: its logic functions that call themselves, made of their definitions (ACSL 2.6.3). The bodies of logic functions
-- bind no names.
use Rattle.std.specs.Prelude.{◌≡◌, ℕ, suc, ℤ, negsuc, Bool, true, not, List, [], ◌∷◌, None}
use Rattle.std.specs.List.{list_all}
use Rattle.typed_prog.specs.declared.operators.Variable.{Variable}
use Rattle.typed_prog.specs.declared.operators.Variable.TheVariants as variables
use Rattle.acsl_trees.specs.Tree as acsl
use Rattle.acsl_expand.specs.Expansion.{Definition}
use Rattle.qed_terms.specs.Setting.{Setting, world_of, is_regular}
use Rattle.c_kinds.specs.Models.{long_bits}
use Rattle.c_runs.specs.Program as program
use Rattle.c_runs.specs.Program.{Facts}
use Rattle.c_runs.specs.States.{hidden}
use Rattle.c_runs.specs.Claims.{struct_cells}
use Rattle.plain_states.specs.Scopes.{kind_of}
use Rattle.program_steps.specs.Told.{Shape}
use Rattle.acsl_encode.specs.Readings.{Global, integer_global, Called, Common}
use Rattle.acsl_encode.specs.Binders.{Spelled, numbered}
use Rattle.acsl_encode.specs.Setting.{setting_of, known_of}
use Rattle.acsl_encode.specs.Told.{Spelling, told_by}
use Rattle.acsl_encode.specs.Regular.{InOrder}
use Rattle.program_steps.specs.Leaves.{after_as}
use Rattle.program_steps.specs.Terms.{Texts}
use Rattle.plain_annotations.specs.Names.{are_c_names}
use Rattle.plain_annotations.specs.Places.{TextsFit}

-- ---- names

-- the variables of the file from this number on, with their names
abbrev pub globals_from : (number : ℕ) → List program.Variable → (names : List (List ℕ)) → List Global
globals_from n [] xs = []
globals_from n (v ∷ vs) [] = integer_global n (kind_of v) [] ∷ globals_from (suc n) vs []
globals_from n (v ∷ vs) (x ∷ xs) = integer_global n (kind_of v) x ∷ globals_from (suc n) vs xs

-- how a file's names are spelled: logic functions with their parameters, variables, and the binders of each annotation
pub record Names : Type 0 where
  pub functions : (number : ℕ) → Spelling
  pub variables : List (List ℕ)
  pub binders : acsl.Tree → Spelled

-- ---- the setting

-- what all annotations of the file have in common
abbrev pub own_block : Facts → Variable → ℤ
own_block p (variables.Global x) = negsuc x
own_block p (variables.Local x) = hidden p x

abbrev pub shared : Facts → Common
shared p = record { model = p.model; structs = struct_cells p; hidden = own_block p; homes = λ n. None; binder = numbered [] }

module _ (p : Facts) (names : Names) where
  -- how each definition is called
  abbrev pub told : (number : ℕ) → Called
  told n = told_by names.functions (globals_from 0 p.globals names.variables) p.definitions n

  abbrev pub file_setting : Setting
  file_setting = setting_of (shared p) told p.definitions

  abbrev pub texts_of : Texts
  texts_of = record { binders = names.binders; called = known_of (shared p) told p.definitions }

-- ---- the law

pub record SettingFits (p : Facts) (names : Names) (s : Shape) : Type 0 where
  pub texts : TextsFit (world_of (file_setting p names)) p s (texts_of p names)
  pub model : (world_of (file_setting p names)).long_bits ≡ long_bits p.model

-- Where the definitions that call themselves are in order, and binders have names of C, the texts are what annotations ask for in this setting.
abbrev pub SettingsFit : Type 0
SettingsFit =
    (p : Facts) (names : Names) (s : Shape) → ((a : acsl.Tree) → are_c_names (names.binders a) ≡ true)
    → InOrder [] (shared p) (told p names) p.definitions → SettingFits p names s

-- ---- files in which no logic function calls itself

abbrev pub calls_none : Definition → Bool
calls_none d = not d.is_recursive

-- names that differ, which stand in no text
abbrev pub nameless : (number : ℕ) → Spelling
nameless n = record { name = after_as n []; params = [] }

abbrev pub plain_names : (acsl.Tree → Spelled) → Names
plain_names binders = record { functions = nameless; variables = []; binders = binders }

pub record PlainSetting (p : Facts) (binders : acsl.Tree → Spelled) (s : Shape) : Type 0 where
  pub fits : SettingFits p (plain_names binders) s
  pub regular : is_regular (file_setting p (plain_names binders)) ≡ true

abbrev pub PlainSettingsFit : Type 0
PlainSettingsFit =
    (p : Facts) (binders : acsl.Tree → Spelled) (s : Shape) → list_all calls_none p.definitions ≡ true → ((a : acsl.Tree) → are_c_names (binders a) ≡ true)
    → PlainSetting p binders s

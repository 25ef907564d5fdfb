-- The goals of a typed file with its annotations: of which setting they are, how names stand in them, and the goals of each body in the order of the text.
use Rattle.std.specs.Prelude.{◌≡◌, ℕ, true, List, [], map, Option, Some, None}
use Rattle.wp_base.specs.declared.kinds.Kind.{Kind}
use Rattle.c_scopes.specs.declared.symbols.Object.{Object}
use Rattle.typed_unit.specs.Unit as u
use Rattle.acsl_trees.specs.Tree as acsl
use Rattle.acsl_typing.specs.Annotations.{Annotations}
use Rattle.qed_terms.specs.Setting.{Setting}
use Rattle.c_runs.specs.Program.{Stmts, Function, Program}
use Rattle.plain_files.specs.Told.{Text, notes_of, text_of, program_of}
use Rattle.c_runs.specs.Normal.{normal}
use Rattle.c_runs.specs.Adding.{add_checks}
use Rattle.c_runs.specs.Tree.{Steps}
use Rattle.plain_runs.specs.Fitting.{Shape, shape_of, is_param}
use Rattle.walk_steps.specs.Walk.{Goal}
use Rattle.program_steps.specs.Temporaries.{no_temporaries}
use Rattle.program_steps.specs.Terms.{Texts}
use Rattle.plain_annotations.specs.Names.{are_c_names}
use Rattle.plain_annotations.specs.Settings.{Names, SettingFits, file_setting, texts_of}
use Rattle.plain_words.specs.Temporaries.{temporaries_in}
use Rattle.plain_words.specs.Standing.{AllStand}
use Rattle.plain_words.specs.Sets.{all_sets_stand}
use Rattle.slot_names.specs.Bases.{Name, slot_bases, are_fit}
use Rattle.program_goals.specs.Words.{Written}
use Rattle.program_goals.specs.Programs.{goals_of}
use Rattle.plain_annotations.specs.Annotated.{is_annotated}

-- ---- names of variables

abbrev pub name_of : Object → Name
name_of o = o.name

abbrev pub names_in : List Object → List Name
names_in os = map name_of os

-- of a function's parameters and locals
abbrev pub own_names : Option Text → List Name
own_names (Some x) = names_in x.body.locals
own_names None = []

-- ---- a function's slots

-- of the file's variables and of its own; its temporaries are of these kinds
abbrev pub written_for : (file own : List Name) → Function Steps → (ℕ → Kind) → Written
written_for gs xs f kinds =
    record { temporaries = temporaries_in f.body; temp_kind = kinds; bases = slot_bases gs f.params xs (temporaries_in f.body) }

abbrev pub written_by : (file own : List Name) → Option (Function Steps) → (ℕ → Kind) → Written
written_by gs xs (Some f) kinds = written_for gs xs f kinds
written_by gs xs None kinds = record { temporaries = 0; temp_kind = kinds; bases = [] }

-- ---- goals

pub record FunctionGoals : Type 0 where
  pub function : ℕ
  pub goals : List Goal

module _ (t : u.Typed) (a : Annotations) where
  -- the core program with its checks
  abbrev pub core_of : Program Steps
  core_of = add_checks (normal (program_of t a))

  abbrev pub text_at : (function : ℕ) → Option Text
  text_at n = text_of n t.bodies (notes_of t.parts a.items)

  module _ (names : Names) where
    abbrev pub setting_of_file : Setting
    setting_of_file = file_setting (program_of t a).facts names

    abbrev pub texts_of_file : Texts
    texts_of_file = texts_of (program_of t a).facts names

    -- the kinds of each function's temporaries, which stand in no goal
    module _ (kinds : (function number : ℕ) → Kind) where
      abbrev pub written_of : (function : ℕ) → Written
      written_of n = written_by (names_in t.file.globals) (own_names (text_at n)) (core_of.functions n) (kinds n)

      abbrev pub goals_at : (function : ℕ) → Option (Function Steps) → List Goal
      goals_at n (Some f) = goals_of setting_of_file core_of texts_of_file n f (written_of n)
      goals_at n None = []

      abbrev pub body_goals : u.Body → FunctionGoals
      body_goals b = record { function = b.function; goals = goals_at b.function (core_of.functions b.function) }

      abbrev pub file_goals : List FunctionGoals
      file_goals = map body_goals t.bodies

    -- ---- what is asked

    -- Its annotations pass the tests, and names are fit.
    pub record FunctionMeets (n : ℕ) (f : Function Steps) : Type 0 where
      pub annotated : is_annotated (program_of t a).facts texts_of_file f ≡ true
      pub named : are_fit (names_in t.file.globals) f.params (own_names (text_at n)) ≡ true

    abbrev pub EachMeets : Type 0
    EachMeets = (n : ℕ) (f : Function Steps) → core_of.functions n ≡ Some f → FunctionMeets n f

    -- Binders have names of C, and in the file's setting its texts are what annotations ask for.
    pub record FileMeets : Type 0 where
      pub binders : (x : acsl.Tree) → are_c_names (names.binders x) ≡ true
      pub settled : (s : Shape) → SettingFits (program_of t a).facts names s
      pub functions : EachMeets

  -- each function's statements have words, with as many temporaries as it sets, of these kinds
  abbrev pub EachStands : (kinds : (function number : ℕ) → Kind) → Type 0
  EachStands kinds =
      (n : ℕ) (f : Function Steps) → core_of.functions n ≡ Some f
      → AllStand core_of.facts (shape_of f (temporaries_in f.body) (kinds n)) core_of.functions (is_param f.params) [] no_temporaries f.body

  -- sets of loops name variables that are in scope
  abbrev pub SetsStand : Type 0
  SetsStand = (n : ℕ) (f : Function Stmts) → (program_of t a).functions n ≡ Some f → all_sets_stand (is_param f.params) f.body ≡ true

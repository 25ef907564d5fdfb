-- What the tests say of the texts of a file.
use Rattle.std.specs.Prelude.{◌≡◌, ℕ, true, List, [], Option, Some, None}
use Rattle.std.specs.List.{list_all}
use Rattle.c_kinds.specs.declared.models.Machdep.{Machdep}
use Rattle.c_kinds.specs.Models.{long_bits}
use Rattle.qed_terms.specs.Setting.{Setting, is_regular}
use Rattle.c_runs.specs.Program.{Function, Facts}
use Rattle.c_runs.specs.Tree.{Steps}
use Rattle.program_trees.specs.Files.{at}
use Rattle.program_steps.specs.Terms.{Texts}
use Rattle.plain_annotations.specs.Annotated.{is_annotated}
use Rattle.plain_annotations.specs.Settings.{Names, calls_none, texts_of, file_setting}
use Rattle.plain_trees.specs.Taking.{taking, Takes, if_annotated}

-- Where functions pass the test by what logic functions take in the texts, they pass it in these texts.
abbrev pub EachIsAnnotated : Type 0
EachIsAnnotated =
    (p : Facts) (texts : Texts) (takes : List (Option ℕ)) → Takes p texts takes → (fs : List (Option (Function Steps))) → list_all (if_annotated p (taking takes)) fs ≡ true
    → (n : ℕ) (f : Function Steps) → at fs n ≡ Some f → is_annotated p texts f ≡ true

-- Where no logic function calls itself, none is called.
abbrev pub NothingIsCalled : Type 0
NothingIsCalled = (p : Facts) (names : Names) → list_all calls_none p.definitions ≡ true → Takes p (texts_of p names) []

-- ---- the setting

-- of a data model, without logic functions
abbrev pub plain_setting : Machdep → Setting
plain_setting m = record { long_bits = long_bits m; logic = [] }

-- Where no logic function calls itself, this is the setting of the file, and its texts have the binders alone; and the setting is regular.
pub record SettingsArePlain : Type 0 where
  pub texts : (p : Facts) (names : Names) → list_all calls_none p.definitions ≡ true → texts_of p names ≡ record { binders = names.binders; called = λ n. None }
  pub same : (p : Facts) (names : Names) → list_all calls_none p.definitions ≡ true → file_setting p names ≡ plain_setting p.model
  pub regular : (m : Machdep) → is_regular (plain_setting m) ≡ true

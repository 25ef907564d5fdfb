-- What is so of files whose logic functions are in order.
use Rattle.std.specs.Prelude.{◌≡◌, ℕ, true, [], None, slice_index_or}
use Rattle.acsl_trees.specs.Tree as acsl
use Rattle.qed_terms.specs.Setting.{is_regular}
use Rattle.c_runs.specs.Program.{Facts}
use Rattle.acsl_encode.specs.Binders.{Spelled}
use Rattle.acsl_encode.specs.Regular.{InOrder}
use Rattle.plain_annotations.specs.Settings.{shared, told, file_setting, texts_of}
use Rattle.plain_annotations.specs.Places.{params_of}
use Rattle.logic_order.specs.Names.{FileNames, names_with}
use Rattle.logic_order.specs.Order.{is_in_order, takes_in}

-- Then formulas have the values of the definitions, and the setting is one that the prover takes.
pub record OrderIsMet (p : Facts) (names : FileNames) (binders : acsl.Tree → Spelled) : Type 0 where
  pub ordered : InOrder [] (shared p) (told p (names_with names binders)) p.definitions
  pub regular : is_regular (file_setting p (names_with names binders)) ≡ true

abbrev pub FilesInOrder : Type 0
FilesInOrder = (p : Facts) (names : FileNames) (binders : acsl.Tree → Spelled) → is_in_order p names ≡ true → OrderIsMet p names binders

-- Functions that may be called take so many integers.
abbrev pub FunctionsTake : Type 0
FunctionsTake =
    (p : Facts) (names : FileNames) (binders : acsl.Tree → Spelled) (f : ℕ)
    → params_of p ((texts_of p (names_with names binders)).called f) ≡ slice_index_or (takes_in p names) f None

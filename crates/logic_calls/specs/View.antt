-- Names of a file, as they are in memory.
use Rattle.std.specs.Prelude.{◌≡◌, ℕ, Bool, List, [], ◌∷◌, map, if◌then◌else◌, Option, Some, None, slice_index_or}
use Rattle.annotation_words.specs.View.{view_named, view_called}
use Rattle.annotation_words.specs.declared.readings.Called.{Called}
use Rattle.acsl_encode.specs.Readings as r
use Rattle.acsl_encode.specs.Told as told
use Rattle.logic_order.specs.Names as names
use Rattle.logic_calls.specs.declared.names.Spelling.{Spelling}
use Rattle.logic_calls.specs.declared.names.FileNames.{FileNames}

abbrev pub view_spelling : Spelling → told.Spelling
view_spelling s = record { name = s.name; params = map view_named s.params }

abbrev pub view_names : FileNames → names.FileNames
view_names x = record { functions = map view_spelling x.functions; variables = x.variables }

-- none where the function isn't spelled, which then has no parameters
abbrev pub IsTold : Option Called → r.Called → Type 0
IsTold (Some c) t = view_called c ≡ t
IsTold None t = t.params ≡ []

-- one, or none
abbrev pub one_if : {X : Type 0} → Bool → X → List X
one_if b x = if b then x ∷ [] else []

abbrev pub name_at : List (List ℕ) → ℕ → List ℕ
name_at xs i = slice_index_or xs i []

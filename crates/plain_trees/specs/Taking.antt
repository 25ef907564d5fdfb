-- What annotations may name, by how many integers logic functions take.
use Rattle.std.specs.Prelude.{◌≡◌, ℕ, zero, suc, Bool, true, List, [], ◌∷◌, Option, Some, None, slice_index_or}
use Rattle.wp_base.specs.declared.kinds.CellKind.{CellKind}
use Rattle.wp_base.specs.declared.kinds.Kind.TheVariants as kind
use Rattle.c_runs.specs.Program.{Variable, Claim, Behavior, Function, Facts}
use Rattle.c_runs.specs.Tree.{Steps}
use Rattle.plain_runs.specs.Fitting.{Shape}
use Rattle.acsl_encode.specs.Readings.{Named, one, Called}
use Rattle.program_steps.specs.Terms.{Texts}
use Rattle.plain_annotations.specs.Places.{params_of}
use Rattle.plain_annotations.specs.Claims.{is_claim}
use Rattle.plain_annotations.specs.Clauses.{is_set}
use Rattle.plain_annotations.specs.Annotated.{is_annotated}

-- ---- texts

abbrev pub some_names : (count : ℕ) → List Named
some_names zero = []
some_names (suc n) = one [] ∷ some_names n

abbrev pub called_taking : Option ℕ → Option Called
called_taking None = None
called_taking (Some n) = Some (record { name = []; params = some_names n; memories = []; globals = [] })

-- texts in which each logic function takes so many integers and nothing else, if it may be called, by their numbers
abbrev pub taking : List (Option ℕ) → Texts
taking takes = record { binders = λ a. []; called = λ f. called_taking (slice_index_or takes f None) }

-- in these texts logic functions take so many
abbrev pub Takes : Facts → Texts → List (Option ℕ) → Type 0
Takes p texts takes = (f : ℕ) → params_of p (texts.called f) ≡ slice_index_or takes f None

-- ---- functions

-- of a function with these variables and this result; annotations speak of no temporaries
abbrev pub shape_with : List Variable → (gives : Option CellKind) → Shape
shape_with xs o = record { variables = xs; temporaries = 0; temp_kind = λ n. kind.Int; result = o }

abbrev pub claim_fits : Facts → Texts → (own : List Variable) → (has_result : Bool) → Claim → Bool
claim_fits p texts own result c = is_claim p texts own result c.what

-- variables of the file alone
abbrev pub assigns_file : Facts → Behavior → Bool
assigns_file p b = is_set p [] b.assigns

abbrev pub if_annotated : Facts → Texts → Option (Function Steps) → Bool
if_annotated p texts (Some f) = is_annotated p texts f
if_annotated p texts None = true

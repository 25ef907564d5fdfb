-- What annotations of a function over plain integers may name (ACSL 2.2, 2.3.1).
use Rattle.std.specs.Prelude.{◌≡◌, ℕ, Bool, true, false, ◌&&◌, if◌then◌else◌, List, [], ◌∷◌, length, Option, Some, None, slice_get}
use Rattle.std.specs.Option.{is_some}
use Rattle.std.specs.List.{list_all}
use Rattle.wp_base.specs.declared.kinds.Kind.{Kind}
use Rattle.c_kinds.specs.declared.models.Machdep.{Machdep}
use Rattle.c_kinds.specs.Conversions.{holds_all}
use Rattle.typed_prog.specs.declared.operators.Variable.{Variable}
use Rattle.typed_prog.specs.declared.operators.Variable.TheVariants as variables
use Rattle.acsl_trees.specs.Tree as acsl
use Rattle.c_runs.specs.Truth.{calls_of}
use Rattle.qed_terms.specs.Meaning as sense
use Rattle.qed_terms.specs.Names.{is_name}
use Rattle.c_runs.specs.Program as program
use Rattle.c_runs.specs.Program.{Facts}
use Rattle.plain_states.specs.Scopes.{kind_of}
use Rattle.program_steps.specs.Told.{Shape}
use Rattle.acsl_encode.specs.Readings.{Named, one, two, Global, integer_global, pointer_global, Called}
use Rattle.acsl_encode.specs.Calls.{CallsStand}
use Rattle.program_steps.specs.Terms.{Texts, common_of}
use Rattle.plain_annotations.specs.Plain.{Place}
use Rattle.plain_annotations.specs.Names.{are_c_names}

-- ---- logic functions that call themselves

abbrev pub is_one : Named → Bool
is_one (one x) = true
is_one (two b o) = false

abbrev pub are_none : {X : Type 0} → List X → Bool
are_none [] = true
are_none (x ∷ xs) = false

abbrev pub holds_kind : Machdep → Kind → Option program.Variable → Bool
holds_kind m k (Some v) = holds_all m k (kind_of v)
holds_kind m k None = false

-- a variable of the file, of a kind that holds its values
abbrev pub is_given : Facts → Global → Bool
is_given p (integer_global n k x) = holds_kind p.model k (slice_get p.globals n)
is_given p (pointer_global n b o) = false

abbrev pub takes_integers : Facts → Called → Bool
takes_integers p c = list_all is_one c.params && (are_none c.memories && list_all (is_given p) c.globals)

-- how many integers it takes, if it takes nothing else
abbrev pub params_of : Facts → Option Called → Option ℕ
params_of p (Some c) = if takes_integers p c then Some (length c.params) else None
params_of p None = None

-- ---- functions

abbrev pub is_known : Facts → (own : List program.Variable) → Variable → Bool
is_known p own (variables.Global x) = is_some (slice_get p.globals x)
is_known p own (variables.Local x) = is_some (slice_get own x)

-- variables of the file and these, and the result or not
abbrev pub place_over : Facts → Texts → (own : List program.Variable) → (has_result : Bool) → Place
place_over p texts own result = record { variables = is_known p own; has_result = result; params = λ f. params_of p (texts.called f) }

-- ---- what isn't known of a program without its texts

-- Binders have names of C, logic functions have names, and in the setting of formulas they have the values that their definitions give.
pub record TextsFit (m : sense.World) (p : Facts) (s : Shape) (texts : Texts) : Type 0 where
  pub binders : (a : acsl.Tree) → are_c_names (texts.binders a) ≡ true
  pub called : (n : ℕ) (c : Called) → texts.called n ≡ Some c → is_name c.name ≡ true
  pub calls : (a : acsl.Tree) → CallsStand m.apps (calls_of p.definitions) (common_of p s texts a) texts.called

-- A typed annotation whose definitions are expanded gives what it gives with its calls (ACSL 2.6).
use Rattle.std.specs.Prelude.{◌≡◌, ◌<◌, ℕ, suc, true, false, List, [], length, take, Some, slice_get}
use Rattle.typed_prog.specs.declared.types.CoreType.{CoreType}
use Rattle.typed_prog.specs.Types.{void}
use Rattle.acsl_trees.specs.Tree.{Tree}
use Rattle.acsl_names.specs.declared.names.Definition.{Definition as Declared}
use Rattle.acsl_expand.specs.Expansion.{Definition, definition_at, expanded}
use Rattle.c_runs.specs.TruthLaws.{Signatures, are_definitions, is_well_formed}
use Rattle.acsl_well_typed.specs.WellTyped.{What, a_pointer, Names, types_give, result_gives, what_of}
use Rattle.acsl_well_typed.specs.Definitions.{known_with}

-- The definition with this number, which doesn't call itself, is of its result under its parameters, by those before it and its own. Where it gives a pointer
-- it has to be so by those before it alone: a call of itself is expanded to 0.
pub record BodyIsTyped (known : List Declared) (ds : List Definition) (n : ℕ) : Type 0 where
  pub declared : Declared
  pub found : slice_get known n ≡ Some declared
  pub names : Names
  pub params : types_give declared.params ≡ Some names
  pub given : What
  pub result : result_gives declared.result ≡ Some given
  pub body : what_of (known_with true (take (suc n) known) void) names (definition_at ds n).body ≡ Some given
  pub pointers : given ≡ a_pointer → what_of (known_with true (take n known) void) names (definition_at ds n).body ≡ Some given

-- of each that doesn't call itself
abbrev pub BodiesAreTyped : List Declared → List Definition → Type 0
BodiesAreTyped known ds = (n : ℕ) → n < length ds → (definition_at ds n).is_recursive ≡ false → BodyIsTyped known ds n

abbrev pub ExpansionKeepsTypes : Type 0
ExpansionKeepsTypes =
    (known : List Declared) (result : CoreType) (s : Signatures) (ds : List Definition) → length known ≡ length ds → are_definitions s ds (length ds) ≡ true
    → BodiesAreTyped known ds → (t : Tree) (w : What) → what_of (known_with true known result) [] t ≡ Some w → is_well_formed true true s 0 t ≡ true
    → what_of (known_with true known result) [] (expanded ds t) ≡ Some w

-- Logic functions that are in order, and the law that their formulas have the values of their definitions (ACSL 2.6.3).
use Rattle.std.specs.Prelude.{◌≡◌, ℕ, true, List, [], ◌∷◌, ◌++◌, length}
use Rattle.acsl_trees.specs.Tree.{Tree}
use Rattle.acsl_expand.specs.Expansion.{Definition, definition_at}
use Rattle.c_runs.specs.Truth.{calls_of}
use Rattle.c_runs.specs.Recursion.{IsRecursion}
use Rattle.qed_terms.specs.Fresh.{Lacks}
use Rattle.qed_terms.specs.Names.{is_name}
use Rattle.qed_terms.specs.Setting.{all_differ, same_param, world_of}
use Rattle.qed_terms.specs.Tree.{var}
use Rattle.acsl_encode.specs.Readings.{Named, one, two, Global, integer_global, pointer_global, Called, Common}
use Rattle.acsl_encode.specs.Binders.{Spelled, mark, numbered, AllLack}
use Rattle.acsl_encode.specs.Calls.{CallsStand}
use Rattle.acsl_encode.specs.WellFormed.{IsInt}
use Rattle.acsl_encode.specs.Setting.{params_in, setting_of, known_of}

abbrev pub AllOf : {X : Type 0} → (X → Type 0) → List X → Type 0
AllOf p [] = Unit {0}
AllOf p (x ∷ xs) = p x × AllOf p xs

-- a name of an integer, that no memory and no binder has
pub record NameFits (x : List ℕ) : Type 0 where
  pub fits : IsInt (var x)
  pub unmarked : Lacks mark x

abbrev pub NamedFits : Named → Type 0
NamedFits (one x) = NameFits x
NamedFits (two b o) = NameFits b × NameFits o

abbrev pub GlobalFits : Global → Type 0
GlobalFits (integer_global n k x) = NameFits x
GlobalFits (pointer_global n b o) = NameFits b × NameFits o

-- all that the function is given has names of its own
pub record CalledFits (c : Called) : Type 0 where
  pub name : is_name c.name ≡ true
  pub params : AllOf NamedFits c.params
  pub globals : AllOf GlobalFits c.globals
  pub differ : all_differ same_param (params_in c) ≡ true

-- The last parameter is an integer, and the body calls the function in the step alone, with this parameter one less.
pub record Descends (n : ℕ) (c : Called) (t : Tree) : Type 0 where
  pub front : List Named
  pub last : List ℕ
  pub params : c.params ≡ front ++ one last ∷ []
  pub recursion : IsRecursion n (length front) t

-- `told` is how each definition is called
pub record InOrder (names : Spelled) (r : Common) (told : ℕ → Called) (ds : List Definition) : Type 0 where
  pub called : (n : ℕ) → (definition_at ds n).is_recursive ≡ true → CalledFits (told n)
  pub differ : (i j : ℕ) → (told i).name ≡ (told j).name → i ≡ j
  pub recursions : (n : ℕ) → (definition_at ds n).is_recursive ≡ true → Descends n (told n) (definition_at ds n).body
  pub spelled : AllLack names
  pub binders : (n : ℕ) → r.binder n ≡ numbered names n
  pub binders_fit : (n : ℕ) → IsInt (var (r.binder n))

-- In the setting of their definitions, logic functions that are in form have the values that the definitions give.
abbrev pub SettingStands : Type 0
SettingStands =
    (names : Spelled) (r : Common) (told : ℕ → Called) (ds : List Definition) → InOrder names r told ds
    → CallsStand (world_of (setting_of r told ds)).apps (calls_of ds) r (known_of r told ds)

-- What is so of terms and words.
use Rattle.std.specs.Prelude.{◌≡◌, Bool, true, List, [], ◌∷◌}
use Rattle.std.specs.List.{list_all}
use Rattle.typed_prog.specs.Tree as t
use Rattle.qed_terms.specs.Meaning as m
use Rattle.qed_terms.specs.Tree.{Tree}
use Rattle.qed_terms.specs.WellFormed.{fits, formula}
use Rattle.c_runs.specs.Program.{Facts, Variable}
use Rattle.c_runs.specs.States.{World, is_nonzero}
use Rattle.c_runs.specs.Values.{Temps}
use Rattle.c_runs.specs.Checks.{Check, checks_of}
use Rattle.c_runs.specs.Tests.{total, is_met}
use Rattle.value_terms.specs.Readings as readings
use Rattle.value_terms.specs.Readings.{condition, Reading, term_fits}
use Rattle.value_terms.specs.Terms.{term_of}
use Rattle.value_terms.specs.Words.{Item, asked, known, formula_of, checks_in, word_of}
use Rattle.value_terms.specs.Typed.{Scope, kind_given, IsTyped}
use Rattle.value_terms.specs.Worlds.{IsOf, HoldsKinds, Means, Stands}

-- ---- values

abbrev pub all_met : Facts → List Variable → Temps → World → t.Value → Bool
all_met p xs tm w e = list_all (is_met p xs tm w e) (checks_of xs e)

-- Where variables hold values of their kinds, an expression whose checks are met has a value of its kind.
abbrev pub ValuesAreOfKind : Type 0
ValuesAreOfKind =
    (p : Facts) (xs : List Variable) (s : Scope) (tm : Temps) (w : World) → HoldsKinds p xs s tm w
    → (e : t.Value) → IsTyped p xs s e → all_met p xs tm w e ≡ true → IsOf p w (kind_given (t.type_of e)) (total p xs tm w e)

-- ---- terms

-- where the reading stands for the world
pub record Stood (mw : m.World) (env : m.Values) (r : Reading) (p : Facts) (xs : List Variable) (s : Scope) (tm : Temps) (w : World) : Type 0 where
  pub kinds : HoldsKinds p xs s tm w
  pub stands : Stands mw env r p xs s tm w

-- An expression's term means its value, and its condition is true exactly where the value isn't 0.
pub record IsMeant (mw : m.World) (env : m.Values) (r : Reading) (p : Facts) (xs : List Variable) (tm : Temps) (w : World) (e : t.Value) : Type 0 where
  pub term : Means mw env (term_of p xs r e) (total p xs tm w e)
  pub condition : m.truth mw env (condition (term_of p xs r e)) ≡ is_nonzero (total p xs tm w e)

abbrev pub TermsMeanValues : Type 0
TermsMeanValues =
    (mw : m.World) (env : m.Values) (r : Reading) (p : Facts) (xs : List Variable) (s : Scope) (tm : Temps) (w : World) → Stood mw env r p xs s tm w
    → (e : t.Value) → IsTyped p xs s e → all_met p xs tm w e ≡ true → IsMeant mw env r p xs tm w e

-- ---- words

-- Behind checks that are met, the formula of a check is true exactly where it is met, and what joins what is known is true.
abbrev pub Says : (is_so : Tree → Bool) → (met : Check → Bool) → List Item → Type 0
Says is_so met [] = Unit {0}
Says is_so met (asked c f ∷ is) = (is_so f ≡ met c) × (met c ≡ true → Says is_so met is)
Says is_so met (known f ∷ is) = (is_so f ≡ true) × Says is_so met is

abbrev pub FormulasMeanChecks : Type 0
FormulasMeanChecks =
    (mw : m.World) (env : m.Values) (r : Reading) (p : Facts) (xs : List Variable) (s : Scope) (tm : Temps) (w : World) → Stood mw env r p xs s tm w
    → (e : t.Value) → IsTyped p xs s e → Says (m.truth mw env) (is_met p xs tm w e) (word_of p xs r e)

-- a word has the checks of its expression, in order
abbrev pub WordsHaveTheChecks : Type 0
WordsHaveTheChecks = (p : Facts) (xs : List Variable) (r : Reading) (e : t.Value) → checks_in (word_of p xs r e) ≡ checks_of xs e

-- ---- well formed

-- All terms and formulas that are made of a well formed reading are well formed.
pub record IsWellFormed (p : Facts) (xs : List Variable) (r : Reading) (e : t.Value) : Type 0 where
  pub term : term_fits (term_of p xs r e) ≡ true
  pub condition : fits formula (condition (term_of p xs r e)) ≡ true
  pub word : list_all (λ i. fits formula (formula_of i)) (word_of p xs r e) ≡ true

abbrev pub AllIsWellFormed : Type 0
AllIsWellFormed = (p : Facts) (xs : List Variable) (r : Reading) → readings.IsWellFormed r → (e : t.Value) → IsWellFormed p xs r e

-- ---- readings there are

-- a well formed reading that stands for the world, under some values of its names
pub record HasReading (p : Facts) (xs : List Variable) (s : Scope) (tm : Temps) (w : World) : Type 0 where
  pub world : m.World
  pub values : m.Values
  pub reading : Reading
  pub stood : Stood world values reading p xs s tm w
  pub well_formed : readings.IsWellFormed reading

-- Each world whose variables and cells hold values of their kinds has one, so that what is said of readings is said of each such world.
abbrev pub WorldsHaveReadings : Type 0
WorldsHaveReadings = (p : Facts) (xs : List Variable) (s : Scope) (tm : Temps) (w : World) → HoldsKinds p xs s tm w → HasReading p xs s tm w

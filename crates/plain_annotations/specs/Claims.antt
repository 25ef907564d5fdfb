-- Annotations over plain integers are what the words of functions ask for (ACSL 2.3, 2.4, 2.5): tests of them, and the laws.
use Rattle.std.specs.Prelude.{◌≡◌, ℕ, Bool, true, false, List}
use Rattle.std.specs.Option.{is_some}
use Rattle.acsl_trees.specs.Tree as acsl
use Rattle.qed_terms.specs.Meaning as sense
use Rattle.c_runs.specs.Program as program
use Rattle.c_runs.specs.Program.{Facts}
use Rattle.program_steps.specs.Told.{Shape}
use Rattle.program_steps.specs.Terms.{Texts}
use Rattle.program_steps.specs.Placed.{InSetting}
use Rattle.program_steps.specs.Typed.{ClaimFits, MeasureFits}
use Rattle.program_steps.specs.Functions.{ReturnFits}
use Rattle.plain_annotations.specs.Plain.{is_plain}
use Rattle.plain_annotations.specs.Places.{place_over, TextsFit}

-- ---- tests

-- over plain integers, with these variables of the function around and `\result` or not
abbrev pub is_claim : Facts → Texts → (own : List program.Variable) → (has_result : Bool) → acsl.Tree → Bool
is_claim p texts own result a = is_plain (place_over p texts own result) 0 a

-- in the body of a function and at its entry, and where it returns
abbrev pub is_body_claim : Facts → Texts → Shape → acsl.Tree → Bool
is_body_claim p texts s a = is_claim p texts s.variables false a

abbrev pub is_promise : Facts → Texts → Shape → acsl.Tree → Bool
is_promise p texts s a = is_claim p texts s.variables (is_some s.result) a

-- ---- the laws

module _ (m : sense.World) (p : Facts) (s : Shape) (texts : Texts) where
  -- in all levels, as a predicate and as a number
  pub record BodyFits (a : acsl.Tree) : Type 0 where
    pub claim : (here entry loop_entry : ℕ) → ClaimFits m p s texts a here entry loop_entry
    pub measure : (here entry loop_entry : ℕ) → MeasureFits m p s texts a here entry loop_entry

abbrev pub ClaimsFit : Type 0
ClaimsFit =
    (m : sense.World) (p : Facts) (s : Shape) (texts : Texts) → InSetting m p s → TextsFit m p s texts → (a : acsl.Tree) → is_body_claim p texts s a ≡ true
    → BodyFits m p s texts a

abbrev pub PromisesFit : Type 0
PromisesFit =
    (m : sense.World) (p : Facts) (s : Shape) (texts : Texts) → InSetting m p s → TextsFit m p s texts → (a : acsl.Tree) → is_promise p texts s a ≡ true
    → ReturnFits m p s texts a

-- What is so of checks.
use Rattle.std.specs.Prelude.{◌≡◌, ℕ, Bool, true, false, if◌then◌else◌, List, [], ◌∷◌}
use Rattle.typed_prog.specs.Tree as t
use Rattle.c_runs.specs.Told.{Value}
use Rattle.c_runs.specs.Program.{Facts, Variable}
use Rattle.c_runs.specs.States.{World}
use Rattle.c_runs.specs.Operators.{Undefined, Val, is, wrong}
use Rattle.c_runs.specs.Values.{Temps, value}
use Rattle.c_runs.specs.Checks.{Check, checks_of, is_pure}
use Rattle.c_runs.specs.Tests.{total, is_met}

-- the value, or what the first check that isn't met says
abbrev pub settle : {X : Type 0} → List Check → (Check → Bool) → (Undefined → (line : ℕ) → X) → X → X
settle [] test bad x = x
settle (c ∷ cs) test bad x = if test c then settle cs test bad x else bad c.kind c.line

-- An expression of a core program has its total value where all its checks are met; else it is undefined, of the kind and at the line of the first check that
-- isn't.
abbrev pub Checked : Type 0
Checked =
    (p : Facts) (xs : List Variable) (e : t.Value) → is_pure e ≡ true → (tm : Temps) (d : Value) (w : World)
    → value p xs tm d w e ≡ settle (checks_of xs e) (is_met p xs tm w e) wrong (is (total p xs tm w e))

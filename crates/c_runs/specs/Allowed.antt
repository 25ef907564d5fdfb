-- What a function may change by its clauses (ACSL 2.3.2), in the words of annotations: what a whole run changes, beside each single write.
use Rattle.std.specs.Prelude.{◌≡◌, ℕ, Bool, true, false, List, [], ◌∷◌, Option, Some, None}
use Rattle.c_runs.specs.TruthTold.{Tree}
use Rattle.c_runs.specs.TruthStates.{Value, State, World}
use Rattle.c_runs.specs.TruthAllowed.{Allows}
use Rattle.c_runs.specs.Program.{Behavior, Contract, Facts}
use Rattle.c_runs.specs.States.{Memory, seen_by_contract}
use Rattle.c_runs.specs.Claims.{at_entry, is_assumed, regions_of, parts_of}

-- without a clause, anything may change
abbrev pub SetAllows : Facts → World → Option (List Tree) → (before behind : State) → Type 0
SetAllows p w None s t = Unit {0}
SetAllows p w (Some ts) s t = Allows (regions_of p w ts) s t

-- by each clause whose assumptions held before
abbrev pub PartAllows : Facts → World → Behavior → (before behind : State) → Type 0
PartAllows p w b s t = (is_assumed p w b ≡ true) → SetAllows p w b.assigns s t

abbrev pub AllAllow : Facts → World → List Behavior → (before behind : State) → Type 0
AllAllow p w [] s t = Unit {0}
AllAllow p w (b ∷ bs) s t = PartAllows p w b s t × AllAllow p w bs s t

-- of a function that was called with these arguments in the first memory
abbrev pub MayChange : Facts → Contract → (arguments : List Value) → (before behind : Memory) → Type 0
MayChange p c vs m n = AllAllow p (at_entry p vs m) (parts_of c) (seen_by_contract p vs m) (seen_by_contract p vs n)

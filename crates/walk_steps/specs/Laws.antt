-- What the goals of steps say of their runs.
use Rattle.std.specs.Prelude.{◌≡◌, ℕ, zero, suc, ℤ, false, List, [], ◌∷◌, map, length}
use Rattle.qed_terms.specs.Tree.{num, var}
use Rattle.qed_terms.specs.Fresh.{none_used}
use Rattle.qed_terms.specs.Meaning.{Values, truth}
use Rattle.qed_terms.specs.Setting.{Setting, world_of, IsBounded, Valid}
use Rattle.walk_steps.specs.State.{State, AllTrue, In}
use Rattle.walk_steps.specs.Forms.{Slots, Form, written_forms, told_forms, AreForms, state_of}
use Rattle.walk_steps.specs.Step.{Step, places, count, IsGood}
use Rattle.walk_steps.specs.Run.{fails, Seg}
use Rattle.walk_steps.specs.World.{AreBases, World, world}
use Rattle.walk_steps.specs.Walk.{Goal, formula_of, walk}

-- ---- the start

-- what a slot has there: any integer, under the slot's own name, or this number
pub data Origin : Type 0 where
  own : Origin
  fixed : (z : ℤ) → Origin

-- the slots, and what is known of them
pub record Start : Type 0 where
  pub origins : List Origin
  pub facts : List Form

abbrev pub IsFrom : List Origin → State → Type 0
IsFrom [] [] = Unit {0}
IsFrom [] (z ∷ zs) = ⊥
IsFrom (o ∷ os) [] = ⊥
IsFrom (own ∷ os) (z ∷ zs) = IsFrom os zs
IsFrom (fixed y ∷ os) (z ∷ zs) = (z ≡ y) × IsFrom os zs

-- a state in which a run may start
pub record Starts (e : Start) (st : State) : Type 0 where
  pub from : IsFrom e.origins st
  pub facts : AllTrue (told_forms (st ∷ []) e.facts)

abbrev pub start_slots : (bases : List (List ℕ)) → List Origin → Slots
start_slots bases [] = []
start_slots [] (o ∷ os) = []
start_slots (b ∷ bases) (own ∷ os) = var b ∷ start_slots bases os
start_slots (b ∷ bases) (fixed z ∷ os) = num z ∷ start_slots bases os

-- no slot from these on has this own name
abbrev pub Away : List ℕ → (bases : List (List ℕ)) → List Origin → Type 0
Away x bases [] = Unit {0}
Away x [] (o ∷ os) = Unit {0}
Away x (b ∷ bases) (own ∷ os) = (x ≡ b → ⊥) × Away x bases os
Away x (b ∷ bases) (fixed z ∷ os) = Away x bases os

-- own names differ; two slots may have one base else
abbrev pub OwnDiffer : (bases : List (List ℕ)) → List Origin → Type 0
OwnDiffer bases [] = Unit {0}
OwnDiffer [] (o ∷ os) = Unit {0}
OwnDiffer (b ∷ bases) (own ∷ os) = Away b bases os × OwnDiffer bases os
OwnDiffer (b ∷ bases) (fixed z ∷ os) = OwnDiffer bases os

-- what the laws ask of the slots, the start and the steps
pub record AreFit (s : Setting) (bases : List (List ℕ)) (e : Start) (a : Step) : Type 0 where
  pub size : length e.origins ≡ length bases
  pub names : AreBases bases
  pub own : OwnDiffer bases e.origins
  pub facts : AreForms (world_of s) e.facts
  pub step : IsGood (world_of s) a

-- ---- the goals

abbrev pub start_world : (bases : List (List ℕ)) → Start → World
start_world bases e = let ts = start_slots bases e.origins in world (written_forms (ts ∷ []) e.facts) ts

abbrev pub goals : (bases : List (List ℕ)) → Start → Step → List Goal
goals bases e a = (walk bases [] zero a none_used (start_world bases e)).goals

abbrev pub Fails : Start → Step → State → ℕ → Type 0
Fails e a st i = Starts e st × Seg [] zero a st (fails i)

abbrev pub NoneFailsAt : Start → Step → ℕ → Type 0
NoneFailsAt e a i = (st : State) → Fails e a st i → ⊥

-- so many numbers from n on
abbrev pub from : ℕ → ℕ → List ℕ
from n zero = []
from n (suc k) = n ∷ from (suc n) k

-- There is one goal for each check that is walked, in order; they are numbered from 0.
abbrev pub GoalsAreTheChecks : Type 0
GoalsAreTheChecks = (bases : List (List ℕ)) (e : Start) (a : Step) → map (λ (g : Goal). g.place) (goals bases e a) ≡ places a

abbrev pub GoalsAreNumbered : Type 0
GoalsAreNumbered = (bases : List (List ℕ)) (e : Start) (a : Step) → map (λ (g : Goal). g.number) (goals bases e a) ≡ from zero (count a)

-- A goal is valid exactly where no run fails at its check.
pub record IsExact (s : Setting) (e : Start) (a : Step) (g : Goal) : Type 0 where
  pub sound : Valid s (formula_of g) → NoneFailsAt e a g.number
  pub complete : NoneFailsAt e a g.number → Valid s (formula_of g)

abbrev pub GoalsAreExact : Type 0
GoalsAreExact = (s : Setting) (bases : List (List ℕ)) (e : Start) (a : Step) → AreFit s bases e a → (g : Goal) → In g (goals bases e a) → IsExact s e a g

-- Values that falsify a goal are a state, of the slots at the start, from which a run fails at its check.
abbrev pub FalsifiedDecode : Type 0
FalsifiedDecode = (s : Setting) (bases : List (List ℕ)) (e : Start) (a : Step) → AreFit s bases e a → (g : Goal) → In g (goals bases e a)
    → (env : Values) → truth (world_of s) env (formula_of g) ≡ false → Fails e a (state_of (world_of s) env (start_slots bases e.origins)) g.number

-- A run that fails does so at the check of a goal, and there are values of that state which falsify it.
pub record Refuted (s : Setting) (bases : List (List ℕ)) (e : Start) (st : State) (g : Goal) (env : Values) : Type 0 where
  pub bounded : IsBounded s.long_bits env
  pub start : state_of (world_of s) env (start_slots bases e.origins) ≡ st
  pub claim : truth (world_of s) env (formula_of g) ≡ false

abbrev pub FailuresHaveGoals : Type 0
FailuresHaveGoals = (s : Setting) (bases : List (List ℕ)) (e : Start) (a : Step) → AreFit s bases e a → (i : ℕ) (st : State) → Fails e a st i
    → (g : Goal) × In g (goals bases e a) × (g.number ≡ i) × (env : Values) × Refuted s bases e st g env

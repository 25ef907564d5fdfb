-- What the goals of steps say of their runs.
use Rattle.std.specs.Prelude.{◌≡◌, ◌-◌, ◌^◌, ℕ, zero, ℤ, true, false, codes, List, [], ◌∷◌, map, length}
use Rattle.qed_terms.specs.Tree.{Tree, num}
use Rattle.qed_terms.specs.Fresh.{none_used}
use Rattle.qed_terms.specs.Meaning.{Values, truth}
use Rattle.qed_terms.specs.Setting.{Setting, world_of, cells_at_most, IsBounded, Valid}
use Rattle.walk_steps.specs.State.{In}
use Rattle.walk_steps.specs.Walk.{Goal, formula_of}
use Rattle.walk_steps.specs.Laws.{from}
use Rattle.memory_steps.specs.State.{Datum, number, State, Base, FitsOne}
use Rattle.memory_steps.specs.Forms.{Mark, Slots, slots_of, Claim, written_claims, AllSo, AreClaims, state_of}
use Rattle.memory_steps.specs.Step.{Step, places, count, IsGood}
use Rattle.memory_steps.specs.Run.{fails, Seg}
use Rattle.memory_steps.specs.Bracketed.{IsBracketed}
use Rattle.memory_steps.specs.World.{AreBases, World, world, name_for, table_var}
use Rattle.memory_steps.specs.Walk.{walk}

-- ---- the start

-- what a slot has there: any datum of its sort, under the slot's own name, or this number
pub data Origin : Type 0 where
  own : Origin
  fixed : (z : ℤ) → Origin

-- the slots, and what is known of them and of the table
pub record Start : Type 0 where
  pub origins : List Origin
  pub facts : List Claim

abbrev pub IsFrom : List Base → List Origin → List Datum → Type 0
IsFrom bases [] [] = Unit {0}
IsFrom bases [] (d ∷ ds) = ⊥
IsFrom bases (o ∷ os) [] = ⊥
IsFrom [] (o ∷ os) (d ∷ ds) = ⊥
IsFrom (b ∷ bases) (own ∷ os) (d ∷ ds) = FitsOne b.is_memory d × IsFrom bases os ds
IsFrom (b ∷ bases) (fixed z ∷ os) (d ∷ ds) = (d ≡ number z) × IsFrom bases os ds

-- no block has more cells than this
abbrev pub most_cells : (long_bits : ℕ) → ℕ
most_cells n = 2 ^ (n - 1) - 1

-- a state in which a run may start
pub record Starts (s : Setting) (bases : List Base) (e : Start) (st : State) : Type 0 where
  pub from : IsFrom bases e.origins st.slots
  pub bounded : cells_at_most (most_cells s.long_bits) st.table
  pub facts : AllSo (st ∷ []) e.facts

abbrev pub start_terms : List Base → List Origin → List Tree
start_terms bases [] = []
start_terms [] (o ∷ os) = []
start_terms (b ∷ bases) (own ∷ os) = name_for b.is_memory b.name ∷ start_terms bases os
start_terms (b ∷ bases) (fixed z ∷ os) = num z ∷ start_terms bases os

abbrev pub table_name : List ℕ
table_name = codes "T"

-- the start is the first point
abbrev pub start_mark : Mark
start_mark = record { number = zero; table = table_var table_name }

abbrev pub start_slots : List Base → List Origin → Slots
start_slots bases os = slots_of (start_terms bases os) (table_var table_name) (start_mark ∷ [])

-- no slot from these on has this own name
abbrev pub Away : List ℕ → List Base → List Origin → Type 0
Away x bases [] = Unit {0}
Away x [] (o ∷ os) = Unit {0}
Away x (b ∷ bases) (own ∷ os) = (x ≡ b.name → ⊥) × Away x bases os
Away x (b ∷ bases) (fixed z ∷ os) = Away x bases os

-- own names differ, two slots may have one base else; a number isn't in the slot of a memory
abbrev pub OriginsFit : List Base → List Origin → Type 0
OriginsFit bases [] = Unit {0}
OriginsFit [] (o ∷ os) = Unit {0}
OriginsFit (b ∷ bases) (own ∷ os) = Away b.name bases os × OriginsFit bases os
OriginsFit (b ∷ bases) (fixed z ∷ os) = (b.is_memory ≡ false) × OriginsFit bases os

abbrev pub start_world : List Base → Start → World
start_world bases e = let ss = start_slots bases e.origins in world (written_claims (ss ∷ []) e.facts) ss

-- what the laws ask of the slots, the start and the steps
pub record AreFit (s : Setting) (bases : List Base) (e : Start) (a : Step) : Type 0 where
  pub size : length e.origins ≡ length bases
  pub names : AreBases bases
  pub origins : OriginsFit bases e.origins
  pub facts : AreClaims (world_of s) e.facts
  pub step : IsGood (world_of s) bases a
  -- so all worlds that meet can be joined
  pub bracketed : IsBracketed a

-- All worlds of a bracketed step that meet can be joined.
abbrev pub BracketedStepsMeet : Type 0
BracketedStepsMeet = (bases : List Base) (e : Start) (a : Step) → IsBracketed a → (walk bases [] zero a none_used (start_world bases e)).fits ≡ true

-- ---- the goals

abbrev pub goals : List Base → Start → Step → List Goal
goals bases e a = (walk bases [] zero a none_used (start_world bases e)).goals

abbrev pub Fails : Setting → List Base → Start → Step → State → ℕ → Type 0
Fails s bases e a st i = Starts s bases e st × Seg [] zero a st (fails i)

abbrev pub NoneFailsAt : Setting → List Base → Start → Step → ℕ → Type 0
NoneFailsAt s bases e a i = (st : State) → Fails s bases e a st i → ⊥

-- There is one goal for each check that is walked, in order; they are numbered from 0.
abbrev pub GoalsAreTheChecks : Type 0
GoalsAreTheChecks = (bases : List Base) (e : Start) (a : Step) → map (λ (g : Goal). g.place) (goals bases e a) ≡ places a

abbrev pub GoalsAreNumbered : Type 0
GoalsAreNumbered = (bases : List Base) (e : Start) (a : Step) → map (λ (g : Goal). g.number) (goals bases e a) ≡ from zero (count a)

-- A goal is valid exactly where no run fails at its check.
pub record IsExact (s : Setting) (bases : List Base) (e : Start) (a : Step) (g : Goal) : Type 0 where
  pub sound : Valid s (formula_of g) → NoneFailsAt s bases e a g.number
  pub complete : NoneFailsAt s bases e a g.number → Valid s (formula_of g)

abbrev pub GoalsAreExact : Type 0
GoalsAreExact =
    (s : Setting) (bases : List Base) (e : Start) (a : Step) → AreFit s bases e a → (g : Goal) → In g (goals bases e a) → IsExact s bases e a g

-- Values that falsify a goal are a state, of the slots at the start, from which a run fails at its check.
abbrev pub FalsifiedDecode : Type 0
FalsifiedDecode =
    (s : Setting) (bases : List Base) (e : Start) (a : Step) → AreFit s bases e a → (g : Goal) → In g (goals bases e a) → (env : Values)
    → IsBounded s.long_bits env → truth (world_of s) env (formula_of g) ≡ false
    → Fails s bases e a (state_of (world_of s) env (start_slots bases e.origins)) g.number

-- A run that fails does so at the check of a goal, and there are values of that state which falsify it.
pub record Refuted (s : Setting) (bases : List Base) (e : Start) (st : State) (g : Goal) (env : Values) : Type 0 where
  pub bounded : IsBounded s.long_bits env
  pub start : state_of (world_of s) env (start_slots bases e.origins) ≡ st
  pub claim : truth (world_of s) env (formula_of g) ≡ false

abbrev pub FailuresHaveGoals : Type 0
FailuresHaveGoals =
    (s : Setting) (bases : List Base) (e : Start) (a : Step) → AreFit s bases e a → (i : ℕ) (st : State) → Fails s bases e a st i
    → (g : Goal) × In g (goals bases e a) × (g.number ≡ i) × (env : Values) × Refuted s bases e st g env

-- What stands in a step: how it is written over the terms in the slots, and what it is in a state. Both take the present slots first, and then those
-- that were remembered, the last ones first. That they say the same is a premise of the laws, so no law looks into a formula.
use Rattle.std.specs.Prelude.{◌≡◌, ◌↔◌, ℕ, ℤ, pos, Bool, true, List, [], ◌∷◌, map}
use Rattle.wp_base.specs.Blocks.{Table}
use Rattle.qed_terms.specs.Tree.{Tree}
use Rattle.qed_terms.specs.Meaning as sense
use Rattle.qed_terms.specs.Meaning.{Value, Whole, Truth, Cells, Blocks, Values, meaning, table, truth}
use Rattle.same_memories.specs.Canonical.{canonical}
use Rattle.walk_steps.specs.Forms.{Place, SameBesidesBound}
use Rattle.memory_steps.specs.State.{Datum, number, cells, State, state, HasSort}

-- a point that was passed: its number, and the table there
pub record Mark : Type 0 where
  pub number : ℕ
  pub table : Tree

-- the terms in the slots, that of the table, and the points that were passed with tables which have grown since, the first one first
pub record Slots : Type 0 where
  pub terms : List Tree
  pub table : Tree
  pub trail : List Mark

abbrev pub slots_of : List Tree → Tree → List Mark → Slots
slots_of ts t ps = record { terms = ts; table = t; trail = ps }

-- a claim that is tested
pub record Form : Type 0 where
  pub written : List Slots → Tree
  pub told : List State → Bool

-- a claim on all addresses
pub record Claim : Type 0 where
  pub written : List Slots → Tree
  pub told : List State → (block offset : ℤ) → Bool

-- a term for what a slot holds
pub record Term : Type 0 where
  pub written : List Slots → Tree
  pub told : List State → Datum

-- a claim on one more datum, at all addresses
pub record Fact : Type 0 where
  pub written : List Slots → Tree → Tree
  pub told : List State → Datum → (block offset : ℤ) → Bool

-- a form that is asked
pub record Check : Type 0 where
  pub form : Form
  pub place : Place

abbrev pub forms : List Check → List Form
forms cs = map (λ (c : Check). c.form) cs

abbrev pub written_forms : List Slots → List Form → List Tree
written_forms ss fs = map (λ (f : Form). f.written ss) fs

abbrev pub told_forms : List State → List Form → List Bool
told_forms sts fs = map (λ (f : Form). f.told sts) fs

abbrev pub written_claims : List Slots → List Claim → List Tree
written_claims ss cs = map (λ (c : Claim). c.written ss) cs

abbrev pub AllSo : List State → List Claim → Type 0
AllSo sts [] = Unit {0}
AllSo sts (c ∷ cs) = ((b o : ℤ) → c.told sts b o ≡ true) × AllSo sts cs

abbrev pub written_facts : List Slots → List Fact → Tree → List Tree
written_facts ss fs t = map (λ (f : Fact). f.written ss t) fs

abbrev pub AllTold : List State → List Fact → Datum → Type 0
AllTold sts [] d = Unit {0}
AllTold sts (f ∷ fs) d = ((b o : ℤ) → f.told sts d b o ≡ true) × AllTold sts fs d

-- ---- what makes them good

-- what a value is in a slot
abbrev pub datum_of : Value → Datum
datum_of (Whole z) = number z
datum_of (Truth b) = number (pos 0)
datum_of (Cells m) = cells (canonical m)
datum_of (Blocks t) = number (pos 0)

-- in a world, which says what logic functions are
module _ (m : sense.World) where
  abbrev pub datum : Values → Tree → Datum
  datum env t = datum_of (meaning m env t)

  abbrev pub data_of : Values → List Tree → List Datum
  data_of env ts = map (datum env) ts

  abbrev pub table_of : Values → Tree → Table
  table_of env t = table (meaning m env t)

  abbrev pub state_of : Values → Slots → State
  state_of env ss = state (data_of env ss.terms) (table_of env ss.table)

  abbrev pub states_of : Values → List Slots → List State
  states_of env ss = map (state_of env) ss

  -- a term that no quantifier around it changes
  abbrev pub IsClean : Tree → Type 0
  IsClean t = (env env' : Values) → SameBesidesBound env env' → datum env t ≡ datum env' t

  abbrev pub AreClean : List Slots → Type 0
  AreClean ss = (env env' : Values) → SameBesidesBound env env' → states_of env ss ≡ states_of env' ss

  -- what is written is true where it is told so of the values of the slots
  abbrev pub IsForm : Form → Type 0
  IsForm f = (env : Values) (ss : List Slots) → AreClean ss → truth m env (f.written ss) ≡ f.told (states_of env ss)

  abbrev pub IsClaim : Claim → Type 0
  IsClaim c = (env : Values) (ss : List Slots) → AreClean ss → (truth m env (c.written ss) ≡ true) ↔ ((b o : ℤ) → c.told (states_of env ss) b o ≡ true)

  -- a term for a slot of this sort
  pub record IsTerm (is_memory : Bool) (u : Term) : Type 0 where
    pub told : (env : Values) (ss : List Slots) → AreClean ss → datum env (u.written ss) ≡ u.told (states_of env ss)
    pub sort : (sts : List State) → HasSort is_memory (u.told sts)

  abbrev pub IsFact : Fact → Type 0
  IsFact f =
      (env : Values) (ss : List Slots) (t : Tree) → AreClean ss → IsClean t
      → (truth m env (f.written ss t) ≡ true) ↔ ((b o : ℤ) → f.told (states_of env ss) (datum env t) b o ≡ true)

  abbrev pub AreForms : List Form → Type 0
  AreForms [] = Unit {0}
  AreForms (f ∷ fs) = IsForm f × AreForms fs

  abbrev pub AreClaims : List Claim → Type 0
  AreClaims [] = Unit {0}
  AreClaims (c ∷ cs) = IsClaim c × AreClaims cs

  abbrev pub AreFacts : List Fact → Type 0
  AreFacts [] = Unit {0}
  AreFacts (f ∷ fs) = IsFact f × AreFacts fs

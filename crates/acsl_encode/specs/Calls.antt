-- What calls of logic functions that call themselves stand for (ACSL 2.6.3).
use Rattle.std.specs.Prelude.{◌≡◌, ℕ, ℤ, pos, true, List, [], ◌∷◌, ◌++◌, Option, Some}
use Rattle.wp_base.specs.declared.kinds.CellKind.{CellKind}
use Rattle.wp_base.specs.declared.kinds.CellKind.TheVariants as cell
use Rattle.c_kinds.specs.declared.models.Machdep.{Machdep}
use Rattle.c_kinds.specs.Models.{holds}
use Rattle.typed_prog.specs.declared.operators.Variable.{Variable}
use Rattle.typed_prog.specs.declared.operators.Variable.TheVariants as variable
use Rattle.acsl_trees.specs.declared.heads.Label.{Label}
use Rattle.c_runs.specs.TruthStates as state
use Rattle.c_runs.specs.TruthStates.{Value, State, World, is_negative, state_at}
use Rattle.c_runs.specs.Truth.{Calls}
use Rattle.qed_terms.specs.Memory.{Memory}
use Rattle.qed_terms.specs.Meaning as meant
use Rattle.qed_terms.specs.Meaning.{Whole, Cells}
use Rattle.qed_terms.specs.Setting.{Apps}
use Rattle.acsl_encode.specs.Readings.{Named, one, two, Global, integer_global, pointer_global, Called, Common}
use Rattle.acsl_encode.specs.Meaning.{AtHome, HasAddress, NumbersHeld, PointersHeld}

-- what is given to a function for a term
abbrev pub Given : Type 0
Given = List meant.Value

-- ---- what is given for an argument, a memory and a variable

abbrev pub IsArgument : Named → Value → Given → Type 0
IsArgument (one x) v args = (z : ℤ) × (v ≡ state.number z) × (args ≡ Whole z ∷ [])
IsArgument (two b o) v args = (i : ℤ) × (j : ℤ) × (v ≡ state.pointer i j) × HasAddress i × (args ≡ Whole i ∷ Whole j ∷ [])

abbrev pub AreArguments : List Named → List Value → Given → Type 0
AreArguments [] [] args = args ≡ []
AreArguments [] (v ∷ vs) args = ⊥
AreArguments (p ∷ ps) [] args = ⊥
AreArguments (p ∷ ps) (v ∷ vs) args = (a : Given) × (rest : Given) × IsArgument p v a × AreArguments ps vs rest × (args ≡ a ++ rest)

abbrev pub AllAre : {X : Type 0} → (X → Given → Type 0) → List X → Given → Type 0
AllAre p [] args = args ≡ []
AllAre p (x ∷ xs) args = (a : Given) × (rest : Given) × p x a × AllAre p xs rest × (args ≡ a ++ rest)

abbrev pub IsMemory : Machdep → State → CellKind → Given → Type 0
IsMemory m st (cell.Of k) args = (held : Memory) × NumbersHeld m k held st × (args ≡ Cells held ∷ [])
IsMemory m st cell.Ptr args = (blocks : Memory) × (offsets : Memory) × PointersHeld blocks offsets st × (args ≡ Cells blocks ∷ Cells offsets ∷ [])

-- a variable of the file with its one cell
abbrev pub HoldsHidden : Common → State → (number : ℕ) → Value → Type 0
HoldsHidden r st n v = (st.home (variable.Global n) ≡ r.hidden (variable.Global n)) × (st.cells (r.hidden (variable.Global n)) (pos 0) ≡ v)

abbrev pub IsGlobal : Common → State → Global → Given → Type 0
IsGlobal r st (integer_global n k x) args = (z : ℤ) × HoldsHidden r st n (state.number z) × (holds r.model k z ≡ true) × (args ≡ Whole z ∷ [])
IsGlobal r st (pointer_global n b o) args = (i : ℤ) × (j : ℤ) × HoldsHidden r st n (state.pointer i j) × HasAddress i × (args ≡ Whole i ∷ Whole j ∷ [])

-- ---- calls

-- what a world has in common with all states of a reading
pub record Shares (r : Common) (w : World) : Type 0 where
  pub model : r.model ≡ w.model
  pub structs : (n : ℕ) → r.structs n ≡ w.structs n
  pub hidden : (x : Variable) → is_negative (r.hidden x) ≡ true
  pub homes : (l : Label) → AtHome r (state_at l w)

-- the function of this name has the value of the definition with this number
abbrev pub CallStands : Apps → Calls → Common → (number : ℕ) → Called → Type 0
CallStands apps m r f c =
    (vs : List Value) (w : World) (args ms gs : Given) → Shares r w → AreArguments c.params vs args → AllAre (IsMemory r.model w.here) c.memories ms
    → AllAre (IsGlobal r w.here) c.globals gs → m f vs w ≡ state.number (apps c.name (args ++ (ms ++ gs)))

abbrev pub CallsStand : Apps → Calls → Common → (called : (number : ℕ) → Option Called) → Type 0
CallsStand apps m r called = (f : ℕ) (c : Called) → called f ≡ Some c → CallStands apps m r f c

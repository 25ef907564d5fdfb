-- What a walk shows of runs under given values, and worlds that speak of used names only.
use Rattle.std.proofs.Common.{◌≡◌, ℕ, zero, suc, List, [], ◌∷◌, length, Some, refl, ap, ap₂}
use Rattle.qed_terms.specs.Fresh.{Used}
use Rattle.qed_terms.specs.Meaning as sense
use Rattle.qed_terms.specs.Meaning.{Values}
use Rattle.walk_steps.specs.State.{at_or, In}
use Rattle.walk_steps.specs.Walk.{Goal}
use Rattle.walk_steps.proofs.Asking.{Holds, Shown}
use Rattle.walk_steps.proofs.Naming.{Grows}
use Rattle.memory_steps.specs.State.{State, Base, HaveSorts}
use Rattle.memory_steps.specs.Forms.{Slots, data_of, table_of, state_of, states_of, AreClean}
use Rattle.memory_steps.specs.Run.{End, goes_on, leaves, fails}
use Rattle.memory_steps.specs.World.{World}
use Rattle.memory_steps.specs.Walk.{Walked}
use Rattle.memory_steps.proofs.Naming.{Agree, agree_less, same_agree}
use Rattle.memory_steps.proofs.Trails.{Trailed, mark_tables}

module _ (m : sense.World) where
  -- the values make the world this state
  pub record Meets (env : Values) (w : World) (st : State) : Type 0 where
    pub known : Holds m env w.known
    pub state : state_of m env w.slots ≡ st

  -- the values make this end of the walk
  abbrev pub Shows : Walked → Values → End → Type 0
  Shows r env (goes_on st) = (w : World) × (r.end ≡ Some w) × Meets env w st
  Shows r env (leaves k st) = (w : World) × In w (r.left k) × Meets env w st
  Shows r env (fails i) = (g : Goal) × In g r.goals × Shown m env g i

  -- slots that speak of used names only, whose points have tables that have grown
  pub record Sound (c : Used) (ss : Slots) : Type 0 where
    pub same : (env env' : Values) → Agree c env env' → state_of m env ss ≡ state_of m env' ss
    pub marks : (env env' : Values) → Agree c env env' → mark_tables m env ss.trail ≡ mark_tables m env' ss.trail
    pub trailed : (env : Values) → Trailed m env ss.trail (table_of m env ss.table)

  pub sound_more : {c c' : Used} {ss : Slots} → Grows c c' → Sound c ss → Sound c' ss
  sound_more g s = record { same = λ env env' a. s.same env env' (agree_less g a); marks = λ env env' a. s.marks env env' (agree_less g a); trailed = s.trailed }

  pub terms_same : {c : Used} {ss : Slots} → Sound c ss → (env env' : Values) → Agree c env env' → data_of m env ss.terms ≡ data_of m env' ss.terms
  terms_same s env env' a = ap (λ (st : State). st.slots) (s.same env env' a)

  pub table_same : {c : Used} {ss : Slots} → Sound c ss → (env env' : Values) → Agree c env env' → table_of m env ss.table ≡ table_of m env' ss.table
  table_same s env env' a = ap (λ (st : State). st.table) (s.same env env' a)

  abbrev pub AllSound : Used → List Slots → Type 0
  AllSound c [] = Unit {0}
  AllSound c (ss ∷ more) = Sound c ss × AllSound c more

  -- the remembered slots do
  pub record Steady (c : Used) (olds : List Slots) : Type 0 where
    pub all : AllSound c olds

  all_more : {c c' : Used} → Grows c c' → (olds : List Slots) → AllSound c olds → AllSound c' olds
  all_more g [] h = tt
  all_more g (ss ∷ olds) h = (sound_more g h.0, all_more g olds h.1)

  all_same : (c : Used) (olds : List Slots) → AllSound c olds → (env env' : Values) → Agree c env env' → states_of m env olds ≡ states_of m env' olds
  all_same c [] h env env' a = refl
  all_same c (ss ∷ olds) h env env' a = ap₂ (λ x xs. x ∷ xs) (h.0.same env env' a) (all_same c olds h.1 env env' a)

  pub still : {c c' : Used} {olds : List Slots} → Grows c c' → Steady c olds → Steady c' olds
  still {olds = olds} g s = record { all = all_more g olds s.all }

  pub steady_same : {c : Used} {olds : List Slots} → Steady c olds → (env env' : Values) → Agree c env env' → states_of m env olds ≡ states_of m env' olds
  steady_same {c} {olds} s = all_same c olds s.all

  pub sound_at : {c : Used} (ss : Slots) (olds : List Slots) (l : ℕ) → Sound c ss → AllSound c olds → Sound c (at_or ss olds l)
  sound_at ss [] l s h = s
  sound_at ss (old ∷ olds) zero s h = h.0
  sound_at ss (old ∷ olds) (suc l) s h = sound_at ss olds l s h.1

  -- so no quantifier changes what they are
  pub clean : {c : Used} {olds : List Slots} → Steady c olds → AreClean m olds
  clean {c} s = λ env env' b. steady_same s env env' (same_agree c b)

  -- a world that speaks of used names only, with slots of these bases
  pub record Settled (bases : List Base) (c : Used) (w : World) : Type 0 where
    pub size : length w.slots.terms ≡ length bases
    pub sorts : (env : Values) → HaveSorts bases (data_of m env w.slots.terms)
    pub known : (env env' : Values) → Agree c env env' → Holds m env w.known → Holds m env' w.known
    pub slots : Sound c w.slots

  pub later : {bases : List Base} {c c' : Used} {w : World} → Grows c c' → Settled bases c w → Settled bases c' w
  later g s = record { size = s.size; sorts = s.sorts; known = λ env env' a. s.known env env' (agree_less g a); slots = sound_more g s.slots }

  pub steady_more : {bases : List Base} {c : Used} {w : World} {olds : List Slots} → Settled bases c w → Steady c olds → Steady c (w.slots ∷ olds)
  steady_more s t = record { all = (s.slots, t.all) }

  pub record AllSettled (bases : List Base) (c : Used) (r : Walked) : Type 0 where
    pub grows : Grows c r.used
    pub goes : (w : World) → r.end ≡ Some w → Settled bases r.used w
    pub left : (l : ℕ) (w : World) → In w (r.left l) → Settled bases r.used w

-- What a walk shows of runs under given values, and worlds that speak of used names only.
use Rattle.std.proofs.Common.{◌≡◌, ℕ, List, ◌∷◌, length, Some, ap₂}
use Rattle.qed_terms.specs.Fresh.{Used}
use Rattle.qed_terms.specs.Meaning as sense
use Rattle.qed_terms.specs.Meaning.{Values}
use Rattle.walk_steps.specs.State.{State, In}
use Rattle.walk_steps.specs.Forms.{Slots, state_of, states_of, AreClean}
use Rattle.walk_steps.specs.Run.{End, goes_on, leaves, fails}
use Rattle.walk_steps.specs.World.{World}
use Rattle.walk_steps.specs.Walk.{Goal, Walked}
use Rattle.walk_steps.proofs.Naming.{Agree, Grows, agree_less, same_agree}
use Rattle.walk_steps.proofs.Asking.{Holds, Shown}

module _ (m : sense.World) where
  -- the values make the world this state
  pub record Meets (env : Values) (w : World) (st : State) : Type 0 where
    pub known : Holds m env w.known
    pub state : state_of m env w.slots ≡ st

  -- the values make this end of the walk
  abbrev pub Shows : Walked → Values → End → Type 0
  Shows r env (goes_on st) = (w : World) × (r.end ≡ Some w) × Meets env w st
  Shows r env (leaves k st) = (w : World) × In w (r.left k) × Meets env w st
  Shows r env (fails i) = (g : Goal) × In g r.goals × Shown m env g i

  -- the remembered slots speak of used names only
  pub record Steady (c : Used) (ss : List Slots) : Type 0 where
    pub slots : (env env' : Values) → Agree c env env' → states_of m env ss ≡ states_of m env' ss

  pub still : {c c' : Used} {ss : List Slots} → Grows c c' → Steady c ss → Steady c' ss
  still g s = record { slots = λ env env' a. s.slots env env' (agree_less g a) }

  -- so no quantifier changes what they are
  pub clean : {c : Used} {ss : List Slots} → Steady c ss → AreClean m ss
  clean {c} s = λ env env' b. s.slots env env' (same_agree c b)

  -- a world that speaks of used names only, of so many slots
  pub record Settled (k : ℕ) (c : Used) (w : World) : Type 0 where
    pub size : length w.slots ≡ k
    pub known : (env env' : Values) → Agree c env env' → Holds m env w.known → Holds m env' w.known
    pub slots : (env env' : Values) → Agree c env env' → state_of m env w.slots ≡ state_of m env' w.slots

  pub later : {k : ℕ} {c c' : Used} {w : World} → Grows c c' → Settled k c w → Settled k c' w
  later g s = record { size = s.size; known = λ env env' a. s.known env env' (agree_less g a); slots = λ env env' a. s.slots env env' (agree_less g a) }

  pub steady_more : {k : ℕ} {c : Used} {w : World} {olds : List Slots} → Settled k c w → Steady c olds → Steady c (w.slots ∷ olds)
  steady_more s t = record { slots = λ env env' a. ap₂ (λ x xs. x ∷ xs) (s.slots env env' a) (t.slots env env' a) }

  pub record AllSettled (k : ℕ) (c : Used) (r : Walked) : Type 0 where
    pub grows : Grows c r.used
    pub goes : (w : World) → r.end ≡ Some w → Settled k r.used w
    pub left : (l : ℕ) (w : World) → In w (r.left l) → Settled k r.used w

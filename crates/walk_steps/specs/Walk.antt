-- The symbolic walk over steps: the goals.
use Rattle.std.specs.Prelude.{ℕ, zero, suc, ◌+◌, List, [], ◌∷◌, ◌++◌, map, Option, Some, None}
use Rattle.std.specs.Option.{option_map}
use Rattle.qed_terms.specs.Tree.{Tree, not_of, goal_of}
use Rattle.qed_terms.specs.Fresh.{Used}
use Rattle.walk_steps.specs.Forms.{Slots, Place, Check, forms, written_forms}
use Rattle.walk_steps.specs.Step.{Step, skip, halt, seq, ask, know, set, change, choose, block, exit, scope, remember, count}
use Rattle.walk_steps.specs.World.{World, knows, restored, Named, named, set_to}
use Rattle.walk_steps.specs.Join.{meet, used_by_meet}
use Rattle.walk_steps.specs.Renew.{renewed, used_by_renewed}

-- The number of its check and what that asks for, what is known there, and what is claimed.
pub record Goal : Type 0 where
  pub number : ℕ
  pub place : Place
  pub known : List Tree
  pub claim : Tree

abbrev pub formula_of : Goal → Tree
formula_of g = goal_of g.known g.claim

-- each check is asked, and known from then on
abbrev pub asked : (n : ℕ) → (known : List Tree) → List Slots → List Check → List Goal
asked n known ss [] = []
asked n known ss (c ∷ cs) =
    record { number = n; place = c.place; known = known; claim = c.form.written ss } ∷ asked (suc n) (known ++ c.form.written ss ∷ []) ss cs

-- the goals, the world at the end if that is reached, those at the exits out of so many blocks and one more, and the names used then
pub record Walked : Type 0 where
  pub goals : List Goal
  pub end : Option World
  pub left : ℕ → List World
  pub used : Used

abbrev pub nowhere : ℕ → List World
nowhere k = []

abbrev pub list_of : {X : Type 0} → Option X → List X
list_of None = []
list_of (Some x) = x ∷ []

-- ---- walks put together

abbrev pub stays : List Goal → Used → World → Walked
stays goals c w = record { goals = goals; end = Some w; left = nowhere; used = c }

abbrev pub followed : Walked → Walked → Walked
followed r q = record { goals = r.goals ++ q.goals; end = q.end; left = λ k. r.left k ++ q.left k; used = q.used }

-- both in turn, where the first one's end can be reached
abbrev pub then_walk : Walked → Option World → (Used → World → Walked) → Walked
then_walk r None go = r
then_walk r (Some w) go = followed r (go r.used w)

abbrev pub left_by : ℕ → World → ℕ → List World
left_by zero w zero = w ∷ []
left_by zero w (suc k) = []
left_by (suc l) w zero = []
left_by (suc l) w (suc k) = left_by l w k

abbrev pub on_worlds : (World → World) → Walked → Walked
on_worlds f r = record { goals = r.goals; end = option_map f r.end; left = λ k. map f (r.left k); used = r.used }

module _ (bases : List (List ℕ)) where
  abbrev pub both_arms : Walked → Walked → Walked
  both_arms r q =
      let ends = list_of r.end ++ list_of q.end in
      record { goals = r.goals ++ q.goals; end = meet bases q.used ends; left = λ k. r.left k ++ q.left k; used = used_by_meet bases q.used ends }

  -- its exits in order, then its end
  abbrev pub blocked : Walked → Walked
  blocked r =
      let ends = r.left zero ++ list_of r.end in
      record { goals = r.goals; end = meet bases r.used ends; left = λ k. r.left (suc k); used = used_by_meet bases r.used ends }

  abbrev pub set_walk : World → ℕ → Named → Walked
  set_walk w i t = stays [] t.used (set_to w i t)

  -- under the remembered slots, the checks numbered from n
  abbrev pub walk : (olds : List Slots) → (n : ℕ) → Step → Used → World → Walked
  walk olds n skip c w = stays [] c w
  walk olds n halt c w = record { goals = []; end = None; left = nowhere; used = c }
  walk olds n (seq a b) c w = let r = walk olds n a c w in then_walk r r.end (walk olds (n + count a) b)
  walk olds n (ask cs) c w = stays (asked n w.known (w.slots ∷ olds) cs) c (knows w (written_forms (w.slots ∷ olds) (forms cs)))
  walk olds n (know fs) c w = stays [] c (knows w (written_forms (w.slots ∷ olds) fs))
  walk olds n (set i u) c w = set_walk w i (named c (u.written (w.slots ∷ olds)))
  walk olds n (change cs) c w = stays [] (used_by_renewed bases c cs w) (renewed bases olds c cs w)
  walk olds n (choose f a b) c w =
      let g = f.written (w.slots ∷ olds) in
      let r = walk olds n a c (knows w (g ∷ [])) in
      both_arms r (walk olds (n + count a) b r.used (knows w (not_of g ∷ [])))
  walk olds n (block a) c w = blocked (walk olds n a c w)
  walk olds n (exit k) c w = record { goals = []; end = None; left = left_by k w; used = c }
  walk olds n (scope is a) c w = on_worlds (restored is w) (walk olds n a c w)
  walk olds n (remember a) c w = walk (w.slots ∷ olds) n a c w

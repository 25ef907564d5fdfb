-- The symbolic walk over steps: the goals.
use Rattle.std.specs.Prelude.{ℕ, zero, suc, ◌+◌, Bool, true, ◌&&◌, List, [], ◌∷◌, ◌++◌, map, Option, Some, None}
use Rattle.std.specs.Option.{option_map}
use Rattle.qed_terms.specs.Tree.{Tree, not_of}
use Rattle.qed_terms.specs.Fresh.{Used, use_one}
use Rattle.walk_steps.specs.State.{at_or}
use Rattle.walk_steps.specs.Walk.{Goal, list_of}
use Rattle.memory_steps.specs.State.{Base}
use Rattle.memory_steps.specs.Forms.{Slots, Check, forms, written_forms}
use Rattle.memory_steps.specs.Step.{Step, skip, halt, seq, ask, know, set, change, choose, block, exit, scope, remember, grown, made, ended, count}
use Rattle.memory_steps.specs.World.{World, knows, restored, Named, named, set_to, base_at, count_base, mark_base, marked, grown_world, made_world, ended_world}
use Rattle.memory_steps.specs.Join.{meet, used_by_meet, can_meet}
use Rattle.memory_steps.specs.Renew.{renewed, used_by_renewed}

-- each check is asked, and known from then on
abbrev pub asked : (n : ℕ) → (known : List Tree) → List Slots → List Check → List Goal
asked n known ss [] = []
asked n known ss (c ∷ cs) =
    record { number = n; place = c.place; known = known; claim = c.form.written ss } ∷ asked (suc n) (known ++ c.form.written ss ∷ []) ss cs

-- the goals, the world at the end if that is reached, those at the exits out of so many blocks and one more, the names used then, and whether all worlds that
-- met could be joined
pub record Walked : Type 0 where
  pub goals : List Goal
  pub end : Option World
  pub left : ℕ → List World
  pub used : Used
  pub fits : Bool

abbrev pub nowhere : ℕ → List World
nowhere k = []

-- ---- walks put together

abbrev pub stays : List Goal → Used → World → Walked
stays goals c w = record { goals = goals; end = Some w; left = nowhere; used = c; fits = true }

abbrev pub followed : Walked → Walked → Walked
followed r q = record { goals = r.goals ++ q.goals; end = q.end; left = λ k. r.left k ++ q.left k; used = q.used; fits = r.fits && q.fits }

-- both in turn, where the first one's end can be reached
abbrev pub then_walk : Walked → Option World → (Used → World → Walked) → Walked
then_walk r None go = r
then_walk r (Some w) go = followed r (go r.used w)

abbrev pub left_by : ℕ → World → ℕ → List World
left_by zero w zero = w ∷ []
left_by zero w (suc k) = []
left_by (suc l) w zero = []
left_by (suc l) w (suc k) = left_by l w k

abbrev pub on_worlds : (World → World) → Walked → Walked
on_worlds f r = record { goals = r.goals; end = option_map f r.end; left = λ k. map f (r.left k); used = r.used; fits = r.fits }

module _ (bases : List Base) where
  abbrev pub both_arms : Walked → Walked → Walked
  both_arms r q =
      let ends = list_of r.end ++ list_of q.end in
      record {
        goals = r.goals ++ q.goals;
        end = meet bases q.used ends;
        left = λ k. r.left k ++ q.left k;
        used = used_by_meet bases q.used ends;
        fits = r.fits && q.fits && can_meet bases q.used ends;
      }

  -- its exits in order, then its end
  abbrev pub blocked : Walked → Walked
  blocked r =
      let ends = r.left zero ++ list_of r.end in
      record {
        goals = r.goals;
        end = meet bases r.used ends;
        left = λ k. r.left (suc k);
        used = used_by_meet bases r.used ends;
        fits = r.fits && can_meet bases r.used ends;
      }

  abbrev pub set_walk : World → ℕ → Named → Walked
  set_walk w i t = stays [] t.used (set_to w i t)

  -- under the remembered slots, the checks numbered from n
  abbrev pub walk : (olds : List Slots) → (n : ℕ) → Step → Used → World → Walked
  walk olds n skip c w = stays [] c w
  walk olds n halt c w = record { goals = []; end = None; left = nowhere; used = c; fits = true }
  walk olds n (seq a b) c w = let r = walk olds n a c w in then_walk r r.end (walk olds (n + count a) b)
  walk olds n (ask cs) c w = stays (asked n w.known (w.slots ∷ olds) cs) c (knows w (written_forms (w.slots ∷ olds) (forms cs)))
  walk olds n (know fs) c w = stays [] c (knows w (written_forms (w.slots ∷ olds) fs))
  walk olds n (set i u) c w = set_walk w i (named (base_at bases i) c (u.written (w.slots ∷ olds)))
  walk olds n (change cs) c w = stays [] (used_by_renewed bases c cs w) (renewed bases olds c cs w)
  walk olds n (choose f a b) c w =
      let g = f.written (w.slots ∷ olds) in
      let v = marked c w in
      let r = walk olds n a (use_one c mark_base) (knows v (g ∷ [])) in
      both_arms r (walk olds (n + count a) b r.used (knows v (not_of g ∷ [])))
  walk olds n (block a) c w = blocked (walk olds n a c w)
  walk olds n (exit k) c w = record { goals = []; end = None; left = left_by k w; used = c; fits = true }
  walk olds n (scope is a) c w = on_worlds (restored is w) (walk olds n a c w)
  walk olds n (remember a) c w = let v = marked c w in walk (v.slots ∷ olds) n a (use_one c mark_base) v
  walk olds n grown c w = stays [] (use_one c count_base.name) (grown_world c w)
  walk olds n (made i l) c w = stays [] (use_one c mark_base) (made_world c i l w)
  walk olds n (ended l) c w = stays [] c (ended_world (at_or w.slots olds l) w)

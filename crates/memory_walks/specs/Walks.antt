-- What a walk over steps does to what is held in memory.
use Rattle.std.specs.Prelude.{◌≡◌, ℕ, pos, Bool, true, false, List, [], ◌∷◌, ◌++◌, take, length, Option, Some, None}
use Rattle.wp_base.specs.declared.kinds.Layout.{Layout}
use Rattle.qed_terms.specs.Fresh.{Used, use_one}
use Rattle.qed_terms.specs.Tree.{Tree, num}
use Rattle.walk_steps.specs.State.{at_or}
use Rattle.walk_steps.specs.Walk.{Goal}
use Rattle.memory_steps.specs.State.{Base}
use Rattle.memory_steps.specs.Forms.{Slots, slots_of}
use Rattle.memory_steps.specs.Step.{Step, Change}
use Rattle.memory_steps.specs.World.{World, world, knows, base_at, named, set_to, mark_base, marked, count_base, grown_world, made_world, ended_world}
use Rattle.memory_steps.specs.Renew.{renewed, used_by_renewed}
use Rattle.memory_steps.specs.Walk.{Walked, left_by, walk}

-- The slots that are remembered, the last ones first; the names that were used; what is known and the slots; and the worlds at the exits so far, out of so many
-- blocks and one more.
pub record Held : Type 0 where
  pub olds : List Slots
  pub used : Used
  pub world : World
  pub left : ℕ → List World

-- the present slots and those that are remembered
abbrev pub states : Held → List Slots
states p = p.world.slots ∷ p.olds

-- whether there is an end, and the world there
abbrev pub EndsAs : Bool → World → Option World → Type 0
EndsAs true w (Some v) = w ≡ v
EndsAs true w None = ⊥
EndsAs false w (Some v) = ⊥
EndsAs false w None = Unit {0}

abbrev pub Begins : List Tree → List Tree → Type 0
Begins xs ys = take (length xs) ys ≡ xs

abbrev pub walk_at : (bases : List Base) → Held → (n : ℕ) → Step → Walked
walk_at bases p n a = walk bases p.olds n a p.used p.world

-- From one that is held a step is walked to another one, and its end is reached or isn't: its goals are passed on behind those before, which number them, its
-- exits are added to those before, and what was known is still at the front. Where the end isn't reached, nothing is told of the slots.
pub record Walks (bases : List Base) (a : Step) (p q : Held) (fit fit' : List Goal → Type 0) (goes : Bool) : Type 0 where
  pub goals : (gs : List Goal) → fit gs → fit' (gs ++ (walk_at bases p (length gs) a).goals)
  pub left : (n k : ℕ) → q.left k ≡ p.left k ++ (walk_at bases p n a).left k
  pub used : (n : ℕ) → q.used ≡ (walk_at bases p n a).used
  pub olds : q.olds ≡ p.olds
  pub front : Begins p.world.known q.world.known
  pub end : (n : ℕ) → EndsAs goes q.world (walk_at bases p n a).end

-- ---- single steps

abbrev pub now_knows : Held → List Tree → Held
now_knows p fs = record p { world = knows p.world fs }

abbrev pub now_set : (bases : List Base) → Held → ℕ → Tree → Held
now_set bases p i t = record p { used = (named (base_at bases i) p.used t).used; world = set_to p.world i (named (base_at bases i) p.used t) }

abbrev pub now_changed : (bases : List Base) → Held → List Change → Held
now_changed bases p cs = record p { used = used_by_renewed bases p.used cs p.world; world = renewed bases p.olds p.used cs p.world }

abbrev pub no_slots : Slots
no_slots = slots_of [] (num (pos 0)) []

-- no way goes on from here: the world is at the exit, and what was known stays for another arm
abbrev pub now_left : Held → ℕ → Held
now_left p l = record p { left = λ k. p.left k ++ left_by l p.world k; world = world p.world.known no_slots }

abbrev pub now_marked : Held → Held
now_marked p = record p { used = use_one p.used mark_base; world = marked p.used p.world }

abbrev pub now_remembers : Held → Held
now_remembers p = record p { olds = (marked p.used p.world).slots ∷ p.olds; used = use_one p.used mark_base; world = marked p.used p.world }

abbrev pub rest_of : {X : Type 0} → List X → List X
rest_of [] = []
rest_of (x ∷ xs) = xs

abbrev pub now_forgets : Held → Held
now_forgets p = record p { olds = rest_of p.olds }

-- ---- the table

abbrev pub now_grown : Held → Held
now_grown p = record p { used = use_one p.used count_base.name; world = grown_world p.used p.world }

abbrev pub now_made : Held → ℕ → Layout → Held
now_made p i l = record p { used = use_one p.used mark_base; world = made_world p.used i l p.world }

abbrev pub now_ended : Held → (level : ℕ) → Held
now_ended p l = record p { world = ended_world (at_or p.world.slots p.olds l) p.world }

-- Arms, blocks and scopes in memory: where they begin and where they end.
use Rattle.std.specs.Prelude.{◌≡◌, ℕ, zero, suc, Bool, false, List, [], ◌++◌, map, drop, length, Option}
use Rattle.qed_terms.specs.Tree.{Tree}
use Rattle.qed_terms.specs.View.{formula_tree}
use Rattle.walk_steps.specs.Walk.{list_of}
use Rattle.memory_steps.specs.State.{Base}
use Rattle.memory_steps.specs.World.{World, world}
use Rattle.memory_steps.specs.Join.{join, used_by_join, meet, used_by_meet}
use Rattle.memory_worlds.specs.Scopes.{with_saved}
use Rattle.memory_worlds.specs.View.{view_slots}
use Rattle.memory_walks.specs.declared.arms.Fork.{Fork}
use Rattle.memory_walks.specs.declared.arms.Arm.{Arm}
use Rattle.memory_walks.specs.Walks.{Held, EndsAs, Begins}

-- ---- arms

-- it keeps where the arms begin
pub record IsFork (f : Fork) (p : Held) : Type 0 where
  pub from : f.from ≡ length p.world.known
  pub slots : view_slots f.slots ≡ p.world.slots

-- what the first arm came to, behind what is known before both
pub record IsArm (arm : Arm) (p : Held) (w : World) : Type 0 where
  pub from : arm.from ≡ length p.world.known
  pub world : w ≡ world (p.world.known ++ map formula_tree arm.known.items) (view_slots arm.slots)

-- the second arm begins where the first one did
pub record TurnsBack (p q : Held) (arm : Arm) (r : Held) : Type 0 where
  pub is_arm : IsArm arm p q.world
  pub back : r ≡ record q { world = p.world }

-- the first arm alone goes on, and r is where the second one stopped
abbrev pub first_alone : Held → Arm → Held → Held
first_alone p arm r = record r { world = world (p.world.known ++ map formula_tree arm.known.items) (view_slots arm.slots) }

-- both go on
abbrev pub arms_joined : (bases : List Base) → Held → Arm → Held → Held
arms_joined bases p arm r =
    let a = world (map formula_tree arm.known.items) (view_slots arm.slots) in
    let b = world (drop (length p.world.known) r.world.known) r.world.slots in
    let w = join bases r.used a b in
    record r { used = used_by_join bases r.used a b; world = world (p.world.known ++ w.known) w.slots }

-- the arms meet: the first one came to the world w, the second one to r
pub record Meets (bases : List Base) (p : Held) (first : Bool) (w : World) (second : Bool) (r x : Held) (goes : Bool) : Type 0 where
  pub olds : x.olds ≡ r.olds
  pub left : x.left ≡ r.left
  pub front : Begins p.world.known x.world.known
  pub end : (e e' : Option World) → EndsAs first w e → EndsAs second r.world e' → EndsAs goes x.world (meet bases r.used (list_of e ++ list_of e'))
  pub used : (e e' : Option World) → EndsAs first w e → EndsAs second r.world e' → x.used ≡ used_by_meet bases r.used (list_of e ++ list_of e')

-- ---- blocks

-- the exits of the blocks around are set aside
abbrev pub now_inside : Held → Held
now_inside p = record p { left = λ k. [] }

-- the end of a block, with the exits in it; `outer` are those of the blocks around
pub record BlockEnds (bases : List Base) (outer : ℕ → List World) (goes : Bool) (q r : Held) (on : Bool) : Type 0 where
  pub olds : r.olds ≡ q.olds
  pub left : (k : ℕ) → r.left k ≡ outer k ++ q.left (suc k)
  pub kept : on ≡ false → r.world ≡ q.world
  pub end : (e : Option World) → EndsAs goes q.world e → EndsAs on r.world (meet bases q.used (q.left zero ++ list_of e))
  pub used : (e : Option World) → EndsAs goes q.world e → r.used ≡ used_by_meet bases q.used (q.left zero ++ list_of e)

-- ---- scopes

-- these slots have these terms, at the exits too
abbrev pub now_put_back : (places : List ℕ) → (saved : List Tree) → (outer : ℕ → List World) → Held → Held
now_put_back is saved outer q = record q { world = with_saved is saved q.world; left = λ k. outer k ++ map (with_saved is saved) (q.left k) }

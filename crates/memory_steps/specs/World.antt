-- What is known at a point, and fresh names.
use Rattle.std.specs.Prelude.{ℕ, zero, suc, pos, Bool, if◌then◌else◌, true, false, List, [], ◌∷◌, ◌++◌, codes, Option, Some, None}
use Rattle.qed_terms.specs.declared.head.Sort.TheVariants as sort
use Rattle.qed_terms.specs.declared.head.Head.TheVariants as h
use Rattle.qed_terms.specs.declared.head.TermOp.TheVariants as op
use Rattle.qed_terms.specs.declared.head.FormOp.TheVariants as form
use Rattle.wp_base.specs.declared.kinds.Layout.{Layout}
use Rattle.qed_terms.specs.Tree.{Tree, node, stop, one, two, num, var, at_most, equal}
use Rattle.qed_terms.specs.Fresh.{fresh_name, Used, use_one}
use Rattle.walk_steps.specs.State.{put, restore}
use Rattle.walk_steps.specs.World.{IsBase, large_base, is_large}
use Rattle.memory_steps.specs.State.{Base, base}
use Rattle.memory_steps.specs.Forms.{Mark, Slots, slots_of}

-- ---- terms

abbrev pub memory_var : List ℕ → Tree
memory_var x = node (h.Var x sort.Memory) stop

abbrev pub table_var : List ℕ → Tree
table_var x = node (h.Var x sort.Table) stop

abbrev pub count_of : Tree → Tree
count_of t = node (h.Term op.Count) (one t)

abbrev pub grow_of : (table count : Tree) → Tree
grow_of t c = node (h.Term op.Grow) (two t c)

abbrev pub alloc_of : Tree → Layout → Tree
alloc_of t l = node (h.Term (op.Alloc l)) (one t)

abbrev pub same_of : Tree → Tree → Tree
same_of t u = node (h.Form form.Same) (two t u)

-- ---- worlds

pub record World : Type 0 where
  pub known : List Tree
  pub slots : Slots

abbrev pub world : List Tree → Slots → World
world known slots = record { known = known; slots = slots }

abbrev pub knows : World → List Tree → World
knows w fs = world (w.known ++ fs) w.slots

abbrev pub with_terms : Slots → List Tree → Slots
with_terms ss ts = slots_of ts ss.table ss.trail

-- with the slots of a scope as they were before
abbrev pub restored : List ℕ → (old : World) → World → World
restored is old w = world w.known (with_terms w.slots (restore (num (pos 0)) is old.slots.terms w.slots.terms))

-- ---- fresh names

abbrev pub AreBases : List Base → Type 0
AreBases [] = Unit {0}
AreBases (b ∷ bases) = IsBase b.name × AreBases bases

abbrev pub name_for : (is_memory : Bool) → List ℕ → Tree
name_for true x = memory_var x
name_for false x = var x

-- the next one of a base
abbrev pub new_name : Used → Base → Tree
new_name c b = name_for b.is_memory (fresh_name b.name (suc (c b.name)))

-- a fresh name for a slot of this base, if it gets one
abbrev pub pick : Used → Base → Bool → Option Tree
pick c b t = if t then Some (new_name c b) else None

abbrev pub after_pick : Used → Base → Option Tree → Used
after_pick c b None = c
after_pick c b (Some t) = use_one c b.name

-- one for each slot
abbrev pub after_picks : List Base → List (Option Tree) → Used → Used
after_picks bases [] c = c
after_picks [] (p ∷ ps) c = c
after_picks (b ∷ bases) (p ∷ ps) c = after_picks bases ps (after_pick c b p)

abbrev pub or_own : Option Tree → Tree → Tree
or_own None t = t
or_own (Some x) t = x

abbrev pub chosen : List (Option Tree) → List Tree → List Tree
chosen [] ts = ts
chosen (p ∷ ps) [] = []
chosen (p ∷ ps) (t ∷ ts) = or_own p t ∷ chosen ps ts

-- that a name of this base is a term
abbrev pub is_same : (is_memory : Bool) → Tree → Tree → Tree
is_same true x t = same_of x t
is_same false x t = equal x t

-- ---- values that are set

-- a large number gets a name of its own base, a large memory one of the slot's
abbrev pub base_at : List Base → ℕ → Base
base_at [] i = base large_base false
base_at (b ∷ bases) zero = if b.is_memory then b else base large_base false
base_at (b ∷ bases) (suc i) = base_at bases i

-- the term that stands for a value, the names used then, and what is known of it
pub record Named : Type 0 where
  pub term : Tree
  pub used : Used
  pub links : List Tree

abbrev pub named : Base → Used → Tree → Named
named b c t =
    if is_large t then record { term = new_name c b; used = use_one c b.name; links = is_same b.is_memory (new_name c b) t ∷ [] }
    else record { term = t; used = c; links = [] }

abbrev pub set_to : World → ℕ → Named → World
set_to w i t = world (w.known ++ t.links) (with_terms w.slots (put w.slots.terms i t.term))

-- ---- the table

-- the base of numbers of blocks, and that of numbers of points
abbrev pub count_base : Base
count_base = base (codes "c") false

abbrev pub mark_base : List ℕ
mark_base = []

abbrev pub with_mark : Used → Tree → List Mark → List Mark
with_mark c t ps = ps ++ record { number = suc (c mark_base); table = t } ∷ []

-- with a point that was passed
abbrev pub marked : Used → World → World
marked c w = world w.known (slots_of w.slots.terms w.slots.table (with_mark c w.slots.table w.slots.trail))

-- any number of blocks were made and have ended
abbrev pub grown_world : Used → World → World
grown_world c w =
    let x = new_name c count_base in
    world (w.known ++ at_most (count_of w.slots.table) x ∷ []) (slots_of w.slots.terms (grow_of w.slots.table x) w.slots.trail)

-- one more block, and its number, which was the count; the only point is that behind it
abbrev pub made_world : Used → ℕ → Layout → World → World
made_world c i l w =
    let t = alloc_of w.slots.table l in
    world w.known (slots_of (put w.slots.terms i (count_of w.slots.table)) t (with_mark c t []))

-- the blocks that were made since have ended, and the points are those from before
abbrev pub ended_world : (old : Slots) → World → World
ended_world old w = world w.known (slots_of w.slots.terms (grow_of old.table (count_of w.slots.table)) old.trail)

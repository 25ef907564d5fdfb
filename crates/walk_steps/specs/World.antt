-- What is known at a point, and fresh names.
use Rattle.std.specs.Prelude.{ℕ, suc, nat_lt, pos, Bool, if◌then◌else◌, List, [], ◌∷◌, ◌++◌, codes, Option, Some, None}
use Rattle.qed_terms.specs.Tree.{Tree, num, var, size, equal}
use Rattle.qed_terms.specs.Fresh.{Lacks, hash, fresh_name, Used, use_one}
use Rattle.walk_steps.specs.State.{put, restore}
use Rattle.walk_steps.specs.Forms.{Slots, bang}

pub record World : Type 0 where
  pub known : List Tree
  pub slots : Slots

abbrev pub world : List Tree → Slots → World
world known slots = record { known = known; slots = slots }

abbrev pub knows : World → List Tree → World
knows w fs = world (w.known ++ fs) w.slots

-- with the slots of a scope as they were before
abbrev pub restored : List ℕ → (old : World) → World → World
restored is old w = world w.known (restore (num (pos 0)) is old.slots w.slots)

-- ---- fresh names

-- a base of fresh names: none of its own is a fresh one, or bound by a quantifier
abbrev pub IsBase : List ℕ → Type 0
IsBase b = Lacks hash b × Lacks bang b

abbrev pub AreBases : List (List ℕ) → Type 0
AreBases [] = Unit {0}
AreBases (b ∷ bases) = IsBase b × AreBases bases

-- the next one of a base
abbrev pub new_name : Used → List ℕ → Tree
new_name c base = var (fresh_name base (suc (c base)))

-- a fresh name for a slot of this base, if it gets one
abbrev pub pick : Used → List ℕ → Bool → Option Tree
pick c base b = if b then Some (new_name c base) else None

abbrev pub after_pick : Used → List ℕ → Option Tree → Used
after_pick c base None = c
after_pick c base (Some t) = use_one c base

-- one for each slot
abbrev pub after_picks : List (List ℕ) → List (Option Tree) → Used → Used
after_picks bases [] c = c
after_picks [] (p ∷ ps) c = c
after_picks (b ∷ bases) (p ∷ ps) c = after_picks bases ps (after_pick c b p)

abbrev pub or_own : Option Tree → Tree → Tree
or_own None t = t
or_own (Some x) t = x

abbrev pub chosen : List (Option Tree) → Slots → Slots
chosen [] ts = ts
chosen (p ∷ ps) [] = []
chosen (p ∷ ps) (t ∷ ts) = or_own p t ∷ chosen ps ts

-- ---- values that are set

abbrev pub large_base : List ℕ
large_base = codes "v"

-- a value of more than 40 nodes is named
abbrev pub is_large : Tree → Bool
is_large t = nat_lt 40 (size t)

-- the term that stands for a value, the names used then, and what is known of it
pub record Named : Type 0 where
  pub term : Tree
  pub used : Used
  pub links : List Tree

abbrev pub named : Used → Tree → Named
named c t =
    if is_large t then record { term = new_name c large_base; used = use_one c large_base; links = equal (new_name c large_base) t ∷ [] }
    else record { term = t; used = c; links = [] }

abbrev pub set_to : World → ℕ → Named → World
set_to w i t = world (w.known ++ t.links) (put w.slots i t.term)

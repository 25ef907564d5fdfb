-- What the rules keep, and how the passes go by them.
use Rattle.std.specs.Prelude.{◌≡◌, ◌⊎◌, true, Some, None}
use Rattle.wp_base.specs.declared.kinds.Layout.{Layout}
use Rattle.qed_terms.specs.declared.head.Head.{Head}
use Rattle.qed_terms.specs.declared.head.Head.TheVariants as h
use Rattle.qed_terms.specs.declared.head.TermOp.TheVariants as op
use Rattle.qed_terms.specs.Tree.{Tree, node, Trees, stop, more, kids_in, two, three}
use Rattle.qed_terms.specs.Meaning.{World, Values, meaning}
use Rattle.qed_linear.specs.Linear.{unwrap_or}
use Rattle.qed_memories.specs.Alike.{Alike}
use Rattle.qed_memories.specs.Memories.{asks, layout_answer, no_answer, memory_step}
use Rattle.qed_memories.specs.Passes.{memory_pass}

-- What a rule makes of a node means what the node means, in each world and under all values: an equal integer, truth value or table, or a
-- memory that holds the same at each address.
abbrev pub MemoriesKeepMeaning : Type 0
MemoriesKeepMeaning = (head : Head) (ts : Trees) (w : Tree) → memory_step head ts ≡ Some w → (world : World) (env : Values) → Alike (meaning world env w) (meaning world env (node head ts))

-- ---- steps that are taken again

abbrev pub IsAmong : Tree → Trees → Type 0
IsAmong t stop = ⊥
IsAmong t (more u us) = (t ≡ u) ⊎ IsAmong t us

-- a kid, or a kid of a kid
abbrev pub IsPart : Tree → Trees → Type 0
IsPart t stop = ⊥
IsPart t (more u us) = (t ≡ u) ⊎ (IsAmong t (kids_in u) ⊎ IsPart t us)

abbrev pub AreParts : Trees → Trees → Type 0
AreParts stop ts = Unit {0}
AreParts (more u us) ts = IsPart u ts × AreParts us ts

abbrev pub behind_two : Trees → Trees
behind_two (more t (more u us)) = us
behind_two ts = stop

-- a part, what no block answers, or what a block of a layout does
abbrev pub Ends : Head → Trees → Tree → Type 0
Ends head ts w = IsPart w ts ⊎ ((w ≡ no_answer head) ⊎ ((l : Layout) × (w ≡ layout_answer l head (behind_two ts))))

-- What the steps at a node lead to, where each but the last makes a node of the same head over parts. So where the kids of a node are in
-- normal form, those of each node on the way are.
pub data Leads : Head → Trees → Tree → Type 0 where
  stays : {head : Head} {ts : Trees} → memory_step head ts ≡ None → Leads head ts (node head ts)
  ends : {head : Head} {ts : Trees} {w : Tree} → memory_step head ts ≡ Some w → Ends head ts w → Leads head ts w
  goes_on : {head : Head} {ts us : Trees} {w : Tree} → memory_step head ts ≡ Some (node head us) → AreParts us ts → Leads head us w → Leads head ts w

-- what the passes make, or the node where they change nothing
abbrev pub passed : Head → Trees → Tree
passed head ts = unwrap_or (memory_pass head ts) (node head ts)

-- The passes are such steps, but for the count of a table: that is made of the count of the table below, and 1.
pub record PassesAreSteps : Type 0 where
  pub loads : (m b o : Tree) → Leads (h.Term op.Load) (three m b o) (passed (h.Term op.Load) (three m b o))
  pub stores : (m b o v : Tree) → Leads (h.Term op.Store) (more m (three b o v)) (passed (h.Term op.Store) (more m (three b o v)))
  pub grows : (t u : Tree) → Leads (h.Term op.Grow) (two t u) (passed (h.Term op.Grow) (two t u))
  pub asks_block : (head : Head) (t b : Tree) (ts : Trees) → asks head ts ≡ true → Leads head (more t (more b ts)) (passed head (more t (more b ts)))

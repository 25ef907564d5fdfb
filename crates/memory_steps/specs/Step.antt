-- Steps: what is done to a state, what is asked of it, and in which order.
use Rattle.std.specs.Prelude.{◌≡◌, ℕ, zero, suc, List, [], ◌∷◌, ◌++◌, map, length, Bool, true, false, ◌||◌, ◌&&◌, nat_eq}
use Rattle.wp_base.specs.declared.kinds.Layout.{Layout}
use Rattle.qed_terms.specs.Meaning as sense
use Rattle.walk_steps.specs.Forms.{Place}
use Rattle.walk_steps.specs.Step.{where_so}
use Rattle.memory_steps.specs.State.{Base}
use Rattle.memory_steps.specs.Forms.{Form, Term, Fact, Check, forms, IsForm, IsTerm, AreForms, AreFacts}

-- how a slot changes
pub data Change : Type 0 where
  keeps : Change
  -- any datum of its sort of which these are so; they speak of the slots before the change
  fresh : (facts : List Fact) → Change
  -- a flag, 0 or 1: what was set stays so
  raised : Change

pub data Step : Type 0 where
  skip : Step
  -- there is no way on
  halt : Step
  seq : (a b : Step) → Step
  -- each is asked in turn, and so from then on
  ask : (checks : List Check) → Step
  know : (forms : List Form) → Step
  set : (i : ℕ) (u : Term) → Step
  -- the slots in order, all at once; those behind the last one stay
  change : (cs : List Change) → Step
  choose : (f : Form) (a b : Step) → Step
  -- an exit of it ends here
  block : (a : Step) → Step
  -- out of so many blocks and one more
  exit : (k : ℕ) → Step
  -- afterwards, also on the way out by an exit, these slots are as they were before
  scope : (is : List ℕ) (a : Step) → Step
  -- the present slots and the table are remembered in it
  remember : (a : Step) → Step
  -- any number of blocks were made, and have ended
  grown : Step
  -- one more block, which lives, and its number in this slot
  made : (i : ℕ) (l : Layout) → Step
  -- the blocks that were made since the table of this level was remembered have ended
  ended : (level : ℕ) → Step

abbrev mutual
  -- whether an exit out of so many blocks and one more is walked
  pub leaves_by : Step → ℕ → Bool
  leaves_by (seq a b) k = leaves_by a k || (goes a && leaves_by b k)
  leaves_by (choose f a b) k = leaves_by a k || leaves_by b k
  leaves_by (block a) k = leaves_by a (suc k)
  leaves_by (exit l) k = nat_eq l k
  leaves_by (scope is a) k = leaves_by a k
  leaves_by (remember a) k = leaves_by a k
  leaves_by s k = false

  -- whether its end can be reached
  pub goes : Step → Bool
  goes halt = false
  goes (seq a b) = goes a && goes b
  goes (choose f a b) = goes a || goes b
  goes (block a) = leaves_by a 0 || goes a
  goes (exit k) = false
  goes (scope is a) = goes a
  goes (remember a) = goes a
  goes s = true

-- the places of its checks, in order; what stands behind a step whose end isn't reached isn't walked
abbrev pub places : Step → List Place
places (seq a b) = places a ++ where_so (goes a) (places b)
places (ask cs) = map (λ (c : Check). c.place) cs
places (choose f a b) = places a ++ places b
places (block a) = places a
places (scope is a) = places a
places (remember a) = places a
places s = []

abbrev pub count : Step → ℕ
count a = length (places a)

-- whether the slot of this number holds a memory
abbrev pub sort_at : List Base → ℕ → Bool
sort_at [] i = false
sort_at (b ∷ bases) zero = b.is_memory
sort_at (b ∷ bases) (suc i) = sort_at bases i

-- all in the change is good, for a slot of this base
module _ (m : sense.World) where
  abbrev pub IsChange : Base → Change → Type 0
  IsChange b keeps = Unit {0}
  IsChange b (fresh fs) = AreFacts m fs
  IsChange b raised = b.is_memory ≡ false

  abbrev pub AreChanges : List Base → List Change → Type 0
  AreChanges bs [] = Unit {0}
  AreChanges [] (c ∷ cs) = Unit {0}
  AreChanges (b ∷ bs) (c ∷ cs) = IsChange b c × AreChanges bs cs

-- and all in the step, for slots of these bases
module _ (m : sense.World) (bases : List Base) where
  abbrev pub IsGood : Step → Type 0
  IsGood skip = Unit {0}
  IsGood halt = Unit {0}
  IsGood (seq a b) = IsGood a × IsGood b
  IsGood (ask cs) = AreForms m (forms cs)
  IsGood (know fs) = AreForms m fs
  IsGood (set i u) = IsTerm m (sort_at bases i) u
  IsGood (change cs) = AreChanges m bases cs
  IsGood (choose f a b) = IsForm m f × IsGood a × IsGood b
  IsGood (block a) = IsGood a
  IsGood (exit k) = Unit {0}
  IsGood (scope is a) = IsGood a
  IsGood (remember a) = IsGood a
  IsGood grown = Unit {0}
  IsGood (made i l) = sort_at bases i ≡ false
  IsGood (ended l) = Unit {0}

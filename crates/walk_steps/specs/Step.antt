-- Steps: what is done to a state, what is asked of it, and in which order.
use Rattle.std.specs.Prelude.{ℕ, suc, List, [], ◌∷◌, ◌++◌, map, length, Bool, true, false, ◌||◌, ◌&&◌, nat_eq}
use Rattle.qed_terms.specs.Meaning as sense
use Rattle.walk_steps.specs.Forms.{Form, Number, Fact, Place, Check, forms, IsForm, IsNumber, AreForms, AreFacts}

-- how a slot changes
pub data Change : Type 0 where
  keeps : Change
  -- any value of which these are so; they speak of the slots before the change
  fresh : (facts : List Fact) → Change
  -- a flag, 0 or 1: what was set stays so
  raised : Change

pub data Step : Type 0 where
  skip : Step
  -- there is no way on
  halt : Step
  seq : (a b : Step) → Step
  -- each is asked in turn, and so from then on
  ask : (checks : List Check) → Step
  know : (forms : List Form) → Step
  set : (i : ℕ) (u : Number) → Step
  -- the slots in order, all at once; those behind the last one stay
  change : (cs : List Change) → Step
  choose : (f : Form) (a b : Step) → Step
  -- an exit of it ends here
  block : (a : Step) → Step
  -- out of so many blocks and one more
  exit : (k : ℕ) → Step
  -- afterwards, also on the way out by an exit, these slots are as they were before
  scope : (is : List ℕ) (a : Step) → Step
  -- the present slots are remembered in it
  remember : (a : Step) → Step

abbrev mutual
  -- whether an exit out of so many blocks and one more is walked
  pub leaves_by : Step → ℕ → Bool
  leaves_by (seq a b) k = leaves_by a k || (goes a && leaves_by b k)
  leaves_by (choose f a b) k = leaves_by a k || leaves_by b k
  leaves_by (block a) k = leaves_by a (suc k)
  leaves_by (exit l) k = nat_eq l k
  leaves_by (scope is a) k = leaves_by a k
  leaves_by (remember a) k = leaves_by a k
  leaves_by s k = false

  -- whether its end can be reached
  pub goes : Step → Bool
  goes halt = false
  goes (seq a b) = goes a && goes b
  goes (choose f a b) = goes a || goes b
  goes (block a) = leaves_by a 0 || goes a
  goes (exit k) = false
  goes (scope is a) = goes a
  goes (remember a) = goes a
  goes s = true

abbrev pub where_so : {X : Type 0} → Bool → List X → List X
where_so true xs = xs
where_so false xs = []

-- the places of its checks, in order; what stands behind a step whose end isn't reached isn't walked
abbrev pub places : Step → List Place
places (seq a b) = places a ++ where_so (goes a) (places b)
places (ask cs) = map (λ (c : Check). c.place) cs
places (choose f a b) = places a ++ places b
places (block a) = places a
places (scope is a) = places a
places (remember a) = places a
places s = []

abbrev pub count : Step → ℕ
count a = length (places a)

-- all in the step is good
module _ (m : sense.World) where
  abbrev pub IsChange : Change → Type 0
  IsChange keeps = Unit {0}
  IsChange (fresh fs) = AreFacts m fs
  IsChange raised = Unit {0}

  abbrev pub AreChanges : List Change → Type 0
  AreChanges [] = Unit {0}
  AreChanges (c ∷ cs) = IsChange c × AreChanges cs

  abbrev pub IsGood : Step → Type 0
  IsGood skip = Unit {0}
  IsGood halt = Unit {0}
  IsGood (seq a b) = IsGood a × IsGood b
  IsGood (ask cs) = AreForms m (forms cs)
  IsGood (know fs) = AreForms m fs
  IsGood (set i u) = IsNumber m u
  IsGood (change cs) = AreChanges cs
  IsGood (choose f a b) = IsForm m f × IsGood a × IsGood b
  IsGood (block a) = IsGood a
  IsGood (exit k) = Unit {0}
  IsGood (scope is a) = IsGood a
  IsGood (remember a) = IsGood a

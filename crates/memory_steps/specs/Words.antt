-- Words whose blocks end on each way out of them, so that their steps are bracketed.
use Rattle.std.specs.Prelude.{◌≡◌, ℕ, zero, suc, Bool, true, false, List, [], ◌∷◌}
use Rattle.wp_base.specs.declared.kinds.Layout.{Layout}
use Rattle.memory_steps.specs.Forms.{Form}
use Rattle.memory_steps.specs.Step.{Step, seq, choose, block, exit, scope, remember, made, ended}
use Rattle.memory_steps.specs.Bracketed.{IsBracketed, Comes}

-- what stands around a place, the innermost first: a block, or a remembered level in which blocks were made or weren't
pub data Around : Type 0 where
  blocked : Around
  level : (opened : Bool) → Around

-- out of so many blocks and one more, where so many levels were passed: what was made in levels inside of the last block ends, the innermost first
abbrev pub leave_through : List Around → (passed k out : ℕ) → Step
leave_through [] l k out = exit out
leave_through (blocked ∷ is) l zero out = exit out
leave_through (blocked ∷ is) l (suc k) out = leave_through is l k out
leave_through (level true ∷ is) l k out = seq (ended l) (leave_through is (suc l) k out)
leave_through (level false ∷ is) l k out = leave_through is (suc l) k out

abbrev pub leave : List Around → (k : ℕ) → Step
leave is k = leave_through is zero k k

-- a block that is made: the slot of its number, and its layout
pub record Making : Type 0 where
  pub slot : ℕ
  pub layout : Layout

-- in a row
abbrev pub made_then : List Making → Step → Step
made_then [] a = a
made_then (p ∷ ps) a = seq (made p.slot p.layout) (made_then ps a)

-- they live in this step
abbrev pub bracket : List Making → Step → Step
bracket ps a = remember (made_then ps (seq a (ended 0)))

-- the epochs of the levels and of the blocks around, from this one
abbrev pub AreEpochs : List Around → ℕ → (levels blocks : List ℕ) → Type 0
AreEpochs [] x ls bs = (ls ≡ []) × (bs ≡ [])
AreEpochs (blocked ∷ is) x ls [] = ⊥
AreEpochs (blocked ∷ is) x ls (y ∷ bs) = (y ≡ x) × AreEpochs is x ls bs
AreEpochs (level o ∷ is) x [] bs = ⊥
AreEpochs (level true ∷ is) x (y ∷ ls) bs = AreEpochs is y ls bs
AreEpochs (level false ∷ is) x (y ∷ ls) bs = (y ≡ x) × AreEpochs is x ls bs

-- An exit may stand in any epoch where it ends what was made since its block began.
abbrev pub ExitsEnd : Type 0
ExitsEnd = (is : List Around) (ls bs : List ℕ) (x y k : ℕ) → AreEpochs is x ls bs → Comes ls bs x (leave is k) y

-- What stands in a bracket is in an epoch of its own.
abbrev pub BracketsEnd : Type 0
BracketsEnd = (ls bs : List ℕ) (x : ℕ) (ps : List Making) (a : Step) → ((y : ℕ) → Comes (x ∷ ls) bs y a y) → Comes ls bs x (bracket ps a) x

-- ---- words

-- in whatever epoch, the step comes back to it
abbrev pub Stays : Step → Type 0
Stays a = (ls bs : List ℕ) (x : ℕ) → Comes ls bs x a x

pub data Word : Type 0 where
  does : (a : Step) → Stays a → Word
  leaves : (k : ℕ) → Word
  both : (v w : Word) → Word
  chooses : (f : Form) (v w : Word) → Word
  blocks : (w : Word) → Word
  scopes : (is : List ℕ) (w : Word) → Word
  remembers : (w : Word) → Word
  brackets : (ps : List Making) (w : Word) → Word

abbrev pub steps : List Around → Word → Step
steps is (does a h) = a
steps is (leaves k) = leave is k
steps is (both v w) = seq (steps is v) (steps is w)
steps is (chooses f v w) = choose f (steps is v) (steps is w)
steps is (blocks w) = block (steps (blocked ∷ is) w)
steps is (scopes js w) = scope js (steps is w)
steps is (remembers w) = remember (steps (level false ∷ is) w)
steps is (brackets ps w) = bracket ps (steps (level true ∷ is) w)

-- All words are bracketed.
abbrev pub WordsAreBracketed : Type 0
WordsAreBracketed = (w : Word) → IsBracketed (steps [] w)

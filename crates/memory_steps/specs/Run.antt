-- Segment runs of steps: to the end, out of a block, or to the first check that is false.
use Rattle.std.specs.Prelude.{◌≡◌, ℕ, zero, suc, ◌+◌, ℤ, pos, int_le, List, [], ◌∷◌, true, false}
use Rattle.wp_base.specs.declared.kinds.Layout.{Layout}
use Rattle.wp_base.specs.Blocks as tables
use Rattle.wp_base.specs.Blocks.{Table, alloc, grow}
use Rattle.walk_steps.specs.State.{at_or, put, restore, AllTrue, FirstFalse}
use Rattle.memory_steps.specs.State.{Datum, number, cells, State, state, with_slots, with_table, IsLike, nothing}
use Rattle.memory_steps.specs.Forms.{Form, Term, Check, forms, told_forms, AllTold}
use Rattle.memory_steps.specs.Step.{Change, keeps, fresh, raised, Step, skip, seq, ask, know, set, change, choose, block, exit, scope, remember, grown, made, ended, count}

pub data End : Type 0 where
  goes_on : (st : State) → End
  -- out of so many blocks and one more
  leaves : (k : ℕ) (st : State) → End
  -- at the check of this number
  fails : (i : ℕ) → End

-- what comes behind isn't come to
abbrev pub IsOver : End → Type 0
IsOver (goes_on st) = ⊥
IsOver (leaves k st) = Unit {0}
IsOver (fails i) = Unit {0}

-- the end of a block
abbrev pub out : End → End
out (goes_on st) = goes_on st
out (leaves zero st) = goes_on st
out (leaves (suc k) st) = leaves k st
out (fails i) = fails i

-- with the state changed
abbrev pub on_state : (State → State) → End → End
on_state f (goes_on st) = goes_on (f st)
on_state f (leaves k st) = leaves k (f st)
on_state f (fails i) = fails i

-- a flag may be raised so
abbrev pub Raised : (old new : Datum) → Type 0
Raised (number x) (number y) = (int_le (pos 0) y ≡ true) × (int_le y (pos 1) ≡ true) × (int_le x y ≡ true)
Raised (number x) (cells n) = ⊥
Raised (cells m) (number y) = ⊥
Raised (cells m) (cells n) = ⊥

-- a slot may change so; the states are the present one and those remembered
abbrev pub Changed : List State → Change → (old new : Datum) → Type 0
Changed sts keeps x y = x ≡ y
Changed sts (fresh fs) x y = IsLike x y × AllTold sts fs y
Changed sts raised x y = Raised x y

abbrev pub Changes : List State → List Change → (old new : List Datum) → Type 0
Changes sts [] xs ys = xs ≡ ys
Changes sts (c ∷ cs) [] [] = Unit {0}
Changes sts (c ∷ cs) [] (y ∷ ys) = ⊥
Changes sts (c ∷ cs) (x ∷ xs) [] = ⊥
Changes sts (c ∷ cs) (x ∷ xs) (y ∷ ys) = Changed sts c x y × Changes sts cs xs ys

-- the slots of a scope as they were before
abbrev pub put_back : List ℕ → (old new : State) → State
put_back is old new = with_slots new (restore nothing is old.slots new.slots)

-- a slot set
abbrev pub set_in : State → ℕ → Datum → State
set_in st i d = with_slots st (put st.slots i d)

-- one more block, which lives; its number is in the slot
abbrev pub made_in : State → ℕ → Layout → State
made_in st i l = state (put st.slots i (number (tables.count st.table))) (alloc st.table l)

-- the blocks of a table, and all newer ones ended
abbrev pub ended_to : (old : State) → State → State
ended_to old st = with_table st (grow old.table (tables.count st.table))

-- under the remembered states, the checks of the step numbered from n; a halt has no run
pub data Seg : (olds : List State) (n : ℕ) → Step → State → End → Type 0 where
  skips : {olds : List State} {n : ℕ} {st : State} → Seg olds n skip st (goes_on st)
  goes_both : {olds : List State} {n : ℕ} {a b : Step} {st mid : State} {o : End} → Seg olds n a st (goes_on mid) → Seg olds (n + count a) b mid o
      → Seg olds n (seq a b) st o
  ends_first : {olds : List State} {n : ℕ} {a b : Step} {st : State} {o : End} → Seg olds n a st o → IsOver o → Seg olds n (seq a b) st o
  asks : {olds : List State} {n : ℕ} {cs : List Check} {st : State} → AllTrue (told_forms (st ∷ olds) (forms cs)) → Seg olds n (ask cs) st (goes_on st)
  ask_fails : {olds : List State} {n i : ℕ} {cs : List Check} {st : State} → FirstFalse n (told_forms (st ∷ olds) (forms cs)) i
      → Seg olds n (ask cs) st (fails i)
  knows_so : {olds : List State} {n : ℕ} {fs : List Form} {st : State} → AllTrue (told_forms (st ∷ olds) fs) → Seg olds n (know fs) st (goes_on st)
  sets : {olds : List State} {n i : ℕ} {u : Term} {st : State} → Seg olds n (set i u) st (goes_on (set_in st i (u.told (st ∷ olds))))
  changes : {olds : List State} {n : ℕ} {cs : List Change} {st : State} (ds : List Datum) → Changes (st ∷ olds) cs st.slots ds
      → Seg olds n (change cs) st (goes_on (with_slots st ds))
  first_arm : {olds : List State} {n : ℕ} {f : Form} {a b : Step} {st : State} {o : End} → f.told (st ∷ olds) ≡ true → Seg olds n a st o
      → Seg olds n (choose f a b) st o
  second_arm : {olds : List State} {n : ℕ} {f : Form} {a b : Step} {st : State} {o : End} → f.told (st ∷ olds) ≡ false → Seg olds (n + count a) b st o
      → Seg olds n (choose f a b) st o
  blocks : {olds : List State} {n : ℕ} {a : Step} {st : State} {o : End} → Seg olds n a st o → Seg olds n (block a) st (out o)
  exits : {olds : List State} {n k : ℕ} {st : State} → Seg olds n (exit k) st (leaves k st)
  scopes : {olds : List State} {n : ℕ} {is : List ℕ} {a : Step} {st : State} {o : End} → Seg olds n a st o
      → Seg olds n (scope is a) st (on_state (put_back is st) o)
  remembers : {olds : List State} {n : ℕ} {a : Step} {st : State} {o : End} → Seg (st ∷ olds) n a st o → Seg olds n (remember a) st o
  grows : {olds : List State} {n : ℕ} {st : State} (z : ℤ) → int_le (tables.count st.table) z ≡ true → Seg olds n grown st (goes_on (with_table st (grow st.table z)))
  makes : {olds : List State} {n i : ℕ} {l : Layout} {st : State} → Seg olds n (made i l) st (goes_on (made_in st i l))
  ends : {olds : List State} {n l : ℕ} {st : State} → Seg olds n (ended l) st (goes_on (ended_to (at_or st olds l) st))

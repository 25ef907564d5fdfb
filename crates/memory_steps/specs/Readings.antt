-- How words made of steps are read: what comes behind each step.
use Rattle.std.specs.Prelude.{◌≡◌, ◌⊎◌, ℕ, ◌+◌, ℤ, int_le, true, List, ◌∷◌}
use Rattle.wp_base.specs.declared.kinds.Layout.{Layout}
use Rattle.wp_base.specs.Blocks as tables
use Rattle.wp_base.specs.Blocks.{grow}
use Rattle.walk_steps.specs.State.{at_or, AllTrue, FirstFalse}
use Rattle.memory_steps.specs.State.{Datum, State, with_slots, with_table}
use Rattle.memory_steps.specs.Forms.{Form, Term, Check, forms, told_forms}
use Rattle.memory_steps.specs.Step.{Change, Step, seq, ask, know, set, change, remember, scope, halt, grown, made, ended, count}
use Rattle.memory_steps.specs.Run.{End, goes_on, fails, IsOver, on_state, Changes, put_back, set_in, made_in, ended_to, Seg}

abbrev pub Both : Type 0 → Type 0 → Type 0
Both X Y = (X → Y) × (Y → X)

-- The first step ends the run, or the second one goes on from where it came to.
abbrev pub SequencesRead : Type 0
SequencesRead = (olds : List State) (n : ℕ) (a b : Step) (st : State) (o : End)
    → Both (Seg olds n (seq a b) st o) ((IsOver o × Seg olds n a st o) ⊎ ((mid : State) × Seg olds n a st (goes_on mid) × Seg olds (n + count a) b mid o))

-- A check is false, the first one, or all are true.
abbrev pub AsksRead : Type 0
AsksRead = (olds : List State) (n : ℕ) (cs : List Check) (b : Step) (st : State) (o : End)
    → Both (Seg olds n (seq (ask cs) b) st o)
    (((i : ℕ) × FirstFalse n (told_forms (st ∷ olds) (forms cs)) i × (fails i ≡ o))
    ⊎ (AllTrue (told_forms (st ∷ olds) (forms cs)) × Seg olds (n + count (ask cs)) b st o))

abbrev pub KnowsRead : Type 0
KnowsRead = (olds : List State) (n : ℕ) (fs : List Form) (b : Step) (st : State) (o : End)
    → Both (Seg olds n (seq (know fs) b) st o) (AllTrue (told_forms (st ∷ olds) fs) × Seg olds n b st o)

abbrev pub SetsRead : Type 0
SetsRead = (olds : List State) (n i : ℕ) (u : Term) (b : Step) (st : State) (o : End)
    → Both (Seg olds n (seq (set i u) b) st o) (Seg olds n b (set_in st i (u.told (st ∷ olds))) o)

abbrev pub ChangesRead : Type 0
ChangesRead = (olds : List State) (n : ℕ) (cs : List Change) (b : Step) (st : State) (o : End)
    → Both (Seg olds n (seq (change cs) b) st o) ((ds : List Datum) × Changes (st ∷ olds) cs st.slots ds × Seg olds n b (with_slots st ds) o)

abbrev pub RemembersRead : Type 0
RemembersRead = (olds : List State) (n : ℕ) (a : Step) (st : State) (o : End) → Both (Seg olds n (remember a) st o) (Seg (st ∷ olds) n a st o)

abbrev pub ScopesRead : Type 0
ScopesRead = (olds : List State) (n : ℕ) (is : List ℕ) (a : Step) (st : State) (o : End)
    → Both (Seg olds n (scope is a) st o) ((e : End) × Seg olds n a st e × (on_state (put_back is st) e ≡ o))

-- A pass of a loop: its end asks for what is to be so again, and is not gone on from.
abbrev pub LastAsksRead : Type 0
LastAsksRead = (olds : List State) (n : ℕ) (cs : List Check) (st : State) (o : End)
    → Both (Seg olds n (seq (ask cs) halt) st o) ((i : ℕ) × FirstFalse n (told_forms (st ∷ olds) (forms cs)) i × (fails i ≡ o))

-- Any number of blocks were made and have ended.
abbrev pub GrowthsRead : Type 0
GrowthsRead = (olds : List State) (n : ℕ) (b : Step) (st : State) (o : End)
    → Both (Seg olds n (seq grown b) st o) ((z : ℤ) × (int_le (tables.count st.table) z ≡ true) × Seg olds n b (with_table st (grow st.table z)) o)

abbrev pub MakingsRead : Type 0
MakingsRead = (olds : List State) (n i : ℕ) (l : Layout) (b : Step) (st : State) (o : End)
    → Both (Seg olds n (seq (made i l) b) st o) (Seg olds n b (made_in st i l) o)

abbrev pub EndingsRead : Type 0
EndingsRead = (olds : List State) (n l : ℕ) (b : Step) (st : State) (o : End)
    → Both (Seg olds n (seq (ended l) b) st o) (Seg olds n b (ended_to (at_or st olds l) st) o)

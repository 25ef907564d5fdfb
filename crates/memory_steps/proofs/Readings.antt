-- Runs of words made of steps, by what comes behind each step.
use Rattle.std.proofs.Common.{◌≡◌, ◌⊎◌, ℕ, ◌+◌, ℤ, int_le, true, false, List, ◌∷◌, refl, sym, ap, ◌∙◌, subst, inl, inr, ⊎_elim, add-zero}
use Rattle.wp_base.specs.declared.kinds.Layout.{Layout}
use Rattle.wp_base.specs.Blocks as tables
use Rattle.wp_base.specs.Blocks.{grow}
use Rattle.walk_steps.specs.State.{at_or, AllTrue, FirstFalse}
use Rattle.memory_steps.specs.State.{Datum, State, with_slots, with_table}
use Rattle.memory_steps.specs.Forms.{Form, Term, Check, forms, told_forms}
use Rattle.memory_steps.specs.Step as step
use Rattle.memory_steps.specs.Step.{Change, Step, count}
use Rattle.memory_steps.specs.Run as seg
use Rattle.memory_steps.specs.Run.{End, goes_on, leaves, fails, IsOver, on_state, Changes, put_back, set_in, made_in, ended_to, Seg}
use Rattle.memory_steps.specs.Readings.{SequencesRead, AsksRead, KnowsRead, SetsRead, ChangesRead, RemembersRead, ScopesRead, LastAsksRead, GrowthsRead, MakingsRead, EndingsRead}

goes_parts : {a b : State} → goes_on a ≡ goes_on b → a ≡ b
goes_parts e = cc

fails_goes : {i : ℕ} {st : State} → fails i ≡ goes_on st → ⊥
fails_goes e = cc

-- ---- one step

pub seq_ways : {olds : List State} {n : ℕ} {a b : Step} {st : State} {o : End} → Seg olds n (step.seq a b) st o
    → (IsOver o × Seg olds n a st o) ⊎ ((mid : State) × Seg olds n a st (goes_on mid) × Seg olds (n + count a) b mid o)
seq_ways (seg.goes_both {mid} h k) = inr (mid, h, k)
seq_ways (seg.ends_first h over) = inl (over, h)

abbrev pub Asked : List State → ℕ → List Check → State → End → Type 0
Asked olds n cs st o =
    (AllTrue (told_forms (st ∷ olds) (forms cs)) × (goes_on st ≡ o)) ⊎ ((i : ℕ) × FirstFalse n (told_forms (st ∷ olds) (forms cs)) i × (fails i ≡ o))

pub ask_ways : {olds : List State} {n : ℕ} {cs : List Check} {st : State} {o : End} → Seg olds n (step.ask cs) st o → Asked olds n cs st o
ask_ways (seg.asks t) = inl (t, refl)
ask_ways (seg.ask_fails {i} f) = inr (i, f, refl)

pub know_way : {olds : List State} {n : ℕ} {fs : List Form} {st : State} {o : End} → Seg olds n (step.know fs) st o → AllTrue (told_forms (st ∷ olds) fs) × (goes_on st ≡ o)
know_way (seg.knows_so t) = (t, refl)

pub set_way : {olds : List State} {n i : ℕ} {u : Term} {st : State} {o : End} → Seg olds n (step.set i u) st o → goes_on (set_in st i (u.told (st ∷ olds))) ≡ o
set_way seg.sets = refl

pub change_way : {olds : List State} {n : ℕ} {cs : List Change} {st : State} {o : End} → Seg olds n (step.change cs) st o → (ds : List Datum) × Changes (st ∷ olds) cs st.slots ds × (goes_on (with_slots st ds) ≡ o)
change_way (seg.changes ds h) = (ds, h, refl)

pub choose_ways : {olds : List State} {n : ℕ} {f : Form} {a b : Step} {st : State} {o : End} → Seg olds n (step.choose f a b) st o
    → ((f.told (st ∷ olds) ≡ true) × Seg olds n a st o) ⊎ ((f.told (st ∷ olds) ≡ false) × Seg olds (n + count a) b st o)
choose_ways (seg.first_arm e h) = inl (e, h)
choose_ways (seg.second_arm e h) = inr (e, h)

pub block_way : {olds : List State} {n : ℕ} {a : Step} {st : State} {o : End} → Seg olds n (step.block a) st o → (e : End) × Seg olds n a st e × (seg.out e ≡ o)
block_way (seg.blocks {o} h) = (o, h, refl)

pub exit_way : {olds : List State} {n k : ℕ} {st : State} {o : End} → Seg olds n (step.exit k) st o → leaves k st ≡ o
exit_way seg.exits = refl

pub scope_way : {olds : List State} {n : ℕ} {is : List ℕ} {a : Step} {st : State} {o : End} → Seg olds n (step.scope is a) st o → (e : End) × Seg olds n a st e × (on_state (put_back is st) e ≡ o)
scope_way (seg.scopes {o} h) = (o, h, refl)

pub remember_way : {olds : List State} {n : ℕ} {a : Step} {st : State} {o : End} → Seg olds n (step.remember a) st o → Seg (st ∷ olds) n a st o
remember_way (seg.remembers h) = h

pub halt_way : {olds : List State} {n : ℕ} {st : State} {o : End} → Seg olds n step.halt st o → ⊥
halt_way h = elim h [ ]

pub grown_way : {olds : List State} {n : ℕ} {st : State} {o : End} → Seg olds n step.grown st o
    → (z : ℤ) × (int_le (tables.count st.table) z ≡ true) × (goes_on (with_table st (grow st.table z)) ≡ o)
grown_way (seg.grows z h) = (z, h, refl)

pub made_way : {olds : List State} {n i : ℕ} {l : Layout} {st : State} {o : End} → Seg olds n (step.made i l) st o → goes_on (made_in st i l) ≡ o
made_way seg.makes = refl

pub ended_way : {olds : List State} {n l : ℕ} {st : State} {o : End} → Seg olds n (step.ended l) st o → goes_on (ended_to (at_or st olds l) st) ≡ o
ended_way seg.ends = refl

-- ---- what comes behind

-- behind a step without checks that goes on to one state
one_way : {olds : List State} {n : ℕ} {a b : Step} {st mid : State} {o : End} → count a ≡ 0 → ((e : End) → Seg olds n a st e → goes_on mid ≡ e)
    → Seg olds n (step.seq a b) st o → Seg olds n b mid o
one_way {olds} {n} {a} {b} {st} {mid} {o} none only s = by (seq_ways s)
  where
    by : (IsOver o × Seg olds n a st o) ⊎ ((to : State) × Seg olds n a st (goes_on to) × Seg olds (n + count a) b to o) → Seg olds n b mid o
    by (inl (over, x)) = absurd (subst IsOver (sym (only o x)) over)
    by (inr (to, x, k)) =
        subst (λ n. Seg olds n b mid o) (ap (λ k. n + k) none ∙ add-zero n) (subst (λ st. Seg olds (n + count a) b st o) (sym (goes_parts (only (goes_on to) x))) k)

pub makes_then : {olds : List State} {n i : ℕ} {l : Layout} {b : Step} {st : State} {o : End} → Seg olds n (step.seq (step.made i l) b) st o → Seg olds n b (made_in st i l) o
makes_then s = one_way refl (λ e x. made_way x) s

pub ends_then : {olds : List State} {n l : ℕ} {b : Step} {st : State} {o : End} → Seg olds n (step.seq (step.ended l) b) st o → Seg olds n b (ended_to (at_or st olds l) st) o
ends_then s = one_way refl (λ e x. ended_way x) s

abbrev pub GrownThen : List State → ℕ → Step → State → End → Type 0
GrownThen olds n b st o = (z : ℤ) × (int_le (tables.count st.table) z ≡ true) × Seg olds n b (with_table st (grow st.table z)) o

pub grows_then : {olds : List State} {n : ℕ} {b : Step} {st : State} {o : End} → Seg olds n (step.seq step.grown b) st o → GrownThen olds n b st o
grows_then {olds} {n} {b} {st} {o} s = by (seq_ways s)
  where
    by : (IsOver o × Seg olds n step.grown st o) ⊎ ((mid : State) × Seg olds n step.grown st (goes_on mid) × Seg olds (n + count step.grown) b mid o) → GrownThen olds n b st o
    by (inl (over, a)) = absurd (subst IsOver (sym (grown_way a).2) over)
    by (inr (mid, a, k)) =
        let x = grown_way a in
        (x.0, x.1, subst (λ n. Seg olds n b (with_table st (grow st.table x.0)) o) (add-zero n) (subst (λ st. Seg olds (n + count step.grown) b st o) (sym (goes_parts x.2)) k))

abbrev pub AskedThen : List State → ℕ → List Check → Step → State → End → Type 0
AskedThen olds n cs b st o =
    ((i : ℕ) × FirstFalse n (told_forms (st ∷ olds) (forms cs)) i × (fails i ≡ o)) ⊎ (AllTrue (told_forms (st ∷ olds) (forms cs)) × Seg olds (n + count (step.ask cs)) b st o)

pub asks_then : {olds : List State} {n : ℕ} {cs : List Check} {b : Step} {st : State} {o : End} → Seg olds n (step.seq (step.ask cs) b) st o → AskedThen olds n cs b st o
asks_then {olds} {n} {cs} {b} {st} {o} s = by (seq_ways s)
  where
    over_fails : IsOver o → Asked olds n cs st o → AskedThen olds n cs b st o
    over_fails over (inl (t, e)) = absurd (subst IsOver (sym e) over)
    over_fails over (inr f) = inl f

    on : (mid : State) → Asked olds n cs st (goes_on mid) → Seg olds (n + count (step.ask cs)) b mid o → AskedThen olds n cs b st o
    on mid (inl (t, e)) k = inr (t, subst (λ st. Seg olds (n + count (step.ask cs)) b st o) (sym (goes_parts e)) k)
    on mid (inr (i, f, e)) k = absurd (fails_goes e)

    by : (IsOver o × Seg olds n (step.ask cs) st o) ⊎ ((mid : State) × Seg olds n (step.ask cs) st (goes_on mid) × Seg olds (n + count (step.ask cs)) b mid o) → AskedThen olds n cs b st o
    by (inl (over, a)) = over_fails over (ask_ways a)
    by (inr (mid, a, k)) = on mid (ask_ways a) k

then_asked : {olds : List State} {n : ℕ} {cs : List Check} {b : Step} {st : State} {o : End} → AskedThen olds n cs b st o → Seg olds n (step.seq (step.ask cs) b) st o
then_asked {olds} {n} {cs} {b} {st} {o} (inl (i, f, e)) = subst (Seg olds n (step.seq (step.ask cs) b) st) e (seg.ends_first (seg.ask_fails f) tt)
then_asked (inr (t, k)) = seg.goes_both (seg.asks t) k

pub knows_then : {olds : List State} {n : ℕ} {fs : List Form} {b : Step} {st : State} {o : End} → Seg olds n (step.seq (step.know fs) b) st o → AllTrue (told_forms (st ∷ olds) fs) × Seg olds n b st o
knows_then {olds} {n} {fs} {b} {st} {o} s = by (seq_ways s)
  where
    by : (IsOver o × Seg olds n (step.know fs) st o) ⊎ ((mid : State) × Seg olds n (step.know fs) st (goes_on mid) × Seg olds (n + count (step.know fs)) b mid o) → AllTrue (told_forms (st ∷ olds) fs) × Seg olds n b st o
    by (inl (over, a)) = absurd (subst IsOver (sym (know_way a).1) over)
    by (inr (mid, a, k)) =
        let x = know_way a in
        (x.0, subst (λ n. Seg olds n b st o) (add-zero n) (subst (λ st. Seg olds (n + count (step.know fs)) b st o) (sym (goes_parts x.1)) k))

pub sets_then : {olds : List State} {n i : ℕ} {u : Term} {b : Step} {st : State} {o : End} → Seg olds n (step.seq (step.set i u) b) st o → Seg olds n b (set_in st i (u.told (st ∷ olds))) o
sets_then {olds} {n} {i} {u} {b} {st} {o} s = by (seq_ways s)
  where
    by : (IsOver o × Seg olds n (step.set i u) st o) ⊎ ((mid : State) × Seg olds n (step.set i u) st (goes_on mid) × Seg olds (n + count (step.set i u)) b mid o) → Seg olds n b (set_in st i (u.told (st ∷ olds))) o
    by (inl (over, a)) = absurd (subst IsOver (sym (set_way a)) over)
    by (inr (mid, a, k)) = subst (λ n. Seg olds n b (set_in st i (u.told (st ∷ olds))) o) (add-zero n) (subst (λ st. Seg olds (n + count (step.set i u)) b st o) (sym (goes_parts (set_way a))) k)

pub changes_then : {olds : List State} {n : ℕ} {cs : List Change} {b : Step} {st : State} {o : End} → Seg olds n (step.seq (step.change cs) b) st o
    → (ds : List Datum) × Changes (st ∷ olds) cs st.slots ds × Seg olds n b (with_slots st ds) o
changes_then {olds} {n} {cs} {b} {st} {o} s = by (seq_ways s)
  where
    by : (IsOver o × Seg olds n (step.change cs) st o) ⊎ ((mid : State) × Seg olds n (step.change cs) st (goes_on mid) × Seg olds (n + count (step.change cs)) b mid o)
        → (ds : List Datum) × Changes (st ∷ olds) cs st.slots ds × Seg olds n b (with_slots st ds) o
    by (inl (over, a)) = absurd (subst IsOver (sym (change_way a).2) over)
    by (inr (mid, a, k)) =
        let x = change_way a in
        (x.0, x.1, subst (λ n. Seg olds n b (with_slots st x.0) o) (add-zero n) (subst (λ st. Seg olds (n + count (step.change cs)) b st o) (sym (goes_parts x.2)) k))

-- behind a step without checks
behind : {olds : List State} {n : ℕ} {b : Step} {st : State} {o : End} → Seg olds n b st o → Seg olds (n + 0) b st o
behind {olds} {n} {b} {st} {o} k = subst (λ n. Seg olds n b st o) (sym (add-zero n)) k

pub last_asks : {olds : List State} {n : ℕ} {cs : List Check} {st : State} {o : End} → Seg olds n (step.seq (step.ask cs) step.halt) st o → (i : ℕ) × FirstFalse n (told_forms (st ∷ olds) (forms cs)) i × (fails i ≡ o)
last_asks s = ⊎_elim (λ x. x) (λ x. absurd (halt_way x.1)) (asks_then s)

-- ---- the laws

pub sequences_read : SequencesRead
sequences_read olds n a b st o = (λ s. seq_ways s, λ x. ⊎_elim (λ y. seg.ends_first y.1 y.0) (λ y. seg.goes_both y.1 y.2) x)

pub asks_read : AsksRead
asks_read olds n cs b st o = (λ s. asks_then s, λ x. then_asked x)

pub knows_read : KnowsRead
knows_read olds n fs b st o = (λ s. knows_then s, λ x. seg.goes_both (seg.knows_so x.0) (behind x.1))

pub sets_read : SetsRead
sets_read olds n i u b st o = (λ s. sets_then s, λ x. seg.goes_both seg.sets (behind x))

pub changes_read : ChangesRead
changes_read olds n cs b st o = (λ s. changes_then s, λ x. seg.goes_both (seg.changes x.0 x.1) (behind x.2))

pub remembers_read : RemembersRead
remembers_read olds n a st o = (λ s. remember_way s, λ x. seg.remembers x)

pub scopes_read : ScopesRead
scopes_read olds n is a st o = (λ s. scope_way s, λ x. subst (Seg olds n (step.scope is a) st) x.2 (seg.scopes x.1))

pub last_asks_read : LastAsksRead
last_asks_read olds n cs st o = (λ s. last_asks s, λ x. then_asked (inl x))

pub growths_read : GrowthsRead
growths_read olds n b st o = (λ s. grows_then s, λ x. seg.goes_both (seg.grows x.0 x.1) (behind x.2))

pub makings_read : MakingsRead
makings_read olds n i l b st o = (λ s. makes_then s, λ x. seg.goes_both seg.makes (behind x))

pub endings_read : EndingsRead
endings_read olds n l b st o = (λ s. ends_then s, λ x. seg.goes_both seg.ends (behind x))

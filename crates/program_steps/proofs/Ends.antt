-- How runs of words are put together with runs of statements.
use Rattle.std.proofs.Common.{◌≡◌, ◌⊎◌, ℕ, zero, suc, ◌+◌, Bool, true, false, ◌&&◌, List, [], ◌∷◌, ◌++◌, map, Option, Some, None, refl, sym, ap, ◌∙◌, subst, inl, inr}
use Rattle.std.specs.List.{list_all}
use Rattle.std.proofs.lemmas.Bool.{false≢true, and_parts}
use Rattle.qed_terms.specs.Meaning as sense
use Rattle.qed_terms.specs.Meaning.{truth}
use Rattle.qed_terms.specs.Tree.{Tree}
use Rattle.wp_base.specs.Blocks.{Table}
use Rattle.c_runs.specs.Program.{Facts}
use Rattle.c_runs.specs.Claims.{Stop, undefined}
use Rattle.c_runs.specs.CoreRun as run
use Rattle.c_runs.specs.CoreRun.{Ending, stopped, unless}
use Rattle.c_runs.specs.Checks.{Check}
use Rattle.c_runs.specs.CheckedRun as core
use Rattle.goal_segments.specs.RunSegments.{Asks, all_met, met, unmet}
use Rattle.goal_segments.proofs.Agreeing.{asks_asked}
use Rattle.plain_states.specs.Slots.{State}
use Rattle.goal_segments.specs.Told.{Shape}
use Rattle.value_terms.specs.Words.{Item, checks_in}
use Rattle.value_terms.specs.Laws.{Says}
use Rattle.walk_steps.specs.Forms.{Place}
use Rattle.walk_steps.specs.Forms as forms
use Rattle.walk_steps.specs.State.{AllTrue, FirstFalse}
use Rattle.walk_steps.specs.Step.{Step, places, count}
use Rattle.walk_steps.specs.Step as step
use Rattle.walk_steps.specs.Run.{End, goes_on, leaves, fails, Seg}
use Rattle.walk_steps.specs.Run as seg
use Rattle.walk_steps.proofs.Readings.{seq_ways, ask_ways}
use Rattle.program_steps.specs.Leaves.{leaves_of, closed}
use Rattle.program_steps.specs.Stops.{IsStop}
use Rattle.program_steps.specs.Temporaries.{Temporaries}
use Rattle.program_steps.specs.Words.{items_step, ask_all, check}
use Rattle.program_steps.specs.Standing.{IsPlace, FailsAs, Ends}
use Rattle.program_steps.specs.Typed.{is_closed_item}
use Rattle.program_steps.specs.Placed.{all_told, BothWays}
use Rattle.program_steps.proofs.Filling.{on_bool}
use Rattle.program_steps.proofs.Listing.{comes, fails_first, fails_second}
use Rattle.program_steps.proofs.Asking.{Told, Ways, all_so, one_fails, items_run, items_way}

-- ---- checks of expressions

pub asks_of : (test : Check → Bool) (cs : List Check) → (o : Option Stop) × Asks test cs o
asks_of test [] = (None, all_met)
asks_of test (c ∷ cs) = by (asks_of test cs) where
  by : ((o : Option Stop) × Asks test cs o) → (o : Option Stop) × Asks test (c ∷ cs) o
  by (o, h) = on_bool (test c) (λ e. (o, met e h)) (λ e. (Some (undefined c.kind c.line), unmet e))

pub asks_all : {test : Check → Bool} {cs : List Check} → Asks test cs None → list_all test cs ≡ true
asks_all {test} {cs} h = by h refl where
  by : {cs : List Check} {o : Option Stop} → Asks test cs o → o ≡ None → list_all test cs ≡ true
  by all_met e = refl
  by (met {c} {cs} t h) e = ap (λ b. b && list_all test cs) t ∙ by h e
  by (unmet t) e = absurd (some_none e) where
    some_none : {X : Type 0} {x : X} → Some x ≡ None → ⊥
    some_none e = cc

module _ (p : Facts) (s : Shape) (t0 : Table) (i : ℕ → Bool) (outs : List Temporaries) (f : Temporaries) where
  -- the checks of a part are among those of the whole
  pub ends_more : (ps ps' : List Place) (n n' : ℕ) → ((j : ℕ) (e : Stop) → FailsAs ps n j e → FailsAs ps' n' j e) → (o : Ending) (e : End)
      → Ends p s t0 i outs f ps n o e → Ends p s t0 i outs f ps' n' o e
  ends_more ps ps' n n' more (run.goes_on c) (goes_on st) h = h
  ends_more ps ps' n n' more (run.goes_on c) (leaves l st) h = absurd h
  ends_more ps ps' n n' more (run.goes_on c) (fails j) h = absurd h
  ends_more ps ps' n n' more (run.exits k c) (goes_on st) h = absurd h
  ends_more ps ps' n n' more (run.exits k c) (leaves l st) h = h
  ends_more ps ps' n n' more (run.exits k c) (fails j) h = absurd h
  ends_more ps ps' n n' more (run.returns v c) (goes_on st) h = absurd h
  ends_more ps ps' n n' more (run.returns v c) (leaves l st) h = h
  ends_more ps ps' n n' more (run.returns v c) (fails j) h = absurd h
  ends_more ps ps' n n' more (run.stopped e) (goes_on st) h = absurd h
  ends_more ps ps' n n' more (run.stopped e) (leaves l st) h = absurd h
  ends_more ps ps' n n' more (run.stopped e) (fails j) h = more j e h

  -- ---- the checks of an expression, and what comes behind

  module _ (m : sense.World) (olds : List State) (st : State) (so : Check → Bool) (is : List Item) (closed_is : list_all is_closed_item is ≡ true)
      (says : Says (Told m olds st so) so is) (n : ℕ) (b : Step) where
    abbrev word : Step
    word = step.seq (items_step m is) b

    abbrev place_of : List Place
    place_of = places word

    behind_items : Seg olds n (items_step m is) st (goes_on st) → (o : Ending) (e : End) → Ends p s t0 i outs f (places b) (n + count (items_step m is)) o e
        → Ends p s t0 i outs f place_of n o e
    behind_items k o e h = ends_more (places b) place_of (n + count (items_step m is)) n
        (λ j x. fails_second (items_step m is) b n j x (comes k)) o e h

    stops_at : (e : End) (x : Option Stop) → Seg olds n (items_step m is) st e → Ways m olds st so is n x e → (y : Stop) → x ≡ Some y
        → Seg olds n word st e × Ends p s t0 i outs f place_of n (stopped y) e
    stops_at _ None k all_so y same = absurd (no same) where
      no : {X : Type 0} {x : X} → None ≡ Some x → ⊥
      no e = cc
    stops_at (goes_on _) (Some x) k h y same = elim h [ ]
    stops_at (leaves _ _) (Some x) k h y same = elim h [ ]
    stops_at (fails j) (Some x) k (one_fails h) y same =
        (seg.ends_first k tt, subst (λ z. FailsAs place_of n j z) (some_is same) (fails_first (items_step m is) b n j x h)) where
          some_is : {X : Type 0} {x y : X} → Some x ≡ Some y → x ≡ y
          some_is e = cc

    goes_at : (e : End) (x : Option Stop) → Seg olds n (items_step m is) st e → Ways m olds st so is n x e → x ≡ None
        → Seg olds n (items_step m is) st (goes_on st)
    goes_at _ None k all_so same = k
    goes_at (goes_on _) (Some x) k h same = elim h [ ]
    goes_at (leaves _ _) (Some x) k h same = elim h [ ]
    goes_at (fails j) (Some x) k (one_fails h) same = absurd (no same) where
      no : {X : Type 0} {x : X} → Some x ≡ None → ⊥
      no e = cc

    pub after_items : (r later : Ending → Type 0)
        → ((o : Ending) → r o → ((y : Stop) × Asks so (checks_in is) (Some y) × (stopped y ≡ o)) ⊎ (Asks so (checks_in is) None × later o))
        → ((y : Stop) → Asks so (checks_in is) (Some y) → r (stopped y)) → (Asks so (checks_in is) None → (o : Ending) → later o → r o)
        → (Asks so (checks_in is) None → BothWays later (Ends p s t0 i outs f (places b) (n + count (items_step m is))) olds (n + count (items_step m is)) b st)
        → BothWays r (Ends p s t0 i outs f place_of n) olds n word st
    after_items r later to stop go tail = record { forth = forth; back = back } where
      forth_by : (o : Ending) → ((y : Stop) × Asks so (checks_in is) (Some y) × (stopped y ≡ o)) ⊎ (Asks so (checks_in is) None × later o)
          → (e : End) × Seg olds n word st e × Ends p s t0 i outs f place_of n o e
      forth_by o (inl (y, asks, same)) =
          let x = items_run m olds st so is n closed_is says (Some y) asks in
          let z = stops_at x.0 (Some y) x.1 x.2 y refl in
          (x.0, z.0, subst (λ o. Ends p s t0 i outs f place_of n o x.0) same z.1)
      forth_by o (inr (asks, l)) =
          let x = items_run m olds st so is n closed_is says None asks in
          let k = goes_at x.0 None x.1 x.2 refl in
          let y = (tail asks).forth o l in
          (y.0, seg.goes_both k y.1, behind_items k o y.0 y.2)

      forth : (o : Ending) → r o → (e : End) × Seg olds n word st e × Ends p s t0 i outs f place_of n o e
      forth o h = forth_by o (to o h)

      only_stops : (e : End) (x : Option Stop) → Asks so (checks_in is) x → Seg olds n (items_step m is) st e → Ways m olds st so is n x e → seg.IsOver e
          → (o : Ending) × r o × Ends p s t0 i outs f place_of n o e
      only_stops _ None asks k all_so over = absurd over
      only_stops (goes_on _) (Some y) asks k h over = elim h [ ]
      only_stops (leaves _ _) (Some y) asks k h over = elim h [ ]
      only_stops (fails j) (Some y) asks k (one_fails h) over = (stopped y, stop y asks, fails_first (items_step m is) b n j y h)

      goes_further : (mid : State) (x : Option Stop) → Asks so (checks_in is) x → Seg olds n (items_step m is) st (goes_on mid) → Ways m olds st so is n x (goes_on mid)
          → (e : End) → Seg olds (n + count (items_step m is)) b mid e → (o : Ending) × r o × Ends p s t0 i outs f place_of n o e
      goes_further mid (Some _) asks k h e l = elim h [ ]
      goes_further _ None asks k all_so e l =
          let y = (tail asks).back e l in
          (y.0, go asks y.0 y.1, behind_items k y.0 e y.2)

      back_by : (e : End) → (seg.IsOver e × Seg olds n (items_step m is) st e)
          ⊎ ((mid : State) × Seg olds n (items_step m is) st (goes_on mid) × Seg olds (n + count (items_step m is)) b mid e)
          → (o : Ending) × r o × Ends p s t0 i outs f place_of n o e
      back_by e (inl (over, k)) = let x = items_way m olds st so is n closed_is says e k in only_stops e x.0 x.1 k x.2 over
      back_by e (inr (mid, k, l)) = let x = items_way m olds st so is n closed_is says (goes_on mid) k in goes_further mid x.0 x.1 k x.2 e l

      back : (e : End) → Seg olds n word st e → (o : Ending) × r o × Ends p s t0 i outs f place_of n o e
      back e k = back_by e (seq_ways k)

    -- of a statement whose run asks these checks, and then ends so
    pub after_checks : (cs : List Check) → checks_in is ≡ cs → (behind : Ending)
        → (Asks so cs None → BothWays (λ o. behind ≡ o) (Ends p s t0 i outs f (places b) (n + count (items_step m is))) olds (n + count (items_step m is)) b st)
        → BothWays (λ o. core.asked cs so behind ≡ o) (Ends p s t0 i outs f place_of n) olds n word st
    after_checks cs same behind tail = after_items (λ o. core.asked cs so behind ≡ o) (λ o. behind ≡ o)
        (λ o h. by o h (asks_of so cs))
        (λ y asks. asks_asked (subst (λ cs. Asks so cs (Some y)) same asks) behind)
        (λ asks o h. asks_asked (subst (λ cs. Asks so cs None) same asks) behind ∙ h)
        (λ asks. tail (subst (λ cs. Asks so cs None) same asks))
      where
        by : (o : Ending) → core.asked cs so behind ≡ o → ((x : Option Stop) × Asks so cs x)
            → ((y : Stop) × Asks so (checks_in is) (Some y) × (stopped y ≡ o)) ⊎ (Asks so (checks_in is) None × (behind ≡ o))
        by o h (Some y, asks) = inl (y, subst (λ cs. Asks so cs (Some y)) (sym same) asks, sym (asks_asked asks behind) ∙ h)
        by o h (None, asks) = inr (subst (λ cs. Asks so cs None) (sym same) asks, sym (asks_asked asks behind) ∙ h)

-- ---- formulas that are asked at one place

module _ (m : sense.World) (olds : List State) (st : State) (a : Place) where
  abbrev tests : List Tree → List Bool
  tests fs = forms.told_forms (st ∷ olds) (forms.forms (map (λ f. check m f a) fs))

  all_of_them : (fs : List Tree) → all_told m (st ∷ olds) fs ≡ true → AllTrue (tests fs)
  all_of_them [] h = tt
  all_of_them (f ∷ fs) h = let both = and_parts (truth m (leaves_of (st ∷ olds)) (closed f)) (all_told m (st ∷ olds) fs) h in (both.0, all_of_them fs both.1)

  them_all : (fs : List Tree) → AllTrue (tests fs) → all_told m (st ∷ olds) fs ≡ true
  them_all [] h = refl
  them_all (f ∷ fs) h = ap (λ b. b && all_told m (st ∷ olds) fs) h.0 ∙ them_all fs h.1

  pub first_of : (fs : List Tree) (n : ℕ) → all_told m (st ∷ olds) fs ≡ false → (j : ℕ) × FirstFalse n (tests fs) j
  first_of [] n h = absurd (false≢true (sym h))
  first_of (f ∷ fs) n h = on_bool (truth m (leaves_of (st ∷ olds)) (closed f))
      (λ e. let x = first_of fs (suc n) (sym (ap (λ b. b && all_told m (st ∷ olds) fs) e) ∙ h) in (x.0, inr (e, x.1)))
      (λ e. (n, inl (e, refl)))

  pub first_is_false : (fs : List Tree) (n j : ℕ) → FirstFalse n (tests fs) j → all_told m (st ∷ olds) fs ≡ false
  first_is_false [] n j h = absurd h
  first_is_false (f ∷ fs) n j (inl h) = ap (λ b. b && all_told m (st ∷ olds) fs) h.0
  first_is_false (f ∷ fs) n j (inr h) = ap (λ b. b && all_told m (st ∷ olds) fs) h.0 ∙ first_is_false fs (suc n) j h.1

  pub first_place : (fs : List Tree) (n j : ℕ) → FirstFalse n (tests fs) j → IsPlace (places (ask_all m fs a)) n j a
  first_place [] n j h = absurd h
  first_place (f ∷ fs) n j (inl h) = inl (h.1, refl)
  first_place (f ∷ fs) n j (inr h) = inr (first_place fs (suc n) j h.1)

  pub asked_goes : (fs : List Tree) (n : ℕ) → all_told m (st ∷ olds) fs ≡ true → Seg olds n (ask_all m fs a) st (goes_on st)
  asked_goes fs n h = seg.asks (all_of_them fs h)

  pub asked_fails : (fs : List Tree) (n : ℕ) (e : Stop) → IsStop e a → all_told m (st ∷ olds) fs ≡ false
      → (j : ℕ) × Seg olds n (ask_all m fs a) st (fails j) × FailsAs (places (ask_all m fs a)) n j e
  asked_fails fs n e stop h = let x = first_of fs n h in (x.0, seg.ask_fails x.1, (a, first_place fs n x.0 x.1, stop))

  pub asked_way : (fs : List Tree) (n : ℕ) (o : End) → Seg olds n (ask_all m fs a) st o
      → ((all_told m (st ∷ olds) fs ≡ true) × (goes_on st ≡ o)) ⊎ ((j : ℕ) × (all_told m (st ∷ olds) fs ≡ false) × IsPlace (places (ask_all m fs a)) n j a × (fails j ≡ o))
  asked_way fs n o k = by (ask_ways k) where
    by : (AllTrue (tests fs) × (goes_on st ≡ o)) ⊎ ((j : ℕ) × FirstFalse n (tests fs) j × (fails j ≡ o))
        → ((all_told m (st ∷ olds) fs ≡ true) × (goes_on st ≡ o)) ⊎ ((j : ℕ) × (all_told m (st ∷ olds) fs ≡ false) × IsPlace (places (ask_all m fs a)) n j a × (fails j ≡ o))
    by (inl (t, e)) = inl (them_all fs t, e)
    by (inr (j, x, e)) = inr (j, first_is_false fs n j x, first_place fs n j x, e)

goes_parts : {a b : State} → goes_on a ≡ goes_on b → a ≡ b
goes_parts e = cc

-- ---- what comes behind formulas that are asked

module _ (p : Facts) (s : Shape) (t0 : Table) (i : ℕ → Bool) (outs : List Temporaries) (f : Temporaries) (m : sense.World) (olds : List State) (st : State) (a : Place) (fs : List Tree) (n : ℕ)
    (e : Stop) (stop : IsStop e a) (tail : Step) (later r : Ending) where
  abbrev first : Step
  first = ask_all m fs a

  abbrev all_ends : Ending → End → Type 0
  all_ends o x = Ends p s t0 i outs f (places (step.seq first tail)) n o x

  abbrev Behind : Type 0
  Behind = BothWays (λ o. later ≡ o) (Ends p s t0 i outs f (places tail) (n + count first)) olds (n + count first) tail st

  abbrev Whole : Type 0
  Whole = BothWays (λ o. r ≡ o) all_ends olds n (step.seq first tail) st

  with_more : all_told m (st ∷ olds) fs ≡ true → (o : Ending) (x : End) → Ends p s t0 i outs f (places tail) (n + count first) o x → all_ends o x
  with_more t o x h = ends_more p s t0 i outs f (places tail) (places (step.seq first tail)) (n + count first) n
      (λ j y. fails_second first tail n j y (comes (asked_goes m olds st a fs n t))) o x h

  when_told : all_told m (st ∷ olds) fs ≡ true → r ≡ later → Behind → Whole
  when_told t same both = record { forth = forth; back = back } where
    forth : (o : Ending) → r ≡ o → (x : End) × Seg olds n (step.seq first tail) st x × all_ends o x
    forth o h = let x = both.forth o (sym same ∙ h) in (x.0, seg.goes_both (asked_goes m olds st a fs n t) x.1, with_more t o x.0 x.2)

    over_by : (x : End) → seg.IsOver x
        → ((all_told m (st ∷ olds) fs ≡ true) × (goes_on st ≡ x)) ⊎ ((j : ℕ) × (all_told m (st ∷ olds) fs ≡ false) × IsPlace (places first) n j a × (fails j ≡ x))
        → (o : Ending) × (r ≡ o) × all_ends o x
    over_by x over (inl h) = absurd (subst seg.IsOver (sym h.1) over)
    over_by x over (inr (j, untrue, k, is)) = absurd (false≢true (sym untrue ∙ t))

    on_by : (x : End) (mid : State) → Seg olds (n + count first) tail mid x
        → ((all_told m (st ∷ olds) fs ≡ true) × (goes_on st ≡ goes_on mid)) ⊎ ((j : ℕ) × (all_told m (st ∷ olds) fs ≡ false) × IsPlace (places first) n j a × (fails j ≡ goes_on mid))
        → (o : Ending) × (r ≡ o) × all_ends o x
    on_by x mid k (inl h) =
        let y = both.back x (subst (λ z. Seg olds (n + count first) tail z x) (sym (goes_parts h.1)) k) in
        (y.0, same ∙ y.1, with_more t y.0 x y.2)
    on_by x mid k (inr (j, untrue, h, is)) = absurd (false≢true (sym untrue ∙ t))

    by : (x : End) → (seg.IsOver x × Seg olds n first st x) ⊎ ((mid : State) × Seg olds n first st (goes_on mid) × Seg olds (n + count first) tail mid x)
        → (o : Ending) × (r ≡ o) × all_ends o x
    by x (inl (over, k)) = over_by x over (asked_way m olds st a fs n x k)
    by x (inr (mid, k, l)) = on_by x mid l (asked_way m olds st a fs n (goes_on mid) k)

    back : (x : End) → Seg olds n (step.seq first tail) st x → (o : Ending) × (r ≡ o) × all_ends o x
    back x k = by x (seq_ways k)

  when_not : all_told m (st ∷ olds) fs ≡ false → r ≡ stopped e → Whole
  when_not t same = record { forth = forth; back = back } where
    forth : (o : Ending) → r ≡ o → (x : End) × Seg olds n (step.seq first tail) st x × all_ends o x
    forth o h = let x = asked_fails m olds st a fs n e stop t in
        (fails x.0, seg.ends_first x.1 tt, subst (λ o. all_ends o (fails x.0)) (sym same ∙ h) (fails_first first tail n x.0 e x.2))

    over_by : (x : End) → seg.IsOver x
        → ((all_told m (st ∷ olds) fs ≡ true) × (goes_on st ≡ x)) ⊎ ((j : ℕ) × (all_told m (st ∷ olds) fs ≡ false) × IsPlace (places first) n j a × (fails j ≡ x))
        → (o : Ending) × (r ≡ o) × all_ends o x
    over_by x over (inl h) = absurd (false≢true (sym t ∙ h.0))
    over_by x over (inr (j, untrue, k, is)) = (stopped e, same, subst (all_ends (stopped e)) is (fails_first first tail n j e (a, k, stop)))

    on_by : (x : End) (mid : State)
        → ((all_told m (st ∷ olds) fs ≡ true) × (goes_on st ≡ goes_on mid)) ⊎ ((j : ℕ) × (all_told m (st ∷ olds) fs ≡ false) × IsPlace (places first) n j a × (fails j ≡ goes_on mid))
        → (o : Ending) × (r ≡ o) × all_ends o x
    on_by x mid (inl h) = absurd (false≢true (sym t ∙ h.0))
    on_by x mid (inr (j, untrue, k, is)) = absurd (never is) where
      never : {j : ℕ} {st : State} → fails j ≡ goes_on st → ⊥
      never e = cc

    by : (x : End) → (seg.IsOver x × Seg olds n first st x) ⊎ ((mid : State) × Seg olds n first st (goes_on mid) × Seg olds (n + count first) tail mid x)
        → (o : Ending) × (r ≡ o) × all_ends o x
    by x (inl (over, k)) = over_by x over (asked_way m olds st a fs n x k)
    by x (inr (mid, k, l)) = on_by x mid (asked_way m olds st a fs n (goes_on mid) k)

    back : (x : End) → Seg olds n (step.seq first tail) st x → (o : Ending) × (r ≡ o) × all_ends o x
    back x k = by x (seq_ways k)

  -- a run that goes on exactly where they are true
  pub ask_both : (b : Bool) → all_told m (st ∷ olds) fs ≡ b → (b ≡ true → r ≡ later) → (b ≡ false → r ≡ stopped e) → Behind → Whole
  ask_both b told on_true on_false both = on_bool b (λ t. when_told (told ∙ t) (on_true t) both) (λ t. when_not (told ∙ t) (on_false t))

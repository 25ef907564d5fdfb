-- How statements end, with what they keep.
use Rattle.std.proofs.Common.{◌≡◌, ℕ, zero, suc, ℤ, Bool, true, false, ◌&&◌, if◌then◌else◌, List, [], ◌∷◌, Option, Some, None, refl, sym, ap, ◌∙◌, arith}
use Rattle.std.specs.List.{list_all}
use Rattle.c_runs.specs.TruthStates.{Value, number}
use Rattle.c_runs.specs.Program.{Facts, Loop, Variable, Program}
use Rattle.c_runs.specs.States.{Memory, Here, Granted}
use Rattle.c_runs.specs.Operators.{Undefined}
use Rattle.c_runs.specs.Claims.{Stop, undefined, may_change_local, at_head, in_body, measure_of}
use Rattle.plain_states.specs.Told.{CoreWorld, Ending, goes_on, exits, returns, stopped, then_do, unless, one_turn, scope_left, scope_end}
use Rattle.c_runs.specs.CheckedTold.{Check}
use Rattle.c_runs.specs.Tree.{Steps}
use Rattle.c_runs.specs.CheckedRun as run
use Rattle.plain_states.specs.Slots.{State, world_in, core_in, memory_in}
use Rattle.plain_states.specs.Scopes.{IsClean, AllBelow as NamesBelow, without_variables}
use Rattle.plain_states.proofs.Calling.{leaves_scope}
use Rattle.plain_runs.specs.Fitting.{Shape, sizes, Fit, with_names, Declares, with_name}
use Rattle.plain_runs.specs.Kept.{may_change_global, AllBelow, IsScoped, Kept, Returned, IsAt, Comes}
use Rattle.plain_runs.proofs.Keeping.{kept_then, kept_more, file_then, file_more, comes_more, comes_then}
use Rattle.plain_runs.proofs.Scopes.{Entered, leaves, scope_kept, scope_returned}

-- ---- checks before it

pub asked_ends : (P : Ending → Type 0) → ((u : Undefined) (l : ℕ) → P (stopped (undefined u l))) → (cs : List Check) (test : Check → Bool) (behind : Ending)
    → (list_all test cs ≡ true → P behind) → P (run.asked cs test behind)
asked_ends P bad [] test behind h = h refl
asked_ends P bad (c ∷ cs) test behind h = by (test c) refl (asked_ends P bad cs test behind) where
  by : (b : Bool) → test c ≡ b → ((list_all test cs ≡ true → P behind) → P (run.asked cs test behind)) → P (if b then run.asked cs test behind else stopped (undefined c.kind c.line))
  by true e later = later (λ k. h (ap (λ t. t && list_all test cs) e ∙ k))
  by false e later = bad c.kind c.line

module _ (p : Facts) (s : Shape) (m : Memory) where
  abbrev pub Ends : List Granted → (t u f : ℕ → Bool) → State → Ending → Type 0
  Ends gs t u f st o = Comes p s m (Kept p s gs t u f st) (λ v after. Returned p s gs v st after) o

  -- ---- more is set, fewer sets are in force

  returned_more : (gs hs : List Granted) (v : Value) (st after : State) → ((x : ℕ) → may_change_global gs x ≡ false → may_change_global hs x ≡ false) → Returned p s hs v st after → Returned p s gs v st after
  returned_more gs hs v st after g r = record { result = r.result; fit = r.fit; file = file_more p s gs hs st after g r.file }

  pub ends_more : (gs hs : List Granted) (t t' u u' f : ℕ → Bool) (st : State)
      → ((x : ℕ) → may_change_global gs x ≡ false → may_change_global hs x ≡ false) → ((x : ℕ) → may_change_local p gs x ≡ false → may_change_local p hs x ≡ false)
      → ((x : ℕ) → t x ≡ false → t' x ≡ false) → ((n : ℕ) → u n ≡ false → u' n ≡ false) → (o : Ending) → Ends hs t' u' f st o → Ends gs t u f st o
  ends_more gs hs t t' u u' f st g l a b o h =
      comes_more p s m (Kept p s hs t' u' f st) (Kept p s gs t u f st) (λ v after. Returned p s hs v st after) (λ v after. Returned p s gs v st after)
      (λ after k. kept_more p s gs hs t t' u u' f st after g l a b k) (λ v after r. returned_more gs hs v st after g r) o h

  -- ---- one after the other

  pub ends_after : (gs : List Granted) (t u f : ℕ → Bool) (st mid : State) → Kept p s gs t u f st mid → (o : Ending) → Ends gs t u f mid o → Ends gs t u f st o
  ends_after gs t u f st mid k o h =
      comes_more p s m (Kept p s gs t u f mid) (Kept p s gs t u f st) (λ v after. Returned p s gs v mid after) (λ v after. Returned p s gs v st after)
      (λ after j. kept_then p s gs t u f st mid after k j) (λ v after r. record { result = r.result; fit = r.fit; file = file_then p s gs t u f st mid after k r.file }) o h

  pub ends_then : (gs : List Granted) (t u f : ℕ → Bool) (st : State) (go : CoreWorld → Ending)
      → ((n : ℕ) (vs : List Value) (mid : State) → Kept p s gs t u f st mid → Ends gs t u f mid (go (core_in (sizes p s) m n vs mid))) → (o : Ending) → Ends gs t u f st o → Ends gs t u f st (then_do o go)
  ends_then gs t u f st go next o h =
      comes_then p s m (Kept p s gs t u f st) (Kept p s gs t u f st) (λ v after. Returned p s gs v st after) (λ v after. Returned p s gs v st after) go (λ after k. k) (λ v after r. r)
      (λ n vs mid k. ends_after gs t u f st mid k (go (core_in (sizes p s) m n vs mid)) (next n vs mid k)) o h

  pub ends_unless : (gs : List Granted) (t u f : ℕ → Bool) (st : State) (x : Option Stop) (o : Ending) → Ends gs t u f st o → Ends gs t u f st (unless x o)
  ends_unless gs t u f st None o h = h
  ends_unless gs t u f st (Some x) o h = tt

  pub ends_if : (gs : List Granted) (t u f : ℕ → Bool) (st : State) (b : Bool) (x y : Ending) → Ends gs t u f st x → Ends gs t u f st y → Ends gs t u f st (if b then x else y)
  ends_if gs t u f st true x y h k = h
  ends_if gs t u f st false x y h k = k

  -- ---- a turn

  pub ends_turn : (gs : List Granted) (t u f : ℕ → Bool) (n : ℕ) (vs : List Value) (st : State) (go : CoreWorld → Ending)
      → ((n : ℕ) → Ends gs t u f st (go (core_in (sizes p s) m n vs st))) → Ends gs t u f st (one_turn n (core_in (sizes p s) m n vs st) go)
  ends_turn gs t u f zero vs st go h = tt
  ends_turn gs t u f (suc n) vs st go h = h n

  -- a pass of a loop, and what comes behind it
  pub ends_pass : (q : Program Steps) (deeper : run.Deeper) → q.facts ≡ p → (xs : List Variable) (here : Here) (l : Loop) (last : Option ℤ) (run_body : CoreWorld → Ending) (later : Option ℤ → CoreWorld → Ending)
      (gs : List Granted) (t u f : ℕ → Bool)
      → ((n : ℕ) (vs : List Value) (st : State) → Fit p s st → IsScoped p s f st → Ends gs t u f st (run_body (core_in (sizes p s) m n vs st)))
      → ((v : Option ℤ) (n : ℕ) (vs : List Value) (st : State) → Fit p s st → IsScoped p s f st → Ends gs t u f st (later v (core_in (sizes p s) m n vs st)))
      → (n : ℕ) (vs : List Value) (st : State) → Fit p s st → IsScoped p s f st → Ends gs t u f st (run.pass q deeper xs here l last run_body later (core_in (sizes p s) m n vs st))
  ends_pass q deeper same xs here l last run_body later gs t u f body next n vs st fit scoped =
      let value = measure_of q.facts (in_body q.facts here (world_in (sizes p s) m n vs st)) l.variant in
      ends_unless gs t u f st (at_head q.facts (in_body q.facts here (world_in (sizes p s) m n vs st)) l last) _
      (ends_turn gs t u f n vs st (λ d. then_do (run_body d) (later value))
      (λ n. ends_then gs t u f st (later value) (λ n vs mid k. next value n vs mid k.fit k.scoped) (run_body (core_in (sizes p s) m n vs st)) (body n vs st fit scoped)))

  -- ---- scopes

  names_below : (f : ℕ → Bool) (low : ℕ) (ys : List ℕ) → Declares p s f low ys → NamesBelow (sizes p s).locals ys
  names_below f low [] d = tt
  names_below f low (y ∷ ys) d = (d.2, names_below (with_name y f) low ys d.3)

  module _ (clean : IsClean m) (gs : List Granted) (t u f : ℕ → Bool) (low : ℕ) (below : AllBelow low gs) (ys : List ℕ) (d : Declares p s f low ys)
      (st inside : State) (scoped : IsScoped p s f st) (begins : Entered p s f ys st inside) where
    -- the world behind it
    left_world : (n : ℕ) (vs : List Value) (mid : State) → Fit p s mid → scope_left (memory_in (sizes p s) m st) ys (core_in (sizes p s) m n vs mid) ≡ core_in (sizes p s) m n vs (without_variables (sizes p s) ys mid)
    left_world n vs mid fit =
        let size = fit.size in
        let ends = leaves p s f low ys d mid fit in
        let same = leaves_scope (sizes p s) m clean n vs ys st mid (names_below f low ys d) (omega (arith, size)) in
        λ i. record { world = same i; temps = λ j. number ((sym (ends.spares.temps j)) i) }

    left_at : (K L : State → Type 0) (c : CoreWorld) → ((mid : State) → K mid → Fit p s mid) → ((mid : State) → K mid → L (without_variables (sizes p s) ys mid)) → IsAt p s m K c
        → IsAt p s m L (scope_left (memory_in (sizes p s) m st) ys c)
    left_at K L c fits go h = record {
      turns = h.turns;
      contents = h.contents;
      state = without_variables (sizes p s) ys h.state;
      same = ap (scope_left (memory_in (sizes p s) m st) ys) h.same ∙ left_world h.turns h.contents h.state (fits h.state h.so);
      so = go h.state h.so;
    }

    pub ends_scope : (o : Ending) → Ends gs t u (with_names ys f) inside o → Ends gs t u f st (scope_end (memory_in (sizes p s) m st) ys o)
    ends_scope (goes_on c) h =
        left_at (Kept p s gs t u (with_names ys f) inside) (Kept p s gs t u f st) c (λ mid k. k.fit) (scope_kept p s gs t u f low below ys d st inside scoped begins) h
    ends_scope (exits k c) h =
        left_at (Kept p s gs t u (with_names ys f) inside) (Kept p s gs t u f st) c (λ mid k. k.fit) (scope_kept p s gs t u f low below ys d st inside scoped begins) h
    ends_scope (returns v c) h =
        left_at (λ after. Returned p s gs v inside after) (λ after. Returned p s gs v st after) c (λ mid r. r.fit) (scope_returned p s gs t u f low below ys d st inside scoped begins v) h
    ends_scope (stopped x) h = tt

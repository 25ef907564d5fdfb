-- Ends of statements, and temporaries that are put to 0 where they are no more used.
use Rattle.std.proofs.Common.{◌≡◌, ◌⊎◌, ℕ, zero, suc, ◌+◌, ℤ, pos, Bool, true, false, not, ◌&&◌, if◌then◌else◌, List, ◌∷◌, refl, sym, ap, ◌∙◌, subst, inl, inr, arith}
use Rattle.std.proofs.lemmas.Bool.{false≢true}
use Rattle.wp_base.specs.Blocks.{Table}
use Rattle.qed_terms.specs.Meaning as sense
use Rattle.qed_terms.specs.Tree.{num}
use Rattle.c_runs.specs.Program.{Contract, Facts, Program}
use Rattle.c_runs.specs.CoreRun as run
use Rattle.c_runs.specs.CoreRun.{CoreWorld, Ending}
use Rattle.c_runs.specs.Tree.{Steps}
use Rattle.goal_segments.specs.RunSegments as segment
use Rattle.goal_segments.specs.RunSegments.{BlockEnds, Leaves, by_exit, by_return, by_stop}
use Rattle.plain_states.specs.Slots.{State, at, result_slot, temp_slot}
use Rattle.plain_states.proofs.Lists.{put_elsewhere}
use Rattle.goal_segments.specs.Told.{Shape, sizes}
use Rattle.walk_steps.specs.State as walk
use Rattle.walk_steps.specs.Forms.{Place}
use Rattle.walk_steps.specs.Step.{Step, places, count}
use Rattle.walk_steps.specs.Step as step
use Rattle.walk_steps.specs.Run.{End, goes_on, leaves, fails, out, Seg}
use Rattle.walk_steps.specs.Run as seg
use Rattle.walk_steps.proofs.Readings.{seq_ways, set_way}
use Rattle.program_steps.specs.Leaves.{number as number_of}
use Rattle.program_steps.specs.Temporaries.{Temporaries, no_temporaries}
use Rattle.program_steps.specs.Terms.{Texts}
use Rattle.program_steps.specs.Words as word
use Rattle.program_steps.specs.Words.{Others, drop}
use Rattle.program_steps.specs.Standing.{StandsFor, Ends}
use Rattle.program_steps.specs.Placed.{InSetting, BothWays}
use Rattle.program_steps.proofs.Listing.{put_same, comes, fails_second}
use Rattle.program_steps.proofs.Setting.{slot_set}
use Rattle.program_steps.proofs.Ends.{ends_more}

pub goes_parts : {a b : State} → goes_on a ≡ goes_on b → a ≡ b
goes_parts e = cc

-- ---- ends

module _ (p : Facts) (s : Shape) (t0 : Table) (i : ℕ → Bool) (outs : List Temporaries) where
  -- what comes behind isn't come to
  pub over_ends : (f : Temporaries) (ps : List Place) (n : ℕ) (o : Ending) (e : End) → Leaves o → Ends p s t0 i outs f ps n o e → seg.IsOver e
  over_ends f ps n _ (goes_on st) by_exit h = h
  over_ends f ps n _ (leaves k st) by_exit h = tt
  over_ends f ps n _ (fails j) by_exit h = tt
  over_ends f ps n _ (goes_on st) by_return h = h
  over_ends f ps n _ (leaves k st) by_return h = tt
  over_ends f ps n _ (fails j) by_return h = tt
  over_ends f ps n _ (goes_on st) by_stop h = h
  over_ends f ps n _ (leaves k st) by_stop h = tt
  over_ends f ps n _ (fails j) by_stop h = tt

  pub over_leaves : (f : Temporaries) (ps : List Place) (n : ℕ) (o : Ending) (e : End) → seg.IsOver e → Ends p s t0 i outs f ps n o e → Leaves o
  over_leaves f ps n (run.goes_on c) (goes_on st) over h = absurd over
  over_leaves f ps n (run.goes_on c) (leaves k st) over h = absurd h
  over_leaves f ps n (run.goes_on c) (fails j) over h = absurd h
  over_leaves f ps n (run.exits k c) e over h = by_exit
  over_leaves f ps n (run.returns v c) e over h = by_return
  over_leaves f ps n (run.stopped x) e over h = by_stop

  -- and what is used behind is the same to it
  pub ends_else : (f g : Temporaries) (ps : List Place) (n : ℕ) (o : Ending) (e : End) → Leaves o → Ends p s t0 i outs f ps n o e → Ends p s t0 i outs g ps n o e
  ends_else f g ps n _ (goes_on st) by_exit h = h
  ends_else f g ps n _ (leaves k st) by_exit h = h
  ends_else f g ps n _ (fails j) by_exit h = h
  ends_else f g ps n _ (goes_on st) by_return h = h
  ends_else f g ps n _ (leaves k st) by_return h = h
  ends_else f g ps n _ (fails j) by_return h = h
  ends_else f g ps n _ (goes_on st) by_stop h = h
  ends_else f g ps n _ (leaves k st) by_stop h = h
  ends_else f g ps n _ (fails j) by_stop h = h

  -- a run that goes on
  pub record Goes (f : Temporaries) (o : Ending) (st : State) : Type 0 where
    pub world : CoreWorld
    pub is : run.goes_on world ≡ o
    pub stands : StandsFor p s t0 i f world st

  pub goes_from : (f : Temporaries) (ps : List Place) (n : ℕ) (o : Ending) (st : State) → Ends p s t0 i outs f ps n o (goes_on st) → Goes f o st
  goes_from f ps n (run.goes_on c) st h = record { world = c; is = refl; stands = h }
  goes_from f ps n (run.exits k c) st h = absurd h
  goes_from f ps n (run.returns v c) st h = absurd h
  goes_from f ps n (run.stopped x) st h = absurd h

  pub record GoesTo (f : Temporaries) (c : CoreWorld) (e : End) : Type 0 where
    pub state : State
    pub is : goes_on state ≡ e
    pub stands : StandsFor p s t0 i f c state

  pub goes_to : (f : Temporaries) (ps : List Place) (n : ℕ) (c : CoreWorld) (e : End) → Ends p s t0 i outs f ps n (run.goes_on c) e → GoesTo f c e
  goes_to f ps n c (goes_on st) h = record { state = st; is = refl; stands = h }
  goes_to f ps n c (leaves k st) h = absurd h
  goes_to f ps n c (fails j) h = absurd h

  -- ---- the end of a block

  no_zero : {k : ℕ} → zero ≡ suc k → ⊥
  no_zero e = cc

  less_one : {k l : ℕ} → suc k ≡ suc l → k ≡ l
  less_one e = cc

  pub block_out : (f : Temporaries) (ps : List Place) (n : ℕ) (o u : Ending) (e : End) → BlockEnds o u → Ends p s t0 i (f ∷ outs) f ps n o e → Ends p s t0 i outs f ps n u (out e)
  block_out f ps n _ _ (goes_on st) segment.at_end h = h
  block_out f ps n _ _ (leaves k st) segment.at_end h = absurd h
  block_out f ps n _ _ (fails j) segment.at_end h = absurd h
  block_out f ps n _ _ (goes_on st) segment.left_here h = absurd h
  block_out f ps n _ _ (leaves zero st) segment.left_here h = h.2
  block_out f ps n _ _ (leaves (suc l) st) segment.left_here h = absurd (no_zero h.0)
  block_out f ps n _ _ (fails j) segment.left_here h = absurd h
  block_out f ps n _ _ (goes_on st) segment.left_further h = absurd h
  block_out f ps n _ _ (leaves zero st) segment.left_further h = absurd (no_zero (sym h.0))
  block_out f ps n _ _ (leaves (suc l) st) segment.left_further h = (less_one h.0, (let b = h.1 in omega (arith, b)), h.2)
  block_out f ps n _ _ (fails j) segment.left_further h = absurd h
  block_out f ps n _ _ (goes_on st) segment.returned h = absurd h
  block_out f ps n _ _ (leaves zero st) segment.returned h = absurd (no_zero h.0)
  block_out f ps n _ _ (leaves (suc l) st) segment.returned h = (less_one h.0, h.1)
  block_out f ps n _ _ (fails j) segment.returned h = absurd h
  block_out f ps n _ _ (goes_on st) segment.stopped_in h = absurd h
  block_out f ps n _ _ (leaves k st) segment.stopped_in h = absurd h
  block_out f ps n _ _ (fails j) segment.stopped_in h = h

module _ (m : sense.World) (q : Program Steps) (s : Shape) (texts : Texts) (contract : Contract) (others : Others) (setting : InSetting m q.facts s) (t0 : Table) where
  abbrev p : Facts
  p = q.facts

  -- ---- temporaries that are no more used

  pub record Drops (i : ℕ → Bool) (g : Temporaries) (c : CoreWorld) (olds : List State) (b : Step) (st : State) : Type 0 where
    pub state : State
    pub runs : (n : ℕ) → Seg olds n b st (goes_on state)
    pub only : (n : ℕ) (e : End) → Seg olds n b st e → goes_on state ≡ e
    pub stands : StandsFor p s t0 i g c state
    pub result : at state (result_slot (sizes p s)) ≡ at st (result_slot (sizes p s))

  drops_more : (i : ℕ → Bool) (g : Temporaries) (c : CoreWorld) (olds : List State) (a b : Step) (st : State) → (r : Drops i g c olds a st) → Drops i g c olds b r.state
      → Drops i g c olds (step.seq a b) st
  drops_more i g c olds a b st r x = record {
    state = x.state;
    runs = λ n. seg.goes_both (r.runs n) (x.runs (n + count a));
    only = λ n e k. by n e (seq_ways k);
    stands = x.stands;
    result = x.result ∙ r.result;
  }
    where
      by : (n : ℕ) (e : End) → (seg.IsOver e × Seg olds n a st e) ⊎ ((mid : State) × Seg olds n a st (goes_on mid) × Seg olds (n + count a) b mid e) → goes_on x.state ≡ e
      by n e (inl (over, k)) = absurd (subst seg.IsOver (sym (r.only n e k)) over)
      by n e (inr (mid, k, l)) = x.only (n + count a) e (subst (λ y. Seg olds (n + count a) b y e) (sym (goes_parts (r.only n (goes_on mid) k))) l)

  drops : (i : ℕ → Bool) (g : Temporaries) (c : CoreWorld) (olds : List State) (h : Temporaries) → ((j : ℕ) → h j ≡ true → g j ≡ true → ⊥) → (k : ℕ) (st : State)
      → StandsFor p s t0 i g c st → Drops i g c olds (drop m (sizes p s) k h) st
  drops i g c olds h unused zero st stands = record { state = st; runs = λ n. seg.skips; only = λ n e k. skips e k; stands = stands; result = refl } where
    skips : {n : ℕ} (e : End) → Seg olds n step.skip st e → goes_on st ≡ e
    skips _ seg.skips = refl
  drops i g c olds h unused (suc k) st stands =
      let r = drops i g c olds h unused k st stands in
      drops_more i g c olds (drop m (sizes p s) k h) (if h k then step.set (temp_slot (sizes p s) k) (number_of m (num (pos 0))) else step.skip) st r
      (one r.state r.stands (h k) refl)
    where
      skips : {n : ℕ} {st : State} (e : End) → Seg olds n step.skip st e → goes_on st ≡ e
      skips _ seg.skips = refl

      one : (st : State) → StandsFor p s t0 i g c st → (b : Bool) → h k ≡ b
          → Drops i g c olds (if b then step.set (temp_slot (sizes p s) k) (number_of m (num (pos 0))) else step.skip) st
      one st stands true e = record {
        state = walk.put st (temp_slot (sizes p s) k) (pos 0);
        runs = λ n. seg.sets;
        only = λ n x r. set_way r;
        stands = subst (StandsFor p s t0 i g c) (sym (put_same st (temp_slot (sizes p s) k) (pos 0)))
            (slot_set p s setting.globals setting.integers i g c st stands g (temp_slot (sizes p s) k) (pos 0) (omega arith) (λ j r. r)
            (λ j r same. unused k e (ap g (let d : k ≡ j = omega (arith, same) in d) ∙ r)));
        result = ap (λ a. at a (result_slot (sizes p s))) (put_same st (temp_slot (sizes p s) k) (pos 0))
            ∙ put_elsewhere (pos 0) st (temp_slot (sizes p s) k) (result_slot (sizes p s)) (pos 0) (λ same. omega (arith, same));
      }
      one st stands false e = record { state = st; runs = λ n. seg.skips; only = λ n x r. skips x r; stands = stands; result = refl }

  pub dropped : (i : ℕ → Bool) (f g : Temporaries) (c : CoreWorld) (olds : List State) (st : State) → StandsFor p s t0 i g c st
      → Drops i g c olds (word.dropped m p s texts contract others f g) st
  dropped i f g c olds st stands = drops i g c olds (λ n. f n && not (g n)) (λ j h k. by (f j) (g j) h k) s.temporaries st stands where
    by : (a b : Bool) → (a && not b) ≡ true → b ≡ true → ⊥
    by true true h k = false≢true h
    by true false h k = false≢true k
    by false b h k = false≢true h

  pub all_dropped : (i : ℕ → Bool) (c : CoreWorld) (olds : List State) (st : State) → StandsFor p s t0 i no_temporaries c st
      → Drops i no_temporaries c olds (word.all_dropped m p s texts contract others) st
  all_dropped i c olds st stands = drops i no_temporaries c olds (λ n. true) (λ j h k. false≢true k) s.temporaries st stands

  -- ---- behind temporaries that are dropped

  module _ (i : ℕ → Bool) (outs : List Temporaries) (f : Temporaries) (g : Temporaries) (c : CoreWorld) (olds : List State) (a b : Step) (st : State) (r : Drops i g c olds a st)
      (n : ℕ) (runs : Ending → Type 0) (both : BothWays runs (Ends p s t0 i outs f (places b) (n + count a)) olds (n + count a) b r.state) where
    more_ends : (o : Ending) (e : End) → Ends p s t0 i outs f (places b) (n + count a) o e → Ends p s t0 i outs f (places (step.seq a b)) n o e
    more_ends o e h = ends_more p s t0 i outs f (places b) (places (step.seq a b)) (n + count a) n (λ j x. fails_second a b n j x (comes (r.runs n))) o e h

    pub behind_dropped : BothWays runs (Ends p s t0 i outs f (places (step.seq a b)) n) olds n (step.seq a b) st
    behind_dropped = record {
      forth = λ o h. let x = both.forth o h in (x.0, seg.goes_both (r.runs n) x.1, more_ends o x.0 x.2);
      back = λ e k. by e (seq_ways k);
    }
      where
        by : (e : End) → (seg.IsOver e × Seg olds n a st e) ⊎ ((mid : State) × Seg olds n a st (goes_on mid) × Seg olds (n + count a) b mid e)
            → (o : Ending) × runs o × Ends p s t0 i outs f (places (step.seq a b)) n o e
        by e (inl (over, k)) = absurd (subst seg.IsOver (sym (r.only n e k)) over)
        by e (inr (mid, k, l)) =
            let x = both.back e (subst (λ y. Seg olds (n + count a) b y e) (sym (goes_parts (r.only n (goes_on mid) k))) l) in
            (x.0, x.1, more_ends x.0 e x.2)

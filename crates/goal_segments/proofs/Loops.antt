-- A loop from one of its heads on.
use Rattle.std.proofs.Common.{◌≡◌, ℕ, zero, suc, ◌≤◌, ℤ, Bool, true, false, List, [], Option, Some, None, is_some, refl, sym, ap, ◌∙◌, subst}
use Rattle.std.specs.List.{list_all}
use Rattle.std.proofs.lemmas.Bool.{false≢true}
use Rattle.c_runs.specs.TruthStates.{Value, World as Labelled}
use Rattle.c_runs.specs.Program.{Variable, Function, Loop, Measure, Facts, Program}
use Rattle.c_runs.specs.States.{Memory, World, Here, Granted}
use Rattle.c_runs.specs.Claims as broken
use Rattle.c_runs.specs.Claims.{Stop, spent, or_stop, claimed, in_body, in_loop, measure_of, variant_holds}
use Rattle.c_runs.specs.CoreRun.{CoreWorld, Ending, goes_on, exits, returns, stopped, then_do, unless, one_turn}
use Rattle.c_runs.specs.Tree.{Step, repeat, Steps}
use Rattle.c_runs.specs.CheckedRun as run
use Rattle.goal_segments.specs.RunSegments.{by_exit, by_return, by_stop}
use Rattle.plain_runs.specs.Told.{State, world_in, core_in, is_integer}
use Rattle.plain_runs.specs.Fitting.{IsGood, Shape, sizes, Fit, FitsStep, FitsProgram}
use Rattle.plain_runs.specs.Kept.{AllBelow, some_sets, some_temps, IsScoped, Kept, Returned, Comes}
use Rattle.plain_runs.proofs.Keeping.{kept_then}
use Rattle.goal_segments.specs.Sets.{own_loop, loop_inside}
use Rattle.goal_segments.specs.Segments.{AtHead, Seg, AllSeg, entry_fails, pass_ends, again_fails}
use Rattle.goal_segments.specs.Laws.{all_among}
use Rattle.goal_segments.proofs.Including.{Agrees, loop_agrees}
use Rattle.goal_segments.proofs.Heads.{at_head}
use Rattle.goal_segments.proofs.Following.{IsSpent, Follows, goes_wrong, goes_so, spends, then_spent}
use Rattle.goal_segments.proofs.Deep.{HeadWay, first_time, behind_pass, Deep}

-- ---- what is claimed at a head

no_variant : (p : Facts) (w : Labelled) (o : Option Measure) → variant_holds p w o None ≡ None
no_variant p w None = refl
no_variant p w (Some v) = refl

or_none : (o : Option Stop) → or_stop o None ≡ o
or_none None = refl
or_none (Some s) = refl

first_none : (a b : Option Stop) → or_stop a b ≡ None → a ≡ None
first_none None b h = refl
first_none (Some s) b h = absurd (false≢true (sym (ap is_some h)))

module _ (q : Program Steps) (fits : FitsProgram q) (m : Memory) (good : IsGood q.facts m) (reached : ℕ → Bool) (deeper : run.Deeper) (deep : Deep q fits m reached deeper)
    (s : Shape) (integers : list_all is_integer s.variables ≡ true) (f : ℕ → Bool) (low : ℕ) (l : Loop) (ss : Steps) (h : FitsStep q.facts s q.functions f low (repeat l ss)) (among : all_among reached ss ≡ true)
    (here : Here) (gs : List Granted) (agrees : Agrees q.facts gs here.granted) (below : AllBelow low gs) (all_below : AllBelow low here.granted)
    (n₀ : ℕ) (vs₀ : List Value) (st₀ : State) (fit₀ : Fit q.facts s st₀) (scoped₀ : IsScoped q.facts s f st₀) where
  abbrev entry : CoreWorld
  entry = core_in (sizes q.facts s) m n₀ vs₀ st₀

  abbrev all_sets : Here
  all_sets = in_loop q.facts here l (world_in (sizes q.facts s) m n₀ vs₀ st₀)

  abbrev own : Here
  own = own_loop q.facts (record here { granted = gs }) l (world_in (sizes q.facts s) m n₀ vs₀ st₀)

  abbrev InLoop : Ending → Type 0
  InLoop = Seg q s.variables (record here { granted = gs }) (repeat l ss) entry

  abbrev Body : CoreWorld → Ending → Type 0
  Body d = AllSeg q s.variables own ss d

  abbrev claims_at : CoreWorld → Option Stop
  claims_at c = claimed q.facts (in_body q.facts own c.world) broken.invariant l.invariants

  module _ (inside : loop_inside q.facts (record here { granted = gs }) l (world_in (sizes q.facts s) m n₀ vs₀ st₀) ≡ true)
      (bodies : (n : ℕ) (vs : List Value) (st : State) → Fit q.facts s st → IsScoped q.facts s f st
      → Follows (Body (core_in (sizes q.facts s) m n vs st)) (run.exec_all q deeper s.variables all_sets ss (core_in (sizes q.facts s) m n vs st)))
      (kept_bodies : (n : ℕ) (vs : List Value) (st : State) → Fit q.facts s st → IsScoped q.facts s f st
      → Comes q.facts s m (Kept q.facts s all_sets.granted (some_sets ss) (some_temps ss) f st) (λ v after. Returned q.facts s all_sets.granted v st after)
      (run.exec_all q deeper s.variables all_sets ss (core_in (sizes q.facts s) m n vs st))) where
    head_at : (n : ℕ) (vs : List Value) (st : State) → Kept q.facts s all_sets.granted (some_sets ss) (some_temps ss) f st₀ st → AtHead q.facts s.variables own l ss entry (core_in (sizes q.facts s) m n vs st)
    head_at n vs st kept =
        at_head q.facts fits.globals m good s integers here gs l ss (world_in (sizes q.facts s) m n₀ vs₀ st₀) f h.1 (loop_agrees q.facts low here gs l (world_in (sizes q.facts s) m n₀ vs₀ st₀) h.0 agrees below inside)
        st₀ st scoped₀ kept n₀ n vs₀ vs

    -- one pass and what comes behind it
    pass_follows : (n : ℕ) (vs : List Value) (st : State) → Kept q.facts s all_sets.granted (some_sets ss) (some_temps ss) f st₀ st
        → claims_at entry ≡ None → claims_at (core_in (sizes q.facts s) m n vs st) ≡ None
        → (o : Ending) → Follows (Body (core_in (sizes q.facts s) m n vs st)) o
        → Comes q.facts s m (Kept q.facts s all_sets.granted (some_sets ss) (some_temps ss) f st) (λ v after. Returned q.facts s all_sets.granted v st after) o
        → Follows InLoop (then_do o (λ c. deeper (run.again s.variables l (measure_of q.facts (in_body q.facts own (world_in (sizes q.facts s) m n vs st)) l.variant) ss) all_sets c))
    pass_follows n vs st kept first now o (goes_wrong e a) comes = goes_wrong e (pass_ends inside first (head_at n vs st kept) now a by_stop)
    pass_follows n vs st kept first now o (spends a) comes = spends (then_spent o _ a)
    pass_follows n vs st kept first now (goes_on c) (goes_so a) comes =
        let later = kept_then q.facts s all_sets.granted (some_sets ss) (some_temps ss) f st₀ st comes.state kept comes.so in
        let value = measure_of q.facts (in_body q.facts own (world_in (sizes q.facts s) m n vs st)) l.variant in
        subst (λ c. Follows InLoop (deeper (run.again s.variables l value ss) all_sets c)) (sym comes.same)
        (deep.again s integers f low l ss h among here gs agrees below all_below n₀ vs₀ st₀ fit₀ scoped₀ inside value comes.turns comes.contents comes.state later
        (behind_pass (core_in (sizes q.facts s) m n vs st) first (head_at n vs st kept) now (subst (λ c. Body (core_in (sizes q.facts s) m n vs st) (goes_on c)) comes.same a)))
    pass_follows n vs st kept first now (exits k c) (goes_so a) comes = goes_so (pass_ends inside first (head_at n vs st kept) now a by_exit)
    pass_follows n vs st kept first now (returns v c) (goes_so a) comes = goes_so (pass_ends inside first (head_at n vs st kept) now a by_return)
    pass_follows n vs st kept first now (stopped e) (goes_so a) comes = goes_so (pass_ends inside first (head_at n vs st kept) now a by_stop)

    -- where something is false at the head
    head_fails : (last : Option ℤ) (c : CoreWorld) (e : Stop) → HeadWay q s.variables own l ss entry last c → broken.at_head q.facts (in_body q.facts own c.world) l last ≡ Some e → InLoop (stopped e)
    head_fails last c e first_time k =
        entry_fails inside (sym (ap (or_stop (claims_at entry)) (no_variant q.facts (in_body q.facts own entry.world) l.variant) ∙ or_none (claims_at entry)) ∙ k)
    head_fails last c e (behind_pass d first head now run) k = again_fails inside first head now run k

    first_claims : (last : Option ℤ) (c : CoreWorld) → HeadWay q s.variables own l ss entry last c → claims_at c ≡ None → claims_at entry ≡ None
    first_claims last c first_time k = k
    first_claims last c (behind_pass d first head now run) k = first

    turn_follows : (n : ℕ) (vs : List Value) (st : State) → Kept q.facts s all_sets.granted (some_sets ss) (some_temps ss) f st₀ st → claims_at entry ≡ None → claims_at (core_in (sizes q.facts s) m n vs st) ≡ None
        → Follows InLoop (one_turn n (core_in (sizes q.facts s) m n vs st)
        (λ d. then_do (run.exec_all q deeper s.variables all_sets ss d) (deeper (run.again s.variables l (measure_of q.facts (in_body q.facts own (world_in (sizes q.facts s) m n vs st)) l.variant) ss) all_sets)))
    turn_follows zero vs st kept first now = spends tt
    turn_follows (suc n) vs st kept first now =
        pass_follows n vs st kept first now (run.exec_all q deeper s.variables all_sets ss (core_in (sizes q.facts s) m n vs st)) (bodies n vs st kept.fit kept.scoped) (kept_bodies n vs st kept.fit kept.scoped)

    pub head_follows : (last : Option ℤ) (n : ℕ) (vs : List Value) (st : State) → Kept q.facts s all_sets.granted (some_sets ss) (some_temps ss) f st₀ st
        → HeadWay q s.variables own l ss entry last (core_in (sizes q.facts s) m n vs st)
        → Follows InLoop (run.pass q deeper s.variables all_sets l last (run.exec_all q deeper s.variables all_sets ss) (λ last. deeper (run.again s.variables l last ss) all_sets) (core_in (sizes q.facts s) m n vs st))
    head_follows last n vs st kept way = by (broken.at_head q.facts (in_body q.facts own (world_in (sizes q.facts s) m n vs st)) l last) refl where
      by : (t : Option Stop) → broken.at_head q.facts (in_body q.facts own (world_in (sizes q.facts s) m n vs st)) l last ≡ t
          → Follows InLoop (unless t (one_turn n (core_in (sizes q.facts s) m n vs st)
          (λ d. then_do (run.exec_all q deeper s.variables all_sets ss d) (deeper (run.again s.variables l (measure_of q.facts (in_body q.facts own (world_in (sizes q.facts s) m n vs st)) l.variant) ss) all_sets))))
      by (Some e) k = goes_so (head_fails last (core_in (sizes q.facts s) m n vs st) e way k)
      by None k =
          let now = first_none (claims_at (core_in (sizes q.facts s) m n vs st)) _ k in
          turn_follows n vs st kept (first_claims last (core_in (sizes q.facts s) m n vs st) way now) now

-- A loop from one of its heads on.
use Rattle.std.proofs.Common.{◌≡◌, ℕ, zero, suc, ◌<◌, ℤ, Bool, true, List, Option, Some, None, is_some, slice_get, refl, sym, ap, ◌∙◌, subst}
use Rattle.std.specs.List.{list_all}
use Rattle.std.proofs.lemmas.Bool.{false≢true}
use Rattle.wp_base.specs.Blocks.{count}
use Rattle.c_runs.specs.TruthStates.{World as Labelled}
use Rattle.c_runs.specs.Program.{Variable, Function, Loop, Measure, Facts, Program}
use Rattle.c_runs.specs.States.{Here, Granted, seen, seen_by_contract}
use Rattle.c_runs.specs.Claims as broken
use Rattle.c_runs.specs.Claims.{Stop, or_stop, claimed, in_body, in_loop, measure_of, variant_holds}
use Rattle.c_runs.specs.CoreRun.{CoreWorld, Ending, goes_on, exits, returns, stopped, then_do, unless, one_turn, in_world}
use Rattle.c_runs.specs.Tree.{repeat, Steps}
use Rattle.c_runs.specs.CheckedRun as run
use Rattle.goal_segments.specs.RunSegments.{by_exit, by_return, by_stop}
use Rattle.goal_segments.specs.Sets.{own_loop, loop_inside}
use Rattle.goal_segments.specs.Segments.{AtHead, Seg, AllSeg, entry_fails, pass_ends, again_fails}
use Rattle.goal_segments.specs.Laws.{all_among}
use Rattle.goal_segments.proofs.Deep.{HeadWay, first_time, behind_pass}
use Rattle.goal_segments.proofs.Following.{Follows, goes_wrong, goes_so, spends, then_spent}
use Rattle.plain_runs.specs.Kept.{some_sets, some_temps}
use Rattle.program_steps.specs.Temporaries.{Temporaries, no_temporaries, all_live}
use Rattle.run_blocks.specs.Ends.{is_short}
use Rattle.typed_runs.specs.Fitting.{Shape, InScope, LoopFits, FitsSteps, FitsProgram}
use Rattle.typed_runs.specs.Kept.{Holds, Kept, Ends}
use Rattle.typed_runs.proofs.Keeping.{holds_less, kept_then}
use Rattle.typed_runs.proofs.Statements.{turn_kept, turn_holds, head_holds}
use Rattle.typed_modular.specs.Solid.{SetIsSolid, entering, lets_at, LoopSet, AllLoopSets}
use Rattle.typed_modular.proofs.Including.{loop_agrees}
use Rattle.typed_modular.proofs.Heads.{at_head}
use Rattle.typed_modular.proofs.Deep.{InForce, EntryIs, Deep}

-- ---- what is claimed at a head

no_variant : (p : Facts) (w : Labelled) (o : Option Measure) → variant_holds p w o None ≡ None
no_variant p w None = refl
no_variant p w (Some v) = refl

or_none : (o : Option Stop) → or_stop o None ≡ o
or_none None = refl
or_none (Some s) = refl

first_none : (a b : Option Stop) → or_stop a b ≡ None → a ≡ None
first_none None b h = refl
first_none (Some s) b h = absurd (false≢true (sym (ap is_some h)))

-- ---- what is asked of its set, where it is entered

module _ (p : Facts) (s : Shape) (g : Function Steps) (f : InScope) (l : Loop) (ss : Steps) (set : LoopSet p s g f l ss) (here : Here) (entry : EntryIs p g here) (c : CoreWorld) (t : Temporaries)
    (h : Holds p s f t c) where
  seen_so : in_body p (record here { loop_entry = seen p c.world }) c.world ≡ entering p (seen_by_contract p entry.arguments entry.memory) c
  seen_so = ap (λ pre. entering p pre c) entry.same

  none_used : Holds p s f no_temporaries c
  none_used = holds_less p s f t no_temporaries c (λ n on. absurd (false≢true on)) h

  pub set_solid : SetIsSolid p (in_body p (record here { loop_entry = seen p c.world }) c.world) l.assigns
  set_solid = subst (λ w. SetIsSolid p w l.assigns) (sym seen_so) (set.solid entry.arguments entry.memory entry.enters c none_used)

  pub set_scoped : (x : ℕ) (v : Variable) → slice_get s.variables x ≡ Some v → v.is_plain ≡ true → x < l.declared
      → lets_at p (in_body p (record here { loop_entry = seen p c.world }) c.world) ss x l.assigns ≡ true → f x ≡ true
  set_scoped x v e is before may =
      set.scoped entry.arguments entry.memory entry.enters c none_used x v e is before (ap (λ w. lets_at p w ss x l.assigns) (sym seen_so) ∙ may)

module _ (q : Program Steps) (fits : FitsProgram q) (reached : ℕ → Bool) (deeper : run.Deeper) (deep : Deep q fits reached deeper) (g : Function Steps)
    (s : Shape) (short : list_all (is_short q.facts) s.variables ≡ true) (f : InScope) (low : ℕ) (os : List Temporaries) (t : Temporaries) (l : Loop) (ss : Steps)
    (loop : LoopFits q.facts s f low os l ss) (fit : FitsSteps q.facts s q.functions f l.declared os no_temporaries ss) (set : LoopSet q.facts s g f l ss) (sets : AllLoopSets q.facts s g f ss)
    (among : all_among reached ss ≡ true) (here : Here) (gs : List Granted) (entry_is : EntryIs q.facts g here) (c₀ : CoreWorld) (force : InForce q.facts low here gs (count c₀.world.memory.blocks))
    (h₀ : Holds q.facts s f (all_live ss os no_temporaries) c₀) where
  abbrev all_sets : Here
  all_sets = in_loop q.facts here l c₀.world

  abbrev own : Here
  own = own_loop q.facts (record here { granted = gs }) l c₀.world

  abbrev InLoop : Ending → Type 0
  InLoop = Seg q s.variables (record here { granted = gs }) (repeat l ss) c₀

  abbrev Body : CoreWorld → Ending → Type 0
  Body d = AllSeg q s.variables own ss d

  abbrev claims_at : CoreWorld → Option Stop
  claims_at c = claimed q.facts (in_body q.facts own c.world) broken.invariant l.invariants

  abbrev HeadHolds : CoreWorld → Type 0
  HeadHolds c = Holds q.facts s f (all_live ss os no_temporaries) c

  abbrev FromEntry : CoreWorld → Type 0
  FromEntry c = Kept q.facts all_sets.granted (some_sets ss) (some_temps ss) c₀ c

  module _ (inside : loop_inside q.facts (record here { granted = gs }) l c₀.world ≡ true)
      (bodies : (c : CoreWorld) → HeadHolds c → FromEntry c → Follows (Body c) (run.exec_all q deeper s.variables all_sets ss c))
      (kept_bodies : (c : CoreWorld) → HeadHolds c → FromEntry c → Ends q.facts s f os no_temporaries all_sets.granted (some_sets ss) (some_temps ss) c
      (run.exec_all q deeper s.variables all_sets ss c)) where
    head_at : (c : CoreWorld) → HeadHolds c → FromEntry c → AtHead q.facts s.variables own l ss c₀ c
    head_at c h kept =
        at_head q.facts s f low os here gs l ss loop c₀ c (all_live ss os no_temporaries) (all_live ss os no_temporaries) h₀ h
        (loop_agrees q.facts low here gs l c₀.world loop.inside force.agrees force.below force.solid force.counted
        (set_solid q.facts s g f l ss set here entry_is c₀ (all_live ss os no_temporaries) h₀) inside) kept
        (set_scoped q.facts s g f l ss set here entry_is c₀ (all_live ss os no_temporaries) h₀)

    -- one pass and what comes behind it
    pass_follows : (c : CoreWorld) → HeadHolds c → FromEntry c → claims_at c₀ ≡ None → claims_at c ≡ None → (o : Ending) → Follows (Body c) o
        → Ends q.facts s f os no_temporaries all_sets.granted (some_sets ss) (some_temps ss) c o
        → Follows InLoop (then_do o (λ d. deeper (run.again s.variables l (measure_of q.facts (in_body q.facts own c.world) l.variant) ss) all_sets d))
    pass_follows c h kept first now o (goes_wrong e a) ends = goes_wrong e (pass_ends inside first (head_at c h kept) now a by_stop)
    pass_follows c h kept first now o (spends a) ends = spends (then_spent o _ a)
    pass_follows c h kept first now (goes_on d) (goes_so a) ends =
        deep.again g s short f low os t l ss loop fit set sets among here gs entry_is c₀ force h₀ inside (measure_of q.facts (in_body q.facts own c.world) l.variant) d
        (head_holds q.facts s f os low l ss loop all_sets.granted (some_sets ss) c d no_temporaries h ends.0 ends.1)
        (kept_then q.facts all_sets.granted (some_sets ss) (some_temps ss) c₀ c d kept ends.1) (behind_pass c first (head_at c h kept) now a)
    pass_follows c h kept first now (exits k d) (goes_so a) ends = goes_so (pass_ends inside first (head_at c h kept) now a by_exit)
    pass_follows c h kept first now (returns v d) (goes_so a) ends = goes_so (pass_ends inside first (head_at c h kept) now a by_return)
    pass_follows c h kept first now (stopped e) (goes_so a) ends = goes_so (pass_ends inside first (head_at c h kept) now a by_stop)

    -- where something is false at the head
    head_fails : (last : Option ℤ) (c : CoreWorld) (e : Stop) → HeadWay q s.variables own l ss c₀ last c → broken.at_head q.facts (in_body q.facts own c.world) l last ≡ Some e → InLoop (stopped e)
    head_fails last c e first_time k =
        entry_fails inside (sym (ap (or_stop (claims_at c₀)) (no_variant q.facts (in_body q.facts own c₀.world) l.variant) ∙ or_none (claims_at c₀)) ∙ k)
    head_fails last c e (behind_pass d first head now run) k = again_fails inside first head now run k

    first_claims : (last : Option ℤ) (c : CoreWorld) → HeadWay q s.variables own l ss c₀ last c → claims_at c ≡ None → claims_at c₀ ≡ None
    first_claims last c first_time k = k
    first_claims last c (behind_pass d first head now run) k = first

    turn_follows : (n : ℕ) (c : CoreWorld) → HeadHolds c → FromEntry c → claims_at c₀ ≡ None → claims_at c ≡ None
        → Follows InLoop (one_turn n c (λ d. then_do (run.exec_all q deeper s.variables all_sets ss d)
        (deeper (run.again s.variables l (measure_of q.facts (in_body q.facts own c.world) l.variant) ss) all_sets)))
    turn_follows zero c h kept first now = spends tt
    turn_follows (suc n) c h kept first now =
        let d = in_world c (record c.world { turns = n }) in
        let hd = turn_holds q.facts s f (all_live ss os no_temporaries) c n h in
        let kd = kept_then q.facts all_sets.granted (some_sets ss) (some_temps ss) c₀ c d kept (turn_kept q.facts s f all_sets.granted (some_sets ss) (some_temps ss) c n) in
        pass_follows d hd kd first now (run.exec_all q deeper s.variables all_sets ss d) (bodies d hd kd) (kept_bodies d hd kd)

    pub head_follows : (last : Option ℤ) (c : CoreWorld) → HeadHolds c → FromEntry c → HeadWay q s.variables own l ss c₀ last c
        → Follows InLoop (run.pass q deeper s.variables all_sets l last (run.exec_all q deeper s.variables all_sets ss) (λ last. deeper (run.again s.variables l last ss) all_sets) c)
    head_follows last c h kept way = by (broken.at_head q.facts (in_body q.facts own c.world) l last) refl where
      by : (o : Option Stop) → broken.at_head q.facts (in_body q.facts own c.world) l last ≡ o
          → Follows InLoop (unless o (one_turn c.world.turns c
          (λ d. then_do (run.exec_all q deeper s.variables all_sets ss d) (deeper (run.again s.variables l (measure_of q.facts (in_body q.facts own c.world) l.variant) ss) all_sets))))
      by (Some e) k = goes_so (head_fails last c e way k)
      by None k = let now = first_none (claims_at c) _ k in turn_follows c.world.turns c h kept (first_claims last c way now) now

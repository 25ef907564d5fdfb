-- A call, with all that is asked of it, in a program whose bodies keep what they have to at the level below.
use Rattle.std.proofs.Common.{◌≡◌, ℕ, zero, suc, ℤ, Bool, true, false, if◌then◌else◌, List, [], ◌∷◌, map, Option, Some, None, refl, sym, ap, ◌∙◌, subst}
use Rattle.wp_base.specs.declared.kinds.CellKind.{CellKind}
use Rattle.wp_base.specs.Blocks.{count}
use Rattle.c_runs.specs.TruthTold.{Tree}
use Rattle.c_runs.specs.TruthStates.{Value, World as Labelled}
use Rattle.c_runs.specs.Program.{Facts, Behavior, Function, Contract, Program}
use Rattle.c_runs.specs.States.{World, Here, Granted}
use Rattle.c_runs.specs.Claims.{Stop, here_in, granted_by, granted_in, parts_of, required, decreased, is_assumed, measure_of, at_entry, entered_well, ensured, of_caller}
use Rattle.c_runs.specs.Scopes.{is_content, left, arrived}
use Rattle.c_runs.specs.Calls.{Eval, gives, stops, nought, unless, turn_by, back_in, keeps_promises, entered_by, found as found_by}
use Rattle.c_runs.specs.Entry.{are_arguments, all_lead_well}
use Rattle.c_runs.specs.Run as spelled
use Rattle.c_runs.specs.CoreRun.{CoreWorld, Ending, goes_on, exits, returns, stopped, begun}
use Rattle.c_runs.specs.Tree.{Steps}
use Rattle.c_runs.specs.CheckedRun as run
use Rattle.plain_runs.specs.Fitting.{IsGood}
use Rattle.plain_runs.specs.Kept.{AllBelow, some_sets}
use Rattle.plain_runs.proofs.Sets.{entry_below}
use Rattle.typed_memories.proofs.Tables.{ended_all}
use Rattle.run_blocks.proofs.Standing.{still_same, still_then}
use Rattle.run_blocks.proofs.Good.{ends_are_good}
use Rattle.program_steps.specs.Temporaries.{no_temporaries, all_live}
use Rattle.typed_runs.specs.Fitting.{Shape, FitsProgram, shape}
use Rattle.typed_runs.specs.Kept.{AllCounted, NewHomes, KeptMemory, IsResult, LeavesMemory, BodyEnds}
use Rattle.typed_runs.specs.Laws.{Keeps}
use Rattle.typed_runs.proofs.Keeping.{counted_more, counted_both, counted_callers, le_same, fewer_callers, memory_more, memory_ended}
use Rattle.typed_runs.proofs.Arriving.{Arrives, arrives}

-- ---- sets of a call are counted where it begins

pub one_counted : (p : Facts) (v : Labelled) (n : ℤ) (d : ℕ) (o : Option (List Tree)) → AllCounted n (granted_by p v n d o)
one_counted p v n d None = tt
one_counted p v n d (Some ts) = (le_same n, tt)

pub parts_counted : (p : Facts) (v : Labelled) (n : ℤ) (bs : List Behavior) → AllCounted n (granted_in p v n bs)
parts_counted p v n [] = tt
parts_counted p v n (b ∷ bs) =
    counted_both (if is_assumed p v b then granted_by p v n 0 b.assigns else []) (granted_in p v n bs) n (by (is_assumed p v b)) (parts_counted p v n bs) where
      by : (t : Bool) → AllCounted n (if t then granted_by p v n 0 b.assigns else [])
      by true = one_counted p v n 0 b.assigns
      by false = tt

-- ---- the world behind a body

-- the caller's variables are as before, and the blocks of the call have ended
abbrev pub back : World → World → World
back w u = record (left w.memory [] u) { locals = w.locals }

-- what a call leaves behind
pub record Behind (p : Facts) (r : Option CellKind) (inner gs : List Granted) (w : World) (v : Value) (u : World) : Type 0 where
  pub good : IsGood p u.memory
  pub inside : KeptMemory inner w.memory u.memory
  pub memory : KeptMemory gs w.memory u.memory
  pub result : IsResult p (count u.memory.blocks) r v
  pub locals : (x : ℕ) → u.locals x ≡ w.locals x

module _ (q : Program Steps) (fits : FitsProgram q) (k : ℕ) (g : Function Steps) (e : q.functions k ≡ Some g) (here : Here) (vs : List Value) (w : World) where
  abbrev pub callee : Shape
  callee = shape q fits g (fits.functions k g e)

  -- in the memory in which it is called
  abbrev pub there : Here
  there = here_in q.facts k vs w.memory g.contract here.granted

  abbrev pub own : List Granted
  own = granted_in q.facts (at_entry q.facts vs w.memory) (count w.memory.blocks) (parts_of g.contract)

  module _ (good : IsGood q.facts w.memory) (args : are_arguments q.facts w.memory.blocks g.params g.variables vs ≡ true) (lead : all_lead_well vs ≡ true)
      (counted : AllCounted (count w.memory.blocks) here.granted) where
    abbrev pub begins : (n : ℕ) → CoreWorld
    begins n = begun (arrived g.variables vs (record w { turns = n }))

    pub arrives_at : (n : ℕ) → Arrives q.facts callee g.params (all_live g.body [] no_temporaries) w (begins n)
    arrives_at n =
        let h = fits.functions k g e in
        let a = arrives q.facts callee h.short (all_live g.body [] no_temporaries) h.unset g.params h.one_cell vs (record w { turns = n }) good args lead in
        record { holds = a.holds; there = a.there; cells = a.cells; homes = a.homes }

    there_counted : AllCounted (count w.memory.blocks) there.granted
    there_counted = counted_both own (map of_caller here.granted) (count w.memory.blocks) (parts_counted q.facts (at_entry q.facts vs w.memory) (count w.memory.blocks) (parts_of g.contract))
        (counted_callers here.granted (count w.memory.blocks) counted)

    pub begins_below : AllBelow 0 there.granted
    begins_below = entry_below q.facts k vs w.memory g.contract here.granted

    pub begins_counted : (n : ℕ) → AllCounted (count (begins n).world.memory.blocks) there.granted
    begins_counted n = counted_more there.granted (count w.memory.blocks) (count (begins n).world.memory.blocks) (arrives_at n).there.more there_counted

    pub begins_new : (n : ℕ) → NewHomes 0 (some_sets g.body) there.granted (begins n).world.locals
    begins_new n x b on le at = counted_more there.granted (count w.memory.blocks) b ((arrives_at n).homes x b at) there_counted

    -- ---- behind its body

    pub behind : (n : ℕ) (d : CoreWorld) (v : Value) → LeavesMemory q.facts there.granted (begins n) d → IsResult q.facts (count d.world.memory.blocks) g.result v
        → Behind q.facts g.result there.granted here.granted w v (back w d.world)
    behind n d v leaves result =
        let a = arrives_at n in
        let inside = memory_ended there.granted w.memory (begins n).world.memory d.world.memory a.there a.cells leaves.memory in
        let stands = still_then w.memory.blocks (begins n).world.memory.blocks d.world.memory.blocks a.there (still_same (begins n).world.memory.blocks d.world.memory.blocks leaves.memory.blocks) in
        let same = (ended_all w.memory.blocks d.world.memory.blocks stands).1 in
        record {
          good = ends_are_good q.facts w.memory [] d.world stands good leaves.good;
          inside = inside;
          memory = memory_more here.granted there.granted w.memory (back w d.world).memory (fewer_callers own here.granted) inside;
          result = result_same g.result same result;
          locals = λ x. refl;
        } where
          result_same : (r : Option CellKind) {n m : ℤ} → n ≡ m → IsResult q.facts m r v → IsResult q.facts n r v
          result_same None same is = is
          result_same (Some k) same is = ap (λ n. is_content q.facts n k v) same ∙ is

    -- ---- what it gives

    abbrev pub Given : Eval → Type 0
    Given (gives v u) = Behind q.facts g.result there.granted here.granted w v u
    Given (stops x) = Unit {0}

    unless_given : (o : Option Stop) (e : Eval) → Given e → Given (unless o e)
    unless_given None e h = h
    unless_given (Some x) e h = tt

    promises_given : (c : Contract) (e : Eval) → Given e → Given (keeps_promises q.facts there c e)
    promises_given c (gives v u) h = unless_given (ensured q.facts there u.memory v c) (gives v u) h
    promises_given c (stops x) h = tt

    ended_given : (n : ℕ) (r : Option CellKind) → g.result ≡ r → (line : ℕ) (d : CoreWorld) → LeavesMemory q.facts there.granted (begins n) d
        → Given (back_in (record w { turns = n }) (spelled.ended r line d.world))
    ended_given n None is line d leaves = behind n d nought leaves (subst (λ r. IsResult q.facts (count d.world.memory.blocks) r nought) (sym is) refl)
    ended_given n (Some x) is line d leaves = tt

    returned_given : (n : ℕ) (o : Ending) → BodyEnds q.facts callee there.granted (begins n) o → Given (back_in (record w { turns = n }) (run.returned g o))
    returned_given n (goes_on d) h = ended_given n g.result refl g.end d h
    returned_given n (exits j d) h = ended_given n g.result refl g.end d h
    returned_given n (returns v d) h = behind n d v h.1 h.0
    returned_given n (stopped x) h = tt

    module _ (deeper : run.Deeper) (keeps : Keeps q fits deeper) where
      pub body_ends : (n : ℕ) → BodyEnds q.facts callee there.granted (begins n) (deeper (run.body g) there (begins n))
      body_ends n = keeps.body k g e there begins_below (begins n) (begins_counted n) (begins_new n) (arrives_at n).holds

      entered_given : (n : ℕ) → Given (entered_by q.facts (λ f here w. run.returned f (deeper (run.body f) here (begun w))) g there vs (record w { turns = n }))
      entered_given n =
          unless_given (entered_well q.facts (at_entry q.facts vs w.memory) g.contract) _
          (promises_given g.contract (back_in (record w { turns = n }) (run.returned g (deeper (run.body g) there (begins n)))) (returned_given n (deeper (run.body g) there (begins n)) (body_ends n)))

      turn_given : (n : ℕ) → Given (turn_by n w (entered_by q.facts (λ f here w. run.returned f (deeper (run.body f) here (begun w))) g there vs))
      turn_given zero = tt
      turn_given (suc n) = entered_given n

      pub call_given : (l : ℕ) → Given (run.calls q deeper here k l vs w)
      call_given l =
          subst (λ o. Given (found_by q.facts (λ f here w. run.returned f (deeper (run.body f) here (begun w))) here k l o vs w)) (sym e)
          (unless_given (required q.facts l (at_entry q.facts vs w.memory) g.contract) _
          (unless_given (decreased q.facts l here k (measure_of q.facts (at_entry q.facts vs w.memory) g.contract.decreases)) _
          (turn_given w.turns)))

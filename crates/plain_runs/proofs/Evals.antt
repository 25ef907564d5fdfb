-- A call, with all that is asked of it, in a program whose bodies keep what they have to at the level below.
use Rattle.std.proofs.Common.{◌≡◌, ℕ, zero, suc, ◌≤◌, ℤ, Bool, false, List, [], map, length, Option, Some, None, refl, sym, ap, subst, arith}
use Rattle.wp_base.specs.declared.kinds.CellKind.{CellKind}
use Rattle.c_runs.specs.TruthStates.{Value, number}
use Rattle.c_runs.specs.Program.{Facts, Function, Contract, Program}
use Rattle.c_runs.specs.States.{Memory, World, Here}
use Rattle.c_runs.specs.Claims.{Stop, here_in, required, decreased, measure_of, at_entry, entered_well, ensured}
use Rattle.c_runs.specs.Calls.{Eval, gives, stops, nought, unless, turn_by, back_in, keeps_promises, entered_by, found as found_by}
use Rattle.c_runs.specs.Run as spelled
use Rattle.plain_states.specs.Told.{CoreWorld, Ending, goes_on, exits, returns, stopped, begun}
use Rattle.c_runs.specs.Tree.{Steps}
use Rattle.c_runs.specs.CheckedRun as run
use Rattle.plain_states.specs.Slots.{State, world_in, core_in}
use Rattle.plain_states.specs.Scopes.{entry_state, behind_state}
use Rattle.plain_states.proofs.Entering.{arrives, comes_back}
use Rattle.plain_runs.specs.Fitting.{IsGood, Shape, sizes, Fit, AreOf, FitsProgram}
use Rattle.plain_runs.specs.Kept.{IsScoped, KeptFile, Kept, IsResult, Returned, IsAt, Comes}
use Rattle.plain_runs.specs.Laws.{shape, Keeps}
use Rattle.plain_runs.proofs.Cells.{clean_of}
use Rattle.plain_runs.proofs.Sets.{entry_below, entry_globals}
use Rattle.plain_runs.proofs.Calls.{more_slots, entry_fits, entry_scoped, call_kept}

-- ---- what a call gives

pub record CallAt (q : Program Steps) (s : Shape) (m : Memory) (r : Option CellKind) (here : Here) (f : ℕ → Bool) (st : State) (v : Value) (w : World) : Type 0 where
  pub turns : ℕ
  pub contents : List Value
  pub state : State
  pub same : w ≡ world_in (sizes q.facts s) m turns contents state
  pub result : IsResult q.facts r v
  pub kept : Kept q.facts s here.granted (λ x. false) (λ n. false) f st state

abbrev pub Given : (q : Program Steps) (s : Shape) (m : Memory) (result : Option CellKind) (here : Here) (f : ℕ → Bool) (st : State) → Eval → Type 0
Given q s m r here f st (gives v w) = CallAt q s m r here f st v w
Given q s m r here f st (stops e) = Unit {0}

module _ (q : Program Steps) (fits : FitsProgram q) (m : Memory) (good : IsGood q.facts m) (deeper : run.Deeper) (keeps : Keeps q fits m deeper)
    (s : Shape) (here : Here) (f : ℕ → Bool) (st : State) (fit : Fit q.facts s st) (scoped : IsScoped q.facts s f st) where
  unless_given : (r : Option CellKind) (o : Option Stop) (e : Eval) → Given q s m r here f st e → Given q s m r here f st (unless o e)
  unless_given r None e h = h
  unless_given r (Some x) e h = tt

  promises_given : (r : Option CellKind) (p : Facts) (there : Here) (c : Contract) (e : Eval) → Given q s m r here f st e → Given q s m r here f st (keeps_promises p there c e)
  promises_given r p there c (gives v w) h = unless_given r (ensured p there w.memory v c) (gives v w) h
  promises_given r p there c (stops e) h = tt

  module _ (k : ℕ) (g : Function Steps) (e : q.functions k ≡ Some g) (zs : List ℤ) (args : AreOf q.facts g.variables g.params zs) (l : ℕ) where
    abbrev callee : Shape
    callee = shape q g (fits.functions k g e)

    -- in the memory in which it is called
    abbrev there : Here
    there = here_in q.facts k (map number zs) (world_in (sizes q.facts s) m 0 [] st).memory g.contract here.granted

    abbrev first : State
    first = entry_state (sizes q.facts callee).globals zs (more_slots (sizes q.facts callee) callee.temporaries (length zs)) st

    kept_behind : (after : State) → KeptFile q.facts callee there.granted first after → Kept q.facts s here.granted (λ x. false) (λ n. false) f st (behind_state (sizes q.facts s).globals after st)
    kept_behind after file =
        call_kept q.facts s callee st fit zs g.params args (fits.functions k g e).params f scoped here.granted there.granted
        (entry_globals q.facts k (map number zs) (world_in (sizes q.facts s) m 0 [] st).memory g.contract here.granted) after file (λ x. false) (λ n. false)

    -- back in the caller
    back_given : (r : Option CellKind) (v : Value) (n n' : ℕ) (vs vs' : List Value) (after : State) (u : World) → u ≡ world_in (sizes q.facts callee) m n' vs' after
        → KeptFile q.facts callee there.granted first after → IsResult q.facts r v
        → Given q s m r here f st (back_in (world_in (sizes q.facts s) m n vs st) (gives v u))
    back_given r v n n' vs vs' after u same file result =
        subst (λ x. Given q s m r here f st (back_in (world_in (sizes q.facts s) m n vs st) (gives v x))) (sym same)
        (subst (Given q s m r here f st) (sym (comes_back (sizes q.facts callee) (sizes q.facts s) refl m (clean_of q.facts m good.well) n n' vs vs' v st after))
        (record { turns = n'; contents = vs'; state = behind_state (sizes q.facts s).globals after st; same = refl; result = result; kept = kept_behind after file }))

    ended_given : (r : Option CellKind) (n : ℕ) (vs : List Value) (line : ℕ) (c : CoreWorld) → IsAt q.facts callee m (KeptFile q.facts callee there.granted first) c
        → Given q s m r here f st (back_in (world_in (sizes q.facts s) m n vs st) (spelled.ended r line c.world))
    ended_given None n vs line c h = back_given None nought n h.turns vs h.contents h.state c.world (ap (λ (c : CoreWorld). c.world) h.same) h.so refl
    ended_given (Some x) n vs line c h = tt

    returned_given : (n : ℕ) (vs : List Value) (o : Ending)
        → Comes q.facts callee m (KeptFile q.facts callee there.granted first) (λ v after. Returned q.facts callee there.granted v first after) o
        → Given q s m g.result here f st (back_in (world_in (sizes q.facts s) m n vs st) (run.returned g o))
    returned_given n vs (goes_on c) h = ended_given g.result n vs g.end c h
    returned_given n vs (exits j c) h = ended_given g.result n vs g.end c h
    returned_given n vs (returns v c) h = back_given g.result v n h.turns vs h.contents h.state c.world (ap (λ (c : CoreWorld). c.world) h.same) h.so.file h.so.result
    returned_given n vs (stopped x) h = tt

    -- its body
    entered_given : (n : ℕ) (vs : List Value) → Given q s m g.result here f st (entered_by q.facts (λ f here w. run.returned f (deeper (run.body f) here (begun w))) g there (map number zs) (world_in (sizes q.facts s) m n vs st))
    entered_given n vs =
        unless_given g.result (entered_well q.facts (at_entry q.facts (map number zs) (world_in (sizes q.facts s) m n vs st).memory) g.contract) _
        (promises_given g.result q.facts there g.contract _
        (subst (λ c. Given q s m g.result here f st (back_in (world_in (sizes q.facts s) m n vs st) (run.returned g (deeper (run.body g) there c))))
        (sym (arrives q.facts g.variables (fits.functions k g e).integers (sizes q.facts s) refl m n vs zs (more_slots (sizes q.facts callee) callee.temporaries (length zs)) st enough))
        (returned_given n vs (deeper (run.body g) there (core_in (sizes q.facts callee) m n vs first))
        (keeps.body k g e there (entry_below q.facts k (map number zs) (world_in (sizes q.facts s) m 0 [] st).memory g.contract here.granted) n vs first
        (entry_fits q.facts s callee st fit zs g.params args (fits.functions k g e).params) (entry_scoped q.facts s callee st fit zs g.params args (fits.functions k g e).params))))) where
          enough : length zs ≤ length g.variables
          enough = let a = args.0 in let b = (fits.functions k g e).params in omega (arith, a, b)

    turn_given : (n : ℕ) (vs : List Value) → Given q s m g.result here f st
        (turn_by n (world_in (sizes q.facts s) m n vs st) (entered_by q.facts (λ f here w. run.returned f (deeper (run.body f) here (begun w))) g there (map number zs)))
    turn_given zero vs = tt
    turn_given (suc n) vs = entered_given n vs

    pub call_given : (n : ℕ) (vs : List Value) → Given q s m g.result here f st (run.calls q deeper here k l (map number zs) (world_in (sizes q.facts s) m n vs st))
    call_given n vs =
        subst (λ o. Given q s m g.result here f st (found_by q.facts (λ f here w. run.returned f (deeper (run.body f) here (begun w))) here k l o (map number zs) (world_in (sizes q.facts s) m n vs st))) (sym e)
        (unless_given g.result (required q.facts l (at_entry q.facts (map number zs) (world_in (sizes q.facts s) m n vs st).memory) g.contract) _
        (unless_given g.result (decreased q.facts l here k (measure_of q.facts (at_entry q.facts (map number zs) (world_in (sizes q.facts s) m n vs st).memory) g.contract.decreases)) _
        (turn_given n vs)))

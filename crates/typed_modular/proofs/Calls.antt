-- A call: what goes wrong at it a segment run meets, and where it returns a segment run goes on behind it.
use Rattle.std.proofs.Common.{◌≡◌, ℕ, zero, suc, Bool, true, false, List, [], ◌++◌, map, Option, Some, None, is_some, refl, sym, ap, subst}
use Rattle.std.specs.List.{list_all}
use Rattle.std.proofs.lemmas.Bool.{false≢true}
use Rattle.wp_base.specs.declared.kinds.CellKind.{CellKind}
use Rattle.wp_base.specs.Blocks.{count}
use Rattle.c_runs.specs.TruthStates.{Value}
use Rattle.c_runs.specs.Program.{Function, Program}
use Rattle.c_runs.specs.States.{World, Here, Granted}
use Rattle.c_runs.specs.Operators.{noreturn}
use Rattle.c_runs.specs.Claims.{Stop, spent, undefined, failed, requires, unless_true, required, is_required, at_entry, entered_well, ensured, here_in, granted_in, of_caller, parts_of}
use Rattle.c_runs.specs.Scopes.{arrived}
use Rattle.c_runs.specs.Calls.{Eval, gives, stops, nought, unless, turn_by, back_in, keeps_promises, entered_by}
use Rattle.c_runs.specs.Entry.{are_arguments, all_lead_well, Enters}
use Rattle.c_runs.specs.Run as spelled
use Rattle.c_runs.specs.CoreRun.{CoreWorld, Ending, goes_on, exits, returns, stopped, begun}
use Rattle.c_runs.specs.Tree.{Steps}
use Rattle.c_runs.specs.CheckedRun as run
use Rattle.goal_segments.specs.RunSegments.{BodyEnds, behind_call}
use Rattle.goal_segments.specs.RunSegments as segment
use Rattle.goal_segments.specs.Sets.{call_inside}
use Rattle.goal_segments.specs.Segments as seg
use Rattle.goal_segments.specs.Segments.{BehindCall, AllSeg, FunctionSeg}
use Rattle.goal_segments.specs.Laws.{NoneFails}
use Rattle.goal_segments.specs.Told.{IsGood}
use Rattle.goal_segments.proofs.Following.{Follows, goes_wrong, goes_so, spends}
use Rattle.plain_runs.specs.Kept.{AllBelow}
use Rattle.plain_runs.proofs.Sets.{parts_below, below_both, entry_below}
use Rattle.typed_runs.specs.Fitting.{FitsProgram}
use Rattle.typed_runs.specs.Kept.{AllCounted, IsResult, LeavesMemory}
use Rattle.typed_runs.specs.Kept as kept
use Rattle.typed_runs.specs.Laws.{Keeps}
use Rattle.typed_runs.proofs.Keeping.{counted_more, counted_both}
use Rattle.typed_runs.proofs.Calls.{Behind, callee, there, begins, arrives_at, begins_counted, begins_new, behind, body_ends, parts_counted}
use Rattle.typed_runs.proofs.Whole.{segment_result}
use Rattle.typed_modular.specs.Solid.{EntersWith, SetsFit}
use Rattle.typed_modular.proofs.Including.{solid_both, parts_solid, call_agrees}
use Rattle.typed_modular.proofs.Heads.{all_allow}
use Rattle.typed_modular.proofs.Deep.{InForce, Deep}

at_any_line : (b : Bool) (l : ℕ) → unless_true b requires l ≡ None → unless_true b requires 0 ≡ None
at_any_line true l h = refl
at_any_line false l h = absurd (false≢true (sym (ap is_some h)))

-- what a call comes to that is asked for nothing wrong: its turns are spent, or the caller goes on behind it
pub data Called (q : Program Steps) (k : ℕ) (g : Function Steps) (inner gs : List Granted) (vs : List Value) (w : World) : Eval → Type 0 where
  is_spent : {u : World} → Called q k g inner gs vs w (stops (spent u))
  is_back : {v : Value} {u : World} → Behind q.facts g.result inner gs w v u → BehindCall q.facts k g vs w v u → Called q k g inner gs vs w (gives v u)

module _ (q : Program Steps) (fits : FitsProgram q) (sets : SetsFit q fits) (reached : ℕ → Bool) (none_fails : NoneFails q reached) (deeper : run.Deeper) (keeps : Keeps q fits deeper)
    (deep : Deep q fits reached deeper) (here : Here) (gs : List Granted) (low : ℕ) (w : World) (force : InForce q.facts low here gs (count w.memory.blocks)) (good : IsGood q.facts w.memory)
    (k : ℕ) (g : Function Steps) (e : q.functions k ≡ Some g) (among : reached k ≡ true) (vs : List Value) (args : are_arguments q.facts w.memory.blocks g.params g.variables vs ≡ true)
    (lead : all_lead_well vs ≡ true) where
  abbrev inner : Here
  inner = there q fits k g e here vs w

  abbrev alone : Here
  alone = here_in q.facts k vs w.memory g.contract []

  abbrev clauses : List Granted
  clauses = granted_in q.facts (at_entry q.facts vs w.memory) (count w.memory.blocks) (parts_of g.contract)

  abbrev Back : Eval → Type 0
  Back = Called q k g inner.granted here.granted vs w

  abbrev first : ℕ → CoreWorld
  first n = begins q fits k g e here vs w good args lead force.all_counted n

  -- the function is entered as it asks for
  enters : (l : ℕ) → required q.facts l (at_entry q.facts vs w.memory) g.contract ≡ None → Enters q g vs w.memory
  enters l r = record {
    state = good.well;
    arguments = args;
    required = at_any_line (list_all (is_required q.facts (at_entry q.facts vs w.memory)) (parts_of g.contract)) l r;
    pointers = lead;
    cells = good.pointers;
  }

  -- ---- behind the call

  back : (n : ℕ) (v : Value) (d : CoreWorld) → LeavesMemory q.facts inner.granted (first n) d → IsResult q.facts (count d.world.memory.blocks) g.result v
      → ensured q.facts alone (behind_call (record w { turns = n }) d.world).memory v g.contract ≡ None → Back (gives v (behind_call (record w { turns = n }) d.world))
  back n v d leaves result promised =
      let b = behind q fits k g e here vs w good args lead force.all_counted n d v leaves result in
      is_back b (record {
        good = b.good;
        blocks = b.memory.blocks;
        changes = all_allow q.facts vs (at_entry q.facts vs w.memory) w.memory (behind_call w d.world).memory (parts_of g.contract) (map of_caller here.granted) b.inside;
        locals = λ x. refl;
        result = segment_result q.facts (behind_call w d.world).memory.blocks g.result v b.result;
        promises = promised;
      })

  -- ---- the body, of which no segment run goes wrong

  module _ (l : ℕ) (asked : required q.facts l (at_entry q.facts vs w.memory) g.contract ≡ None) (n : ℕ)
      (inside : call_inside q.facts gs clauses ≡ true) (entered : entered_well q.facts (at_entry q.facts vs w.memory) g.contract ≡ None) where
    abbrev before : World
    before = record w { turns = n }

    abbrev Body : Ending → Type 0
    Body = AllSeg q g.variables alone g.body (begun (arrived g.variables vs before))

    never : (x : Stop) → FunctionSeg q k g vs before (stops x) → ⊥
    never x h = none_fails k g among e vs before (enters l asked) x h

    promised : (o : Ending) (v : Value) (u : World) → Body o → BodyEnds g o (gives v u) → (t : Option Stop) → ensured q.facts alone (behind_call before u).memory v g.contract ≡ t
        → ensured q.facts alone (behind_call before u).memory v g.contract ≡ None
    promised o v u body ends None h = h
    promised o v u body ends (Some x) h = absurd (never x (seg.breaks_promise entered body ends h))

    -- what the caller makes of a body that ends so
    abbrev resumed : (o : Ending) → Eval
    resumed o = keeps_promises q.facts inner g.contract (back_in before (run.returned g o))

    given_back : (o : Ending) (v : Value) (d : CoreWorld) → Body o → BodyEnds g o (gives v d.world) → LeavesMemory q.facts inner.granted (first n) d
        → IsResult q.facts (count d.world.memory.blocks) g.result v
        → Back (unless (ensured q.facts alone (behind_call before d.world).memory v g.contract) (gives v (behind_call before d.world)))
    given_back o v d body ends leaves result =
        let so = promised o v d.world body ends (ensured q.facts alone (behind_call before d.world).memory v g.contract) refl in
        subst (λ t. Back (unless t (gives v (behind_call before d.world)))) (sym so) (back n v d leaves result so)

    ended : (r : Option CellKind) → g.result ≡ r → (o : Ending) (d : CoreWorld) → Body o → (g.result ≡ None → BodyEnds g o (gives nought d.world))
        → ((x : CellKind) → g.result ≡ Some x → BodyEnds g o (stops (undefined noreturn g.end))) → LeavesMemory q.facts inner.granted (first n) d
        → Back (keeps_promises q.facts inner g.contract (back_in before (spelled.ended r g.end d.world)))
    ended None is o d body void wrong leaves =
        given_back o nought d body (void is) leaves (subst (λ r. IsResult q.facts (count d.world.memory.blocks) r nought) (sym is) refl)
    ended (Some x) is o d body void wrong leaves = absurd (never (undefined noreturn g.end) (seg.goes_wrong entered body (wrong x is)))

    body_called : (o : Ending) → Follows Body o → kept.BodyEnds q.facts (callee q fits k g e here vs w) inner.granted (first n) o → Back (resumed o)
    body_called o (goes_wrong x a) h = absurd (never x (seg.goes_wrong entered a segment.by_stop))
    body_called (goes_on c) (spends a) h = absurd a
    body_called (exits j c) (spends a) h = absurd a
    body_called (returns v c) (spends a) h = absurd a
    body_called (stopped (spent u)) (spends a) h = is_spent
    body_called (stopped (undefined u line)) (spends a) h = absurd a
    body_called (stopped (failed b line)) (spends a) h = absurd a
    body_called (goes_on c) (goes_so a) h = ended g.result refl (goes_on c) c a (λ i. segment.at_brace i) (λ x i. segment.without_result i) h
    body_called (exits j c) (goes_so a) h = ended g.result refl (exits j c) c a (λ i. segment.left_at_brace i) (λ x i. segment.left_without_result i) h
    body_called (returns v c) (goes_so a) h = given_back (returns v c) v c a segment.by_return h.1 h.0
    body_called (stopped x) (goes_so a) h = absurd (never x (seg.goes_wrong entered a segment.by_stop))

    enters_with : EntersWith q.facts g vs w.memory
    enters_with = record { good = good; arguments = args; pointers = lead }

    clauses_below : AllBelow 0 clauses
    clauses_below = parts_below q.facts (at_entry q.facts vs w.memory) (count w.memory.blocks) (parts_of g.contract)

    inner_force : InForce q.facts 0 inner alone.granted (count (first n).world.memory.blocks)
    inner_force = record {
      agrees = call_agrees q.facts (at_entry q.facts vs w.memory) (count w.memory.blocks) (parts_of g.contract) gs here.granted force.agrees force.solid force.counted
          (sets.contracts k g e vs w.memory enters_with) clauses_below inside;
      below = below_both 0 clauses [] clauses_below tt;
      all_below = entry_below q.facts k vs w.memory g.contract here.granted;
      counted = counted_more (clauses ++ []) (count w.memory.blocks) (count (first n).world.memory.blocks) (arrives_at q fits k g e here vs w good args lead force.all_counted n).there.more
          (counted_both clauses [] (count w.memory.blocks) (parts_counted q.facts (at_entry q.facts vs w.memory) (count w.memory.blocks) (parts_of g.contract)) tt);
      all_counted = begins_counted q fits k g e here vs w good args lead force.all_counted n;
      solid = solid_both q.facts clauses [] (parts_solid q.facts (at_entry q.facts vs w.memory) (count w.memory.blocks) (parts_of g.contract) (sets.contracts k g e vs w.memory enters_with)) tt;
    }

    entered_called : Back (resumed (deeper (run.body g) inner (first n)))
    entered_called =
        body_called (deeper (run.body g) inner (first n))
        (deep.body k g e among inner alone.granted (record { arguments = vs; memory = w.memory; enters = enters_with; same = refl }) (first n) inner_force
        (begins_new q fits k g e here vs w good args lead force.all_counted n) (arrives_at q fits k g e here vs w good args lead force.all_counted n).holds)
        (body_ends q fits k g e here vs w good args lead force.all_counted deeper keeps n)

  -- all that is asked behind the turn
  module _ (l : ℕ) (asked : required q.facts l (at_entry q.facts vs w.memory) g.contract ≡ None) (inside : call_inside q.facts gs clauses ≡ true) where
    entered_by_called : (n : ℕ) → Back (entered_by q.facts (λ f here w. run.returned f (deeper (run.body f) here (begun w))) g inner vs (record w { turns = n }))
    entered_by_called n = by (entered_well q.facts (at_entry q.facts vs w.memory) g.contract) refl where
      by : (t : Option Stop) → entered_well q.facts (at_entry q.facts vs w.memory) g.contract ≡ t
          → Back (unless t (keeps_promises q.facts inner g.contract (back_in (record w { turns = n })
          (run.returned g (deeper (run.body g) inner (begun (arrived g.variables vs (record w { turns = n }))))))))
      by None h = entered_called l asked n inside h
      by (Some x) h = absurd (none_fails k g among e vs (record w { turns = n }) (enters l asked) x (seg.not_entered h))

    pub turn_called : (n : ℕ) → Back (turn_by n w (entered_by q.facts (λ f here w. run.returned f (deeper (run.body f) here (begun w))) g inner vs))
    turn_called zero = is_spent
    turn_called (suc n) = entered_by_called n

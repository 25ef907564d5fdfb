-- The modular law: level by level, and then for whole runs.
use Rattle.std.proofs.Common.{◌≡◌, ℕ, zero, suc, ℤ, Bool, true, false, if◌then◌else◌, List, [], ◌∷◌, map, Option, Some, None, refl, sym, ap, ◌∙◌, subst, arith}
use Rattle.std.specs.List.{list_all}
use Rattle.std.proofs.lemmas.Bool.{false≢true}
use Rattle.wp_base.specs.Blocks.{count}
use Rattle.c_runs.specs.TruthStates.{Value, number}
use Rattle.c_runs.specs.Program.{Function, Program}
use Rattle.c_runs.specs.States.{Memory, World, Here}
use Rattle.c_runs.specs.Claims.{Stop, spent, unless_true, requires, required, is_required, decreased, measure_of, at_entry, granted_in, parts_of, here_in}
use Rattle.c_runs.specs.Calls.{Eval, gives, stops, unless, turn_by, entered_by, found as found_by}
use Rattle.c_runs.specs.Entry.{Enters}
use Rattle.c_runs.specs.Run as spelled
use Rattle.c_runs.specs.CoreRun.{stopped, begun}
use Rattle.c_runs.specs.Tree.{Steps}
use Rattle.c_runs.specs.CheckedRun as run
use Rattle.plain_runs.specs.Told.{State, world_in}
use Rattle.plain_runs.specs.Fitting.{IsGood, Shape, sizes, AreOf, is_param, FitsProgram}
use Rattle.plain_runs.specs.Kept.{AllBelow}
use Rattle.plain_runs.specs.Laws.{shape, Keeps}
use Rattle.plain_runs.proofs.Whole.{outer, start, start_fits, same_memory, first_world}
use Rattle.plain_runs.proofs.Levels.{levels_keep}
use Rattle.plain_runs.proofs.Statements.{all_done}
use Rattle.goal_segments.specs.Sets.{own_loop, call_inside}
use Rattle.goal_segments.specs.Laws.{IsClosed, NoneFails, GoesWell, Modular}
use Rattle.goal_segments.proofs.Including.{Agrees, agrees_same, loop_agrees, own_below}
use Rattle.goal_segments.proofs.Following.{Follows, spends}
use Rattle.goal_segments.proofs.Deep.{Deep}
use Rattle.goal_segments.proofs.Arguments.{numbers_of}
use Rattle.goal_segments.proofs.Loops.{head_follows}
use Rattle.goal_segments.proofs.Calls.{Called, is_spent, is_back, turn_called}
use Rattle.goal_segments.proofs.Statements.{all_follow}
use Rattle.plain_runs.proofs.Sets.{loop_below}
use Rattle.c_runs.specs.Claims.{in_loop}

module _ (q : Program Steps) (fits : FitsProgram q) (m : Memory) (good : IsGood q.facts m) (reached : ℕ → Bool) (closed : IsClosed q reached) (none_fails : NoneFails q reached) where
  one_more : (deeper : run.Deeper) → Keeps q fits m deeper → Deep q fits m reached deeper → Deep q fits m reached (run.task_by q deeper)
  one_more deeper keeps deep = record {
    body = λ k g e among here gs agrees below deep_below n vs st fit scoped.
        let h = fits.functions k g e in
        all_follow q fits m good reached none_fails deeper keeps deep (shape q g h) h.integers (is_param g.params) 0 here gs agrees below deep_below g.body h.body (closed k g among e) n vs st fit scoped;
    again = λ s integers f low l ss h among here gs agrees below deep_below n₀ vs₀ st₀ fit₀ scoped₀ inside last n vs st kept way.
        let w = world_in (sizes q.facts s) m n₀ vs₀ st₀ in
        head_follows q fits m good reached deeper deep s integers f low l ss h among here gs agrees below deep_below n₀ vs₀ st₀ fit₀ scoped₀ inside
        (λ n vs st fit scoped. all_follow q fits m good reached none_fails deeper keeps deep s integers f l.declared (in_loop q.facts here l w) (own_loop q.facts (record here { granted = gs }) l w).granted
        (loop_agrees q.facts low here gs l w h.0 agrees below inside) (own_below q.facts here gs l w low h.0 below) (loop_below q.facts here l w low h.0 deep_below) ss h.2 among n vs st fit scoped)
        (λ n vs st fit scoped. all_done q fits m good deeper keeps s integers f l.declared (in_loop q.facts here l w) (loop_below q.facts here l w low h.0 deep_below) ss h.2 n vs st fit scoped)
        last n vs st kept way;
  }

  spent_below : Deep q fits m reached (λ t here c. stopped (spent c.world))
  spent_below = record {
    body = λ k g e among here gs agrees below deep_below n vs st fit scoped. spends tt;
    again = λ s integers f low l ss h among here gs agrees below deep_below n₀ vs₀ st₀ fit₀ scoped₀ inside last n vs st kept way. spends tt;
  }

  none_below : Keeps q fits m (λ t here c. stopped (spent c.world))
  none_below = record { body = λ k g e here below n vs st fit scoped. tt; again = λ s integers f low l last ss h here below n vs st fit scoped. tt }

  levels_follow : (n : ℕ) → Deep q fits m reached (run.levels q n)
  unfolding run.levels
  levels_follow zero = one_more (λ t here c. stopped (spent c.world)) none_below spent_below
  levels_follow (suc n) = one_more (run.levels q n) (levels_keep q fits m good n) (levels_follow n)

  -- ---- a call from outside

  module _ (k : ℕ) (g : Function Steps) (among : reached k ≡ true) (e : q.functions k ≡ Some g) (zs : List ℤ) (args : AreOf q.facts g.variables g.params zs)
      (asked : required q.facts 0 (at_entry q.facts (map number zs) m) g.contract ≡ None) (turns : ℕ) (contents : List Value) where
    abbrev first : State
    first = start q.facts fits.globals m good.well

    abbrev around : Here
    around = spelled.outside k q.facts m

    well_of : (o : Eval) → Called q outer m k g zs around (λ x. false) first o → GoesWell o
    well_of (stops x) is_spent = tt
    well_of (gives v u) (is_back n vs after way result kept behind) = tt

    not_lower : (now : Option ℤ) → decreased q.facts 0 around k now ≡ None
    not_lower now = by (q.facts.in_cluster k k) None where
      by : (b : Bool) (o : Option Stop) → (if b then o else o) ≡ o
      by true o = refl
      by false o = refl

    abbrev memory : Memory
    memory = (world_in (sizes q.facts outer) m turns contents first).memory

    same_call : required q.facts 0 (at_entry q.facts (map number zs) memory) g.contract ≡ None
    same_call = ap (λ x. required q.facts 0 (at_entry q.facts (map number zs) x) g.contract) (same_memory q.facts fits.globals m good.well) ∙ asked

    begun_well : GoesWell (run.calls q (run.levels q turns) around k 0 (map number zs) (world_in (sizes q.facts outer) m turns contents first))
    begun_well =
        subst (λ o. GoesWell (found_by q.facts (λ f here w. run.returned f (run.levels q turns (run.body f) here (begun w))) around k 0 o (map number zs) (world_in (sizes q.facts outer) m turns contents first))) (sym e)
        (subst (λ t. GoesWell (unless t (unless (decreased q.facts 0 around k (measure_of q.facts (at_entry q.facts (map number zs) memory) g.contract.decreases))
        (turn_by turns (world_in (sizes q.facts outer) m turns contents first)
        (entered_by q.facts (λ f here w. run.returned f (run.levels q turns (run.body f) here (begun w))) g (here_in q.facts k (map number zs) memory g.contract []) (map number zs)))))) (sym same_call)
        (subst (λ t. GoesWell (unless t (turn_by turns (world_in (sizes q.facts outer) m turns contents first)
        (entered_by q.facts (λ f here w. run.returned f (run.levels q turns (run.body f) here (begun w))) g (here_in q.facts k (map number zs) memory g.contract []) (map number zs)))))
        (sym (not_lower (measure_of q.facts (at_entry q.facts (map number zs) memory) g.contract.decreases)))
        (well_of _ (turn_called q fits m good reached none_fails (run.levels q turns) (levels_keep q fits m good turns) (levels_follow turns) outer around [] (agrees_same q.facts [])
        (λ x. false) first (start_fits q.facts fits.globals m good.well) (λ x l h. absurd (omega (arith, l))) k g e among zs args 0 same_call refl turns contents))))

    runs_well : GoesWell (run.run_function q k (map number zs) m turns contents)
    runs_well = subst (λ w. GoesWell (run.calls q (run.levels q turns) around k 0 (map number zs) w)) (first_world q.facts fits.globals m good.well turns contents) begun_well

pub modular : Modular
modular q fits reached closed none_fails k g among e vs m enters turns contents =
    let good : IsGood q.facts m = record { well = enters.state; pointers = enters.cells } in
    let zs = numbers_of q.facts m.blocks g.params g.variables (fits.functions k g e).integers vs enters.arguments in
    subst (λ ws. GoesWell (run.run_function q k ws m turns contents)) (sym zs.same)
    (runs_well q fits m good reached closed none_fails k g among e zs.numbers zs.fit (ap (λ ws. required q.facts 0 (at_entry q.facts ws m) g.contract) (sym zs.same) ∙ enters.required) turns contents)

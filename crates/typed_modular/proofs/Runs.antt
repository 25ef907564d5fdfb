-- The modular law: level by level, and then for whole runs.
use Rattle.std.proofs.Common.{◌≡◌, ℕ, zero, suc, ℤ, Bool, true, false, if◌then◌else◌, List, [], Option, Some, None, refl, sym, subst}
use Rattle.wp_base.specs.Blocks.{count}
use Rattle.c_runs.specs.TruthStates.{Value}
use Rattle.c_runs.specs.Program.{Function, Program}
use Rattle.c_runs.specs.States.{Memory, World, Here}
use Rattle.c_runs.specs.Claims.{Stop, spent, decreased, measure_of, at_entry, here_in, in_loop}
use Rattle.c_runs.specs.Calls.{Eval, gives, stops, unless, turn_by, entered_by, found as found_by}
use Rattle.c_runs.specs.Entry.{Enters}
use Rattle.c_runs.specs.Run as spelled
use Rattle.c_runs.specs.CoreRun.{stopped, begun}
use Rattle.c_runs.specs.Tree.{Steps}
use Rattle.c_runs.specs.CheckedRun as run
use Rattle.goal_segments.specs.Sets.{own_loop}
use Rattle.goal_segments.specs.Laws.{IsClosed, NoneFails, GoesWell}
use Rattle.goal_segments.specs.Told.{is_param, IsGood}
use Rattle.goal_segments.proofs.Following.{spends}
use Rattle.program_steps.specs.Temporaries.{no_temporaries, all_live}
use Rattle.typed_runs.specs.Fitting.{FitsProgram, shape}
use Rattle.typed_runs.specs.Laws.{Keeps}
use Rattle.typed_runs.proofs.Keeping.{counted_more}
use Rattle.typed_runs.proofs.Statements.{new_in_loop, all_done}
use Rattle.typed_runs.proofs.Calls.{there}
use Rattle.typed_runs.proofs.Levels.{none_below, levels_keep}
use Rattle.typed_modular.specs.Solid.{SetsFit}
use Rattle.typed_modular.specs.Laws.{Modular}
use Rattle.typed_modular.proofs.Including.{agrees_same}
use Rattle.typed_modular.proofs.Deep.{force_more, Deep}
use Rattle.typed_modular.proofs.Loops.{head_follows}
use Rattle.typed_modular.proofs.Calls.{Called, is_spent, is_back, turn_called}
use Rattle.typed_modular.proofs.Statements.{loop_force, all_follow}

module _ (q : Program Steps) (fits : FitsProgram q) (sets : SetsFit q fits) (reached : ℕ → Bool) (closed : IsClosed q reached) (none_fails : NoneFails q reached) where
  one_more : (deeper : run.Deeper) → Keeps q fits deeper → Deep q fits reached deeper → Deep q fits reached (run.task_by q deeper)
  one_more deeper keeps deep = record {
    body = λ k g e among here gs entry c force new h.
        let fit = fits.functions k g e in
        all_follow q fits sets reached none_fails deeper keeps deep g (shape q fits g fit) fit.short (is_param g.params) 0 [] no_temporaries here gs entry g.body fit.body (sets.loops k g e)
        (closed k g among e)
        c force new h;
    again = λ g s short f low os t l ss loop fit set loops among here gs entry c₀ force h₀ inside last c h kept way.
        let all = in_loop q.facts here l c₀.world in
        let own = own_loop q.facts (record here { granted = gs }) l c₀.world in
        let inner = loop_force q fits sets reached none_fails deeper keeps deep g s short f low os l ss loop set here gs entry c₀ (all_live ss os no_temporaries) force h₀ inside in
        head_follows q fits reached deeper deep g s short f low os t l ss loop fit set loops among here gs entry c₀ force h₀ inside
        (λ d hd kept. all_follow q fits sets reached none_fails deeper keeps deep g s short f l.declared os no_temporaries all own.granted
        (record { arguments = entry.arguments; memory = entry.memory; enters = entry.enters; same = entry.same }) ss fit loops among d
        (force_more q.facts l.declared all own.granted (count c₀.world.memory.blocks) (count d.world.memory.blocks) kept.memory.blocks.more inner)
        (new_in_loop q.facts s f os low l ss loop all.granted (all_live ss os no_temporaries) d hd) hd)
        (λ d hd kept. all_done q fits deeper keeps s short f l.declared os no_temporaries all inner.all_below ss fit d
        (counted_more all.granted (count c₀.world.memory.blocks) (count d.world.memory.blocks) kept.memory.blocks.more inner.all_counted)
        (new_in_loop q.facts s f os low l ss loop all.granted (all_live ss os no_temporaries) d hd) hd)
        last c h kept way;
  }

  spent_below : Deep q fits reached (λ t here c. stopped (spent c.world))
  spent_below = record {
    body = λ k g e among here gs entry c force new h. spends tt;
    again = λ g s short f low os t l ss loop fit set loops among here gs entry c₀ force h₀ inside last c h kept way. spends tt;
  }

  levels_follow : (n : ℕ) → Deep q fits reached (run.levels q n)
  unfolding run.levels
  levels_follow zero = one_more (λ t here c. stopped (spent c.world)) (none_below q fits) spent_below
  levels_follow (suc n) = one_more (run.levels q n) (levels_keep q fits n) (levels_follow n)

  -- ---- a call from outside

  module _ (k : ℕ) (g : Function Steps) (among : reached k ≡ true) (e : q.functions k ≡ Some g) (vs : List Value) (m : Memory) (enters : Enters q g vs m) (turns : ℕ) (contents : List Value) where
    abbrev around : Here
    around = spelled.outside k q.facts m

    abbrev w : World
    w = spelled.at_first turns contents m

    abbrev good : IsGood q.facts m
    good = record { well = enters.state; pointers = enters.cells }

    well_of : (o : Eval) → Called q k g (there q fits k g e around vs w).granted around.granted vs w o → GoesWell o
    well_of (stops x) is_spent = tt
    well_of (gives v u) (is_back b behind) = tt

    not_lower : (now : Option ℤ) → decreased q.facts 0 around k now ≡ None
    not_lower now = by (q.facts.in_cluster k k) None where
      by : (b : Bool) (o : Option Stop) → (if b then o else o) ≡ o
      by true o = refl
      by false o = refl

    pub runs_well : GoesWell (run.run_function q k vs m turns contents)
    runs_well =
        subst (λ o. GoesWell (found_by q.facts (λ f here w. run.returned f (run.levels q turns (run.body f) here (begun w))) around k 0 o vs w)) (sym e)
        (subst (λ t. GoesWell (unless t (unless (decreased q.facts 0 around k (measure_of q.facts (at_entry q.facts vs m) g.contract.decreases))
        (turn_by turns w (entered_by q.facts (λ f here w. run.returned f (run.levels q turns (run.body f) here (begun w))) g (here_in q.facts k vs m g.contract []) vs))))) (sym enters.required)
        (subst (λ t. GoesWell (unless t
        (turn_by turns w (entered_by q.facts (λ f here w. run.returned f (run.levels q turns (run.body f) here (begun w))) g (here_in q.facts k vs m g.contract []) vs))))
        (sym (not_lower (measure_of q.facts (at_entry q.facts vs m) g.contract.decreases)))
        (well_of _ (turn_called q fits sets reached none_fails (run.levels q turns) (levels_keep q fits turns) (levels_follow turns) around [] 0 w
        (record { agrees = agrees_same q.facts []; below = tt; all_below = tt; counted = tt; all_counted = tt; solid = tt }) good k g e among vs enters.arguments enters.pointers 0 enters.required refl turns))))

pub modular : Modular
modular q fits sets reached closed none_fails k g among e vs m enters turns contents = runs_well q fits sets reached closed none_fails k g among e vs m enters turns contents

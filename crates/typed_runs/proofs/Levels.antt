-- At each level bodies and loops keep what they have to.
use Rattle.std.proofs.Common.{ℕ, zero, suc, refl}
use Rattle.c_runs.specs.Program.{Facts, Program}
use Rattle.c_runs.specs.States.{Granted}
use Rattle.c_runs.specs.Claims.{spent}
use Rattle.c_runs.specs.CoreRun.{CoreWorld, Ending, goes_on, exits, returns, stopped}
use Rattle.c_runs.specs.Tree.{Steps}
use Rattle.c_runs.specs.CheckedRun as run
use Rattle.goal_segments.specs.Told.{is_param}
use Rattle.plain_runs.specs.Kept.{some_sets, some_temps}
use Rattle.program_steps.specs.Temporaries.{Temporaries, no_temporaries, all_live}
use Rattle.std.specs.Prelude.{List, []}
use Rattle.typed_runs.specs.Fitting.{Shape, InScope, FitsProgram, shape}
use Rattle.typed_runs.specs.Kept.{Ends, BodyEnds}
use Rattle.typed_runs.specs.Laws.{Keeps, LevelsKeep}
use Rattle.typed_runs.proofs.Statements.{new_in_loop, ends_pass, all_done}

pub body_of : (p : Facts) (s : Shape) (f : InScope) (t : Temporaries) (gs : List Granted) (tx : InScope) (u : Temporaries) (c : CoreWorld) (o : Ending) → Ends p s f [] t gs tx u c o
    → BodyEnds p s gs c o
body_of p s f t gs tx u c (goes_on d) h = record { good = h.0.good; memory = h.1.memory }
body_of p s f t gs tx u c (exits k d) h = record { good = h.0.good; memory = h.1.memory }
body_of p s f t gs tx u c (returns v d) h = h
body_of p s f t gs tx u c (stopped e) h = h

module _ (q : Program Steps) (fits : FitsProgram q) where
  one_more : (deeper : run.Deeper) → Keeps q fits deeper → Keeps q fits (run.task_by q deeper)
  one_more deeper keeps = record {
    body = λ k g e here below c counted new h.
        let fit = fits.functions k g e in
        body_of q.facts (shape q fits g fit) (is_param g.params) no_temporaries here.granted (some_sets g.body) (some_temps g.body) c _
        (all_done q fits deeper keeps (shape q fits g fit) fit.short (is_param g.params) 0 [] no_temporaries here below g.body fit.body c counted new h);
    again = λ s short f low os t l last ss loop fit here below c counted h.
        ends_pass q.facts s f q deeper refl os low l ss loop t here last (run.exec_all q deeper s.variables here ss) (λ last. deeper (run.again s.variables l last ss) here)
        (λ d counted h. all_done q fits deeper keeps s short f l.declared os no_temporaries here below ss fit d counted
        (new_in_loop q.facts s f os low l ss loop here.granted (all_live ss os no_temporaries) d h) h)
        (λ v d counted h. keeps.again s short f low os t l v ss loop fit here below d counted h) c counted h;
  }

  pub none_below : Keeps q fits (λ t here c. stopped (spent c.world))
  none_below = record {
    body = λ k g e here below c counted new h. tt;
    again = λ s short f low os t l last ss loop fit here below c counted h. tt;
  }

  levels_of : (n : ℕ) → Keeps q fits (run.levels q n)
  unfolding run.levels
  levels_of zero = one_more (λ t here c. stopped (spent c.world)) none_below
  levels_of (suc n) = one_more (run.levels q n) (levels_of n)

pub levels_keep : LevelsKeep
levels_keep q fits n = levels_of q fits n

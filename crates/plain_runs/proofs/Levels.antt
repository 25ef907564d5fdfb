-- At each level bodies and loops keep what they have to.
use Rattle.std.proofs.Common.{zero, suc, refl}
use Rattle.c_runs.specs.Program.{Program}
use Rattle.c_runs.specs.States.{Memory}
use Rattle.c_runs.specs.Claims.{spent}
use Rattle.plain_states.specs.Told.{stopped}
use Rattle.c_runs.specs.Tree.{Steps}
use Rattle.c_runs.specs.CheckedRun as run
use Rattle.plain_runs.specs.Fitting.{IsGood, FitsProgram, is_param}
use Rattle.plain_runs.specs.Kept.{some_sets, some_temps, KeptFile, Kept, Returned}
use Rattle.plain_runs.specs.Laws.{shape, Keeps, LevelsKeep}
use Rattle.plain_runs.proofs.Cells.{clean_of}
use Rattle.plain_runs.proofs.Keeping.{file_of, comes_more}
use Rattle.plain_runs.proofs.Endings.{ends_pass}
use Rattle.plain_runs.proofs.Statements.{all_done}

module _ (q : Program Steps) (fits : FitsProgram q) (m : Memory) (good : IsGood q.facts m) where
  one_more : (deeper : run.Deeper) → Keeps q fits m deeper → Keeps q fits m (run.task_by q deeper)
  one_more deeper keeps = record {
    body = λ k g e here below n vs st fit scoped.
        let h = fits.functions k g e in
        comes_more q.facts (shape q g h) m (Kept q.facts (shape q g h) here.granted (some_sets g.body) (some_temps g.body) (is_param g.params) st) (KeptFile q.facts (shape q g h) here.granted st)
        (λ v after. Returned q.facts (shape q g h) here.granted v st after) (λ v after. Returned q.facts (shape q g h) here.granted v st after)
        (λ after kept. file_of q.facts (shape q g h) here.granted (some_sets g.body) (some_temps g.body) (is_param g.params) st after kept) (λ v after r. r) _
        (all_done q fits m good deeper keeps (shape q g h) h.integers (is_param g.params) 0 here below g.body h.body n vs st fit scoped);
    again = λ s integers f low l last ss h here below n vs st fit scoped.
        ends_pass q.facts s m q deeper refl s.variables here l last (run.exec_all q deeper s.variables here ss) (λ last. deeper (run.again s.variables l last ss) here) here.granted (some_sets ss) (some_temps ss) f
        (λ n vs st fit scoped. all_done q fits m good deeper keeps s integers f low here below ss h n vs st fit scoped)
        (λ v n vs st fit scoped. keeps.again s integers f low l v ss h here below n vs st fit scoped) n vs st fit scoped;
  }

pub levels_keep : LevelsKeep
unfolding run.levels
levels_keep q fits m good zero =
    one_more q fits m good (λ t here c. stopped (spent c.world)) (record { body = λ k g e here below n vs st fit scoped. tt; again = λ s integers f low l last ss h here below n vs st fit scoped. tt })
levels_keep q fits m good (suc n) = one_more q fits m good (run.levels q n) (levels_keep q fits m good n)

-- Segment runs are those of words; where goals are valid, no segment run goes wrong, and so no run does.
use Rattle.qed_terms.specs.Setting.{world_of}
use Rattle.goal_segments.proofs.Spelled.{modular_as_spelled}
use Rattle.c_runs.specs.Normal.{normal}
use Rattle.c_runs.specs.Adding.{add_checks}
use Rattle.run_changes.proofs.Runs.{runs_change_what_they_may}
use Rattle.run_changes.proofs.Promises.{runs_keep_promises}
use Rattle.program_steps.proofs.Running.{functions_run}
use Rattle.program_steps.proofs.Sufficing.{goals_suffice}
use Rattle.program_goals.specs.Words.{others_of, fits_of}
use Rattle.program_goals.specs.Laws.{SegmentsAreWords, ValidGoalsSuffice, ValidGoalsRunWell}
use Rattle.program_goals.proofs.Others.{others_run, others_good, in_setting}

pub segments_are_words : SegmentsAreWords
segments_are_words setting q texts written fits n f is vs w st enters =
    let m = world_of setting in
    let g = written n in
    functions_run (fits_of m q texts n f g) m q n f g.temporaries g.temp_kind texts (others_of m q texts n f g) (others_run m q texts n f g)
    (in_setting setting q texts written fits n f is) (fits.functions n f is).fits vs w st enters

pub valid_goals_suffice : ValidGoalsSuffice
valid_goals_suffice setting q texts written fits reached valid n f among is vs w enters e run =
    let m = world_of setting in
    let g = written n in
    let part = fits.functions n f is in
    goals_suffice (fits_of m q texts n f g) setting q n f g.temporaries g.temp_kind texts (others_of m q texts n f g) g.bases (others_run m q texts n f g)
    (in_setting setting q texts written fits n f is) part.fits part.starts (others_good m q texts n f g) (fits.plain.functions n f is).params part.size part.bases part.own
    (valid n f among is) vs w enters e run

pub valid_goals_run_well : ValidGoalsRunWell
valid_goals_run_well setting p texts written fits reached closed valid n f among is vs m enters turns contents = record {
  goes = modular_as_spelled p fits.plain reached closed (valid_goals_suffice setting (add_checks (normal p)) texts written fits reached valid) n f among is vs m enters turns contents;
  changes = runs_change_what_they_may p n f vs m turns contents is;
  promises = runs_keep_promises p n f vs m turns contents is;
}

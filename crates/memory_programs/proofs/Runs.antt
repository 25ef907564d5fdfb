-- Segment runs are those of words; where goals are valid, no segment run goes wrong, and so no run does.
use Rattle.qed_terms.specs.Setting.{world_of}
use Rattle.c_runs.specs.CheckedTold.{normal}
use Rattle.c_runs.specs.Adding.{add_checks}
use Rattle.run_changes.proofs.Runs.{runs_change_what_they_may}
use Rattle.run_changes.proofs.Promises.{runs_keep_promises}
use Rattle.typed_modular.proofs.Spelled.{modular_as_spelled}
use Rattle.memory_functions.proofs.Wholes.{functions_run}
use Rattle.memory_exact.proofs.Exact as exact
use Rattle.memory_programs.specs.Programs.{others_in, fits_in}
use Rattle.memory_programs.specs.Laws.{SegmentsAreWords, ValidGoalsSuffice, ValidGoalsRunWell}
use Rattle.memory_programs.proofs.Parts.{part_of}

pub segments_are_words : SegmentsAreWords
segments_are_words setting q cells texts written fits n f is vs w st enters =
    let g = written n in
    let part = part_of setting q cells texts written fits n f is in
    functions_run (fits_in setting q cells texts n f g) (world_of setting) q cells texts n f g (others_in setting q cells texts n f g) part.run part.in_setting part.fits part.short vs w st enters

pub valid_goals_suffice : ValidGoalsSuffice
valid_goals_suffice setting q cells texts written fits reached valid n f among is vs w enters e run =
    let g = written n in
    exact.valid_goals_suffice (fits_in setting q cells texts n f g) setting q cells texts (others_in setting q cells texts n f g) n f g
    (part_of setting q cells texts written fits n f is) (valid n f among is) vs w enters e run

pub valid_goals_run_well : ValidGoalsRunWell
valid_goals_run_well setting p cells texts written fits reached closed valid n f among is vs m enters turns contents = record {
  goes = modular_as_spelled p fits.typed fits.sets reached closed (valid_goals_suffice setting (add_checks (normal p)) cells texts written fits reached valid) n f among is vs m enters turns contents;
  changes = runs_change_what_they_may p n f vs m turns contents is;
  promises = runs_keep_promises p n f vs m turns contents is;
}

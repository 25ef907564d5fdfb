-- What is asked of a function of a program gives what its goals ask for.
use Rattle.std.proofs.Common.{◌≡◌, ℕ, Some}
use Rattle.qed_terms.specs.Setting.{Setting}
use Rattle.c_runs.specs.Program.{Function, Program}
use Rattle.c_runs.specs.Tree.{Steps}
use Rattle.memory_words.specs.Shapes.{FileCells}
use Rattle.memory_words.specs.Readings.{Texts}
use Rattle.memory_functions.specs.Words.{Written}
use Rattle.memory_exact.specs.Programs as exact
use Rattle.memory_programs.specs.Programs.{others_in, fits_in, ProgramFits}
use Rattle.memory_programs.proofs.Others.{others_run, others_good, others_stay}

pub part_of : (setting : Setting) (q : Program Steps) (cells : FileCells) (texts : Texts) (written : ℕ → Written) → ProgramFits setting q cells texts written
    → (n : ℕ) (f : Function Steps) → q.functions n ≡ Some f
    → exact.FunctionIn setting q cells texts (others_in setting q cells texts n f (written n)) n f (written n) (fits_in setting q cells texts n f (written n))
part_of setting q cells texts written fits n f is =
    let part = fits.functions n f is in record {
      in_setting = part.in_setting;
      fits = part.fits;
      starts = part.starts;
      short = (fits.typed.functions n f is).short;
      names = part.names;
      differ = part.differ;
      run = others_run setting q cells texts n f (written n);
      good = others_good setting q cells texts n f (written n);
      stay = others_stay setting q cells texts n f (written n);
    }

-- Words of loops and calls do what these do.
use Rattle.std.proofs.Common.{◌≡◌, ℕ, Some}
use Rattle.qed_terms.specs.Meaning as sense
use Rattle.qed_terms.specs.Tree.{Tree}
use Rattle.qed_terms.specs.Setting.{Setting, world_of}
use Rattle.c_runs.specs.Program.{Function, Program}
use Rattle.c_runs.specs.Tree.{Steps}
use Rattle.program_steps.specs.Terms.{Texts}
use Rattle.program_steps.specs.Placed.{InSetting}
use Rattle.program_steps.specs.Others.{OthersRun}
use Rattle.program_steps.specs.Laws.{OthersAreGood}
use Rattle.call_words.proofs.Good.{calls_are_good}
use Rattle.call_words.proofs.Calls.{calls_run}
use Rattle.loop_words.proofs.Good.{loops_are_good}
use Rattle.loop_words.proofs.Loops.{loops_run}
use Rattle.program_goals.specs.Words.{Written, shape_in, others_of, fits_of}
use Rattle.program_goals.specs.Texts.{TextsFit}
use Rattle.program_goals.specs.Programs.{ProgramFits}
use Rattle.program_goals.proofs.Writes.{Fills, OthersWrite}
use Rattle.program_goals.proofs.LoopTexts.{loop_writes}
use Rattle.program_goals.proofs.CallTexts.{call_writes}

module _ (m : sense.World) (q : Program Steps) (texts : Texts) (n : ℕ) (f : Function Steps) (g : Written) where
  pub others_run : OthersRun m q (shape_in f g) texts f.contract (others_of m q texts n f g) (fits_of m q texts n f g)
  others_run = record {
    loop = λ setting table here pt olds placed i after l ss fits pass both n c st stands.
        loops_run m q (shape_in f g) texts f.contract setting table here pt olds placed i after l ss pass fits both n c st stands;
    call = calls_run m q (shape_in f g) texts f.contract;
  }

  pub others_good : OthersAreGood m (others_of m q texts n f g)
  others_good = record { loop = loops_are_good m q.facts (shape_in f g) texts f.contract; call = calls_are_good m q.facts (shape_in f g) texts f.contract q.functions }

-- and what they write is of the property
module _ (Term Formula : Tree → Type 0) (fills : Fills Term Formula) (m : sense.World) (q : Program Steps) (texts : Texts) (named : TextsFit texts) (n : ℕ) (f : Function Steps) (g : Written) where
  pub others_write : OthersWrite Term Formula fills m (others_of m q texts n f g) (fits_of m q texts n f g)
  others_write = record {
    loop = λ i pt l ss fits pass writes. loop_writes Term Formula fills m q.facts (shape_in f g) texts named f.contract pt l ss pass writes;
    call = λ i after pt cs to k l es fits. call_writes Term Formula fills m q.facts (shape_in f g) texts named f.contract q.functions pt cs to k l es;
  }

-- the setting of each function
pub in_setting : (setting : Setting) (q : Program Steps) (texts : Texts) (written : ℕ → Written) → ProgramFits setting q texts written → (n : ℕ) (f : Function Steps) → q.functions n ≡ Some f
    → InSetting (world_of setting) q.facts (shape_in f (written n))
in_setting setting q texts written fits n f is = record { model = fits.model; globals = fits.plain.globals; integers = (fits.plain.functions n f is).integers }

-- Whole core programs with checks, of which goals are made: what is asked of them, and the goals of each function.
use Rattle.std.specs.Prelude.{◌≡◌, ℕ, Bool, true, List, length, Some}
use Rattle.c_kinds.specs.Models.{long_bits}
use Rattle.qed_terms.specs.Setting.{Setting, world_of, Valid}
use Rattle.c_runs.specs.Program.{Function, Program}
use Rattle.c_runs.specs.Tree.{Steps}
use Rattle.plain_runs.specs.Fitting.{FitsProgram}
use Rattle.walk_steps.specs.State.{In}
use Rattle.walk_steps.specs.World.{AreBases}
use Rattle.walk_steps.specs.Walk.{Goal, formula_of}
use Rattle.walk_steps.specs.Laws.{OwnDiffer, goals}
use Rattle.program_steps.specs.Terms.{Texts}
use Rattle.program_steps.specs.Functions.{FunctionFits}
use Rattle.program_steps.specs.Starting.{StartFits}
use Rattle.program_goals.specs.Words.{Written, shape_in, fits_of, word_of, start_in}

module _ (setting : Setting) (q : Program Steps) (texts : Texts) where
  abbrev pub goals_of : (number : ℕ) → Function Steps → Written → List Goal
  goals_of n f g = goals g.bases (start_in (world_of setting) q texts n f g) (word_of (world_of setting) q texts n f g)

  -- its statements and its contract have words, and the names of what its callers give differ
  pub record FunctionIn (n : ℕ) (f : Function Steps) (g : Written) : Type 0 where
    pub fits : FunctionFits (world_of setting) q.facts (shape_in f g) texts (fits_of (world_of setting) q texts n f g) f
    pub starts : StartFits (world_of setting) q.facts (shape_in f g) texts f.contract
    pub size : length (start_in (world_of setting) q texts n f g).origins ≡ length g.bases
    pub bases : AreBases g.bases
    pub own : OwnDiffer g.bases (start_in (world_of setting) q texts n f g).origins

  -- over integers that no pointer leads to, in a setting of its data model
  pub record ProgramFits (written : ℕ → Written) : Type 0 where
    pub plain : FitsProgram q
    pub model : (world_of setting).long_bits ≡ long_bits q.facts.model
    pub functions : (n : ℕ) (f : Function Steps) → q.functions n ≡ Some f → FunctionIn n f (written n)

  -- all goals of these functions
  abbrev pub AllValid : (written : ℕ → Written) → (reached : ℕ → Bool) → Type 0
  AllValid written reached =
      (n : ℕ) (f : Function Steps) → reached n ≡ true → q.functions n ≡ Some f → (g : Goal) → In g (goals_of n f (written n)) → Valid setting (formula_of g)

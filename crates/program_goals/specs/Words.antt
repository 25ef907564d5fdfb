-- The word of a function of a program, with those of its loops and calls.
use Rattle.std.specs.Prelude.{ℕ, List}
use Rattle.wp_base.specs.declared.kinds.Kind.{Kind}
use Rattle.qed_terms.specs.Meaning as sense
use Rattle.c_runs.specs.Program.{Function, Program}
use Rattle.c_runs.specs.Tree.{Steps}
use Rattle.plain_runs.specs.Fitting.{Shape, shape_of}
use Rattle.walk_steps.specs.Step.{Step}
use Rattle.walk_steps.specs.Laws.{Start}
use Rattle.program_steps.specs.Terms.{Texts}
use Rattle.program_steps.specs.Words.{Others}
use Rattle.program_steps.specs.Typed.{OtherFits}
use Rattle.program_steps.specs.Functions.{function_word}
use Rattle.program_steps.specs.Starting.{start_of}
use Rattle.call_words.specs.Words.{call_word}
use Rattle.call_words.specs.Fits.{CallFits}
use Rattle.loop_words.specs.Words.{loop_word}
use Rattle.loop_words.specs.Fits.{LoopFits}

-- What a function's text says beside what its runs need: how many temporaries it has and of which kinds, and the base of the names of each slot.
pub record Written : Type 0 where
  pub temporaries : ℕ
  pub temp_kind : ℕ → Kind
  pub bases : List (List ℕ)

abbrev pub shape_in : Function Steps → Written → Shape
shape_in f g = shape_of f g.temporaries g.temp_kind

module _ (m : sense.World) (q : Program Steps) (texts : Texts) (number : ℕ) (f : Function Steps) (g : Written) where
  abbrev pub others_of : Others
  others_of = record { loop_word = loop_word m q.facts (shape_in f g) texts f.contract; call_word = call_word m q.facts (shape_in f g) texts f.contract q.functions }

  -- what is asked of its loops and calls
  abbrev pub fits_of : OtherFits
  fits_of = record { loop_fits = LoopFits m q.facts (shape_in f g) texts f.contract; call_fits = CallFits m q.facts (shape_in f g) texts f.contract q.functions }

  abbrev pub word_of : Step
  word_of = function_word m q.facts (shape_in f g) texts others_of number f

  abbrev pub start_in : Start
  start_in = start_of m q.facts (shape_in f g) texts f

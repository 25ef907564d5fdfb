-- The word of a function of a program, with those of its loops and calls.
use Rattle.std.specs.Prelude.{ℕ, Bool, List, map}
use Rattle.wp_base.specs.declared.kinds.CellKind.{CellKind}
use Rattle.qed_terms.specs.Meaning as sense
use Rattle.c_runs.specs.Program.{Function, Facts, Program}
use Rattle.c_runs.specs.Tree.{Steps}
use Rattle.memory_steps.specs.State.{Base, base}
use Rattle.memory_steps.specs.Step.{Step, skip}
use Rattle.memory_steps.specs.Laws.{Start}
use Rattle.memory_words.specs.Places.{Place, places}
use Rattle.memory_words.specs.Shapes.{FileCells, Shape, sizes, is_memory}
use Rattle.memory_words.specs.Readings.{Texts}
use Rattle.memory_words.specs.Words.{Others}
use Rattle.memory_calls.specs.LoopWords.{loop_word}
use Rattle.memory_calls.specs.CallWords.{call_word}
use Rattle.memory_functions.specs.GoalFunctions.{function_word}
use Rattle.memory_functions.specs.Starting.{start_of}

-- What a function's text says beside what its runs need: how many temporaries it has and of which kinds, and the name of each place.
pub record Written : Type 0 where
  pub temporaries : ℕ
  pub temp_kind : ℕ → CellKind
  pub name : Place → List ℕ

abbrev pub shape_in : Function Steps → Written → Shape
shape_in f g = record { variables = f.variables; temporaries = g.temporaries; temp_kind = g.temp_kind; result = f.result }

module _ (m : sense.World) (q : Program Steps) (cells : FileCells) (texts : Texts) (number : ℕ) (f : Function Steps) (g : Written) where
  -- loops and calls stand on no other statements
  abbrev pub no_others : Others
  no_others = record { loop_word = λ pt l ss pass. pass; call_word = λ pt cs to n l es after. skip }

  abbrev pub others_of : Others
  others_of = record {
    loop_word = loop_word m q.facts (shape_in f g) cells texts f.contract;
    call_word = call_word m q.facts (shape_in f g) cells texts f.contract q.functions no_others;
  }

  abbrev pub word_of : Step
  word_of = function_word m q.facts (shape_in f g) cells texts f.params others_of number f

  abbrev pub start_in : Start
  start_in = start_of m q.facts (shape_in f g) cells texts f.params f

  abbrev pub bases_in : List Base
  bases_in = map (λ a. base (g.name a) (is_memory cells a)) (places (sizes q.facts (shape_in f g)))

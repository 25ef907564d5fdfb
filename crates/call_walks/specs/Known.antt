-- The word of a call behind what is asked: in a scope of the result's slot, where the state before the call is remembered.
use Rattle.std.specs.Prelude.{ℕ, List, map, Option}
use Rattle.typed_prog.specs.Tree as t
use Rattle.qed_terms.specs.Meaning as sense
use Rattle.c_runs.specs.Program.{Contract, Function, Facts}
use Rattle.c_runs.specs.Tree.{Goal, Steps}
use Rattle.plain_runs.specs.Fitting.{Shape}
use Rattle.walk_steps.specs.Step.{Step, seq, know, change}
use Rattle.program_steps.specs.Leaves.{form}
use Rattle.program_steps.specs.Terms.{Texts}
use Rattle.program_steps.specs.Words.{Point}
use Rattle.call_words.specs.Sets.{file_changes}
use Rattle.call_words.specs.Words.{stay_trees, call_promises, answer_step, answer_term, received}

module _ (m : sense.World) (p : Facts) (s : Shape) (texts : Texts) (contract : Contract) (functions : ℕ → Option (Function Steps)) where
  abbrev pub known_word : Point → Goal → Function Steps → t.Values → Step
  known_word pt to g es =
      seq (change (file_changes p g.contract 0 p.globals))
      (seq (know (map (form m) (stay_trees p s texts g es)))
      (seq (answer_step m p s texts contract functions g.result)
      (seq (know (map (form m) (call_promises p s texts g es)))
      (received m p s texts contract functions pt to (answer_term m p s texts contract functions g.result)))))

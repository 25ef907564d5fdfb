-- The arguments of a call in a walk: what they ask for is asked, and so many terms of them are made.
use Rattle.std.specs.Prelude.{◌≡◌, ℕ, true, List}
use Rattle.typed_prog.specs.Tree as t
use Rattle.qed_terms.specs.Meaning as sense
use Rattle.qed_terms.specs.Tree.{Tree}
use Rattle.c_runs.specs.Program.{Facts, Variable}
use Rattle.value_terms.specs.Words.{words}
use Rattle.walk_steps.specs.Walk.{Goal}
use Rattle.value_words.specs.OverSlots.{leaf_reading}
use Rattle.program_steps.specs.Words.{items_step}
use Rattle.step_walks.specs.Walks.{Held, Walks, states}
use Rattle.call_walks.specs.View.{arguments_over}

pub record Passed (m : sense.World) (bases : List (List ℕ)) (p : Facts) (xs : List Variable) (es : t.Values) (count : ℕ) (made : List Tree) (h q : Held) (fit fit' : List Goal → Type 0) : Type 0 where
  pub walks : Walks bases (items_step m (words p xs (leaf_reading p xs) es)) h q fit fit' true
  pub arguments : made ≡ arguments_over p xs (states q) es count

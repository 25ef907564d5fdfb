-- What an expression is in a walk: what it asks for is asked, and terms for its value are made.
use Rattle.std.specs.Prelude.{◌≡◌, ℕ, true, List, [], ◌∷◌, map}
use Rattle.typed_prog.specs.Tree as t
use Rattle.qed_terms.specs.Meaning as sense
use Rattle.qed_terms.specs.Tree.{Tree}
use Rattle.c_runs.specs.Program.{Facts, Variable}
use Rattle.value_terms.specs.Readings.{Term, number_term, condition}
use Rattle.value_terms.specs.Terms.{term_of, terms_of}
use Rattle.value_terms.specs.Words.{Item, asked, known, word_of, words}
use Rattle.walk_steps.specs.Forms.{Form}
use Rattle.walk_steps.specs.Step.{Step, skip, seq, ask, know}
use Rattle.walk_steps.specs.Walk.{Goal}
use Rattle.value_words.specs.OverSlots.{leaf_reading, fill_term}
use Rattle.program_steps.specs.Leaves.{closed, fill}
use Rattle.program_steps.specs.Stops.{undefined_place}
use Rattle.program_steps.specs.Words.{items_step}
use Rattle.step_walks.specs.Walks.{Held, Walks, states}

-- ---- items as they are written, whatever the state

abbrev pub written : Tree → Form
written f = record { written = λ ss. f; told = λ sts. true }

abbrev pub made_item : Item → Step
made_item (asked c f) = ask (record { form = written f; place = undefined_place c.kind c.line } ∷ [])
made_item (known f) = know (written f ∷ [])

abbrev pub made_step : List Item → Step
made_step [] = skip
made_step (i ∷ is) = seq (made_item i) (made_step is)

-- the value of an expression was made
pub record Evaluated (m : sense.World) (bases : List (List ℕ)) (p : Facts) (xs : List Variable) (e : t.Value) (made : Term) (h q : Held) (fit fit' : List Goal → Type 0) : Type 0 where
  pub walks : Walks bases (items_step m (word_of p xs (leaf_reading p xs) e)) h q fit fit' true
  pub number : fill (states q) (closed (number_term (term_of p xs (leaf_reading p xs) e))) ≡ number_term made
  pub condition : fill (states q) (closed (condition (term_of p xs (leaf_reading p xs) e))) ≡ condition made

-- the values of operands were made, in turn
pub record EvaluatedAll (m : sense.World) (bases : List (List ℕ)) (p : Facts) (xs : List Variable) (es : t.Values) (made : List Term) (h q : Held) (fit fit' : List Goal → Type 0) : Type 0 where
  pub walks : Walks bases (items_step m (words p xs (leaf_reading p xs) es)) h q fit fit' true
  pub terms : made ≡ map (fill_term (states q)) (terms_of p xs (leaf_reading p xs) es)
  pub same : states q ≡ states h

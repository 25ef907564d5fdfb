-- What is so of the terms and formulas of expressions over leaves.
use Rattle.std.specs.Prelude.{◌≡◌, ℕ, true, false, List, [], ◌∷◌, map}
use Rattle.std.specs.List.{list_all}
use Rattle.typed_prog.specs.Tree as t
use Rattle.walk_steps.specs.Forms.{Slots}
use Rattle.c_runs.specs.Program.{Facts}
use Rattle.plain_runs.specs.Fitting.{Shape, sizes}
use Rattle.value_terms.specs.Readings.{number_term, condition, term_at, Reading}
use Rattle.value_terms.specs.Terms.{term_of, terms_of}
use Rattle.value_terms.specs.Words.{word_of, words}
use Rattle.value_terms.specs.Typed.{Scope, IsTyped, AreTyped}
use Rattle.program_steps.specs.Leaves.{fill, is_closed}
use Rattle.program_steps.specs.Terms.{reading}
use Rattle.program_steps.specs.Typed.{is_closed_item}
use Rattle.value_words.specs.OverSlots.{fill_term, fill_item, slot_reading}
use Rattle.value_words.specs.View.{placed}

-- All that is made of a typed expression is closed, where no blocks are spoken of.
pub record IsClosed (p : Facts) (s : Shape) (e : t.Value) : Type 0 where
  pub items : list_all is_closed_item (word_of p s.variables (reading p s) e) ≡ true
  pub term : is_closed [] (number_term (term_of p s.variables (reading p s) e)) ≡ true
  pub condition : is_closed [] (condition (term_of p s.variables (reading p s) e)) ≡ true

-- and so it is of operands
pub record AreClosed (p : Facts) (s : Shape) (es : t.Values) : Type 0 where
  pub items : list_all is_closed_item (words p s.variables (reading p s) es) ≡ true
  pub term : (i : ℕ) → is_closed [] (number_term (term_at (terms_of p s.variables (reading p s) es) i)) ≡ true

pub record AllClosed (p : Facts) (s : Shape) (scope : Scope) : Type 0 where
  pub value : (e : t.Value) → IsTyped p s.variables scope e → IsClosed p s e
  pub operands : (es : t.Values) → AreTyped p s.variables scope es → AreClosed p s es

abbrev pub ValuesAreClosed : Type 0
ValuesAreClosed = (p : Facts) (s : Shape) (scope : Scope) → scope.has_blocks ≡ false → AllClosed p s scope

-- What is written for an expression over leaves is what it is over the slots' own terms.
pub record IsFilled (p : Facts) (s : Shape) (ss : List Slots) (r : Reading) (e : t.Value) : Type 0 where
  pub items : map (fill_item ss) (word_of p s.variables (reading p s) e) ≡ map placed (word_of p s.variables r e)
  pub terms : fill_term ss (term_of p s.variables (reading p s) e) ≡ term_of p s.variables r e
  pub term : fill ss (number_term (term_of p s.variables (reading p s) e)) ≡ number_term (term_of p s.variables r e)
  pub condition : fill ss (condition (term_of p s.variables (reading p s) e)) ≡ condition (term_of p s.variables r e)

pub record AreFilled (p : Facts) (s : Shape) (ss : List Slots) (r : Reading) (es : t.Values) : Type 0 where
  pub items : map (fill_item ss) (words p s.variables (reading p s) es) ≡ map placed (words p s.variables r es)
  pub terms : map (fill_term ss) (terms_of p s.variables (reading p s) es) ≡ terms_of p s.variables r es

pub record AllFilled (p : Facts) (s : Shape) (ss : List Slots) (r : Reading) : Type 0 where
  pub value : (e : t.Value) → IsFilled p s ss r e
  pub operands : (es : t.Values) → AreFilled p s ss r es

abbrev pub ValuesAreFilled : Type 0
ValuesAreFilled = (p : Facts) (s : Shape) (slots : Slots) (olds : List Slots) → AllFilled p s (slots ∷ olds) (slot_reading (sizes p s) slots)

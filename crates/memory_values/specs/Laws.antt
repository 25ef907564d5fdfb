-- What is so of the terms and formulas of expressions over leaves.
use Rattle.std.specs.Prelude.{◌≡◌, ℕ, true, List, [], map}
use Rattle.std.specs.List.{list_all}
use Rattle.typed_prog.specs.declared.types.CoreType.{CoreType}
use Rattle.typed_prog.specs.declared.operators.Path.{Path}
use Rattle.typed_prog.specs.Tree as t
use Rattle.qed_terms.specs.Tree.{Tree}
use Rattle.c_runs.specs.Program.{Facts}
use Rattle.value_terms.specs.Readings.{number_term, condition, Term, Reading}
use Rattle.value_terms.specs.Terms.{address_term, term_of, terms_of}
use Rattle.value_terms.specs.Words.{word_of, words}
use Rattle.value_terms.specs.Places.{way_items}
use Rattle.memory_steps.specs.Forms.{Slots}
use Rattle.memory_words.specs.Leaves.{fill, is_closed}
use Rattle.memory_words.specs.Shapes.{FileCells, Shape}
use Rattle.memory_words.specs.Readings.{reading_at}
use Rattle.memory_words.specs.Seen.{is_closed_item, is_closed_term}
use Rattle.memory_values.specs.OverSlots.{fill_term, fill_item, IsLevel, slot_reading}
use Rattle.memory_values.specs.View.{placed}

-- ---- all that is made of an expression is closed, whatever it is, in the state of any level

module _ (p : Facts) (s : Shape) (r : Reading) where
  pub record IsClosed (e : t.Value) : Type 0 where
    pub items : list_all is_closed_item (word_of p s.variables r e) ≡ true
    pub term : is_closed_term (term_of p s.variables r e) ≡ true
    pub number : is_closed [] (number_term (term_of p s.variables r e)) ≡ true
    pub condition : is_closed [] (condition (term_of p s.variables r e)) ≡ true

  -- of operands
  pub record AreClosed (es : t.Values) : Type 0 where
    pub items : list_all is_closed_item (words p s.variables r es) ≡ true
    pub terms : list_all is_closed_term (terms_of p s.variables r es) ≡ true

  -- and of the way to an object that is written, whose operands have closed terms
  pub record AllClosed : Type 0 where
    pub value : (e : t.Value) → IsClosed e
    pub operands : (es : t.Values) → AreClosed es
    pub address : (path : Path) (ts : List Term) → list_all is_closed_term ts ≡ true → is_closed_term (address_term p r path ts) ≡ true
    pub way : (type : CoreType) (path : Path) (ts : List Term) → list_all is_closed_term ts ≡ true → list_all is_closed_item (way_items p r type path ts) ≡ true

abbrev pub ValuesAreClosed : Type 0
ValuesAreClosed = (p : Facts) (s : Shape) (cells : FileCells) (l : ℕ) → AllClosed p s (reading_at p s cells l)

-- ---- what is written for an expression over leaves is what it is over the slots' own terms

module _ (p : Facts) (s : Shape) (ss : List Slots) (leaves own : Reading) where
  pub record IsFilled (e : t.Value) : Type 0 where
    pub items : map (fill_item ss) (word_of p s.variables leaves e) ≡ map placed (word_of p s.variables own e)
    pub terms : fill_term ss (term_of p s.variables leaves e) ≡ term_of p s.variables own e
    pub number : fill ss (number_term (term_of p s.variables leaves e)) ≡ number_term (term_of p s.variables own e)
    pub condition : fill ss (condition (term_of p s.variables leaves e)) ≡ condition (term_of p s.variables own e)

  pub record AreFilled (es : t.Values) : Type 0 where
    pub items : map (fill_item ss) (words p s.variables leaves es) ≡ map placed (words p s.variables own es)
    pub terms : map (fill_term ss) (terms_of p s.variables leaves es) ≡ terms_of p s.variables own es

  -- and of the way to an object that is written, whose operands have any terms
  pub record AllFilled : Type 0 where
    pub value : (e : t.Value) → IsFilled e
    pub operands : (es : t.Values) → AreFilled es
    pub address : (path : Path) (ts : List Term) → fill_term ss (address_term p leaves path ts) ≡ address_term p own path (map (fill_term ss) ts)
    pub way : (type : CoreType) (path : Path) (ts : List Term)
        → map (fill_item ss) (way_items p leaves type path ts) ≡ map placed (way_items p own type path (map (fill_term ss) ts))

abbrev pub ValuesAreFilled : Type 0
ValuesAreFilled =
    (p : Facts) (s : Shape) (cells : FileCells) (l : ℕ) (ss : List Slots) (ts : List Tree) (table : Tree) → IsLevel ss l ts table
    → AllFilled p s ss (reading_at p s cells l) (slot_reading p s ts table)

-- What is written for terms and formulas of expressions over leaves is what they are over the slots' own terms.
use Rattle.std.proofs.Common.{◌≡◌, ℕ, zero, suc, Bool, false, ◌||◌, not, pos, List, [], ◌∷◌, map, refl, ap, ◌∙◌}
use Rattle.std.specs.Prelude.{if◌then◌else◌}
use Rattle.std.specs.Str.{bytes_eq}
use Rattle.std.proofs.lemmas.Bool.{false≢true}
use Rattle.std.specs.List.{list_any}
use Rattle.typed_prog.specs.Tree as t
use Rattle.qed_terms.specs.Tree.{num}
use Rattle.walk_steps.specs.Forms.{Slots}
use Rattle.c_runs.specs.Program.{Facts}
use Rattle.c_runs.specs.Checks.{here}
use Rattle.plain_states.specs.Slots.{at_or}
use Rattle.plain_runs.specs.Fitting.{Shape, sizes}
use Rattle.value_terms.specs.Readings.{Term, as_number, as_test, as_pointer, number_term, condition}
use Rattle.value_terms.specs.Terms.{terms_of}
use Rattle.value_terms.specs.Words.{Item, asked, known}
use Rattle.program_steps.specs.Leaves.{after_as, leaf_name, leaf, item_named, slot_named, as_integer, is_marked, fill}
use Rattle.program_steps.specs.Terms.{unused_table, unused_memory, reading}
use Rattle.value_words.specs.OverSlots.{fill_term, fill_item, slot_term, slot_reading}
use Rattle.value_words.specs.View.{placed}
use Rattle.value_words.specs.Laws.{IsFilled, AreFilled, ValuesAreFilled}
use Rattle.value_words.proofs.Heads.{Written, number_written}
use Rattle.value_words.proofs.Writing.{TermWritten, number, test, pointer, ReadingWritten, number_part, condition_part, value_written}
use Rattle.value_words.proofs.WritingWords.{is_asked, is_known, ItemsWritten, none, some, word_written, words_written}

-- ---- leaves

unmarked_as : (i : ℕ) → is_marked (after_as i []) ≡ false
unmarked_as zero = refl
unmarked_as (suc i) = unmarked_as i

unmarked : (i : ℕ) → is_marked (leaf_name 0 i) ≡ false
unfolding leaf_name
unmarked i = unmarked_as i

item_is : {X : Type 0} (d : X) (xs : List X) (i : ℕ) → item_named d xs (after_as i []) ≡ at_or d xs i
item_is d [] i = refl
item_is d (x ∷ xs) zero = refl
item_is d (x ∷ xs) (suc i) = item_is d xs i

slot_is : {X : Type 0} (d : X) (xs : List X) (olds : List (List X)) (i : ℕ) → slot_named d (xs ∷ olds) (leaf_name 0 i) ≡ at_or d xs i
unfolding leaf_name
slot_is d xs olds i = item_is d xs i

pub leaf_written : {strict : Bool} (slots : Slots) (olds : List Slots) (i : ℕ) → Written strict (slots ∷ olds) (leaf 0 i) (slot_term slots i)
leaf_written slots olds i = record {
  closed = λ e. ap (λ b. not b || list_any (bytes_eq (leaf_name 0 i)) []) (unmarked i);
  filled = ap (λ b. if b then leaf 0 i else as_integer (slot_named (num (pos 0)) (slots ∷ olds) (leaf_name 0 i))) (unmarked i) ∙ ap as_integer (slot_is (num (pos 0)) slots olds i);
}

table_written : (ss : List Slots) → Written false ss unused_table unused_table
table_written ss = record { closed = λ e. absurd (false≢true e); filled = refl }

memory_written : (ss : List Slots) → Written false ss unused_memory unused_memory
memory_written ss = record { closed = λ e. absurd (false≢true e); filled = refl }

readings_written : (p : Facts) (s : Shape) (slots : Slots) (olds : List Slots) → ReadingWritten false (slots ∷ olds) (reading p s) (slot_reading (sizes p s) slots)
unfolding slot_reading
readings_written p s slots olds = record {
  locals = λ x. number (leaf_written slots olds _);
  globals = λ x. number (leaf_written slots olds _);
  temporaries = λ n. number (leaf_written slots olds _);
  flags = λ x. leaf_written slots olds _;
  homes = λ x. number_written (pos 0);
  table = table_written (slots ∷ olds);
  numbers = λ k. memory_written (slots ∷ olds);
  blocks = memory_written (slots ∷ olds);
  offsets = memory_written (slots ∷ olds);
}

-- ---- parts of terms that are filled

pub fill_number : (ss : List Slots) (a : Term) → fill ss (number_term a) ≡ number_term (fill_term ss a)
fill_number ss (as_number t) = refl
fill_number ss (as_test f) = refl
fill_number ss (as_pointer b o) = refl

pub fill_condition : (ss : List Slots) (a : Term) → fill ss (condition a) ≡ condition (fill_term ss a)
fill_condition ss (as_number t) = refl
fill_condition ss (as_test f) = refl
fill_condition ss (as_pointer b o) = refl

module _ {ss : List Slots} where
  term_filled : {a b : Term} → TermWritten false ss a b → fill_term ss a ≡ b
  term_filled (number h) = ap as_number h.filled
  term_filled (test h) = ap as_test h.filled
  term_filled (pointer h g) = λ i. as_pointer (h.filled i) (g.filled i)

  items_filled : {is js : List Item} → ItemsWritten false ss is js → map (fill_item ss) is ≡ map placed js
  items_filled none = refl
  items_filled (some (is_asked c h) hs) = let rest = items_filled hs in λ i. asked (here c.kind c.line) (h.filled i) ∷ rest i
  items_filled (some (is_known h) hs) = let rest = items_filled hs in λ i. known (h.filled i) ∷ rest i

terms_filled : (p : Facts) (s : Shape) (slots : Slots) (olds : List Slots) (es : t.Values)
    → map (fill_term (slots ∷ olds)) (terms_of p s.variables (reading p s) es) ≡ terms_of p s.variables (slot_reading (sizes p s) slots) es
terms_filled p s slots olds t.stop = refl
terms_filled p s slots olds (t.more e es) =
    let first = term_filled (value_written p s.variables (readings_written p s slots olds) e) in
    let rest = terms_filled p s slots olds es in
    λ i. first i ∷ rest i

pub values_are_filled : ValuesAreFilled
values_are_filled p s slots olds = record { value = value; operands = operands } where
  value : (e : t.Value) → IsFilled p s (slots ∷ olds) (slot_reading (sizes p s) slots) e
  value e =
      let well = readings_written p s slots olds in
      let made = value_written p s.variables well e in
      record { items = items_filled (word_written p s.variables well e); terms = term_filled made; term = (number_part made).filled; condition = (condition_part made).filled }

  operands : (es : t.Values) → AreFilled p s (slots ∷ olds) (slot_reading (sizes p s) slots) es
  operands es = record { items = items_filled (words_written p s.variables (readings_written p s slots olds) es); terms = terms_filled p s slots olds es }

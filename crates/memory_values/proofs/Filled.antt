-- What is written for terms and formulas of expressions over leaves is what they are over the slots' own terms.
use Rattle.std.proofs.Common.{◌≡◌, ℕ, zero, suc, Bool, false, pos, List, [], ◌∷◌, map, length, Option, Some, None, refl, ap, ◌∙◌}
use Rattle.std.proofs.lemmas.Bool.{false≢true}
use Rattle.wp_base.specs.declared.kinds.CellKind.{CellKind}
use Rattle.wp_base.specs.declared.kinds.CellKind.TheVariants as cell
use Rattle.typed_prog.specs.declared.types.CoreType.{CoreType}
use Rattle.typed_prog.specs.declared.operators.Path.{Path}
use Rattle.typed_prog.specs.declared.operators.Variable.{Variable}
use Rattle.typed_prog.specs.declared.operators.Variable.TheVariants as variables
use Rattle.typed_prog.specs.Tree as t
use Rattle.qed_terms.specs.Tree.{Tree, num}
use Rattle.c_runs.specs.Program as program
use Rattle.c_runs.specs.Program.{Facts}
use Rattle.c_runs.specs.Checks.{here}
use Rattle.value_terms.specs.Readings.{Term, as_number, as_test, as_pointer, number_term, block_term, offset_term, condition, term_at, Reading}
use Rattle.value_terms.specs.Terms.{address_term, terms_of}
use Rattle.value_terms.specs.Places.{way_items}
use Rattle.value_terms.specs.Words.{Item, asked, known}
use Rattle.walk_steps.specs.State.{at_or}
use Rattle.memory_steps.specs.Forms.{Slots}
use Rattle.memory_words.specs.Places.{Place, value, offset, Sizes, slot}
use Rattle.memory_words.specs.Leaves.{leaf, memory_leaf, table_leaf, as_integer, as_memory, as_table, fill}
use Rattle.memory_words.proofs.Leaves.{written_leaf, written_memory_leaf, written_table_leaf, leaf_closed}
use Rattle.memory_words.specs.Shapes.{FileCells, Shape, sizes, kind_of}
use Rattle.memory_words.specs.Readings.{term_of_kind, variable_term, reading_at}
use Rattle.memory_values.specs.OverSlots.{fill_term, fill_item, kind_at, shape_of, leaf_reading, IsLevel, integer_at, memory_at, two_at, variable_at, slot_reading}
use Rattle.memory_values.specs.View.{placed}
use Rattle.memory_values.specs.Laws.{IsFilled, AreFilled, ValuesAreFilled}
use Rattle.memory_values.proofs.Heads.{Written, number_written}
use Rattle.memory_values.proofs.Writing.{TermWritten, number, test, pointer, ReadingWritten, OperandsWritten, number_part, condition_part, address_written, value_written}
use Rattle.memory_values.proofs.WritingWords.{is_asked, is_known, ItemsWritten, none, some, way_written, word_written, words_written}

-- ---- leaves

module _ {strict : Bool} (ss : List Slots) (l : ℕ) (ts : List Tree) (table : Tree) (level : IsLevel ss l ts table) where
  integer_written : (z : Sizes) (a : Place) → Written strict ss (leaf z l a) (integer_at z ts a)
  integer_written z a = record {
    closed = λ e. leaf_closed [] z l a;
    filled = written_leaf ss z l a ∙ ap (λ us. as_integer (at_or (num (pos 0)) us (slot z a))) level.terms;
  }

  memory_written : (z : Sizes) (a : Place) → Written strict ss (memory_leaf z l a) (memory_at z ts a)
  memory_written z a = record {
    closed = λ e. refl;
    filled = written_memory_leaf ss z l a ∙ ap (λ us. as_memory (at_or (num (pos 0)) us (slot z a))) level.terms;
  }

  table_written : Written strict ss (table_leaf l) (as_table table)
  table_written = record { closed = λ e. refl; filled = written_table_leaf ss l ∙ ap as_table level.table_is }

  two_written : (z : Sizes) (k : CellKind) (a b : Place) → TermWritten strict ss (term_of_kind k (leaf z l a) (leaf z l b)) (two_at z ts k a b)
  two_written z (cell.Of k) a b = number (integer_written z a)
  two_written z cell.Ptr a b = pointer (integer_written z a) (integer_written z b)

  variable_written : (p : Facts) (s : Shape) (cells : FileCells) (x : Variable) (o : Option program.Variable)
      → TermWritten strict ss (variable_term p s cells l x o) (variable_at (sizes p s) ts x o)
  variable_written p s cells x (Some v) = two_written (sizes p s) (kind_of v) (value x) (offset x)
  variable_written p s cells x None = number (number_written (pos 0))

  pub readings_written : (p : Facts) (s : Shape) (cells : FileCells) → ReadingWritten strict ss (reading_at p s cells l) (slot_reading p s ts table)
  unfolding slot_reading
  readings_written p s cells = record {
    locals = λ x. variable_written p s cells (variables.Local x) _;
    globals = λ x. variable_written p s cells (variables.Global x) _;
    temporaries = λ n. two_written (sizes p s) (s.temp_kind n) _ _;
    flags = λ x. integer_written (sizes p s) _;
    homes = λ x. integer_written (sizes p s) _;
    table = table_written;
    numbers = λ k. memory_written (sizes p s) _;
    blocks = memory_written (sizes p s) _;
    offsets = memory_written (sizes p s) _;
  }

-- ---- any function with these variables and kinds of temporaries

pub leaves_by_shape : (p : Facts) (s : Shape) (cells : FileCells) (l : ℕ) (ks : List CellKind) → s.temporaries ≡ length ks → ((n : ℕ) → s.temp_kind n ≡ kind_at ks n)
    → reading_at p s cells l ≡ leaf_reading p (shape_of s.variables ks) l
leaves_by_shape p s cells l ks count kinds =
    λ i. reading_at p (record { variables = s.variables; temporaries = count i; temp_kind = λ n. kinds n i; result = s.result }) cells l

-- ---- parts of terms that are filled

pub fill_number : (ss : List Slots) (a : Term) → fill ss (number_term a) ≡ number_term (fill_term ss a)
fill_number ss (as_number t) = refl
fill_number ss (as_test f) = refl
fill_number ss (as_pointer b o) = refl

pub fill_condition : (ss : List Slots) (a : Term) → fill ss (condition a) ≡ condition (fill_term ss a)
fill_condition ss (as_number t) = refl
fill_condition ss (as_test f) = refl
fill_condition ss (as_pointer b o) = refl

pub fill_block : (ss : List Slots) (a : Term) → fill ss (block_term a) ≡ block_term (fill_term ss a)
fill_block ss (as_number t) = refl
fill_block ss (as_test f) = refl
fill_block ss (as_pointer b o) = refl

pub fill_offset : (ss : List Slots) (a : Term) → fill ss (offset_term a) ≡ offset_term (fill_term ss a)
fill_offset ss (as_number t) = refl
fill_offset ss (as_test f) = refl
fill_offset ss (as_pointer b o) = refl

-- ---- terms and items that are filled

module _ {ss : List Slots} where
  term_filled : {a b : Term} → TermWritten false ss a b → fill_term ss a ≡ b
  term_filled (number h) = ap as_number h.filled
  term_filled (test h) = ap as_test h.filled
  term_filled (pointer h g) = λ i. as_pointer (h.filled i) (g.filled i)

  items_filled : {is js : List Item} → ItemsWritten false ss is js → map (fill_item ss) is ≡ map placed js
  items_filled none = refl
  items_filled (some (is_asked c h) hs) = let rest = items_filled hs in λ i. asked (here c.kind c.line) (h.filled i) ∷ rest i
  items_filled (some (is_known h) hs) = let rest = items_filled hs in λ i. known (h.filled i) ∷ rest i

  any_written : (t : Tree) → Written false ss t (fill ss t)
  any_written t = record { closed = λ e. absurd (false≢true e); filled = refl }

  term_written : (a : Term) → TermWritten false ss a (fill_term ss a)
  term_written (as_number t) = number (any_written t)
  term_written (as_test f) = test (any_written f)
  term_written (as_pointer b o) = pointer (any_written b) (any_written o)

  terms_written : (us : List Term) (i : ℕ) → TermWritten false ss (term_at us i) (term_at (map (fill_term ss) us) i)
  terms_written [] i = number (number_written (pos 0))
  terms_written (a ∷ us) zero = term_written a
  terms_written (a ∷ us) (suc i) = terms_written us i

pub values_are_filled : ValuesAreFilled
values_are_filled p s cells l ss ts table level = record { value = of_value; operands = of_operands; address = of_address; way = of_way } where
  own : Reading
  own = slot_reading p s ts table

  well : ReadingWritten false ss (reading_at p s cells l) own
  well = readings_written ss l ts table level p s cells

  of_value : (e : t.Value) → IsFilled p s ss (reading_at p s cells l) own e
  of_value e =
      let made = value_written p s.variables well e in
      record { items = items_filled (word_written p s.variables well e); terms = term_filled made; number = (number_part made).filled; condition = (condition_part made).filled }

  all_terms : (es : t.Values) → map (fill_term ss) (terms_of p s.variables (reading_at p s cells l) es) ≡ terms_of p s.variables own es
  all_terms t.stop = refl
  all_terms (t.more e es) =
      let first = term_filled (value_written p s.variables well e) in
      let rest = all_terms es in
      λ i. first i ∷ rest i

  of_operands : (es : t.Values) → AreFilled p s ss (reading_at p s cells l) own es
  of_operands es = record { items = items_filled (words_written p s.variables well es); terms = all_terms es }

  by_number : (us : List Term) → OperandsWritten false ss us (map (fill_term ss) us)
  by_number us = record { at = terms_written us }

  of_address : (path : Path) (us : List Term) → fill_term ss (address_term p (reading_at p s cells l) path us) ≡ address_term p own path (map (fill_term ss) us)
  of_address path us = term_filled (address_written p s.variables well path (by_number us))

  of_way : (type : CoreType) (path : Path) (us : List Term)
      → map (fill_item ss) (way_items p (reading_at p s cells l) type path us) ≡ map placed (way_items p own type path (map (fill_term ss) us))
  of_way type path us = items_filled (way_written p s.variables well type path (by_number us))

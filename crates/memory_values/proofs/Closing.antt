-- All leaves are closed, and so is all that is made of an expression.
use Rattle.std.proofs.Common.{◌≡◌, ℕ, zero, suc, true, ◌&&◌, pos, List, [], ◌∷◌, map, refl}
use Rattle.std.specs.List.{list_all}
use Rattle.std.proofs.lemmas.Bool.{and_parts}
use Rattle.typed_prog.specs.declared.types.CoreType.{CoreType}
use Rattle.typed_prog.specs.declared.operators.Path.{Path}
use Rattle.typed_prog.specs.Tree as t
use Rattle.qed_terms.specs.Tree.{Tree, num}
use Rattle.value_terms.specs.Readings.{Term, as_number, as_test, as_pointer, number_term, block_term, offset_term, condition, term_at, Reading}
use Rattle.value_terms.specs.Terms.{address_term, terms_of}
use Rattle.value_terms.specs.Places.{way_items}
use Rattle.value_terms.specs.Words.{Item}
use Rattle.memory_steps.specs.Forms.{Slots}
use Rattle.memory_words.specs.Leaves.{fill, is_closed}
use Rattle.memory_words.specs.Readings.{reading_at}
use Rattle.memory_words.specs.Seen.{is_closed_item, is_closed_term}
use Rattle.memory_values.specs.OverSlots.{fill_term, slot_reading}
use Rattle.memory_values.specs.Laws.{IsClosed, AreClosed, ValuesAreClosed}
use Rattle.memory_values.proofs.Heads.{Written, number_written}
use Rattle.memory_values.proofs.Writing.{TermWritten, number, test, pointer, ReadingWritten, OperandsWritten, number_part, block_part, offset_part, condition_part, address_written, value_written}
use Rattle.memory_values.proofs.WritingWords.{ItemsWritten, is_asked, is_known, none, some, way_written, word_written, words_written}
use Rattle.memory_values.proofs.Filled.{readings_written}

module _ {ss : List Slots} where
  term_closed : {a b : Term} → TermWritten true ss a b → is_closed_term a ≡ true
  term_closed (number h) = h.closed refl
  term_closed (test h) = h.closed refl
  term_closed (pointer h g) = let first = h.closed refl in let second = g.closed refl in λ i. first i && second i

  items_closed : {is js : List Item} → ItemsWritten true ss is js → list_all is_closed_item is ≡ true
  items_closed none = refl
  items_closed (some (is_asked c h) hs) = let here = h.closed refl in let rest = items_closed hs in λ i. here i && rest i
  items_closed (some (is_known h) hs) = let here = h.closed refl in let rest = items_closed hs in λ i. here i && rest i

  closed_written : (t : Tree) → is_closed [] t ≡ true → Written true ss t (fill ss t)
  closed_written t h = record { closed = λ e. h; filled = refl }

  term_written : (a : Term) → is_closed_term a ≡ true → TermWritten true ss a (fill_term ss a)
  term_written (as_number t) h = number (closed_written t h)
  term_written (as_test f) h = test (closed_written f h)
  term_written (as_pointer b o) h = pointer (closed_written b (and_parts (is_closed [] b) (is_closed [] o) h).0) (closed_written o (and_parts (is_closed [] b) (is_closed [] o) h).1)

  terms_written : (us : List Term) → list_all is_closed_term us ≡ true → (i : ℕ) → TermWritten true ss (term_at us i) (term_at (map (fill_term ss) us) i)
  terms_written [] h i = number (number_written (pos 0))
  terms_written (a ∷ us) h zero = term_written a (and_parts (is_closed_term a) (list_all is_closed_term us) h).0
  terms_written (a ∷ us) h (suc i) = terms_written us (and_parts (is_closed_term a) (list_all is_closed_term us) h).1 i

-- ---- parts of a closed term

module _ (a : Term) (h : is_closed_term a ≡ true) where
  pub closed_number : is_closed [] (number_term a) ≡ true
  closed_number = (number_part (term_written {ss = []} a h)).closed refl

  pub closed_condition : is_closed [] (condition a) ≡ true
  closed_condition = (condition_part (term_written {ss = []} a h)).closed refl

  pub closed_block : is_closed [] (block_term a) ≡ true
  closed_block = (block_part (term_written {ss = []} a h)).closed refl

  pub closed_offset : is_closed [] (offset_term a) ≡ true
  closed_offset = (offset_part (term_written {ss = []} a h)).closed refl

-- over no slots at all
pub values_are_closed : ValuesAreClosed
values_are_closed p s cells l = record { value = of_value; operands = of_operands; address = of_address; way = of_way } where
  over : Reading
  over = reading_at p s cells l

  own : Reading
  own = slot_reading p s [] (num (pos 0))

  well : ReadingWritten true [] over own
  well = readings_written [] l [] (num (pos 0)) (record { terms = refl; table_is = refl }) p s cells

  of_value : (e : t.Value) → IsClosed p s over e
  of_value e =
      let made = value_written p s.variables well e in
      record {
        items = items_closed (word_written p s.variables well e);
        term = term_closed made;
        number = (number_part made).closed refl;
        condition = (condition_part made).closed refl;
      }

  all_terms : (es : t.Values) → list_all is_closed_term (terms_of p s.variables over es) ≡ true
  all_terms t.stop = refl
  all_terms (t.more e es) =
      let first = term_closed (value_written p s.variables well e) in
      let rest = all_terms es in
      λ i. first i && rest i

  of_operands : (es : t.Values) → AreClosed p s over es
  of_operands es = record { items = items_closed (words_written p s.variables well es); terms = all_terms es }

  by_number : (us : List Term) → list_all is_closed_term us ≡ true → OperandsWritten true [] us (map (fill_term []) us)
  by_number us h = record { at = terms_written us h }

  of_address : (path : Path) (us : List Term) → list_all is_closed_term us ≡ true → is_closed_term (address_term p over path us) ≡ true
  of_address path us h = term_closed (address_written p s.variables well path (by_number us h))

  of_way : (type : CoreType) (path : Path) (us : List Term) → list_all is_closed_term us ≡ true → list_all is_closed_item (way_items p over type path us) ≡ true
  of_way type path us h = items_closed (way_written p s.variables well type path (by_number us h))

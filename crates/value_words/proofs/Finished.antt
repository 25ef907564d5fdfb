-- What was made over the slots' own terms is what is written for the expression over leaves.
use Rattle.std.proofs.Common.{◌≡◌, List, ◌∷◌, ◌++◌, map, sym, ap, ◌∙◌}
use Rattle.typed_prog.specs.Tree as t
use Rattle.walk_steps.specs.Forms.{Slots}
use Rattle.c_runs.specs.Program.{Facts, Variable}
use Rattle.value_terms.specs.Terms.{term_of, terms_of}
use Rattle.value_terms.specs.Words.{word_of, words}
use Rattle.value_words.specs.declared.items.Item.{Item}
use Rattle.value_words.specs.declared.terms.ValueTerm.{ValueTerm}
use Rattle.value_words.specs.OverSlots.{fill_term, fill_item, with_variables, leaf_reading, reading_of}
use Rattle.value_words.specs.View.{view_term, view_terms, view_items, Made, MadeAll}
use Rattle.value_words.proofs.Filled.{values_are_filled}

module _ (p : Facts) (xs : List Variable) (slots : Slots) (olds : List Slots) (old new : List Item) where
  pub made_term : (e : t.Value) (made : ValueTerm) → Made old new made (term_of p xs (reading_of p xs slots) e) (word_of p xs (reading_of p xs slots) e)
      → view_term made ≡ fill_term (slots ∷ olds) (term_of p xs (leaf_reading p xs) e)
  made_term e made h = h.is ∙ sym ((values_are_filled p (with_variables xs) slots olds).value e).terms

  pub made_items : (e : t.Value) (made : ValueTerm) → Made old new made (term_of p xs (reading_of p xs slots) e) (word_of p xs (reading_of p xs slots) e)
      → view_items new ≡ view_items old ++ map (fill_item (slots ∷ olds)) (word_of p xs (leaf_reading p xs) e)
  made_items e made h = h.items.are ∙ ap (λ is. view_items old ++ is) (sym ((values_are_filled p (with_variables xs) slots olds).value e).items)

  pub all_terms : (es : t.Values) (made : List ValueTerm) → MadeAll old new made (terms_of p xs (reading_of p xs slots) es) (words p xs (reading_of p xs slots) es)
      → view_terms made ≡ map (fill_term (slots ∷ olds)) (terms_of p xs (leaf_reading p xs) es)
  all_terms es made h = h.are ∙ sym ((values_are_filled p (with_variables xs) slots olds).operands es).terms

  pub all_items : (es : t.Values) (made : List ValueTerm) → MadeAll old new made (terms_of p xs (reading_of p xs slots) es) (words p xs (reading_of p xs slots) es)
      → view_items new ≡ view_items old ++ map (fill_item (slots ∷ olds)) (words p xs (leaf_reading p xs) es)
  all_items es made h = h.items.are ∙ ap (λ is. view_items old ++ is) (sym ((values_are_filled p (with_variables xs) slots olds).operands es).items)

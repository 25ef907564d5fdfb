-- What the program holds in memory, as plain values.
use Rattle.std.specs.Prelude.{◌≡◌, ◌++◌, List, map}
use Rattle.qed_terms.specs.View.{formula_tree, term_tree}
use Rattle.c_runs.specs.Checks.{here}
use Rattle.check_lists.specs.View.{view_undefined}
use Rattle.plain_states.specs.Slots.{Sizes}
use Rattle.value_terms.specs.Readings as plain
use Rattle.value_terms.specs.Words as words
use Rattle.value_words.specs.declared.terms.ValueTerm.{ValueTerm}
use Rattle.value_words.specs.declared.terms.ValueTerm.TheVariants as term
use Rattle.value_words.specs.declared.items.Item.{Item}
use Rattle.value_words.specs.declared.items.Item.TheVariants as item
use Rattle.value_words.specs.declared.slots.Sizes as memory

abbrev pub view_term : ValueTerm → plain.Term
view_term (term.Number t) = plain.as_number (term_tree t)
view_term (term.Test f) = plain.as_test (formula_tree f)
view_term (term.Pointer b o) = plain.as_pointer (term_tree b) (term_tree o)

abbrev pub view_terms : List ValueTerm → List plain.Term
view_terms ts = map view_term ts

abbrev pub view_item : Item → words.Item
view_item (item.Asked kind line f) = words.asked (here (view_undefined kind) line) (formula_tree f)
view_item (item.Known f) = words.known (formula_tree f)

abbrev pub view_items : List Item → List words.Item
view_items is = map view_item is

abbrev pub view_sizes : memory.Sizes → Sizes
view_sizes z = record { globals = z.globals; locals = z.locals }

-- ---- pushed

-- of a check its kind and its line are kept, and not the way to it
abbrev pub placed : words.Item → words.Item
placed (words.asked c f) = words.asked (here c.kind c.line) f
placed (words.known f) = words.known f

-- these items are behind those that were there
pub record Pushed (old new : List Item) (is : List words.Item) : Type 0 where
  pub are : view_items new ≡ view_items old ++ map placed is

-- a value was made of this term, and its word was pushed
pub record Made (old new : List Item) (made : ValueTerm) (t : plain.Term) (word : List words.Item) : Type 0 where
  pub is : view_term made ≡ t
  pub items : Pushed old new word

pub record MadeAll (old new : List Item) (made : List ValueTerm) (ts : List plain.Term) (word : List words.Item) : Type 0 where
  pub are : view_terms made ≡ ts
  pub items : Pushed old new word

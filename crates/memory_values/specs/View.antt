-- What the program holds in memory, as plain values.
use Rattle.std.specs.Prelude.{◌≡◌, ◌++◌, List, map}
use Rattle.core_trees.specs.View.{view_variables}
use Rattle.program_trees.specs.View.{view_facts}
use Rattle.qed_terms.specs.Tree.{Tree}
use Rattle.qed_terms.specs.View.{formula_tree, term_tree}
use Rattle.c_runs.specs.Program.{Facts}
use Rattle.c_runs.specs.Checks.{here}
use Rattle.check_lists.specs.View.{view_undefined}
use Rattle.value_terms.specs.Readings as plain
use Rattle.value_terms.specs.Words as words
use Rattle.memory_words.specs.Places as places
use Rattle.memory_words.specs.Places.{Sizes}
use Rattle.memory_words.specs.Shapes.{Shape, sizes}
use Rattle.memory_values.specs.declared.terms.ValueTerm.{ValueTerm}
use Rattle.memory_values.specs.declared.terms.ValueTerm.TheVariants as term
use Rattle.memory_values.specs.declared.items.Item.{Item}
use Rattle.memory_values.specs.declared.items.Item.TheVariants as item
use Rattle.memory_values.specs.declared.slots.Sizes as memory
use Rattle.memory_values.specs.declared.slots.Place.{Place}
use Rattle.memory_values.specs.declared.slots.Place.TheVariants as place
use Rattle.memory_values.specs.declared.readings.Reading.{Reading}
use Rattle.memory_values.specs.OverSlots.{shape_of, slot_reading}

abbrev pub view_term : ValueTerm → plain.Term
view_term (term.Number t) = plain.as_number (term_tree t)
view_term (term.Test f) = plain.as_test (formula_tree f)
view_term (term.Pointer b o) = plain.as_pointer (term_tree b) (term_tree o)

abbrev pub view_terms : List ValueTerm → List plain.Term
view_terms ts = map view_term ts

abbrev pub view_item : Item → words.Item
view_item (item.Asked kind line f) = words.asked (here (view_undefined kind) line) (formula_tree f)
view_item (item.Known f) = words.known (formula_tree f)

abbrev pub view_items : List Item → List words.Item
view_items is = map view_item is

-- ---- slots

abbrev pub view_sizes : memory.Sizes → Sizes
view_sizes z = record { globals = z.globals; locals = z.locals; temporaries = z.temporaries }

abbrev pub view_place : Place → places.Place
view_place (place.Value x) = places.value x
view_place (place.Offset x) = places.offset x
view_place (place.Flag x) = places.flag x
view_place place.Result = places.result
view_place place.ResultOffset = places.result_offset
view_place place.Answer = places.answer
view_place place.AnswerOffset = places.answer_offset
view_place (place.Temporary n) = places.temporary n
view_place (place.TemporaryOffset n) = places.temporary_offset n
view_place (place.Numbers k) = places.numbers k
view_place place.Blocks = places.blocks
view_place place.Offsets = places.offsets

-- ---- what is read

abbrev pub facts_in : Reading → Facts
facts_in r = view_facts r.facts.now

abbrev pub shape_in : Reading → Shape
shape_in r = shape_of (view_variables r.variables.now) r.temporaries.now

abbrev pub sizes_in : Reading → Sizes
sizes_in r = sizes (facts_in r) (shape_in r)

abbrev pub slots_in : Reading → List Tree
slots_in r = map term_tree r.slots.now

abbrev pub table_in : Reading → Tree
table_in r = term_tree r.table.now

abbrev pub view_reading : Reading → plain.Reading
view_reading r = slot_reading (facts_in r) (shape_in r) (slots_in r) (table_in r)

-- ---- pushed

-- of a check its kind and its line are kept, and not the way to it
abbrev pub placed : words.Item → words.Item
placed (words.asked c f) = words.asked (here c.kind c.line) f
placed (words.known f) = words.known f

-- these items are behind those that were there
pub record Pushed (old new : List Item) (is : List words.Item) : Type 0 where
  pub are : view_items new ≡ view_items old ++ map placed is

-- a value was made of this term, and its word was pushed
pub record Made (old new : List Item) (made : ValueTerm) (t : plain.Term) (word : List words.Item) : Type 0 where
  pub is : view_term made ≡ t
  pub items : Pushed old new word

pub record MadeAll (old new : List Item) (made : List ValueTerm) (ts : List plain.Term) (word : List words.Item) : Type 0 where
  pub are : view_terms made ≡ ts
  pub items : Pushed old new word

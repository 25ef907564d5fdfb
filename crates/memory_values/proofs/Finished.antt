-- What was made over the slots' own terms is what is written for the expression over leaves.
use Rattle.std.proofs.Common.{◌≡◌, ℕ, false, List, ◌++◌, map, Ok, sym, ap, ◌∙◌}
use Rattle.std.specs.Prelude.{Result, OnOk, Err}
use Rattle.wp_base.specs.declared.memory.NoMemory.{NoMemory}
use Rattle.typed_prog.specs.declared.types.CoreType.{CoreType}
use Rattle.typed_prog.specs.declared.operators.Path.{Path}
use Rattle.typed_prog.specs.Tree as t
use Rattle.qed_terms.specs.Tree.{Tree}
use Rattle.c_runs.specs.Program.{Facts}
use Rattle.value_terms.specs.Readings.{Term}
use Rattle.value_terms.specs.Places.{way_items}
use Rattle.value_terms.specs.Terms.{address_term, term_of, terms_of}
use Rattle.value_terms.specs.Words.{word_of, words}
use Rattle.memory_steps.specs.Forms.{Slots}
use Rattle.memory_words.specs.Shapes.{Shape}
use Rattle.memory_values.specs.declared.items.Item.{Item}
use Rattle.memory_values.specs.declared.terms.ValueTerm.{ValueTerm}
use Rattle.memory_values.specs.Drafts.{ValueIs, Pushes}
use Rattle.memory_values.specs.OverSlots.{fill_term, fill_item, IsLevel, leaf_reading, slot_reading}
use Rattle.memory_values.specs.View.{view_term, view_terms, view_items, placed, Made, MadeAll}
use Rattle.memory_values.specs.Laws.{AllFilled}
use Rattle.memory_values.proofs.Filled.{values_are_filled}

module _ (p : Facts) (s : Shape) (own : List Tree) (table : Tree) (ss : List Slots) (l : ℕ) (level : IsLevel ss l own table) where
  filled : AllFilled p s ss (leaf_reading p s l) (slot_reading p s own table)
  filled = values_are_filled p s (record { has_blocks = false; has_kind = λ k. false }) l ss own table level

  module _ (old new : List Item) where
    pub made_term : (e : t.Value) (made : ValueTerm)
        → Made old new made (term_of p s.variables (slot_reading p s own table) e) (word_of p s.variables (slot_reading p s own table) e)
        → view_term made ≡ fill_term ss (term_of p s.variables (leaf_reading p s l) e)
    made_term e made h = h.is ∙ sym (filled.value e).terms

    pub made_items : (e : t.Value) (made : ValueTerm)
        → Made old new made (term_of p s.variables (slot_reading p s own table) e) (word_of p s.variables (slot_reading p s own table) e)
        → view_items new ≡ view_items old ++ map (fill_item ss) (word_of p s.variables (leaf_reading p s l) e)
    made_items e made h = h.items.are ∙ ap (λ is. view_items old ++ is) (sym (filled.value e).items)

    pub all_terms : (es : t.Values) (made : List ValueTerm)
        → MadeAll old new made (terms_of p s.variables (slot_reading p s own table) es) (words p s.variables (slot_reading p s own table) es)
        → view_terms made ≡ map (fill_term ss) (terms_of p s.variables (leaf_reading p s l) es)
    all_terms es made h = h.are ∙ sym (filled.operands es).terms

    pub all_items : (es : t.Values) (made : List ValueTerm)
        → MadeAll old new made (terms_of p s.variables (slot_reading p s own table) es) (words p s.variables (slot_reading p s own table) es)
        → view_items new ≡ view_items old ++ map (fill_item ss) (words p s.variables (leaf_reading p s l) es)
    all_items es made h = h.items.are ∙ ap (λ is. view_items old ++ is) (sym (filled.operands es).items)

  -- of a way, whose operands have these terms
  pub address_made : (path : Path) (terms : List ValueTerm) (ts : List Term) (made : ValueTerm) → view_terms terms ≡ map (fill_term ss) ts
      → ValueIs (Ok made) (address_term p (slot_reading p s own table) path (view_terms terms)) → view_term made ≡ fill_term ss (address_term p (leaf_reading p s l) path ts)
  address_made path terms ts made same h = h.is ∙ ap (address_term p (slot_reading p s own table) path) same ∙ sym (filled.address path ts)

  pub way_made : {A : Type 0} (done : Result A NoMemory) (old new : List Item) (type : CoreType) (path : Path) (terms : List ValueTerm) (ts : List Term)
      → view_terms terms ≡ map (fill_term ss) ts → Pushes done old new (way_items p (slot_reading p s own table) type path (view_terms terms))
      → OnOk done (view_items new ≡ view_items old ++ map (fill_item ss) (way_items p (leaf_reading p s l) type path ts))
  way_made (Ok x) old new type path terms ts same h =
      h.is.are ∙ ap (λ us. view_items old ++ map placed (way_items p (slot_reading p s own table) type path us)) same
      ∙ ap (λ is. view_items old ++ is) (sym (filled.way type path ts))
  way_made (Err e) old new type path terms ts same h = tt

-- What the program holds in memory, as plain values.
use Rattle.std.specs.Prelude.{ℕ, List, map, Option, Some, None, slice_index_or}
use Rattle.std.specs.Option.{option_map}
use Rattle.wp_base.specs.declared.kinds.Kind.{Kind}
use Rattle.qed_terms.specs.Tree.{Tree}
use Rattle.qed_terms.specs.View.{term_tree}
use Rattle.c_runs.specs.Program.{Facts}
use Rattle.core_trees.specs.View.{view_variables}
use Rattle.program_trees.specs.View.{view_facts}
use Rattle.acsl_encode.specs.Readings as r
use Rattle.acsl_encode.specs.Readings.{one, two, integer_global, pointer_global, Slot, whole, any_integer, absent}
use Rattle.acsl_encode.specs.Readings.{nothing}
use Rattle.annotation_words.specs.Seen as spec
use Rattle.annotation_words.specs.Seen.{in_slots, in_arguments, seen_over, result_in, common_with}
use Rattle.annotation_words.specs.declared.slots.Held.{Held}
use Rattle.annotation_words.specs.declared.readings.Locals.{Locals}
use Rattle.annotation_words.specs.declared.readings.Locals.TheVariants as locals
use Rattle.annotation_words.specs.declared.readings.Seen.{Seen}
use Rattle.annotation_words.specs.declared.readings.SlotAt.{SlotAt}
use Rattle.annotation_words.specs.declared.readings.Named.{Named}
use Rattle.annotation_words.specs.declared.readings.Named.TheVariants as named
use Rattle.annotation_words.specs.declared.readings.GlobalName.{GlobalName}
use Rattle.annotation_words.specs.declared.readings.GlobalName.TheVariants as global
use Rattle.annotation_words.specs.declared.readings.Called.{Called}
use Rattle.annotation_words.specs.declared.readings.Reading.{Reading}

-- ---- states

-- of a kind, or of any size
abbrev pub slot_with : Option Kind → Tree → Slot
slot_with (Some k) t = whole k t
slot_with None t = any_integer t

abbrev pub view_slot : Option Held → Slot
view_slot (Some h) = slot_with h.kind (term_tree h.term)
view_slot None = absent

abbrev pub view_locals : Facts → Locals → spec.Locals
view_locals p (locals.Slots vs ts) = in_slots p (view_variables vs.now) (map term_tree ts.now)
view_locals p (locals.Arguments vs ts) = in_arguments p (view_variables vs.now) (map term_tree ts.now)

abbrev pub view_seen : Facts → Seen → r.Seen
view_seen p s = seen_over p (map term_tree s.file.now) (view_locals p s.locals)

abbrev pub view_result : Option SlotAt → r.Terms
view_result None = nothing
view_result (Some s) = result_in s.kind (map term_tree s.slots.now) s.at

-- ---- logic functions that call themselves

abbrev pub view_named : Named → r.Named
view_named (named.Integer x) = one x
view_named (named.Pointer b o) = two b o

abbrev pub view_global : GlobalName → r.Global
view_global (global.Integer n k x) = integer_global n k x
view_global (global.Pointer n b o) = pointer_global n b o

abbrev pub view_called : Called → r.Called
view_called c = record { name = c.name; params = map view_named c.params; memories = c.memories; globals = map view_global c.globals }

-- by their numbers
abbrev pub called_in : List (Option Called) → (number : ℕ) → Option r.Called
called_in cs n = option_map view_called (slice_index_or cs n None)

-- ---- readings

abbrev pub view_reading : Reading → r.Reading
view_reading x = record {
  here = view_seen (view_facts x.facts.now) x.here;
  pre = view_seen (view_facts x.facts.now) x.pre;
  post = view_seen (view_facts x.facts.now) x.post;
  loop_entry = view_seen (view_facts x.facts.now) x.loop_entry;
  result = view_result x.result;
  common = common_with (view_facts x.facts.now) x.binders.now;
  called = called_in x.called.now;
}

-- What is held in memory, as plain values.
use Rattle.std.specs.Prelude.{List, [], map, Option, Some, None}
use Rattle.std.specs.Borrow.{Bor}
use Rattle.acsl_trees.specs.Tree.{view_tree}
use Rattle.c_syntax.specs.View.{view_pred, view_clause}
use Rattle.c_runs.specs.Program as run
use Rattle.core_trees.specs.View.{view_claim}
use Rattle.program_trees.specs.declared.files.Function.{Function}
use Rattle.program_trees.specs.View.{view_function}
use Rattle.acsl_encode.specs.Binders.{Spelled}
use Rattle.binder_names.specs.Binders as binders
use Rattle.binder_names.specs.Notes as notes
use Rattle.binder_names.specs.Tables as tables
use Rattle.binder_names.specs.Trees as trees
use Rattle.binder_tables.specs.declared.keys.Key.{Key}
use Rattle.binder_tables.specs.declared.binders.Known.{Known}
use Rattle.binder_tables.specs.declared.notes.Note.{Note}
use Rattle.binder_tables.specs.declared.notes.Note.TheVariants as note
use Rattle.binder_tables.specs.declared.notes.Claimed.{Claimed}
use Rattle.binder_tables.specs.declared.notes.Claimed.TheVariants as claimed
use Rattle.binder_tables.specs.declared.entries.Entry.{Entry}
use Rattle.binder_tables.specs.declared.tables.Table.{Table}

abbrev pub view_key : Key → trees.Key
view_key k = record { rank = k.rank; first = k.first; second = k.second; third = k.third }

abbrev pub view_known : Known → binders.Known
view_known k = record { name = k.name; binders = k.binders }

abbrev pub view_all_known : List Known → List binders.Known
view_all_known ks = map view_known ks

abbrev pub binders_found : Option (Bor Known) → Spelled
binders_found (Some k) = k.now.binders
binders_found None = []

-- ---- annotations of bodies

abbrev pub view_note : Note → notes.Note
view_note (note.Loop a) = notes.of_loop (notes.preds_of (map view_clause a.now.invariants))
view_note (note.Assertion p) = notes.of_assertion (view_pred p.now)

abbrev pub all_notes : List Note → List notes.Note
all_notes ns = map view_note ns

abbrev pub view_claimed : Claimed → notes.Claimed
view_claimed (claimed.Loop l) = notes.at_loop (map view_claim l.now.invariants)
view_claimed (claimed.Assertion c) = notes.at_assertion (view_claim c.now)

abbrev pub all_claimed : List Claimed → List notes.Claimed
all_claimed cs = map view_claimed cs

-- ---- tables

abbrev pub view_entry : Entry → tables.Named
view_entry e = record { tree = view_tree e.tree.now; binders = e.binders }

abbrev pub view_entries : List Entry → List tables.Named
view_entries es = map view_entry es

abbrev pub view_table : Table → List tables.Named
view_table t = view_entries t.entries.items

abbrev pub lent_function : Bor Function → run.Function run.Stmts
lent_function f = view_function f.now

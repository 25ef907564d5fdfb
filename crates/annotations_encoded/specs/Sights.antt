-- What a reading gives, told without its terms: which variables have a place or hold what, and whether there are a table and memories.
use Rattle.std.specs.Prelude.{ℕ, Bool, List, Option, Some, None}
use Rattle.std.specs.Option.{is_some}
use Rattle.wp_base.specs.declared.kinds.Kind.{Kind}
use Rattle.wp_base.specs.declared.kinds.CellKind.{CellKind}
use Rattle.wp_base.specs.declared.kinds.CellKind.TheVariants as cell
use Rattle.c_kinds.specs.declared.models.Machdep.{Machdep}
use Rattle.typed_prog.specs.declared.operators.Variable.{Variable}
use Rattle.acsl_trees.specs.declared.heads.Label.{Label}
use Rattle.acsl_trees.specs.declared.heads.Label.TheVariants as label
use Rattle.acsl_encode.specs.Readings.{Called, Terms, integer, truth, address, Slot, whole, any_integer, pointer, home, absent, Seen, Reading}
use Rattle.acsl_well_typed.specs.WellTyped.{What, an_integer, a_pointer}

-- A variable that no pointer leads to holds an integer, of a kind or of any size, or a pointer; another one has a block; or nothing is known of it.
pub data Site : Type 0 where
  holds_integer : (kind : Option Kind) → Site
  holds_pointer : Site
  has_block : Site
  unknown : Site

abbrev pub site_of : Slot → Site
site_of (whole k t) = holds_integer (Some k)
site_of (any_integer t) = holds_integer None
site_of (pointer b o) = holds_pointer
site_of (home b) = has_block
site_of absent = unknown

-- a state: its variables, and whether it has a table and memories of these kinds
pub record Sight : Type 0 where
  pub site : Variable → Site
  pub has_table : Bool
  pub has_kind : CellKind → Bool

abbrev pub has_memory : Seen → CellKind → Bool
has_memory s (cell.Of k) = is_some (s.numbers k)
has_memory s cell.Ptr = is_some s.pointers

abbrev pub sight_of : Seen → Sight
sight_of s = record { site = λ x. site_of (s.variable x); has_table = is_some s.table; has_kind = has_memory s }

-- what may be taken for a value
abbrev pub value_given : Terms → Option What
value_given (integer k t) = Some an_integer
value_given (truth f) = Some an_integer
value_given (address b o) = Some a_pointer
value_given _ = None

-- the state in force and those of labels; what `\result` is; the data model, the cells of structs, and how logic functions are called
pub record Sights : Type 0 where
  pub here : Sight
  pub pre : Sight
  pub post : Sight
  pub loop_entry : Sight
  pub result : Option What
  pub model : Machdep
  pub structs : ℕ → List CellKind
  pub called : (number : ℕ) → Option Called

abbrev pub sights_of : Reading → Sights
sights_of r = record {
  here = sight_of r.here;
  pre = sight_of r.pre;
  post = sight_of r.post;
  loop_entry = sight_of r.loop_entry;
  result = value_given r.result;
  model = r.common.model;
  structs = r.common.structs;
  called = r.called;
}

-- under a label
abbrev pub sight_at : Label → Sights → Sight
sight_at label.Here g = g.here
sight_at label.Pre g = g.pre
sight_at label.Post g = g.post
sight_at label.LoopEntry g = g.loop_entry

abbrev pub moved : Label → Sights → Sights
moved l g = record g { here = sight_at l g }

-- in the state in force, or in that of a label
abbrev pub sight_in : Option Label → Sights → Sight
sight_in None g = g.here
sight_in (Some l) g = sight_at l g

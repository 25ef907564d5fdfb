-- What changes the state: assignments, increments, values of declared variables (C11 6.5.2.4, 6.5.3.1, 6.5.16, 6.7.9).
use Rattle.std.specs.Prelude.{ℕ, Bool, true, false, if◌then◌else◌, ℤ, pos, negsuc, List, [], ◌∷◌, Option, Some, None, slice_get}
use Rattle.wp_base.specs.declared.kinds.Kind.{Kind}
use Rattle.std.specs.Option.{unwrap_or}
use Rattle.wp_base.specs.declared.kinds.CellKind.{CellKind}
use Rattle.wp_base.specs.Blocks.{Table, block_at, block_cells}
use Rattle.typed_prog.specs.declared.types.CoreType.{CoreType}
use Rattle.typed_prog.specs.declared.operators.Path.{Path}
use Rattle.typed_prog.specs.declared.operators.Op.TheVariants as op
use Rattle.typed_prog.specs.declared.operators.Change.{Change}
use Rattle.typed_prog.specs.declared.operators.Change.TheVariants as change
use Rattle.typed_prog.specs.declared.operators.UpdateForm.{UpdateForm}
use Rattle.typed_prog.specs.declared.operators.UpdateForm.TheVariants as form
use Rattle.typed_prog.specs.declared.operators.Variable.TheVariants as variable
use Rattle.typed_prog.specs.declared.operators.Root.TheVariants as root
use Rattle.typed_prog.specs.Types.{of_kind}
use Rattle.typed_prog.specs.Tree as t
use Rattle.c_runs.specs.TruthStates.{Value, block_of, offset_of}
use Rattle.c_runs.specs.Program.{Facts, Variable}
use Rattle.c_runs.specs.States.{World, Memory, Local, plain, home, Here, with_local, with_memory, stored_in}
use Rattle.c_runs.specs.Operators.{Undefined, access, Val, is, wrong, then_val, where_true}
use Rattle.c_runs.specs.Objects.{plain_root, is_plain_in, cell_of, address, indexed, may_write}
use Rattle.c_runs.specs.Values.{Vals, are, wrongs, applied}
use Rattle.c_runs.specs.Claims.{Stop, undefined, failed, assigns, may_change, may_change_local}
use Rattle.c_runs.specs.Calls.{Eval, gives, stops, Act, nought}

-- ---- the new value of an object that is updated: `E1 op= E2` is `E1 = E1 op E2` (C11 6.5.16.2p3)

abbrev pub converted_to : CoreType → (line : ℕ) → t.Value → t.Value
converted_to type l a = t.typed (t.apply op.Convert (t.more a t.stop)) type l

-- as an expression, from those of the old value and of the other operand
abbrev pub changed : Change → CoreType → (line : ℕ) → (old by : t.Value) → t.Value
changed (change.Integer o k) type l a b =
    converted_to type l (t.typed (t.apply (op.Arithmetic o) (t.more (converted_to (of_kind k) l a) (t.more b t.stop))) (of_kind k) l)
changed (change.Pointer minus size) type l a b = t.typed (t.apply (op.Offset minus false size false) (t.more a (t.more b t.stop))) type l

-- from its values
abbrev pub changed_value : Facts → List Variable → World → Change → CoreType → (line : ℕ) → (old by : Value) → Val
changed_value p xs w (change.Integer o k) type l v u =
    then_val (then_val (applied p xs w (of_kind k) l op.Convert (v ∷ [])) (λ x. applied p xs w (of_kind k) l (op.Arithmetic o) (x ∷ u ∷ [])))
    (λ x. applied p xs w type l op.Convert (x ∷ []))
changed_value p xs w (change.Pointer minus size) type l v u = applied p xs w type l (op.Offset minus false size false) (v ∷ u ∷ [])

-- ---- writes

-- what a write comes to
pub data Written : Type 0 where
  wrote : (w : World) → Written
  unwritten : (s : Stop) → Written

abbrev pub granted : Bool → (line : ℕ) → World → Written
granted true l w = wrote w
granted false l w = unwritten (failed assigns l)

-- the kind of the cell that stands at an address; where none does, that of the object
abbrev pub cell_in : List CellKind → (offset : ℤ) → Option CellKind
cell_in cells (pos n) = slice_get cells n
cell_in cells (negsuc n) = None

abbrev pub kind_there : Table → CellKind → (at : Value) → CellKind
kind_there t k a = unwrap_or (cell_in (block_cells (block_at t (block_of a))) (offset_of a)) k

abbrev pub cell_written : Here → (line : ℕ) → CellKind → World → (at : Value) → Value → Written
cell_written here l k w a v =
    granted (may_change here.granted (kind_there w.memory.blocks k a) (block_of a) (offset_of a)) l (with_memory (stored_in (block_of a) (offset_of a) v w.memory) w)

-- at an address that was come to
abbrev pub written_at : Here → (line : ℕ) → CellKind → World → Val → Value → Written
written_at here l k w (is a) v = cell_written here l k w a v
written_at here l k w (wrong u line) v = unwritten (undefined u line)

-- the index checks of the way, the access, and then the annotations that say what may change
abbrev pub target : Facts → World → CellKind → Path → List Value → Val
target p w k path vs =
    indexed vs path.steps (where_true (may_write w.memory k path.root (address p w path vs)) access path.line (is (address p w path vs)))

abbrev pub written_by : Option ℕ → Facts → Here → (line : ℕ) → CoreType → Path → World → List Value → Value → Written
written_by (Some x) p here l type path w vs v = granted (may_change_local p here.granted x) l (with_local x (plain v true) w)
written_by None p here l type path w vs v = written_at here l (cell_of type) w (target p w (cell_of type) path vs) v

-- an object of this type gets the value; the operands of its way have these
unfoldable pub write : Facts → List Variable → Here → (line : ℕ) → CoreType → Path → World → (operands : List Value) → Value → Written
write p xs here l type path w vs v = written_by (plain_root xs path.root) p here l type path w vs v

-- ---- effects

abbrev pub wrote_act : Value → Written → Eval
wrote_act v (wrote w) = gives v w
wrote_act v (unwritten s) = stops s

-- the first value is that which is stored, and the value of the assignment
abbrev pub assigned : Facts → List Variable → Here → (line : ℕ) → CoreType → Path → List Value → Act
assigned p xs here l type path [] w = wrote_act nought (write p xs here l type path w [] nought)
assigned p xs here l type path (v ∷ vs) w = wrote_act v (write p xs here l type path w vs v)

abbrev pub assign_act : Facts → List Variable → Here → (line : ℕ) → CoreType → Path → Vals → Act
assign_act p xs here l type path (are vs) w = assigned p xs here l type path vs w
assign_act p xs here l type path (wrongs u k) w = stops (undefined u k)

abbrev pub initial_in : Local → Value → Memory → Memory
initial_in (plain held is_set) v m = m
initial_in (home b) v m = stored_in b (pos 0) v m

-- the value that a variable is declared with, which needs no leave
abbrev pub initial_by : Option Variable → (variable : ℕ) → Local → Value → World → World
initial_by (Some x) n local v w = if x.is_plain then with_local n (plain v true) w else with_memory (initial_in local v w.memory) w
initial_by None n local v w = w

abbrev pub initial_act : List Variable → (variable : ℕ) → Value → World → World
initial_act xs n v w = initial_by (slice_get xs n) n (w.locals n) v w

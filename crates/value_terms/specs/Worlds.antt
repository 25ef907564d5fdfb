-- Worlds whose variables hold values of their kinds, and readings that stand for a world.
use Rattle.std.specs.Prelude.{◌≡◌, ℕ, Bool, true, false, ◌||◌, int_le, ℤ, pos, List, Some, slice_get}
use Rattle.wp_base.specs.declared.kinds.CellKind.{CellKind}
use Rattle.wp_base.specs.declared.kinds.CellKind.TheVariants as cell
use Rattle.wp_base.specs.declared.kinds.Kind.{Kind}
use Rattle.wp_base.specs.Blocks.{count, len, is_cell, has_layout}
use Rattle.c_kinds.specs.Models.{long_bits, high, difference_kind}
use Rattle.qed_terms.specs.Meaning as m
use Rattle.typed_prog.specs.declared.operators.Variable as code
use Rattle.qed_terms.specs.Memory.{load}
use Rattle.c_runs.specs.TruthStates.{Value, number, pointer, number_of, block_of, offset_of}
use Rattle.c_runs.specs.Program.{Facts, Variable}
use Rattle.c_runs.specs.States.{World, Local, held_by, global_home, home_of, block_of_local}
use Rattle.c_runs.specs.Operators.{truth_number}
use Rattle.c_runs.specs.Scopes.{is_content, scalar_of}
use Rattle.c_runs.specs.Values.{Temps}
use Rattle.c_runs.specs.Tests.{is_set_by}
use Rattle.value_terms.specs.Readings.{Term, as_number, as_test, as_pointer, Reading}
use Rattle.value_terms.specs.Typed.{Scope, VariableIs}

-- ---- worlds

-- a value of the kind, in a world; a pointer leads to a block that was made, or is null
abbrev pub IsOf : Facts → World → CellKind → Value → Type 0
IsOf p w k v = is_content p (count w.memory.blocks) k v ≡ true

-- a variable that no pointer leads to, if it was set
abbrev pub has_value : Variable → Local → Bool
has_value v l = v.has_value || is_set_by l

pub record HoldsKinds (p : Facts) (xs : List Variable) (s : Scope) (tm : Temps) (w : World) : Type 0 where
  pub locals : (x : ℕ) (v : Variable) → slice_get xs x ≡ Some v → s.is_declared x ≡ true → v.is_plain ≡ true → has_value v (w.locals x) ≡ true
      → IsOf p w (scalar_of v.layout.cells) (held_by (w.locals x))
  pub globals : (x : ℕ) (v : Variable) → slice_get p.globals x ≡ Some v → v.is_plain ≡ true
      → IsOf p w (scalar_of v.layout.cells) (w.memory.cells (global_home p x) (pos 0))
  pub temporaries : (n : ℕ) (k : CellKind) → s.temporaries n ≡ Some k → IsOf p w k (tm n)
  -- any other variable has a block of its layout
  pub homes : (x : code.Variable) (v : Variable) → VariableIs p xs s x v → v.is_plain ≡ false
      → has_layout w.memory.blocks (home_of p w.locals x) v.layout ≡ true
  pub cells : (k : CellKind) (b o : ℤ) → is_cell k w.memory.blocks b o ≡ true → IsOf p w k (w.memory.cells b o)
  -- two pointers into a block have a difference (C11 6.5.6p9)
  pub short : (b : ℤ) → int_le (len w.memory.blocks b) (high p.model (difference_kind p.model)) ≡ true

-- ---- readings

-- under these values of names, terms mean a value
abbrev pub Means : m.World → m.Values → Term → Value → Type 0
Means mw env (as_number t) v = v ≡ number (m.value mw env t)
Means mw env (as_test f) v = v ≡ truth_number (m.truth mw env f)
Means mw env (as_pointer b o) v = v ≡ pointer (m.value mw env b) (m.value mw env o)

abbrev pub flag_of : Bool → ℤ
flag_of true = pos 1
flag_of false = pos 0

-- under these values of names, each term of the reading means what the world holds
pub record Stands (mw : m.World) (env : m.Values) (r : Reading) (p : Facts) (xs : List Variable) (s : Scope) (tm : Temps) (w : World) : Type 0 where
  pub model : mw.long_bits ≡ long_bits p.model
  pub locals : (x : ℕ) (v : Variable) → slice_get xs x ≡ Some v → s.is_declared x ≡ true → v.is_plain ≡ true → has_value v (w.locals x) ≡ true
      → Means mw env (r.locals x) (held_by (w.locals x))
  pub flags : (x : ℕ) (v : Variable) → slice_get xs x ≡ Some v → s.is_declared x ≡ true → v.is_plain ≡ true
      → m.value mw env (r.flags x) ≡ flag_of (is_set_by (w.locals x))
  pub temporaries : (n : ℕ) (k : CellKind) → s.temporaries n ≡ Some k → Means mw env (r.temporaries n) (tm n)
  pub globals : (x : ℕ) (v : Variable) → slice_get p.globals x ≡ Some v → v.is_plain ≡ true
      → Means mw env (r.globals x) (w.memory.cells (global_home p x) (pos 0))
  pub homes : s.has_blocks ≡ true → (x : ℕ) (v : Variable) → slice_get xs x ≡ Some v → s.is_declared x ≡ true → v.is_plain ≡ false
      → m.value mw env (r.homes x) ≡ block_of_local p x (w.locals x)
  pub table : s.has_blocks ≡ true → m.table (m.meaning mw env r.table) ≡ w.memory.blocks
  -- where the cells of such a kind are, its memory has what they hold
  pub numbers : s.has_blocks ≡ true → (k : Kind) → s.has_kind (cell.Of k) ≡ true → (b o : ℤ) → is_cell (cell.Of k) w.memory.blocks b o ≡ true
      → load (m.memory (m.meaning mw env (r.numbers k))) b o ≡ number_of (w.memory.cells b o)
  pub blocks : s.has_blocks ≡ true → s.has_kind cell.Ptr ≡ true → (b o : ℤ) → is_cell cell.Ptr w.memory.blocks b o ≡ true
      → load (m.memory (m.meaning mw env r.blocks)) b o ≡ block_of (w.memory.cells b o)
  pub offsets : s.has_blocks ≡ true → s.has_kind cell.Ptr ≡ true → (b o : ℤ) → is_cell cell.Ptr w.memory.blocks b o ≡ true
      → load (m.memory (m.meaning mw env r.offsets)) b o ≡ offset_of (w.memory.cells b o)

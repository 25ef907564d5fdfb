-- What terms stand for under values of their names, and a reading of labelled states.
use Rattle.std.specs.Prelude.{◌≡◌, ℕ, ℤ, pos, Bool, true, false, Option, Some, None, ◌&&◌, int_le, int_lt, ◌≤ℤ◌, ◌<ℤ◌, List}
use Rattle.wp_base.specs.declared.kinds.Kind.{Kind}
use Rattle.wp_base.specs.declared.kinds.CellKind.TheVariants as cell
use Rattle.wp_base.specs.declared.kinds.CellKind.{CellKind}
use Rattle.qed_terms.specs.Operators.{is_equal}
use Rattle.c_kinds.specs.declared.models.Machdep.{Machdep}
use Rattle.c_kinds.specs.Models.{holds, long_bits}
use Rattle.typed_prog.specs.declared.operators.Variable.{Variable}
use Rattle.c_runs.specs.TruthStates as state
use Rattle.typed_prog.specs.declared.operators.Variable.TheVariants as variable_of
use Rattle.acsl_trees.specs.declared.heads.Label.{Label}
use Rattle.c_runs.specs.TruthStates.{Value, State, World, is_negative, state_at}
use Rattle.qed_terms.specs.Tree.{Tree as Term}
use Rattle.qed_terms.specs.Memory.{Memory, load}
use Rattle.qed_terms.specs.Meaning as meant
use Rattle.qed_terms.specs.Meaning.{Values, World as Logic, meaning}
use Rattle.acsl_encode.specs.Readings.{Terms, integer, truth, address, variable, elements, region, nothing, Slot, whole, any_integer, pointer, home, absent, Seen, Common}
use Rattle.acsl_encode.specs.Readings.{Reading}

-- of what is there
abbrev pub Holds : {X : Type 0} → (X → Type 0) → Option X → Type 0
Holds p (Some x) = p x
Holds p None = Unit {0}

-- ---- values

-- Names have values, and recursive logic functions.
abbrev pub number_in : Logic → Values → Term → ℤ
number_in q env t = meant.value q env t

abbrev pub is_so_in : Logic → Values → Term → Bool
is_so_in q env f = meant.truth q env f

-- the number is one of the kind, if there is one
abbrev pub IsOfKind : Machdep → Option Kind → ℤ → Type 0
IsOfKind m None z = Unit {0}
IsOfKind m (Some k) z = holds m k z ≡ true

-- a pointer never leads to a variable that has no address
abbrev pub HasAddress : (block : ℤ) → Type 0
HasAddress b = is_negative b ≡ false

-- from an offset up to below another one, of a block
abbrev pub is_inside : (block low high : ℤ) → (b o : ℤ) → Bool
is_inside block low high b o = is_equal block b && (int_le low o && int_lt o high)

-- no cell of these is in the region
abbrev pub Avoids : Value → (block low high : ℤ) → Type 0
Avoids w block low high = (o : ℤ) → low ≤ℤ o → o <ℤ high → state.covers w block o ≡ false

-- the region has these cells of a block, and no others; it is apart from another one that has none of them
pub record IsStretch (cells : List CellKind) (block low high : ℤ) (v : Value) : Type 0 where
  pub kinds : state.cells_of v ≡ cells
  pub covered : (b o : ℤ) → state.covers v b o ≡ is_inside block low high b o
  pub avoids : (w : Value) → state.are_apart v w ≡ true → Avoids w block low high
  pub apart : (w : Value) → Avoids w block low high → state.are_apart v w ≡ true

-- the terms stand for this value; nothing is said of what isn't in order
abbrev pub Means : Logic → Common → Values → Terms → Value → Type 0
Means q r env (integer k t) v = (v ≡ state.number (number_in q env t)) × IsOfKind r.model k (number_in q env t)
Means q r env (truth f) v = v ≡ state.truth (is_so_in q env f)
Means q r env (address b o) v = (v ≡ state.pointer (number_in q env b) (number_in q env o)) × HasAddress (number_in q env b)
Means q r env (variable x) v = v ≡ state.pointer (r.hidden x) (pos 0)
Means q r env (elements b o size low high) v =
    v ≡ state.addresses (record {
      block = number_in q env b;
      offset = number_in q env o;
      size = pos size;
      low = number_in q env low;
      high = number_in q env high;
    })
Means q r env (region cells b low high) v = IsStretch cells (number_in q env b) (number_in q env low) (number_in q env high) v
Means q r env nothing v = Unit {0}

-- ---- states

-- A variable that no pointer leads to has one cell, of a block without an address.
abbrev pub SlotStands : Logic → Common → Values → Variable → Slot → State → Type 0
SlotStands q r env x (whole k t) s = (s.home x ≡ r.hidden x) × Means q r env (integer (Some k) t) (s.cells (r.hidden x) (pos 0))
SlotStands q r env x (any_integer t) s = (s.home x ≡ r.hidden x) × Means q r env (integer None t) (s.cells (r.hidden x) (pos 0))
SlotStands q r env x (pointer b o) s = (s.home x ≡ r.hidden x) × Means q r env (address b o) (s.cells (r.hidden x) (pos 0))
SlotStands q r env x (home b) s = (s.home x ≡ number_in q env b) × HasAddress (number_in q env b)
SlotStands q r env x absent s = Unit {0}

-- what is read of a cell of a kind is what its memory holds, and a number of the kind
pub record NumberHeld (m : Machdep) (k : Kind) (held : Memory) (st : State) (b o : ℤ) : Type 0 where
  pub number : state.held (cell.Of k) st b o ≡ state.number (load held b o)
  pub kind : holds m k (load held b o) ≡ true

pub record PointerHeld (blocks offsets : Memory) (st : State) (b o : ℤ) : Type 0 where
  pub pointer : state.held cell.Ptr st b o ≡ state.pointer (load blocks b o) (load offsets b o)
  pub address : HasAddress (load blocks b o)

-- at each address
abbrev pub NumbersHeld : Machdep → Kind → Memory → State → Type 0
NumbersHeld m k held st = (b o : ℤ) → HasAddress b → NumberHeld m k held st b o

abbrev pub PointersHeld : (blocks offsets : Memory) → State → Type 0
PointersHeld blocks offsets st = (b o : ℤ) → HasAddress b → PointerHeld blocks offsets st b o

abbrev pub memory_in : Logic → Values → Term → Memory
memory_in q env t = meant.memory (meaning q env t)

pub record SeenStands (q : Logic) (r : Common) (env : Values) (s : Seen) (st : State) : Type 0 where
  pub variables : (x : Variable) → SlotStands q r env x (s.variable x) st
  pub table : Holds (λ t. meant.table (meaning q env t) ≡ st.blocks) s.table
  pub numbers : (k : Kind) → Holds (λ t. NumbersHeld r.model k (memory_in q env t) st) (s.numbers k)
  pub pointers : Holds (λ p. PointersHeld (memory_in q env p.block) (memory_in q env p.offset) st) s.pointers

-- the variables of the file that have blocks are where they always are
abbrev pub AtHome : Common → State → Type 0
AtHome r st = (n : ℕ) → Holds (λ b. (st.home (variable_of.Global n) ≡ b) × HasAddress b) (r.homes n)

-- under these values each term means what the state of its label holds
pub record Stands (q : Logic) (r : Reading) (env : Values) (w : World) : Type 0 where
  pub here : SeenStands q r.common env r.here w.here
  pub pre : SeenStands q r.common env r.pre w.pre
  pub post : SeenStands q r.common env r.post w.post
  pub loop_entry : SeenStands q r.common env r.loop_entry w.loop_entry
  pub result : Means q r.common env r.result w.result
  pub model : r.common.model ≡ w.model
  pub structs : (n : ℕ) → r.common.structs n ≡ w.structs n
  pub hidden : (x : Variable) → is_negative (r.common.hidden x) ≡ true
  pub homes : (l : Label) → AtHome r.common (state_at l w)
  pub long_bits : q.long_bits ≡ long_bits r.common.model

-- Readings whose terms are of their sorts, whatever their names mean. So are leaves of slots, which are no names that a goal has: a leaf of a memory isn't
-- taken for one among arguments, and so isn't well formed there.
use Rattle.std.specs.Prelude.{◌≡◌}
use Rattle.wp_base.specs.declared.kinds.Kind.{Kind}
use Rattle.typed_prog.specs.declared.operators.Variable.{Variable}
use Rattle.qed_terms.specs.Tree.{Tree as Term}
use Rattle.qed_terms.specs.Meaning.{Values, World as Logic, Whole, Cells, meaning}
use Rattle.acsl_encode.specs.Readings.{Terms, integer, truth, address, variable, elements, region, nothing, Pointer, Slot, whole, any_integer, pointer, home, absent}
use Rattle.acsl_encode.specs.Readings.{Seen, Reading}
use Rattle.acsl_encode.specs.Meaning.{Holds, number_in, memory_in}

-- it means an integer
abbrev pub IsNumber : Term → Type 0
IsNumber t = (q : Logic) (env : Values) → meaning q env t ≡ Whole (number_in q env t)

-- it means a memory
abbrev pub IsCells : Term → Type 0
IsCells t = (q : Logic) (env : Values) → meaning q env t ≡ Cells (memory_in q env t)

abbrev pub PointerSorted : Pointer → Type 0
PointerSorted p = IsNumber p.block × IsNumber p.offset

-- what may be given to a logic function
abbrev pub TermsSorted : Terms → Type 0
TermsSorted (integer k t) = IsNumber t
TermsSorted (truth f) = Unit {0}
TermsSorted (address b o) = IsNumber b × IsNumber o
TermsSorted (variable x) = Unit {0}
TermsSorted (elements b o n low high) = Unit {0}
TermsSorted (region cells b low high) = Unit {0}
TermsSorted nothing = Unit {0}

abbrev pub SlotSorted : Slot → Type 0
SlotSorted (whole k t) = IsNumber t
SlotSorted (any_integer t) = IsNumber t
SlotSorted (pointer b o) = IsNumber b × IsNumber o
SlotSorted (home b) = IsNumber b
SlotSorted absent = Unit {0}

pub record SeenSorted (s : Seen) : Type 0 where
  pub variables : (x : Variable) → SlotSorted (s.variable x)
  pub numbers : (k : Kind) → Holds IsCells (s.numbers k)
  pub pointers : Holds (λ p. IsCells p.block × IsCells p.offset) s.pointers

pub record ReadingSorted (r : Reading) : Type 0 where
  pub here : SeenSorted r.here
  pub pre : SeenSorted r.pre
  pub post : SeenSorted r.post
  pub loop_entry : SeenSorted r.loop_entry
  pub result : TermsSorted r.result

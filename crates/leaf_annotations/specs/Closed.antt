-- Readings whose terms may stand anywhere: no name in them is one that a quantifier binds, but for those that they bind themselves.
use Rattle.std.specs.Prelude.{◌≡◌, ℕ, true, List, []}
use Rattle.wp_base.specs.declared.kinds.Kind.{Kind}
use Rattle.typed_prog.specs.declared.operators.Variable.{Variable}
use Rattle.qed_terms.specs.Tree.{Tree}
use Rattle.memory_words.specs.Leaves.{is_marked, is_closed}
use Rattle.acsl_encode.specs.Readings.{Terms, integer, truth, address, variable, elements, region, nothing, Pointer, Slot, whole, any_integer, pointer, home, absent}
use Rattle.acsl_encode.specs.Readings.{Seen, Reading}
use Rattle.acsl_encode.specs.Meaning.{Holds}

-- where these names are bound
abbrev pub IsClosed : (bound : List (List ℕ)) → Tree → Type 0
IsClosed xs t = is_closed xs t ≡ true

abbrev pub PointerClosed : (bound : List (List ℕ)) → Pointer → Type 0
PointerClosed xs p = IsClosed xs p.block × IsClosed xs p.offset

abbrev pub TermsClosed : (bound : List (List ℕ)) → Terms → Type 0
TermsClosed xs (integer k t) = IsClosed xs t
TermsClosed xs (truth f) = IsClosed xs f
TermsClosed xs (address b o) = IsClosed xs b × IsClosed xs o
TermsClosed xs (variable x) = Unit {0}
TermsClosed xs (elements b o n low high) = IsClosed xs b × IsClosed xs o × IsClosed xs low × IsClosed xs high
TermsClosed xs (region cells b low high) = IsClosed xs b × IsClosed xs low × IsClosed xs high
TermsClosed xs nothing = Unit {0}

abbrev pub SlotClosed : Slot → Type 0
SlotClosed (whole k t) = IsClosed [] t
SlotClosed (any_integer t) = IsClosed [] t
SlotClosed (pointer b o) = IsClosed [] b × IsClosed [] o
SlotClosed (home b) = IsClosed [] b
SlotClosed absent = Unit {0}

pub record SeenClosed (s : Seen) : Type 0 where
  pub variables : (x : Variable) → SlotClosed (s.variable x)
  pub table : Holds (IsClosed []) s.table
  pub numbers : (k : Kind) → Holds (IsClosed []) (s.numbers k)
  pub pointers : Holds (PointerClosed []) s.pointers

-- its binders have names with `!`
abbrev pub AreMarked : Reading → Type 0
AreMarked r = (n : ℕ) → is_marked (r.common.binder n) ≡ true

pub record ReadingClosed (r : Reading) : Type 0 where
  pub here : SeenClosed r.here
  pub pre : SeenClosed r.pre
  pub post : SeenClosed r.post
  pub loop_entry : SeenClosed r.loop_entry
  pub result : TermsClosed [] r.result
  pub binders : AreMarked r

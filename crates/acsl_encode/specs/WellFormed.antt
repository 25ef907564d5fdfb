-- Formulas of annotations are well formed.
use Rattle.std.specs.Prelude.{◌≡◌, ℕ, true, Some}
use Rattle.wp_base.specs.declared.kinds.Kind.{Kind}
use Rattle.typed_prog.specs.declared.operators.Variable.{Variable}
use Rattle.acsl_trees.specs.Tree.{Tree}
use Rattle.qed_terms.specs.Tree.{Tree as Term, var}
use Rattle.qed_terms.specs.Names.{is_name}
use Rattle.qed_terms.specs.WellFormed.{fits, int, mem, tab, formula, argument}
use Rattle.acsl_encode.specs.Readings.{Called, Terms, integer, truth, address, variable, elements, region, nothing, Pointer, Slot, whole, any_integer, pointer, home}
use Rattle.acsl_encode.specs.Readings.{absent, Seen}
use Rattle.acsl_encode.specs.Readings.{Reading}
use Rattle.acsl_encode.specs.Meaning.{Holds}
use Rattle.acsl_encode.specs.Encode.{term_of, formula_of, pointer_of}

-- a well formed term for an integer, that isn't taken for a memory among arguments
pub record IsInt (t : Term) : Type 0 where
  pub int : fits int t ≡ true
  pub argument : fits argument t ≡ true

-- a well formed term for a memory, that is taken for one among arguments
pub record IsMemory (t : Term) : Type 0 where
  pub memory : fits mem t ≡ true
  pub argument : fits argument t ≡ true

abbrev pub IsTable : Term → Type 0
IsTable t = fits tab t ≡ true

abbrev pub IsFormula : Term → Type 0
IsFormula f = fits formula f ≡ true

abbrev pub TermsFit : Terms → Type 0
TermsFit (integer k t) = IsInt t
TermsFit (truth f) = IsFormula f
TermsFit (address b o) = IsInt b × IsInt o
TermsFit (variable x) = Unit {0}
TermsFit (elements b o n low high) = IsInt b × IsInt o × IsInt low × IsInt high
TermsFit (region cells b low high) = IsInt b × IsInt low × IsInt high
TermsFit nothing = Unit {0}

abbrev pub SlotFits : Slot → Type 0
SlotFits (whole k t) = IsInt t
SlotFits (any_integer t) = IsInt t
SlotFits (pointer b o) = IsInt b × IsInt o
SlotFits (home b) = IsInt b
SlotFits absent = Unit {0}

pub record SeenFits (s : Seen) : Type 0 where
  pub variables : (x : Variable) → SlotFits (s.variable x)
  pub table : Holds IsTable s.table
  pub numbers : (k : Kind) → Holds IsMemory (s.numbers k)
  pub pointers : Holds (λ p. IsMemory p.block × IsMemory p.offset) s.pointers

pub record ReadingFits (r : Reading) : Type 0 where
  pub here : SeenFits r.here
  pub pre : SeenFits r.pre
  pub post : SeenFits r.post
  pub loop_entry : SeenFits r.loop_entry
  pub result : TermsFit r.result
  pub binders : (n : ℕ) → IsInt (var (r.common.binder n))
  pub called : (n : ℕ) (c : Called) → r.called n ≡ Some c → is_name c.name ≡ true

-- what a tree comes to is well formed
pub record Fits (r : Reading) (t : Tree) : Type 0 where
  pub formula : (f : Term) → formula_of r t ≡ Some f → IsFormula f
  pub number : (u : Term) → term_of r t ≡ Some u → IsInt u
  pub pointer : (p : Pointer) → pointer_of r t ≡ Some p → IsInt p.block × IsInt p.offset

abbrev pub FormulasFit : Type 0
FormulasFit = (r : Reading) (t : Tree) → ReadingFits r → Fits r t

-- Formulas of annotations mean the annotations (ACSL 2.2, 2.4.3).
use Rattle.std.specs.Prelude.{◌≡◌, ℕ, List, [], Some}
use Rattle.wp_base.specs.declared.kinds.Kind.{Kind}
use Rattle.wp_base.specs.declared.kinds.CellKind.{CellKind}
use Rattle.typed_prog.specs.declared.operators.Variable.{Variable}
use Rattle.acsl_trees.specs.Tree.{Tree}
use Rattle.acsl_expand.specs.Expansion.{Definition}
use Rattle.c_runs.specs.TruthStates as state
use Rattle.c_runs.specs.TruthStates.{Value, World, number_of}
use Rattle.c_runs.specs.Truth.{calls_of, named, holds, value}
use Rattle.qed_terms.specs.Tree.{Tree as Term}
use Rattle.qed_terms.specs.Meaning.{Values, World as Logic}
use Rattle.acsl_encode.specs.Readings.{Terms, integer, truth, address, variable, elements, region, nothing, Pointer, Slot, whole, any_integer, pointer, home, absent, Seen}
use Rattle.acsl_encode.specs.Readings.{Reading}
use Rattle.acsl_encode.specs.Encode.{terms_of, term_of, formula_of, pointer_of}
use Rattle.acsl_encode.specs.Meaning.{Holds, number_in, is_so_in, IsStretch, Stands}
use Rattle.acsl_encode.specs.WellFormed.{ReadingFits}
use Rattle.acsl_encode.specs.Calls.{CallsStand}
use Rattle.acsl_encode.specs.Binders.{Spelled, numbered, AllLack, IsUnmarked}

-- ---- readings without names of binders

abbrev pub TermsUnmarked : Terms → Type 0
TermsUnmarked (integer k t) = IsUnmarked t
TermsUnmarked (truth f) = IsUnmarked f
TermsUnmarked (address b o) = IsUnmarked b × IsUnmarked o
TermsUnmarked (variable x) = Unit {0}
TermsUnmarked (elements b o n low high) = IsUnmarked b × IsUnmarked o × IsUnmarked low × IsUnmarked high
TermsUnmarked (region cells b low high) = IsUnmarked b × IsUnmarked low × IsUnmarked high
TermsUnmarked nothing = Unit {0}

abbrev pub SlotUnmarked : Slot → Type 0
SlotUnmarked (whole k t) = IsUnmarked t
SlotUnmarked (any_integer t) = IsUnmarked t
SlotUnmarked (pointer b o) = IsUnmarked b × IsUnmarked o
SlotUnmarked (home b) = IsUnmarked b
SlotUnmarked absent = Unit {0}

pub record SeenUnmarked (s : Seen) : Type 0 where
  pub variables : (x : Variable) → SlotUnmarked (s.variable x)
  pub table : Holds IsUnmarked s.table
  pub numbers : (k : Kind) → Holds IsUnmarked (s.numbers k)
  pub pointers : Holds (λ p. IsUnmarked p.block × IsUnmarked p.offset) s.pointers

-- the binders of the clause are named, and the terms of the reading have no such names
pub record IsUnbound (names : Spelled) (r : Reading) : Type 0 where
  pub here : SeenUnmarked r.here
  pub pre : SeenUnmarked r.pre
  pub post : SeenUnmarked r.post
  pub loop_entry : SeenUnmarked r.loop_entry
  pub result : TermsUnmarked r.result
  pub spelled : AllLack names
  pub binders : (n : ℕ) → r.common.binder n ≡ numbered names n

-- ---- the laws

-- Where the reading stands for the states, its terms are well formed, and logic functions have the values of their definitions: a formula is true exactly
-- where the annotation holds, a term means what the annotation's term does, and a region has the cells of the annotation's.
pub record MeansTheSame (q : Logic) (r : Reading) (ds : List Definition) (env : Values) (w : World) (t : Tree) : Type 0 where
  pub formula : (f : Term) → formula_of r t ≡ Some f → is_so_in q env f ≡ holds ds w t
  pub number : (u : Term) → term_of r t ≡ Some u → number_in q env u ≡ number_of (value (calls_of ds) (named []) 0 w t)
  pub pointer : (p : Pointer) → pointer_of r t ≡ Some p
      → value (calls_of ds) (named []) 0 w t ≡ state.pointer (number_in q env p.block) (number_in q env p.offset)
  pub region : (cells : List CellKind) (b low high : Term) → terms_of r t ≡ region cells b low high
      → IsStretch cells (number_in q env b) (number_in q env low) (number_in q env high) (value (calls_of ds) (named []) 0 w t)

abbrev pub FormulasMean : Type 0
FormulasMean =
    (q : Logic) (names : Spelled) (r : Reading) (ds : List Definition) (env : Values) (w : World) (t : Tree)
    → IsUnbound names r → ReadingFits r → CallsStand q.apps (calls_of ds) r.common r.called → Stands q r env w → MeansTheSame q r ds env w t

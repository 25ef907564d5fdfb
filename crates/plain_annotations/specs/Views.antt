-- What stands for the variables of a function over plain integers, and when annotations have terms there.
use Rattle.std.specs.Prelude.{◌≡◌, ℕ, zero, suc, true, List, [], ◌∷◌, Option, Some, None}
use Rattle.c_kinds.specs.declared.models.Machdep.{Machdep}
use Rattle.typed_prog.specs.declared.operators.Variable.{Variable}
use Rattle.qed_terms.specs.Tree.{Tree}
use Rattle.acsl_encode.specs.Readings.{Named, one, two, Called, Terms, integer, truth, address, variable, elements, region, nothing}
use Rattle.acsl_encode.specs.Readings.{Slot, whole, any_integer, pointer, home, absent, Seen, Reading}
use Rattle.acsl_encode.specs.Encode.{all_put, global_of}
use Rattle.program_steps.specs.Leaves.{is_closed, is_marked}
use Rattle.plain_annotations.specs.Plain.{Place}

-- ---- integers

abbrev pub IsInteger : Terms → Type 0
IsInteger (integer k t) = Unit {0}
IsInteger (truth f) = Unit {0}
IsInteger (address b o) = ⊥
IsInteger (variable x) = ⊥
IsInteger (elements b o n i j) = ⊥
IsInteger (region cells b i j) = ⊥
IsInteger nothing = ⊥

abbrev pub SlotIsInteger : Slot → Type 0
SlotIsInteger (whole k t) = Unit {0}
SlotIsInteger (any_integer t) = Unit {0}
SlotIsInteger (pointer b o) = ⊥
SlotIsInteger (home b) = ⊥
SlotIsInteger absent = ⊥

-- ---- logic functions that call themselves

abbrev pub AreIntegers : (params : ℕ) → List Named → Type 0
AreIntegers zero [] = Unit {0}
AreIntegers zero (p ∷ ps) = ⊥
AreIntegers (suc n) [] = ⊥
AreIntegers (suc n) (one x ∷ ps) = AreIntegers n ps
AreIntegers (suc n) (two b o ∷ ps) = ⊥

abbrev pub IsThere : {X : Type 0} → Option X → Type 0
IsThere (Some x) = Unit {0}
IsThere None = ⊥

-- it takes so many integers, no memory, and variables of the file that have terms
pub record TakesIntegers (m : Machdep) (s : Seen) (params : ℕ) (c : Called) : Type 0 where
  pub integers : AreIntegers params c.params
  pub no_memories : c.memories ≡ []
  pub variables : IsThere (all_put (global_of m s) c.globals)

abbrev pub MayCall : Machdep → Seen → (params : ℕ) → Option Called → Type 0
MayCall m s n (Some c) = TakesIntegers m s n c
MayCall m s n None = ⊥

-- ---- readings

pub record SeenServes (p : Place) (m : Machdep) (called : (number : ℕ) → Option Called) (s : Seen) : Type 0 where
  pub variables : (x : Variable) → p.variables x ≡ true → SlotIsInteger (s.variable x)
  pub calls : (f n : ℕ) → p.params f ≡ Some n → MayCall m s n (called f)

-- all that may be named has a term for an integer
pub record Serves (p : Place) (r : Reading) : Type 0 where
  pub here : SeenServes p r.common.model r.called r.here
  pub pre : SeenServes p r.common.model r.called r.pre
  pub post : SeenServes p r.common.model r.called r.post
  pub loop_entry : SeenServes p r.common.model r.called r.loop_entry
  pub result : p.has_result ≡ true → IsInteger r.result

-- ---- terms that may stand anywhere

abbrev pub IsClosed : Tree → Type 0
IsClosed t = is_closed [] t ≡ true

abbrev pub SlotIsClosed : Slot → Type 0
SlotIsClosed (whole k t) = IsClosed t
SlotIsClosed (any_integer t) = IsClosed t
SlotIsClosed (pointer b o) = IsClosed b × IsClosed o
SlotIsClosed (home b) = IsClosed b
SlotIsClosed absent = Unit {0}

abbrev pub TermsAreClosed : (bound : List (List ℕ)) → Terms → Type 0
TermsAreClosed xs (integer k t) = is_closed xs t ≡ true
TermsAreClosed xs (truth f) = is_closed xs f ≡ true
TermsAreClosed xs (address b o) = Unit {0}
TermsAreClosed xs (variable x) = Unit {0}
TermsAreClosed xs (elements b o n i j) = Unit {0}
TermsAreClosed xs (region cells b i j) = Unit {0}
TermsAreClosed xs nothing = Unit {0}

abbrev pub SeenIsClosed : Seen → Type 0
SeenIsClosed s = (x : Variable) → SlotIsClosed (s.variable x)

-- the terms of the slots are closed, and the names of binders are marked
pub record ReadingIsClosed (r : Reading) : Type 0 where
  pub here : SeenIsClosed r.here
  pub pre : SeenIsClosed r.pre
  pub post : SeenIsClosed r.post
  pub loop_entry : SeenIsClosed r.loop_entry
  pub result : TermsAreClosed [] r.result
  pub binders : (n : ℕ) → is_marked (r.common.binder n) ≡ true

-- Nodes are well formed where their kids are.
use Rattle.std.proofs.Common.{◌≡◌, ℕ, zero, suc, ◌==◌, Bool, true, false, ◌&&◌, List, [], ◌∷◌, refl}
use Rattle.std.specs.Prelude.{ℤ, pos, Option, Some, None, if◌then◌else◌}
use Rattle.wp_base.specs.declared.kinds.Kind.{Kind}
use Rattle.wp_base.specs.declared.kinds.Kind.TheVariants as kind
use Rattle.c_kinds.specs.declared.models.Machdep.{Machdep}
use Rattle.c_kinds.specs.Conversions.{holds_all}
use Rattle.typed_prog.specs.declared.operators.Variable.{Variable}
use Rattle.typed_prog.specs.declared.operators.Arithmetic.{Arithmetic}
use Rattle.typed_prog.specs.declared.operators.Arithmetic.TheVariants as ar
use Rattle.typed_prog.specs.declared.operators.Comparison.{Comparison}
use Rattle.typed_prog.specs.declared.operators.Comparison.TheVariants as cmp
use Rattle.acsl_trees.specs.declared.heads.Content.{Content}
use Rattle.acsl_trees.specs.declared.heads.Content.TheVariants as content
use Rattle.qed_terms.specs.declared.head.TermOp.TheVariants as op
use Rattle.qed_terms.specs.Tree.{Tree as Term, trees_of, num, ite, not_of, imp_of}
use Rattle.qed_terms.specs.WellFormed.{fits, all_fit, each, kid_count, int, mem, formula}
use Rattle.acsl_encode.specs.Readings as reading
use Rattle.acsl_encode.specs.Readings.{Pointer, at, Terms, integer, address, variable, elements, region, nothing, Slot, whole, any_integer, pointer, home, absent, Seen}
use Rattle.acsl_encode.specs.Readings.{Reading}
use Rattle.acsl_encode.specs.Readings.{seen_at, seen_in}
use Rattle.acsl_encode.specs.Encode as encode
use Rattle.acsl_encode.specs.Encode.{comparison, pointer_comparison, times, further, difference, wrapped, truth_term, op_of, op_one, op_two, load, iff_of}
use Rattle.acsl_encode.specs.Encode.{as_integer, as_pointer, as_formula, with_one, with_two, terms_at, all_of, linked, all_linked, in_chain}
use Rattle.acsl_encode.specs.WellFormed.{IsInt, IsMemory, IsFormula, TermsFit, SlotFits, SeenFits}
use Rattle.acsl_encode.specs.Meaning.{Holds}

-- ---- terms and formulas

pub both : (a b : Bool) → a ≡ true → b ≡ true → (a && (b && true)) ≡ true
both a b h k = λ i. h i && (k i && true)

pub only : (a : Bool) → a ≡ true → (a && true) ≡ true
only a h = λ i. h i && true

pub all_three : (a b c : Bool) → a ≡ true → b ≡ true → c ≡ true → (a && (b && (c && true))) ≡ true
all_three a b c h k m = λ i. h i && (k i && (m i && true))

pub number_fits : (z : ℤ) → IsInt (num z)
number_fits z = record { int = refl; argument = refl }

ite_fits : (c t u : Term) → IsFormula c → IsInt t → IsInt u → IsInt (ite c t u)
ite_fits c t u h k m =
    let e = all_three (fits formula c) (fits int t) (fits int u) h k.int m.int in record { int = e; argument = e }

equal_fits : (t u : Term) → IsInt t → IsInt u → IsFormula (encode.comparison cmp.Equal t u)
equal_fits t u h k = both (fits int t) (fits int u) h.int k.int

pub not_fits : (f : Term) → IsFormula f → IsFormula (not_of f)
not_fits f h = only (fits formula f) h

pub two_fit : (f g : Term) → IsFormula f → IsFormula g → (fits formula f && (fits formula g && true)) ≡ true
two_fit f g h k = both (fits formula f) (fits formula g) h k

pub comparison_fits : (c : Comparison) (t u : Term) → IsInt t → IsInt u → IsFormula (comparison c t u)
comparison_fits cmp.Less t u h k = both (fits int t) (fits int u) h.int k.int
comparison_fits cmp.AtMost t u h k = both (fits int t) (fits int u) h.int k.int
comparison_fits cmp.Greater t u h k = both (fits int u) (fits int t) k.int h.int
comparison_fits cmp.AtLeast t u h k = both (fits int u) (fits int t) k.int h.int
comparison_fits cmp.Equal t u h k = equal_fits t u h k
comparison_fits cmp.NotEqual t u h k = not_fits (comparison cmp.Equal t u) (equal_fits t u h k)

pub arithmetic_fits : (o : Arithmetic) (t u : Term) → IsInt t → IsInt u → IsInt (op_two (op_of o) t u)
arithmetic_fits o t u h k = by o (both (fits int t) (fits int u) h.int k.int)
  where
    by : (o : Arithmetic) → (fits int t && (fits int u && true)) ≡ true → IsInt (op_two (op_of o) t u)
    by ar.Mul e = record { int = e; argument = e }
    by ar.Div e = record { int = e; argument = e }
    by ar.Rem e = record { int = e; argument = e }
    by ar.Add e = record { int = e; argument = e }
    by ar.Sub e = record { int = e; argument = e }
    by ar.Shl e = record { int = e; argument = e }
    by ar.Shr e = record { int = e; argument = e }
    by ar.And e = record { int = e; argument = e }
    by ar.Xor e = record { int = e; argument = e }
    by ar.Or e = record { int = e; argument = e }

load_fits : (m b o : Term) → IsMemory m → IsInt b → IsInt o → IsInt (load m b o)
load_fits m b o h k l = let e = all_three (fits mem m) (fits int b) (fits int o) h.memory k.int l.int in record { int = e; argument = e }

truth_fits : (f : Term) → IsFormula f → IsInt (truth_term f)
truth_fits f h = ite_fits f (num (pos 1)) (num (pos 0)) h (number_fits (pos 1)) (number_fits (pos 0))

wrapped_fits : (k : Kind) (t : Term) → IsInt t → IsInt (wrapped k t)
wrapped_fits kind.Bool t h =
    ite_fits (encode.comparison cmp.Equal t (num (pos 0))) (num (pos 0)) (num (pos 1)) (equal_fits t (num (pos 0)) h (number_fits (pos 0)))
    (number_fits (pos 0)) (number_fits (pos 1))
wrapped_fits kind.Char t h = let e = only (fits int t) h.int in record { int = e; argument = e }
wrapped_fits kind.SChar t h = let e = only (fits int t) h.int in record { int = e; argument = e }
wrapped_fits kind.UChar t h = let e = only (fits int t) h.int in record { int = e; argument = e }
wrapped_fits kind.Short t h = let e = only (fits int t) h.int in record { int = e; argument = e }
wrapped_fits kind.UShort t h = let e = only (fits int t) h.int in record { int = e; argument = e }
wrapped_fits kind.Int t h = let e = only (fits int t) h.int in record { int = e; argument = e }
wrapped_fits kind.UInt t h = let e = only (fits int t) h.int in record { int = e; argument = e }
wrapped_fits kind.Long t h = let e = only (fits int t) h.int in record { int = e; argument = e }
wrapped_fits kind.ULong t h = let e = only (fits int t) h.int in record { int = e; argument = e }
wrapped_fits kind.LLong t h = let e = only (fits int t) h.int in record { int = e; argument = e }
wrapped_fits kind.ULLong t h = let e = only (fits int t) h.int in record { int = e; argument = e }

if_fits : (b : Bool) (t u : Term) → IsInt t → IsInt u → IsInt (if b then t else u)
if_fits true t u h k = h
if_fits false t u h k = k

abbrev pub AllFormulas : List Term → Type 0
AllFormulas [] = Unit {0}
AllFormulas (f ∷ fs) = IsFormula f × AllFormulas fs

all_fit_of : (fs : List Term) → AllFormulas fs → all_fit (each formula (kid_count (trees_of fs))) (trees_of fs) ≡ true
all_fit_of [] h = refl
all_fit_of (f ∷ fs) h = let rest = all_fit_of fs h.1 in λ i. h.0 i && rest i

pub all_of_fits : (fs : List Term) → AllFormulas fs → IsFormula (all_of fs)
all_of_fits [] h = refl
all_of_fits (f ∷ []) h = h.0
all_of_fits (f ∷ g ∷ fs) h = all_fit_of (f ∷ g ∷ fs) h

-- ---- pointers

pub times_fit : (n : ℕ) (t : Term) → IsInt t → IsInt (times n t)
times_fit n t h = if_fits (n == 1) t (op_two op.Mul (num (pos n)) t) h (arithmetic_fits ar.Mul (num (pos n)) t (number_fits (pos n)) h)

pub further_fits : (n : ℕ) (o : Term) → IsInt o → IsInt (further n o)
further_fits zero o h = h
further_fits (suc n) o h = arithmetic_fits ar.Add o (num (pos (suc n))) h (number_fits (pos (suc n)))

abbrev pub PointerFits : Pointer → Type 0
PointerFits p = IsInt p.block × IsInt p.offset

pub pointers_fit : (c : Comparison) (p p' : Pointer) → PointerFits p → PointerFits p' → IsFormula (pointer_comparison c p p')
pointers_fit c p p' h k = by c (two_fit (comparison cmp.Equal p.block p'.block) (comparison cmp.Equal p.offset p'.offset)
    (equal_fits p.block p'.block h.0 k.0) (equal_fits p.offset p'.offset h.1 k.1))
  where
    by : (c : Comparison) → IsFormula (encode.same_pointer p p') → IsFormula (pointer_comparison c p p')
    by cmp.Equal e = e
    by cmp.NotEqual e = not_fits (encode.same_pointer p p') e
    by cmp.Less e = comparison_fits cmp.Less p.offset p'.offset h.1 k.1
    by cmp.AtMost e = comparison_fits cmp.AtMost p.offset p'.offset h.1 k.1
    by cmp.Greater e = comparison_fits cmp.Greater p.offset p'.offset h.1 k.1
    by cmp.AtLeast e = comparison_fits cmp.AtLeast p.offset p'.offset h.1 k.1

pub moved_fits : (minus : Bool) (n : ℕ) (p : Pointer) (t : Term) → PointerFits p → IsInt t → TermsFit (encode.moved minus n p t)
moved_fits true n p t h k = (h.0, arithmetic_fits ar.Sub p.offset (times n t) h.1 (times_fit n t k))
moved_fits false n p t h k = (h.0, arithmetic_fits ar.Add p.offset (times n t) h.1 (times_fit n t k))

pub difference_fits : (n : ℕ) (p p' : Pointer) → PointerFits p → PointerFits p' → IsInt (difference n p p')
difference_fits n p p' h k =
    let d = arithmetic_fits ar.Sub p.offset p'.offset h.1 k.1 in
    if_fits (n == 1) (op_two op.Sub p.offset p'.offset) (op_two op.Div (op_two op.Sub p.offset p'.offset) (num (pos n))) d
    (arithmetic_fits ar.Div (op_two op.Sub p.offset p'.offset) (num (pos n)) d (number_fits (pos n)))

-- ---- what values are taken for

pub integer_fits : (x : Terms) → TermsFit x → Holds IsInt (as_integer x)
integer_fits (integer k t) h = h
integer_fits (reading.truth f) h = truth_fits f h
integer_fits (address b o) h = tt
integer_fits (variable x) h = tt
integer_fits (elements b o n i j) h = tt
integer_fits (region cells b i j) h = tt
integer_fits nothing h = tt

pub formula_fits : (x : Terms) → TermsFit x → Holds IsFormula (as_formula x)
formula_fits (integer k t) h = not_fits (comparison cmp.Equal t (num (pos 0))) (equal_fits t (num (pos 0)) h (number_fits (pos 0)))
formula_fits (reading.truth f) h = h
formula_fits (address b o) h = tt
formula_fits (variable x) h = tt
formula_fits (elements b o n i j) h = tt
formula_fits (region cells b i j) h = tt
formula_fits nothing h = tt

pub pointer_fits : (x : Terms) → TermsFit x → Holds PointerFits (as_pointer x)
pointer_fits (integer k t) h = tt
pointer_fits (reading.truth f) h = tt
pointer_fits (address b o) h = h
pointer_fits (variable x) h = tt
pointer_fits (elements b o n i j) h = tt
pointer_fits (region cells b i j) h = tt
pointer_fits nothing h = tt

pub on_one : {X : Type 0} (p : X → Type 0) (f : X → Terms) (o : Option X) → Holds p o → ((x : X) → p x → TermsFit (f x)) → TermsFit (with_one f o)
on_one p f (Some x) h made = made x h
on_one p f None h made = tt

pub on_two : {X Y : Type 0} (p : X → Type 0) (p' : Y → Type 0) (f : X → Y → Terms) (o : Option X) (o' : Option Y) → Holds p o → Holds p' o'
    → ((x : X) (y : Y) → p x → p' y → TermsFit (f x y)) → TermsFit (with_two f o o')
on_two p p' f (Some x) (Some y) h k made = made x y h k
on_two p p' f (Some x) None h k made = tt
on_two p p' f None o' h k made = tt

-- ---- heads

pub variable_fits : (x : Variable) (s : Slot) → SlotFits s → TermsFit (encode.of_variable x s)
variable_fits x (whole k t) h = tt
variable_fits x (any_integer t) h = tt
variable_fits x (pointer b o) h = tt
variable_fits x (home b) h = (h, number_fits (pos 0))
variable_fits x absent h = tt

held_fits : (c : Content) (s : Slot) → SlotFits s → TermsFit (encode.held c s)
held_fits (content.Integer k) (whole l t) h = h
held_fits (content.Integer k) (any_integer t) h = h
held_fits content.Pointer (pointer b o) h = h
held_fits (content.Integer k) (pointer b o) h = tt
held_fits (content.Integer k) (home b) h = tt
held_fits (content.Integer k) absent h = tt
held_fits content.Pointer (whole l t) h = tt
held_fits content.Pointer (any_integer t) h = tt
held_fits content.Pointer (home b) h = tt
held_fits content.Pointer absent h = tt
held_fits (content.Struct n) (whole l t) h = tt
held_fits (content.Struct n) (any_integer t) h = tt
held_fits (content.Struct n) (pointer b o) h = tt
held_fits (content.Struct n) (home b) h = tt
held_fits (content.Struct n) absent h = tt

pub read_fits : (c : Content) (s : Seen) (x : Terms) → SeenFits s → TermsFit x → TermsFit (encode.read c s x)
read_fits (content.Integer k) s (address b o) h e =
    on_one IsMemory (λ m. integer (Some k) (load m b o)) (s.numbers k) (h.numbers k) (λ m f. load_fits m b o f e.0 e.1)
read_fits (content.Integer k) s (variable x) h e = held_fits (content.Integer k) (s.variable x) (h.variables x)
read_fits content.Pointer s (address b o) h e =
    on_one (λ p. IsMemory p.block × IsMemory p.offset) (λ p. address (load p.block b o) (load p.offset b o)) s.pointers h.pointers
    (λ p f. (load_fits p.block b o f.0 e.0 e.1, load_fits p.offset b o f.1 e.0 e.1))
read_fits content.Pointer s (variable x) h e = held_fits content.Pointer (s.variable x) (h.variables x)
read_fits (content.Struct n) s (address b o) h e = e
read_fits (content.Integer k) s (integer l t) h e = tt
read_fits (content.Integer k) s (reading.truth f) h e = tt
read_fits (content.Integer k) s (elements b o n i j) h e = tt
read_fits (content.Integer k) s (region cells b i j) h e = tt
read_fits (content.Integer k) s nothing h e = tt
read_fits content.Pointer s (integer l t) h e = tt
read_fits content.Pointer s (reading.truth f) h e = tt
read_fits content.Pointer s (elements b o n i j) h e = tt
read_fits content.Pointer s (region cells b i j) h e = tt
read_fits content.Pointer s nothing h e = tt
read_fits (content.Struct m) s (variable x) h e = tt
read_fits (content.Struct m) s (integer l t) h e = tt
read_fits (content.Struct m) s (reading.truth f) h e = tt
read_fits (content.Struct m) s (elements b o n i j) h e = tt
read_fits (content.Struct m) s (region cells b i j) h e = tt
read_fits (content.Struct m) s nothing h e = tt

pub converted_fits : (m : Machdep) (k : Kind) (x : Terms) → TermsFit x → TermsFit (encode.converted m k x)
converted_fits m k (integer (Some l) t) h = if_fits (holds_all m k l) t (wrapped k t) h (wrapped_fits k t h)
converted_fits m k (integer None t) h = wrapped_fits k t h
converted_fits m k (reading.truth f) h = wrapped_fits k (truth_term f) (truth_fits f h)
converted_fits m k (address b o) h = tt
converted_fits m k (variable x) h = tt
converted_fits m k (elements b o n i j) h = tt
converted_fits m k (region cells b i j) h = tt
converted_fits m k nothing h = tt

pub either_fits : (x y : Terms) (c : Term) → IsFormula c → TermsFit x → TermsFit y → TermsFit (encode.either x y c)
either_fits (reading.truth f) (reading.truth g) c e h k = two_fit (imp_of c f) (imp_of (not_of c) g) (two_fit c f e h) (two_fit (not_of c) g (not_fits c e) k)
either_fits (reading.truth f) (integer l t) c e h k = ite_fits c (truth_term f) t e (truth_fits f h) k
either_fits (integer l t) (integer l' t') c e h k = ite_fits c t t' e h k
either_fits (integer l t) (reading.truth f) c e h k = ite_fits c t (truth_term f) e h (truth_fits f k)
either_fits (address b o) (address b' o') c e h k = (ite_fits c b b' e h.0 k.0, ite_fits c o o' e h.1 k.1)
either_fits (reading.truth f) (address b o) c e h k = tt
either_fits (reading.truth f) (variable x) c e h k = tt
either_fits (reading.truth f) (elements b o n i j) c e h k = tt
either_fits (reading.truth f) (region cells b i j) c e h k = tt
either_fits (reading.truth f) nothing c e h k = tt
either_fits (integer l t) (address b o) c e h k = tt
either_fits (integer l t) (variable x) c e h k = tt
either_fits (integer l t) (elements b o n i j) c e h k = tt
either_fits (integer l t) (region cells b i j) c e h k = tt
either_fits (integer l t) nothing c e h k = tt
either_fits (address b o) (integer l t) c e h k = tt
either_fits (address b o) (reading.truth f) c e h k = tt
either_fits (address b o) (variable x) c e h k = tt
either_fits (address b o) (elements b' o' n i j) c e h k = tt
either_fits (address b o) (region cells b' i j) c e h k = tt
either_fits (address b o) nothing c e h k = tt
either_fits (variable x) y c e h k = tt
either_fits (elements b o n i j) y c e h k = tt
either_fits (region cells b i j) y c e h k = tt
either_fits nothing y c e h k = tt

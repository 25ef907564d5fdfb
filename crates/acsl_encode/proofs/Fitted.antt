-- Formulas and terms of whole annotations are well formed.
use Rattle.std.proofs.Common.{◌≡◌, ℕ, zero, suc, ◌+◌, ◌==◌, Bool, true, false, ◌&&◌, List, [], ◌∷◌, ◌++◌, length, refl, subst}
use Rattle.std.specs.Prelude.{pos, ◌-◌, ◌+ℤ◌, Option, Some, None, if◌then◌else◌}
use Rattle.typed_prog.specs.declared.operators.Arithmetic.TheVariants as ar
use Rattle.typed_prog.specs.declared.operators.Comparison.TheVariants as cmp
use Rattle.c_kinds.specs.declared.models.Machdep.{Machdep}
use Rattle.c_kinds.specs.Models.{low, high}
use Rattle.acsl_trees.specs.declared.heads.Label.{Label}
use Rattle.acsl_trees.specs.declared.heads.Label.TheVariants as label
use Rattle.acsl_trees.specs.declared.heads.Range.{Range}
use Rattle.acsl_trees.specs.declared.heads.Range.TheVariants as range
use Rattle.acsl_trees.specs.declared.heads.Head.{Head}
use Rattle.acsl_trees.specs.declared.heads.Head.TheVariants as hd
use Rattle.acsl_trees.specs.Tree.{Tree, Trees, node, stop, more}
use Rattle.c_runs.specs.Truth.{heads_of}
use Rattle.qed_terms.specs.Tree.{Tree as Term, trees_of, num, var, and_of, or_of, imp_of, not_of}
use Rattle.qed_terms.specs.declared.head.TermOp.TheVariants as op
use Rattle.qed_terms.specs.declared.head.Head.{Head as TermHead}
use Rattle.qed_terms.specs.declared.head.Head.TheVariants as th
use Rattle.qed_terms.specs.Names.{is_name}
use Rattle.qed_terms.specs.WellFormed.{fits, all_fit, each, kid_count, int, tab, formula, argument}
use Rattle.acsl_encode.specs.Readings as reading
use Rattle.std.specs.Option.{option_map}
use Rattle.wp_base.specs.declared.kinds.Kind.{Kind}
use Rattle.wp_base.specs.declared.kinds.CellKind.{CellKind}
use Rattle.wp_base.specs.declared.kinds.CellKind.TheVariants as cell
use Rattle.c_kinds.specs.Conversions.{holds_all}
use Rattle.typed_prog.specs.declared.operators.Variable.TheVariants as variables
use Rattle.acsl_encode.specs.Readings.{Named, one, two, Global, integer_global, pointer_global, Called, Slot, Pointer, Terms, integer, nothing, Seen, Reading}
use Rattle.acsl_encode.specs.Readings.{seen_at, seen_in, moved_to}
use Rattle.acsl_encode.specs.Encode as encode
use Rattle.acsl_encode.specs.Encode.{put, all_put, comparison, pointer_comparison, iff_of, op_one, op_two, as_integer, as_pointer, as_formula, terms_at}
use Rattle.acsl_encode.specs.Encode.{unbounded, with_one, with_two, all_of, linked, all_linked, in_chain, Ends, ends_of, low_end, high_end, kind_of, over}
use Rattle.acsl_encode.specs.Encode.{quantified, Names, with_name, encoded, all_encoded, binders, no_names, terms_of, body_of}
use Rattle.acsl_encode.specs.WellFormed.{IsInt, IsMemory, IsTable, IsFormula, TermsFit, SlotFits, SeenFits, ReadingFits, FormulasFit}
use Rattle.acsl_encode.specs.Meaning.{Holds}
use Rattle.acsl_encode.proofs.Fitting.{only, all_three, number_fits, two_fit, not_fits, comparison_fits, arithmetic_fits, pointers_fit, further_fits}
use Rattle.acsl_encode.proofs.Fitting.{moved_fits, difference_fits, AllFormulas, all_of_fits, PointerFits, integer_fits, formula_fits, pointer_fits, on_one}
use Rattle.acsl_encode.proofs.Fitting.{on_two, variable_fits, read_fits, converted_fits, either_fits, times_fit}

-- ---- kids

abbrev pub AllFit : List Terms → Type 0
AllFit [] = Unit {0}
AllFit (x ∷ xs) = TermsFit x × AllFit xs

pub kid_fits : (xs : List Terms) (i : ℕ) → AllFit xs → TermsFit (terms_at xs i)
kid_fits [] i h = tt
kid_fits (x ∷ xs) zero h = h.0
kid_fits (x ∷ xs) (suc i) h = kid_fits xs i h.1

seen_fits : (l : Label) (r : Reading) → ReadingFits r → SeenFits (seen_at l r)
seen_fits label.Here r h = h.here
seen_fits label.Pre r h = h.pre
seen_fits label.Post r h = h.post
seen_fits label.LoopEntry r h = h.loop_entry

pub moved_reading : (l : Label) (r : Reading) → ReadingFits r → ReadingFits (moved_to l r)
moved_reading l r h = record {
  here = seen_fits l r h;
  pre = h.pre;
  post = h.post;
  loop_entry = h.loop_entry;
  result = h.result;
  binders = h.binders;
  called = h.called;
}

-- ---- heads

module _ (r : Reading) (good : ReadingFits r) (xs : List Terms) (h : AllFit xs) where
  integer_at : (i : ℕ) → Holds IsInt (as_integer (terms_at xs i))
  integer_at i = integer_fits (terms_at xs i) (kid_fits xs i h)

  formula_at : (i : ℕ) → Holds IsFormula (as_formula (terms_at xs i))
  formula_at i = formula_fits (terms_at xs i) (kid_fits xs i h)

  pointer_at : (i : ℕ) → Holds PointerFits (as_pointer (terms_at xs i))
  pointer_at i = pointer_fits (terms_at xs i) (kid_fits xs i h)

  on_integer : (f : Term → Term) → ((t : Term) → IsInt t → IsInt (f t)) → TermsFit (with_one (λ t. unbounded (f t)) (as_integer (terms_at xs 0)))
  on_integer f made = on_one IsInt (λ t. unbounded (f t)) (as_integer (terms_at xs 0)) (integer_at 0) made

  on_formulas : (f : Term → Term → Term) → ((a b : Term) → IsFormula a → IsFormula b → IsFormula (f a b))
      → TermsFit (with_two (λ a b. reading.truth (f a b)) (as_formula (terms_at xs 0)) (as_formula (terms_at xs 1)))
  on_formulas f made =
      on_two IsFormula IsFormula (λ a b. reading.truth (f a b)) (as_formula (terms_at xs 0)) (as_formula (terms_at xs 1)) (formula_at 0) (formula_at 1) made

  moved_at : (minus : Bool) (n : ℕ) → TermsFit (with_two (encode.moved minus n) (as_pointer (terms_at xs 0)) (as_integer (terms_at xs 1)))
  moved_at minus n = on_two PointerFits IsInt (encode.moved minus n) (as_pointer (terms_at xs 0)) (as_integer (terms_at xs 1)) (pointer_at 0) (integer_at 1)
      (moved_fits minus n)

  reached_fits : (n : ℕ) (o : Option Pointer) (i j : Option Term) → Holds PointerFits o → Holds IsInt i → Holds IsInt j → TermsFit (encode.reached n o i j)
  reached_fits n (Some p) (Some t) (Some u) a b c = (a.0, a.1, b, c)
  reached_fits n (Some p) (Some t) None a b c = tt
  reached_fits n (Some p) None j a b c = tt
  reached_fits n None i j a b c = tt

  reached_at : (n : ℕ) → TermsFit (encode.reached n (as_pointer (terms_at xs 0)) (as_integer (terms_at xs 1)) (as_integer (terms_at xs 2)))
  reached_at n = reached_fits n (as_pointer (terms_at xs 0)) (as_integer (terms_at xs 1)) (as_integer (terms_at xs 2)) (pointer_at 0) (integer_at 1)
      (integer_at 2)

  read_at : (c : _) (l : Option Label) → TermsFit (encode.read c (seen_in l r) (terms_at xs 0))
  read_at c None = read_fits c r.here (terms_at xs 0) good.here (kid_fits xs 0 h)
  read_at c (Some l) = read_fits c (seen_at l r) (terms_at xs 0) (seen_fits l r good) (kid_fits xs 0 h)

  applied_fits : (head : Head) → TermsFit (encode.applied r head xs)
  applied_fits (hd.Number z) = number_fits z
  applied_fits hd.Null = (number_fits (pos 0), number_fits (pos 0))
  applied_fits (hd.Name x) = tt
  applied_fits (hd.Call f) = tt
  applied_fits hd.Result = good.result
  applied_fits (hd.At l) = tt
  applied_fits (hd.Variable x) = variable_fits x (r.here.variable x) (good.here.variables x)
  applied_fits hd.Pointed = kid_fits xs 0 h
  applied_fits (hd.Field k n) =
      on_one PointerFits (λ p. reading.address p.block (encode.further n p.offset)) (as_pointer (terms_at xs 0)) (pointer_at 0)
      (λ p f. (f.0, further_fits n p.offset f.1))
  applied_fits (hd.Element n count) = moved_at false n
  applied_fits (hd.Elements n count) = reached_at n
  applied_fits (hd.Behind n) = reached_at n
  applied_fits (hd.Read c l) = read_at c l
  applied_fits hd.Address = kid_fits xs 0 h
  applied_fits (hd.Moved minus n) = moved_at minus n
  applied_fits (hd.Difference n) =
      on_two PointerFits PointerFits (λ p p'. unbounded (encode.difference n p p')) (as_pointer (terms_at xs 0)) (as_pointer (terms_at xs 1)) (pointer_at 0)
      (pointer_at 1)
      (difference_fits n)
  applied_fits hd.Negate = on_integer (op_one op.Neg) (λ t k. let e = only (fits int t) k.int in record { int = e; argument = e })
  applied_fits hd.Complement = on_integer (op_one op.BitNot) (λ t k. let e = only (fits int t) k.int in record { int = e; argument = e })
  applied_fits (hd.Arithmetic o) =
      on_two IsInt IsInt (λ t u. unbounded (op_two (encode.op_of o) t u)) (as_integer (terms_at xs 0)) (as_integer (terms_at xs 1)) (integer_at 0)
      (integer_at 1) (arithmetic_fits o)
  applied_fits (hd.Convert k) = converted_fits r.common.model k (terms_at xs 0) (kid_fits xs 0 h)
  applied_fits (hd.Compare c) =
      on_two IsInt IsInt (λ t u. reading.truth (comparison c t u)) (as_integer (terms_at xs 0)) (as_integer (terms_at xs 1)) (integer_at 0) (integer_at 1)
      (comparison_fits c)
  applied_fits (hd.ComparePointers c) =
      on_two PointerFits PointerFits (λ p p'. reading.truth (pointer_comparison c p p')) (as_pointer (terms_at xs 0)) (as_pointer (terms_at xs 1))
      (pointer_at 0) (pointer_at 1)
      (pointers_fit c)
  applied_fits hd.Not = on_one IsFormula (λ f. reading.truth (not_of f)) (as_formula (terms_at xs 0)) (formula_at 0) not_fits
  applied_fits hd.And = on_formulas (λ f g. and_of (f ∷ g ∷ [])) two_fit
  applied_fits hd.Or = on_formulas (λ f g. or_of (f ∷ g ∷ [])) two_fit
  applied_fits hd.Xor = on_formulas (λ f g. not_of (iff_of f g)) (λ f g k m. not_fits (iff_of f g) (two_fit f g k m))
  applied_fits hd.Implies = on_formulas imp_of two_fit
  applied_fits hd.Iff = on_formulas iff_of two_fit
  applied_fits hd.Choose =
      on_one IsFormula (encode.either (terms_at xs 1) (terms_at xs 2)) (as_formula (terms_at xs 0)) (formula_at 0)
      (λ c e. either_fits (terms_at xs 1) (terms_at xs 2) c e (kid_fits xs 1 h) (kid_fits xs 2 h))
  applied_fits hd.Chain = tt
  applied_fits (hd.Link c) = kid_fits xs 0 h
  applied_fits (hd.LinkPointers c) = kid_fits xs 0 h
  applied_fits hd.Let = tt
  applied_fits (hd.Every g) = tt
  applied_fits (hd.Some g) = tt
  applied_fits (hd.Valid c writable) = tt
  applied_fits hd.Separated = tt
  applied_fits (hd.Region c) = tt

-- ---- calls

abbrev IsGiven : Term → Type 0
IsGiven t = fits argument t ≡ true

abbrev AllGiven : List Term → Type 0
AllGiven [] = Unit {0}
AllGiven (t ∷ ts) = IsGiven t × AllGiven ts

all_given_both : (ts us : List Term) → AllGiven ts → AllGiven us → AllGiven (ts ++ us)
all_given_both [] us h k = k
all_given_both (t ∷ ts) us h k = (h.0, all_given_both ts us h.1 k)

put_given : (o o' : Option (List Term)) → Holds AllGiven o → Holds AllGiven o' → Holds AllGiven (put o o')
put_given (Some ts) (Some us) h k = all_given_both ts us h k
put_given (Some ts) None h k = tt
put_given None o' h k = tt

all_put_given : {X : Type 0} (f : X → Option (List Term)) (xs : List X) → ((x : X) → Holds AllGiven (f x)) → Holds AllGiven (all_put f xs)
all_put_given f [] h = tt
all_put_given f (x ∷ xs) h = put_given (f x) (all_put f xs) (h x) (all_put_given f xs h)

one_given : {X : Type 0} (p : X → Type 0) (f : X → List Term) (o : Option X) → Holds p o → ((x : X) → p x → AllGiven (f x)) → Holds AllGiven (option_map f o)
one_given p f (Some x) h made = made x h
one_given p f None h made = tt

argument_given : (p : Named) (x : Terms) → TermsFit x → Holds AllGiven (encode.argument p x)
argument_given (one n) x h = one_given IsInt (λ u. u ∷ []) (as_integer x) (integer_fits x h) (λ t f. (f.argument, tt))
argument_given (two b o) x h = one_given PointerFits encode.two_parts (as_pointer x) (pointer_fits x h) (λ p f. (f.0.argument, (f.1.argument, tt)))

arguments_given : (ps : List Named) (xs : List Terms) → AllFit xs → Holds AllGiven (encode.arguments ps xs)
arguments_given [] [] h = tt
arguments_given [] (x ∷ xs) h = tt
arguments_given (p ∷ ps) [] h = tt
arguments_given (p ∷ ps) (x ∷ xs) h = put_given (encode.argument p x) (encode.arguments ps xs) (argument_given p x h.0) (arguments_given ps xs h.1)

memory_given : (s : Seen) → SeenFits s → (k : CellKind) → Holds AllGiven (encode.memory_of s k)
memory_given s h (cell.Of k) = one_given IsMemory (λ m. m ∷ []) (s.numbers k) (h.numbers k) (λ m f. (f.argument, tt))
memory_given s h cell.Ptr = one_given (λ p. IsMemory p.block × IsMemory p.offset) encode.two_parts s.pointers h.pointers
    (λ p f. (f.0.argument, (f.1.argument, tt)))

integer_given : (m : Machdep) (k : Kind) (s : Slot) → SlotFits s → Holds AllGiven (encode.integer_of m k s)
integer_given m k (reading.whole l t) h = by (holds_all m k l)
  where
    by : (b : Bool) → Holds AllGiven (if b then Some (t ∷ []) else None)
    by true = (h.argument, tt)
    by false = tt
integer_given m k (reading.any_integer t) h = tt
integer_given m k (reading.pointer b o) h = tt
integer_given m k (reading.home b) h = tt
integer_given m k reading.absent h = tt

pointer_given : (s : Slot) → SlotFits s → Holds AllGiven (encode.pointer_in s)
pointer_given (reading.whole l t) h = tt
pointer_given (reading.any_integer t) h = tt
pointer_given (reading.pointer b o) h = (h.0.argument, (h.1.argument, tt))
pointer_given (reading.home b) h = tt
pointer_given reading.absent h = tt

global_given : (m : Machdep) (s : Seen) → SeenFits s → (g : Global) → Holds AllGiven (encode.global_of m s g)
global_given m s h (integer_global n k x) = integer_given m k (s.variable (variables.Global n)) (h.variables (variables.Global n))
global_given m s h (pointer_global n b o) = pointer_given (s.variable (variables.Global n)) (h.variables (variables.Global n))

all_given_fit : (ts : List Term) → AllGiven ts → all_fit (each argument (kid_count (trees_of ts))) (trees_of ts) ≡ true
all_given_fit [] h = refl
all_given_fit (t ∷ ts) h = let rest = all_given_fit ts h.1 in λ i. h.0 i && rest i

app_fits : (x : List ℕ) (ts : List Term) → is_name x ≡ true → AllGiven ts → IsInt (encode.app x ts)
app_fits x ts n h = let a = all_given_fit ts h in record { int = λ i. (n i && true) && a i; argument = λ i. (n i && true) && a i }

called_fits : (r : Reading) (f : Option Called) (xs : List Terms) → ReadingFits r → AllFit xs → Holds (λ c. is_name c.name ≡ true) f → TermsFit
    (encode.called r f xs)
called_fits r None xs good h n = tt
called_fits r (Some c) xs good h n =
    on_one AllGiven (λ ts. unbounded (encode.app c.name ts)) (encode.all_given r c xs)
    (put_given (encode.arguments c.params xs) _ (arguments_given c.params xs h)
    (put_given (all_put (encode.memory_of r.here) c.memories) (all_put (encode.global_of r.common.model r.here) c.globals)
    (all_put_given (encode.memory_of r.here) c.memories (memory_given r.here good.here))
    (all_put_given (encode.global_of r.common.model r.here) c.globals (global_given r.common.model r.here good.here))))
    (λ ts. app_fits c.name ts n)

if_there : {X : Type 0} (p : X → Type 0) (o : Option X) → ((x : X) → o ≡ Some x → p x) → Holds p o
if_there p (Some x) h = h x refl
if_there p None h = tt

-- ---- chains

both_there : (o : Option Term) (os : Option (List Term)) → Holds IsFormula o → Holds AllFormulas os → Holds AllFormulas (encode.both o os)
both_there (Some f) (Some fs) h k = (h, k)
both_there (Some f) None h k = tt
both_there None os h k = tt

compared : {X : Type 0} (p : X → Type 0) (f : X → X → Term) (o o' : Option X) → Holds p o → Holds p o' → ((x y : X) → p x → p y → IsFormula (f x y))
    → Holds IsFormula (encode.on_two f o o')
compared p f (Some x) (Some y) h k made = made x y h k
compared p f (Some x) None h k made = tt
compared p f None o' h k made = tt

link_fits : (l : Head) (x y : Terms) → TermsFit x → TermsFit y → Holds IsFormula (linked l x y)
link_fits (hd.Link c) x y h k = compared IsInt (comparison c) (as_integer x) (as_integer y) (integer_fits x h) (integer_fits y k) (comparison_fits c)
link_fits (hd.LinkPointers c) x y h k = compared PointerFits (pointer_comparison c) (as_pointer x) (as_pointer y) (pointer_fits x h) (pointer_fits y k)
    (pointers_fit c)
link_fits _ x y h k = tt

links_fit : (ls : List Head) (x : Terms) (ys : List Terms) → TermsFit x → AllFit ys → Holds AllFormulas (all_linked x ls ys)
links_fit [] x ys h k = tt
links_fit (l ∷ ls) x [] h k = tt
links_fit (l ∷ ls) x (y ∷ ys) h k = both_there (linked l x y) (all_linked y ls ys) (link_fits l x y h k.0) (links_fit ls y ys k.0 k.1)

chain_fits : (ls : List Head) (xs : List Terms) → AllFit xs → Holds AllFormulas (in_chain ls xs)
chain_fits [] xs h = tt
chain_fits (l ∷ ls) [] h = tt
chain_fits (l ∷ ls) (x ∷ xs) h = links_fit ls x xs h.0 h.1

-- ---- quantifiers

abbrev EndsFit : Ends → Type 0
EndsFit e = IsInt e.low × IsInt e.high

low_fits : (out : Bool) (t : Term) → IsInt t → IsInt (low_end out t)
low_fits true t h = arithmetic_fits ar.Add t (num (pos 1)) h (number_fits (pos 1))
low_fits false t h = h

high_fits : (out : Bool) (t : Term) → IsInt t → IsInt (high_end out t)
high_fits true t h = h
high_fits false t h = arithmetic_fits ar.Add t (num (pos 1)) h (number_fits (pos 1))

ends_fit : (m : Machdep) (g : Range) (xs : List Terms) → AllFit xs → Holds EndsFit (ends_of m g xs)
ends_fit m (range.Between p p' place) xs h = by (as_integer (terms_at xs 0)) (as_integer (terms_at xs 1)) (integer_fits (terms_at xs 0) (kid_fits xs 0 h))
    (integer_fits (terms_at xs 1) (kid_fits xs 1 h))
  where
    by : (o o' : Option Term) → Holds IsInt o → Holds IsInt o' → Holds EndsFit (encode.on_two (λ t u. record { low = low_end p t; high = high_end p' u }) o o')
    by (Some t) (Some u) h k = (low_fits p t h, high_fits p' u k)
    by (Some t) None h k = tt
    by None o' h k = tt
ends_fit m (range.Kind k place) xs h = (number_fits (low m k), number_fits (high m k +ℤ pos 1))

-- the head may stand for a formula, and binds a name
abbrev Quantifies : TermHead → Type 0
Quantifies q = (e : Ends) (f : Term) → EndsFit e → IsFormula f → IsFormula (over q e f)

quantified_fits : (q : TermHead) (o : Option Ends) (o' : Option Term) → Quantifies q → Holds EndsFit o → Holds IsFormula o' → TermsFit (quantified q o o')
quantified_fits q o o' made h k = on_two EndsFit IsFormula (λ e f. reading.truth (over q e f)) o o' h k (λ e f h k. made e f h k)

named : (b : Bool) → (b && true) ≡ true → b ≡ true
named true h = refl
named false h = h

forall_fits : (x : List ℕ) → IsInt (var x) → Quantifies (th.Forall x)
forall_fits x n e f h k = λ i. named _ n.int i && all_three (fits int e.low) (fits int e.high) (fits formula f) h.0.int h.1.int k i

exists_fits : (x : List ℕ) → IsInt (var x) → Quantifies (th.Exists x)
exists_fits x n e f h k = λ i. named _ n.int i && all_three (fits int e.low) (fits int e.high) (fits formula f) h.0.int h.1.int k i

-- ---- cells that may be read or written

cell_fits : (writable : Bool) (k : CellKind) (t b o : Term) → IsTable t → IsInt b → IsInt o → IsFormula (encode.good_cell writable k t b o)
cell_fits true k t b o h a e = all_three (fits tab t) (fits int b) (fits int o) h a.int e.int
cell_fits false k t b o h a e = all_three (fits tab t) (fits int b) (fits int o) h a.int e.int

cells_fit : (writable : Bool) (t b o : Term) (ks : List CellKind) (n : ℕ) → IsTable t → IsInt b → IsInt o → AllFormulas (encode.good_cells writable t b o ks n)
cells_fit writable t b o [] n h a e = tt
cells_fit writable t b o (k ∷ ks) n h a e = (cell_fits writable k t b (encode.further n o) h a (further_fits n o e), cells_fit writable t b o ks (suc n) h a e)

valid_fits : (x : List ℕ) (writable : Bool) (ks : List CellKind) (o : Option Term) (y : Terms) → IsInt (var x) → Holds IsTable o → TermsFit y → TermsFit
    (encode.valid x writable ks o y)
valid_fits x writable ks o (reading.address b e) n h k =
    on_one IsTable (λ t. reading.truth (all_of (encode.good_cells writable t b e ks 0))) o h
    (λ t f. all_of_fits (encode.good_cells writable t b e ks 0) (cells_fit writable t b e ks 0 f k.0 k.1))
valid_fits x writable ks o (reading.elements b e size low high) n h k =
    on_one IsTable (λ t. reading.truth (over (th.Forall x) (record { low = low; high = encode.one_more high }) (all_of (cells t)))) o h
    (λ t f. forall_fits x n (record { low = low; high = encode.one_more high }) (all_of (cells t)) (k.2, high_fits false high k.3)
    (all_of_fits (cells t) (cells_fit writable t b (encode.element_at e size (var x)) ks 0 f k.0 place)))
  where
    cells : Term → List Term
    cells t = encode.good_cells writable t b (encode.element_at e size (var x)) ks 0

    place : IsInt (encode.element_at e size (var x))
    place = arithmetic_fits ar.Add e (encode.times size (var x)) k.1 (times_fit size (var x) n)
valid_fits x writable ks o (integer l t) n h k = tt
valid_fits x writable ks o (reading.truth f) n h k = tt
valid_fits x writable ks o (reading.variable y) n h k = tt
valid_fits x writable ks o (reading.region cells b i j) n h k = tt
valid_fits x writable ks o nothing n h k = tt

-- ---- regions

if_terms : (b : Bool) (x : Terms) → TermsFit x → TermsFit (if b then x else nothing)
if_terms true x h = h
if_terms false x h = tt

place_fits : (o : Term) (size : ℕ) (t : Term) → IsInt o → IsInt t → IsInt (encode.element_at o size t)
place_fits o size t h k = arithmetic_fits ar.Add o (encode.times size t) h (times_fit size t k)

region_fits : (ks : List CellKind) (x : Terms) → TermsFit x → TermsFit (encode.region_of ks x)
region_fits ks (reading.address b o) h = (h.0, h.1, further_fits (length ks) o h.1)
region_fits ks (reading.elements b o size low high) h =
    if_terms (size == length ks) (reading.region ks b (encode.element_at o size low) (encode.element_at o size (encode.one_more high)))
    (h.0, place_fits o size low h.1 h.2, place_fits o size (encode.one_more high) h.1 (high_fits false high h.3))
region_fits ks (integer k t) h = tt
region_fits ks (reading.truth f) h = tt
region_fits ks (reading.variable y) h = tt
region_fits ks (reading.region cells b i j) h = tt
region_fits ks nothing h = tt

apart_by_fits : (b i j c k l : Term) → IsInt b → IsInt i → IsInt j → IsInt c → IsInt k → IsInt l → IsFormula (encode.apart_by b i j c k l)
apart_by_fits b i j c k l hb hi hj hc hk hl =
    let e1 = not_fits (comparison cmp.Equal b c) (comparison_fits cmp.Equal b c hb hc) in
    let e2 = comparison_fits cmp.AtMost j k hj hk in
    let e3 = comparison_fits cmp.AtMost l i hl hi in
    let e4 = comparison_fits cmp.AtMost j i hj hi in
    let e5 = comparison_fits cmp.AtMost l k hl hk in
    λ z. e1 z && (e2 z && (e3 z && (e4 z && (e5 z && true))))

apart_fits : (x y : Terms) → TermsFit x → TermsFit y → Holds IsFormula (encode.apart x y)
apart_fits (reading.region ks b i j) (reading.region ls c k l) h e = apart_by_fits b i j c k l h.0 h.1 h.2 e.0 e.1 e.2
apart_fits (reading.region ks b i j) (integer k t) h e = tt
apart_fits (reading.region ks b i j) (reading.truth f) h e = tt
apart_fits (reading.region ks b i j) (reading.address c o) h e = tt
apart_fits (reading.region ks b i j) (reading.variable y) h e = tt
apart_fits (reading.region ks b i j) (reading.elements c o n k l) h e = tt
apart_fits (reading.region ks b i j) nothing h e = tt
apart_fits (integer k t) y h e = tt
apart_fits (reading.truth f) y h e = tt
apart_fits (reading.address b o) y h e = tt
apart_fits (reading.variable x) y h e = tt
apart_fits (reading.elements b o n i j) y h e = tt
apart_fits nothing y h e = tt

apart_all_fit : (x : Terms) (ys : List Terms) → TermsFit x → AllFit ys → Holds AllFormulas (encode.apart_all x ys)
apart_all_fit x [] h k = tt
apart_all_fit x (y ∷ ys) h k = both_there (encode.apart x y) (encode.apart_all x ys) (apart_fits x y h k.0) (apart_all_fit x ys h k.1)

put_formulas : (o o' : Option (List Term)) → Holds AllFormulas o → Holds AllFormulas o' → Holds AllFormulas (put o o')
put_formulas (Some fs) (Some gs) h k = all_formulas fs gs h k
  where
    all_formulas : (fs gs : List Term) → AllFormulas fs → AllFormulas gs → AllFormulas (fs ++ gs)
    all_formulas [] gs h k = k
    all_formulas (f ∷ fs) gs h k = (h.0, all_formulas fs gs h.1 k)
put_formulas (Some fs) None h k = tt
put_formulas None o' h k = tt

pairs_fit : (xs : List Terms) → AllFit xs → Holds AllFormulas (encode.pairs_apart xs)
pairs_fit [] h = tt
pairs_fit (x ∷ xs) h = put_formulas (encode.apart_all x xs) (encode.pairs_apart xs) (apart_all_fit x xs h.0 h.1) (pairs_fit xs h.1)

-- ---- trees

abbrev pub NamesFit : Names → Type 0
NamesFit ns = (x : ℕ) → TermsFit (ns x)

pub named_fits : (d : ℕ) (t : Terms) (ns : Names) → TermsFit t → NamesFit ns → NamesFit (with_name d t ns)
named_fits d t ns h k y = by (y == d)
  where
    by : (b : Bool) → TermsFit (if b then t else ns y)
    by true = h
    by false = k y

abbrev pub KidsFit : Trees → Type 0
KidsFit ks = (r : Reading) (ns : Names) (i d : ℕ) → ReadingFits r → NamesFit ns → AllFit (all_encoded r ns i d ks)

let_fits : (ks : Trees) → KidsFit ks → (r : Reading) (ns : Names) (i d : ℕ) → ReadingFits r → NamesFit ns → TermsFit (encoded r ns i d (node hd.Let ks))
let_fits ks h r ns i d good k =
    let first = terms_at (all_encoded r ns i d ks) 0 in
    let inside = with_name d first ns in
    let xs = all_encoded r inside i (suc d) ks in
    kid_fits xs (length xs - 1) (h r inside i (suc d) good (named_fits d first ns (kid_fits (all_encoded r ns i d ks) 0 (h r ns i d good k)) k))

body_fits : (g : Range) (ks : Trees) → KidsFit ks → (r : Reading) (ns : Names) (i d : ℕ) → ReadingFits r → NamesFit ns
    → Holds IsFormula (as_formula (body_of (λ r' ns' i' d'. all_encoded r' ns' i' d' ks) r ns i d g))
body_fits g ks h r ns i d good k =
    let inside = with_name d (integer (kind_of g) (var (r.common.binder i))) ns in
    let xs = all_encoded r inside (suc i) (suc d) ks in
    formula_fits (encode.last_of xs) (kid_fits xs (length xs - 1) (h r inside (suc i) (suc d) good
    (named_fits d (integer (kind_of g) (var (r.common.binder i))) ns (good.binders i) k)))

mutual
  pub tree_fits : (t : Tree) (r : Reading) (ns : Names) (i d : ℕ) → ReadingFits r → NamesFit ns → TermsFit (encoded r ns i d t)
  tree_fits (node (hd.Name x) ks) r ns i d good k = k x
  tree_fits (node (hd.Call f) ks) r ns i d good k =
      called_fits r (r.called f) (all_encoded r ns i d ks) good (trees_fit ks r ns i d good k)
      (if_there (λ c. is_name c.name ≡ true) (r.called f) (good.called f))
  tree_fits (node (hd.At l) ks) r ns i d good k =
      kid_fits (all_encoded (moved_to l r) ns i d ks) 0 (trees_fit ks (moved_to l r) ns i d (moved_reading l r good) k)
  tree_fits (node hd.Let ks) r ns i d good k = let_fits ks (trees_fit ks) r ns i d good k
  tree_fits (node (hd.Every g) ks) r ns i d good k =
      quantified_fits (th.Forall (r.common.binder i)) (ends_of r.common.model g (all_encoded r ns (suc i) d ks)) _
      (forall_fits (r.common.binder i) (good.binders i))
      (ends_fit r.common.model g (all_encoded r ns (suc i) d ks) (trees_fit ks r ns (suc i) d good k)) (body_fits g ks (trees_fit ks) r ns i d good k)
  tree_fits (node (hd.Some g) ks) r ns i d good k =
      quantified_fits (th.Exists (r.common.binder i)) (ends_of r.common.model g (all_encoded r ns (suc i) d ks)) _
      (exists_fits (r.common.binder i) (good.binders i))
      (ends_fit r.common.model g (all_encoded r ns (suc i) d ks) (trees_fit ks r ns (suc i) d good k)) (body_fits g ks (trees_fit ks) r ns i d good k)
  tree_fits (node hd.Chain ks) r ns i d good k =
      on_one AllFormulas (λ fs. reading.truth (all_of fs)) (in_chain (heads_of ks) (all_encoded r ns i d ks))
      (chain_fits (heads_of ks) (all_encoded r ns i d ks) (trees_fit ks r ns i d good k)) all_of_fits
  tree_fits (node (hd.Valid c writable) ks) r ns i d good k =
      let at = i + encode.own_binders (hd.Valid c writable) (heads_of ks) in
      valid_fits (r.common.binder i) writable (encode.content_cells r.common c) r.here.table (terms_at (all_encoded r ns at d ks) 0)
      (good.binders i) good.here.table
      (kid_fits (all_encoded r ns at d ks) 0 (trees_fit ks r ns at d good k))
  tree_fits (node hd.Separated ks) r ns i d good k =
      on_one AllFormulas (λ fs. reading.truth (all_of fs)) (encode.pairs_apart (all_encoded r ns i d ks))
      (pairs_fit (all_encoded r ns i d ks) (trees_fit ks r ns i d good k)) all_of_fits
  tree_fits (node (hd.Region c) ks) r ns i d good k =
      region_fits (encode.content_cells r.common c) (terms_at (all_encoded r ns i d ks) 0) (kid_fits (all_encoded r ns i d ks) 0 (trees_fit ks r ns i d good k))
  tree_fits (node head ks) r ns i d good k = applied_fits r good (all_encoded r ns i d ks) (trees_fit ks r ns i d good k) head

  pub trees_fit : (ts : Trees) → KidsFit ts
  trees_fit stop r ns i d good k = tt
  trees_fit (more t ts) r ns i d good k = (tree_fits t r ns i d good k, trees_fit ts r ns (i + binders t) d good k)

there : {X : Type 0} (p : X → Type 0) (o : Option X) (x : X) → Holds p o → o ≡ Some x → p x
there p o x h e = subst (Holds p) e h

pub formulas_fit : FormulasFit
formulas_fit r t good =
    let fit = tree_fits t r no_names 0 0 good (λ x. tt) in
    record {
      formula = λ f e. there IsFormula (as_formula (terms_of r t)) f (formula_fits (terms_of r t) fit) e;
      number = λ u e. there IsInt (as_integer (terms_of r t)) u (integer_fits (terms_of r t) fit) e;
      pointer = λ p e. there PointerFits (as_pointer (terms_of r t)) p (pointer_fits (terms_of r t) fit) e;
    }

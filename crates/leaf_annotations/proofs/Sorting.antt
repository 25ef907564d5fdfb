-- What stands for a tree is of its sort where the terms of the reading are.
use Rattle.std.proofs.Common.{ℕ, zero, suc, ◌+◌, ◌-◌, ◌==◌, Bool, true, false, if◌then◌else◌, List, [], ◌∷◌, length, refl}
use Rattle.std.specs.Prelude.{Option, Some, None}
use Rattle.wp_base.specs.declared.kinds.Kind.{Kind}
use Rattle.wp_base.specs.declared.kinds.Kind.TheVariants as kind
use Rattle.wp_base.specs.declared.kinds.CellKind.{CellKind}
use Rattle.c_kinds.specs.declared.models.Machdep.{Machdep}
use Rattle.c_kinds.specs.Conversions.{holds_all}
use Rattle.typed_prog.specs.declared.operators.Variable.{Variable}
use Rattle.typed_prog.specs.declared.operators.Arithmetic.{Arithmetic}
use Rattle.typed_prog.specs.declared.operators.Arithmetic.TheVariants as ar
use Rattle.acsl_trees.specs.declared.heads.Content.{Content}
use Rattle.acsl_trees.specs.declared.heads.Content.TheVariants as content
use Rattle.acsl_trees.specs.declared.heads.Label.{Label}
use Rattle.acsl_trees.specs.declared.heads.Label.TheVariants as label
use Rattle.acsl_trees.specs.declared.heads.Head.{Head}
use Rattle.acsl_trees.specs.declared.heads.Head.TheVariants as hd
use Rattle.acsl_trees.specs.Tree.{Tree, Trees, node, stop, more}
use Rattle.c_runs.specs.Truth.{heads_of}
use Rattle.qed_terms.specs.Tree.{Tree as Term, ite, not_of, and_of, or_of, imp_of}
use Rattle.qed_terms.specs.declared.head.TermOp.TheVariants as op
use Rattle.qed_terms.specs.declared.head.Head.TheVariants as th
use Rattle.acsl_encode.specs.Readings as reading
use Rattle.acsl_encode.specs.Readings.{Called, Slot, Pointer, Terms, integer, nothing, Seen, Reading, seen_at, seen_in, moved_to}
use Rattle.acsl_encode.specs.Encode as encode
use Rattle.acsl_encode.specs.Encode.{op_two, as_integer, as_pointer, terms_at, unbounded, with_one, with_two, Names, with_name, encoded, all_encoded, binders}
use Rattle.acsl_encode.specs.Meaning.{Holds}
use Rattle.leaf_annotations.specs.Sorted.{IsNumber, PointerSorted, TermsSorted, SlotSorted, SeenSorted, ReadingSorted}

-- ---- kids

abbrev pub AllSorted : List Terms → Type 0
AllSorted [] = Unit {0}
AllSorted (x ∷ xs) = TermsSorted x × AllSorted xs

pub kid_sorted : (xs : List Terms) (i : ℕ) → AllSorted xs → TermsSorted (terms_at xs i)
kid_sorted [] i h = tt
kid_sorted (x ∷ xs) zero h = h.0
kid_sorted (x ∷ xs) (suc i) h = kid_sorted xs i h.1

seen_sorted : (l : Label) (r : Reading) → ReadingSorted r → SeenSorted (seen_at l r)
seen_sorted label.Here r h = h.here
seen_sorted label.Pre r h = h.pre
seen_sorted label.Post r h = h.post
seen_sorted label.LoopEntry r h = h.loop_entry

in_state : (l : Option Label) (r : Reading) → ReadingSorted r → SeenSorted (seen_in l r)
in_state None r h = h.here
in_state (Some l) r h = seen_sorted l r h

pub moved_reading : (l : Label) (r : Reading) → ReadingSorted r → ReadingSorted (moved_to l r)
moved_reading l r h = record { here = seen_sorted l r h; pre = h.pre; post = h.post; loop_entry = h.loop_entry; result = h.result }

-- ---- operands

pub integer_sorted : (x : Terms) → TermsSorted x → Holds IsNumber (as_integer x)
integer_sorted (integer k t) h = h
integer_sorted (reading.truth f) h = λ q env. refl
integer_sorted x h = tt

pub pointer_sorted : (x : Terms) → TermsSorted x → Holds PointerSorted (as_pointer x)
pointer_sorted (reading.address b o) h = h
pointer_sorted x h = tt

abbrev Any : {X : Type 0} → X → Type 0
Any x = Unit {0}

any_holds : {X : Type 0} (o : Option X) → Holds Any o
any_holds (Some x) = tt
any_holds None = tt

one_sorted : {X : Type 0} (p : X → Type 0) (f : X → Terms) (o : Option X) → Holds p o → ((x : X) → p x → TermsSorted (f x)) → TermsSorted (with_one f o)
one_sorted p f (Some x) h made = made x h
one_sorted p f None h made = tt

two_sorted : {X Y : Type 0} (p : X → Type 0) (p' : Y → Type 0) (f : X → Y → Terms) (o : Option X) (o' : Option Y) → Holds p o → Holds p' o'
    → ((x : X) (y : Y) → p x → p' y → TermsSorted (f x y)) → TermsSorted (with_two f o o')
two_sorted p p' f (Some x) (Some y) h k made = made x y h k
two_sorted p p' f (Some x) None h k made = tt
two_sorted p p' f None o' h k made = tt

-- whatever there is, it is sorted
any_one : {X : Type 0} (f : X → Terms) (o : Option X) → ((x : X) → TermsSorted (f x)) → TermsSorted (with_one f o)
any_one f o made = one_sorted Any f o (any_holds o) (λ x h. made x)

any_two : {X Y : Type 0} (f : X → Y → Terms) (o : Option X) (o' : Option Y) → ((x : X) (y : Y) → TermsSorted (f x y)) → TermsSorted (with_two f o o')
any_two f o o' made = two_sorted Any Any f o o' (any_holds o) (any_holds o') (λ x y h k. made x y)

-- ---- nodes

if_number : (b : Bool) (t u : Term) → IsNumber t → IsNumber u → IsNumber (if b then t else u)
if_number true t u h k = h
if_number false t u h k = k

further_number : (n : ℕ) (o : Term) → IsNumber o → IsNumber (encode.further n o)
further_number zero o h = h
further_number (suc n) o h = λ q env. refl

moved_sorted : (minus : Bool) (size : ℕ) (p : Pointer) (t : Term) → PointerSorted p → TermsSorted (encode.moved minus size p t)
moved_sorted true size p t h = (h.0, λ q env. refl)
moved_sorted false size p t h = (h.0, λ q env. refl)

arithmetic_number : (o : Arithmetic) (t u : Term) → IsNumber (op_two (encode.op_of o) t u)
arithmetic_number ar.Mul t u = λ q env. refl
arithmetic_number ar.Div t u = λ q env. refl
arithmetic_number ar.Rem t u = λ q env. refl
arithmetic_number ar.Add t u = λ q env. refl
arithmetic_number ar.Sub t u = λ q env. refl
arithmetic_number ar.Shl t u = λ q env. refl
arithmetic_number ar.Shr t u = λ q env. refl
arithmetic_number ar.And t u = λ q env. refl
arithmetic_number ar.Xor t u = λ q env. refl
arithmetic_number ar.Or t u = λ q env. refl

wrapped_number : (k : Kind) (t : Term) → IsNumber (encode.wrapped k t)
wrapped_number kind.Bool t = λ q env. refl
wrapped_number k t = λ q env. refl

converted_sorted : (m : Machdep) (k : Kind) (x : Terms) → TermsSorted x → TermsSorted (encode.converted m k x)
converted_sorted m k (integer (Some l) t) h = if_number (holds_all m k l) t (encode.wrapped k t) h (wrapped_number k t)
converted_sorted m k (integer None t) h = wrapped_number k t
converted_sorted m k (reading.truth f) h = wrapped_number k (encode.truth_term f)
converted_sorted m k x h = tt

either_sorted : (x y : Terms) (c : Term) → TermsSorted (encode.either x y c)
either_sorted (integer k t) y c = any_one (λ u. unbounded (ite c t u)) (as_integer y) (λ u q env. refl)
either_sorted (reading.truth f) (reading.truth g) c = tt
either_sorted (reading.truth f) (integer k u) c = λ q env. refl
either_sorted (reading.truth f) y c = tt
either_sorted (reading.address b o) (reading.address b' o') c = ((λ q env. refl), (λ q env. refl))
either_sorted (reading.address b o) y c = tt
either_sorted x y c = tt

variable_sorted : (x : Variable) (s : Slot) → SlotSorted s → TermsSorted (encode.of_variable x s)
variable_sorted x (reading.home b) h = (h, λ q env. refl)
variable_sorted x s h = tt

held_sorted : (c : Content) (s : Slot) → SlotSorted s → TermsSorted (encode.held c s)
held_sorted (content.Integer k) (reading.whole l t) h = h
held_sorted (content.Integer k) (reading.any_integer t) h = h
held_sorted content.Pointer (reading.pointer b o) h = h
held_sorted c s h = tt

read_sorted : (c : Content) (s : Seen) (x : Terms) → SeenSorted s → TermsSorted x → TermsSorted (encode.read c s x)
read_sorted (content.Integer k) s (reading.address b o) h e = any_one (λ m. integer (Some k) (encode.load m b o)) (s.numbers k) (λ m q env. refl)
read_sorted (content.Integer k) s (reading.variable x) h e = held_sorted (content.Integer k) (s.variable x) (h.variables x)
read_sorted content.Pointer s (reading.address b o) h e =
    any_one (λ (p : Pointer). reading.address (encode.load p.block b o) (encode.load p.offset b o)) s.pointers (λ p. ((λ q env. refl), (λ q env. refl)))
read_sorted content.Pointer s (reading.variable x) h e = held_sorted content.Pointer (s.variable x) (h.variables x)
read_sorted (content.Struct n) s (reading.address b o) h e = e
read_sorted c s x h e = tt

reached_sorted : (size : ℕ) (o : Option Pointer) (i j : Option Term) → TermsSorted (encode.reached size o i j)
reached_sorted size (Some p) i j = any_two (reading.elements p.block p.offset size) i j (λ t u. tt)
reached_sorted size None i j = tt

valid_sorted : (x : List ℕ) (writable : Bool) (ks : List CellKind) (table : Option Term) (y : Terms) → TermsSorted (encode.valid x writable ks table y)
valid_sorted x writable ks (Some t) (reading.address b o) = tt
valid_sorted x writable ks (Some t) (reading.elements b o n low high) = tt
valid_sorted x writable ks None (reading.address b o) = tt
valid_sorted x writable ks None (reading.elements b o n low high) = tt
valid_sorted x writable ks table y = tt

if_sorted : (b : Bool) (x : Terms) → TermsSorted x → TermsSorted (if b then x else nothing)
if_sorted true x h = h
if_sorted false x h = tt

region_sorted : (ks : List CellKind) (x : Terms) → TermsSorted (encode.region_of ks x)
region_sorted ks (reading.address b o) = tt
region_sorted ks (reading.elements b o size low high) =
    if_sorted (size == length ks) (reading.region ks b (encode.element_at o size low) (encode.element_at o size (encode.one_more high))) tt
region_sorted ks x = tt

applied_sorted : (r : Reading) → ReadingSorted r → (xs : List Terms) → AllSorted xs → (h : Head) → TermsSorted (encode.applied r h xs)
applied_sorted r good xs a (hd.Number z) = λ q env. refl
applied_sorted r good xs a hd.Null = ((λ q env. refl), (λ q env. refl))
applied_sorted r good xs a hd.Result = good.result
applied_sorted r good xs a (hd.Variable x) = variable_sorted x (r.here.variable x) (good.here.variables x)
applied_sorted r good xs a hd.Pointed = kid_sorted xs 0 a
applied_sorted r good xs a (hd.Field k offset) =
    one_sorted PointerSorted (λ p. reading.address p.block (encode.further offset p.offset)) (as_pointer (terms_at xs 0)) (pointer_sorted (terms_at xs 0) (kid_sorted xs 0 a))
    (λ p h. (h.0, further_number offset p.offset h.1))
applied_sorted r good xs a (hd.Element size count) =
    two_sorted PointerSorted Any (encode.moved false size) (as_pointer (terms_at xs 0)) (as_integer (terms_at xs 1)) (pointer_sorted (terms_at xs 0) (kid_sorted xs 0 a))
    (any_holds (as_integer (terms_at xs 1))) (λ p t h k. moved_sorted false size p t h)
applied_sorted r good xs a (hd.Elements size count) = reached_sorted size (as_pointer (terms_at xs 0)) (as_integer (terms_at xs 1)) (as_integer (terms_at xs 2))
applied_sorted r good xs a (hd.Behind size) = reached_sorted size (as_pointer (terms_at xs 0)) (as_integer (terms_at xs 1)) (as_integer (terms_at xs 2))
applied_sorted r good xs a (hd.Read c l) = read_sorted c (seen_in l r) (terms_at xs 0) (in_state l r good) (kid_sorted xs 0 a)
applied_sorted r good xs a hd.Address = kid_sorted xs 0 a
applied_sorted r good xs a (hd.Moved minus size) =
    two_sorted PointerSorted Any (encode.moved minus size) (as_pointer (terms_at xs 0)) (as_integer (terms_at xs 1)) (pointer_sorted (terms_at xs 0) (kid_sorted xs 0 a))
    (any_holds (as_integer (terms_at xs 1))) (λ p t h k. moved_sorted minus size p t h)
applied_sorted r good xs a (hd.Difference size) =
    any_two (λ p p'. unbounded (encode.difference size p p')) (as_pointer (terms_at xs 0)) (as_pointer (terms_at xs 1))
    (λ p p'. if_number (size == 1) _ _ (λ q env. refl) (λ q env. refl))
applied_sorted r good xs a hd.Negate = any_one (λ t. unbounded (encode.op_one op.Neg t)) (as_integer (terms_at xs 0)) (λ t q env. refl)
applied_sorted r good xs a hd.Complement = any_one (λ t. unbounded (encode.op_one op.BitNot t)) (as_integer (terms_at xs 0)) (λ t q env. refl)
applied_sorted r good xs a (hd.Arithmetic o) =
    any_two (λ t u. unbounded (op_two (encode.op_of o) t u)) (as_integer (terms_at xs 0)) (as_integer (terms_at xs 1)) (λ t u. arithmetic_number o t u)
applied_sorted r good xs a (hd.Convert k) = converted_sorted r.common.model k (terms_at xs 0) (kid_sorted xs 0 a)
applied_sorted r good xs a (hd.Compare c) = any_two (λ t u. reading.truth (encode.comparison c t u)) (as_integer (terms_at xs 0)) (as_integer (terms_at xs 1)) (λ t u. tt)
applied_sorted r good xs a (hd.ComparePointers c) =
    any_two (λ p p'. reading.truth (encode.pointer_comparison c p p')) (as_pointer (terms_at xs 0)) (as_pointer (terms_at xs 1)) (λ p p'. tt)
applied_sorted r good xs a hd.Not = any_one (λ f. reading.truth (not_of f)) (encode.as_formula (terms_at xs 0)) (λ f. tt)
applied_sorted r good xs a hd.And = any_two (λ f g. reading.truth (and_of (f ∷ g ∷ []))) (encode.as_formula (terms_at xs 0)) (encode.as_formula (terms_at xs 1)) (λ f g. tt)
applied_sorted r good xs a hd.Or = any_two (λ f g. reading.truth (or_of (f ∷ g ∷ []))) (encode.as_formula (terms_at xs 0)) (encode.as_formula (terms_at xs 1)) (λ f g. tt)
applied_sorted r good xs a hd.Xor = any_two (λ f g. reading.truth (not_of (encode.iff_of f g))) (encode.as_formula (terms_at xs 0)) (encode.as_formula (terms_at xs 1)) (λ f g. tt)
applied_sorted r good xs a hd.Implies = any_two (λ f g. reading.truth (imp_of f g)) (encode.as_formula (terms_at xs 0)) (encode.as_formula (terms_at xs 1)) (λ f g. tt)
applied_sorted r good xs a hd.Iff = any_two (λ f g. reading.truth (encode.iff_of f g)) (encode.as_formula (terms_at xs 0)) (encode.as_formula (terms_at xs 1)) (λ f g. tt)
applied_sorted r good xs a hd.Choose = any_one (encode.either (terms_at xs 1) (terms_at xs 2)) (encode.as_formula (terms_at xs 0)) (λ c. either_sorted (terms_at xs 1) (terms_at xs 2) c)
applied_sorted r good xs a (hd.Link c) = kid_sorted xs 0 a
applied_sorted r good xs a (hd.LinkPointers c) = kid_sorted xs 0 a
applied_sorted r good xs a head = tt

-- ---- trees

abbrev pub NamesSorted : Names → Type 0
NamesSorted ns = (x : ℕ) → TermsSorted (ns x)

pub named_sorted : (d : ℕ) (t : Terms) (ns : Names) → TermsSorted t → NamesSorted ns → NamesSorted (with_name d t ns)
named_sorted d t ns h k y = by (y == d)
  where
    by : (b : Bool) → TermsSorted (if b then t else ns y)
    by true = h
    by false = k y

called_sorted : (r : Reading) (f : Option Called) (xs : List Terms) → TermsSorted (encode.called r f xs)
called_sorted r None xs = tt
called_sorted r (Some c) xs = any_one (λ ts. unbounded (encode.app c.name ts)) (encode.all_given r c xs) (λ ts q env. refl)

mutual
  pub tree_sorted : (t : Tree) (r : Reading) (ns : Names) (i d : ℕ) → ReadingSorted r → NamesSorted ns → TermsSorted (encoded r ns i d t)
  tree_sorted (node (hd.Name x) ks) r ns i d good k = k x
  tree_sorted (node (hd.Call f) ks) r ns i d good k = called_sorted r (r.called f) (all_encoded r ns i d ks)
  tree_sorted (node (hd.At l) ks) r ns i d good k =
      kid_sorted (all_encoded (moved_to l r) ns i d ks) 0 (trees_sorted ks (moved_to l r) ns i d (moved_reading l r good) k)
  tree_sorted (node hd.Let ks) r ns i d good k =
      let first = terms_at (all_encoded r ns i d ks) 0 in
      let inside = with_name d first ns in
      let xs = all_encoded r inside i (suc d) ks in
      kid_sorted xs (length xs - 1)
      (trees_sorted ks r inside i (suc d) good (named_sorted d first ns (kid_sorted (all_encoded r ns i d ks) 0 (trees_sorted ks r ns i d good k)) k))
  tree_sorted (node (hd.Every g) ks) r ns i d good k =
      any_two (λ e f. reading.truth (encode.over (th.Forall (r.common.binder i)) e f)) (encode.ends_of r.common.model g (all_encoded r ns (suc i) d ks)) _ (λ e f. tt)
  tree_sorted (node (hd.Some g) ks) r ns i d good k =
      any_two (λ e f. reading.truth (encode.over (th.Exists (r.common.binder i)) e f)) (encode.ends_of r.common.model g (all_encoded r ns (suc i) d ks)) _ (λ e f. tt)
  tree_sorted (node hd.Chain ks) r ns i d good k =
      any_one (λ fs. reading.truth (encode.all_of fs)) (encode.in_chain (heads_of ks) (all_encoded r ns i d ks)) (λ fs. tt)
  tree_sorted (node (hd.Valid c writable) ks) r ns i d good k =
      let at = i + encode.own_binders (hd.Valid c writable) (heads_of ks) in
      valid_sorted (r.common.binder i) writable (encode.content_cells r.common c) r.here.table (terms_at (all_encoded r ns at d ks) 0)
  tree_sorted (node hd.Separated ks) r ns i d good k =
      any_one (λ fs. reading.truth (encode.all_of fs)) (encode.pairs_apart (all_encoded r ns i d ks)) (λ fs. tt)
  tree_sorted (node (hd.Region c) ks) r ns i d good k = region_sorted (encode.content_cells r.common c) (terms_at (all_encoded r ns i d ks) 0)
  tree_sorted (node head ks) r ns i d good k = applied_sorted r good (all_encoded r ns i d ks) (trees_sorted ks r ns i d good k) head

  pub trees_sorted : (ts : Trees) (r : Reading) (ns : Names) (i d : ℕ) → ReadingSorted r → NamesSorted ns → AllSorted (all_encoded r ns i d ts)
  trees_sorted stop r ns i d good k = tt
  trees_sorted (more t ts) r ns i d good k = (tree_sorted t r ns i d good k, trees_sorted ts r ns (i + binders t) d good k)

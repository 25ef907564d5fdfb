-- Formulas of annotations, which are taken over as they stand (ACSL 2.2, 2.4.3, 2.7): nothing is folded, and nothing is checked.
use Rattle.std.specs.Prelude.{ℕ, zero, suc, ◌+◌, ◌-◌, ◌==◌, Bool, true, false, if◌then◌else◌, pos, ◌+ℤ◌, List, [], ◌∷◌, ◌++◌, length, slice_index_or, Option}
use Rattle.std.specs.Prelude.{Some, None}
use Rattle.std.specs.Option.{option_map}
use Rattle.wp_base.specs.declared.kinds.Kind.{Kind}
use Rattle.wp_base.specs.declared.kinds.Kind.TheVariants as kind
use Rattle.wp_base.specs.declared.kinds.CellKind.{CellKind}
use Rattle.wp_base.specs.declared.kinds.CellKind.TheVariants as cell
use Rattle.c_kinds.specs.declared.models.Machdep.{Machdep}
use Rattle.c_kinds.specs.Models.{low, high}
use Rattle.c_kinds.specs.Conversions.{holds_all}
use Rattle.typed_prog.specs.declared.operators.Variable.{Variable}
use Rattle.typed_prog.specs.declared.operators.Variable.TheVariants as variables
use Rattle.typed_prog.specs.declared.operators.Arithmetic.{Arithmetic}
use Rattle.typed_prog.specs.declared.operators.Arithmetic.TheVariants as ar
use Rattle.typed_prog.specs.declared.operators.Comparison.{Comparison}
use Rattle.typed_prog.specs.declared.operators.Comparison.TheVariants as cmp
use Rattle.acsl_trees.specs.declared.heads.Content.{Content}
use Rattle.acsl_trees.specs.declared.heads.Content.TheVariants as content
use Rattle.acsl_trees.specs.declared.heads.Range.{Range}
use Rattle.acsl_trees.specs.declared.heads.Range.TheVariants as range
use Rattle.acsl_trees.specs.declared.heads.Head.{Head}
use Rattle.acsl_trees.specs.declared.heads.Head.TheVariants as h
use Rattle.acsl_trees.specs.Tree.{Tree, Trees, node, stop, more}
use Rattle.c_runs.specs.Truth.{heads_of}
use Rattle.qed_terms.specs.declared.head.Head.{Head as TermHead}
use Rattle.qed_terms.specs.declared.head.Head.TheVariants as th
use Rattle.qed_terms.specs.declared.head.FormOp.{FormOp}
use Rattle.qed_terms.specs.declared.head.FormOp.TheVariants as form
use Rattle.qed_terms.specs.declared.head.TermOp.{TermOp}
use Rattle.qed_terms.specs.declared.head.TermOp.TheVariants as op
use Rattle.qed_terms.specs.Tree as tree
use Rattle.qed_terms.specs.Tree.{Tree as Term, num, var, true_tree, at_most, less, equal, ite, not_of, and_of, or_of, imp_of}
use Rattle.acsl_encode.specs.Readings.{Pointer, at, Named, one, two, Global, integer_global, pointer_global, Called, Terms, integer, truth, address, variable}
use Rattle.acsl_encode.specs.Readings.{nothing, Slot, whole, any_integer, pointer, home, absent, Seen, Reading, moved_to, seen_in, elements, region, Common}

-- ---- terms and formulas

abbrev pub op_one : TermOp → Term → Term
op_one o t = tree.node (th.Term o) (tree.one t)

abbrev pub op_two : TermOp → Term → Term → Term
op_two o t u = tree.node (th.Term o) (tree.two t u)

abbrev pub load : (memory block offset : Term) → Term
load m b o = tree.node (th.Term op.Load) (tree.three m b o)

abbrev pub iff_of : Term → Term → Term
iff_of f g = tree.node th.Iff (tree.two f g)

-- one part stands alone
abbrev pub all_of : List Term → Term
all_of [] = true_tree
all_of (f ∷ []) = f
all_of (f ∷ g ∷ fs) = and_of (f ∷ g ∷ fs)

-- a formula as a term
abbrev pub truth_term : Term → Term
truth_term f = ite f (num (pos 1)) (num (pos 0))

abbrev pub not_zero : Term → Term
not_zero t = not_of (equal t (num (pos 0)))

abbrev pub comparison : Comparison → Term → Term → Term
comparison cmp.Less t u = less t u
comparison cmp.AtMost t u = at_most t u
comparison cmp.Greater t u = less u t
comparison cmp.AtLeast t u = at_most u t
comparison cmp.Equal t u = equal t u
comparison cmp.NotEqual t u = not_of (equal t u)

abbrev pub op_of : Arithmetic → TermOp
op_of ar.Mul = op.Mul
op_of ar.Div = op.Div
op_of ar.Rem = op.Mod
op_of ar.Add = op.Add
op_of ar.Sub = op.Sub
op_of ar.Shl = op.ShiftLeft
op_of ar.Shr = op.ShiftRight
op_of ar.And = op.BitAnd
op_of ar.Xor = op.BitXor
op_of ar.Or = op.BitOr

-- ---- pointers

abbrev pub same_pointer : Pointer → Pointer → Term
same_pointer p q = and_of (equal p.block q.block ∷ equal p.offset q.offset ∷ [])

abbrev pub pointer_comparison : Comparison → Pointer → Pointer → Term
pointer_comparison cmp.Equal p q = same_pointer p q
pointer_comparison cmp.NotEqual p q = not_of (same_pointer p q)
pointer_comparison c p q = comparison c p.offset q.offset

-- so many elements
abbrev pub times : (size : ℕ) → Term → Term
times size t = if size == 1 then t else op_two op.Mul (num (pos size)) t

abbrev pub moved : (minus : Bool) → (size : ℕ) → Pointer → Term → Terms
moved true size p t = address p.block (op_two op.Sub p.offset (times size t))
moved false size p t = address p.block (op_two op.Add p.offset (times size t))

-- a number of cells further on
abbrev pub further : (cells : ℕ) → Term → Term
further zero o = o
further (suc n) o = op_two op.Add o (num (pos (suc n)))

abbrev pub difference : (size : ℕ) → Pointer → Pointer → Term
difference size p q =
    if size == 1 then op_two op.Sub p.offset q.offset else op_two op.Div (op_two op.Sub p.offset q.offset) (num (pos size))

-- ---- what a value is taken for

abbrev pub as_integer : Terms → Option Term
as_integer (integer k t) = Some t
as_integer (truth f) = Some (truth_term f)
as_integer _ = None

-- what isn't 0 is true
abbrev pub as_formula : Terms → Option Term
as_formula (integer k t) = Some (not_zero t)
as_formula (truth f) = Some f
as_formula _ = None

abbrev pub as_pointer : Terms → Option Pointer
as_pointer (address b o) = Some (at b o)
as_pointer _ = None

-- nothing where one of them isn't there
abbrev pub with_one : {X : Type 0} → (X → Terms) → Option X → Terms
with_one f (Some x) = f x
with_one f None = nothing

abbrev pub with_two : {X Y : Type 0} → (X → Y → Terms) → Option X → Option Y → Terms
with_two f (Some x) o = with_one (f x) o
with_two f None o = nothing

abbrev pub unbounded : Term → Terms
unbounded t = integer None t

-- ---- heads

abbrev pub terms_at : List Terms → ℕ → Terms
terms_at xs i = slice_index_or xs i nothing

abbrev pub first : List Terms → Terms
first xs = terms_at xs 0

abbrev pub second : List Terms → Terms
second xs = terms_at xs 1

abbrev pub third : List Terms → Terms
third xs = terms_at xs 2

abbrev pub last_of : List Terms → Terms
last_of xs = terms_at xs (length xs - 1)

abbrev pub of_variable : Variable → Slot → Terms
of_variable x (whole k t) = variable x
of_variable x (any_integer t) = variable x
of_variable x (pointer b o) = variable x
of_variable x (home b) = address b (num (pos 0))
of_variable x absent = nothing

abbrev pub held : Content → Slot → Terms
held (content.Integer k) (whole l t) = integer (Some l) t
held (content.Integer k) (any_integer t) = unbounded t
held content.Pointer (pointer b o) = address b o
held _ _ = nothing

-- a struct isn't a value
abbrev pub read : Content → Seen → Terms → Terms
read (content.Integer k) s (address b o) = with_one (λ m. integer (Some k) (load m b o)) (s.numbers k)
read (content.Integer k) s (variable x) = held (content.Integer k) (s.variable x)
read content.Pointer s (address b o) = with_one (λ p. address (load p.block b o) (load p.offset b o)) s.pointers
read content.Pointer s (variable x) = held content.Pointer (s.variable x)
read (content.Struct n) s (address b o) = address b o
read _ s _ = nothing

-- 0 or 1 under `_Bool`
abbrev pub wrapped : Kind → Term → Term
wrapped kind.Bool t = ite (equal t (num (pos 0))) (num (pos 0)) (num (pos 1))
wrapped k t = op_one (op.Wrap k) t

-- the term itself where the kind holds all that the other one holds; no kind holds all of type `integer`
abbrev pub converted : Machdep → Kind → Terms → Terms
converted m k (integer (Some l) t) = integer (Some k) (if holds_all m k l then t else wrapped k t)
converted m k (integer None t) = integer (Some k) (wrapped k t)
converted m k (truth f) = integer (Some k) (wrapped k (truth_term f))
converted m k _ = nothing

abbrev pub either_truth : (test f : Term) → Terms → Terms
either_truth c f (truth g) = truth (and_of (imp_of c f ∷ imp_of (not_of c) g ∷ []))
either_truth c f (integer k u) = unbounded (ite c (truth_term f) u)
either_truth c f _ = nothing

abbrev pub either_address : (test : Term) → Pointer → Terms → Terms
either_address c p (address b o) = address (ite c p.block b) (ite c p.offset o)
either_address c p _ = nothing

abbrev pub either : Terms → Terms → (test : Term) → Terms
either (truth f) y c = either_truth c f y
either (integer k t) y c = with_one (λ u. unbounded (ite c t u)) (as_integer y)
either (address b o) y c = either_address c (at b o) y
either _ y c = nothing

abbrev pub reached : (size : ℕ) → Option Pointer → Option Term → Option Term → Terms
reached size (Some p) i j = with_two (elements p.block p.offset size) i j
reached size None i j = nothing

abbrev pub applied : Reading → Head → List Terms → Terms
applied r (h.Number z) xs = unbounded (num z)
applied r h.Null xs = address (num (pos 0)) (num (pos 0))
applied r h.Result xs = r.result
applied r (h.Variable x) xs = of_variable x (r.here.variable x)
applied r h.Pointed xs = first xs
applied r (h.Field k offset) xs = with_one (λ p. address p.block (further offset p.offset)) (as_pointer (first xs))
applied r (h.Element size count) xs = with_two (moved false size) (as_pointer (first xs)) (as_integer (second xs))
applied r (h.Elements size count) xs = reached size (as_pointer (first xs)) (as_integer (second xs)) (as_integer (third xs))
applied r (h.Behind size) xs = reached size (as_pointer (first xs)) (as_integer (second xs)) (as_integer (third xs))
applied r (h.Read c l) xs = read c (seen_in l r) (first xs)
applied r h.Address xs = first xs
applied r (h.Moved minus size) xs = with_two (moved minus size) (as_pointer (first xs)) (as_integer (second xs))
applied r (h.Difference size) xs = with_two (λ p q. unbounded (difference size p q)) (as_pointer (first xs)) (as_pointer (second xs))
applied r h.Negate xs = with_one (λ t. unbounded (op_one op.Neg t)) (as_integer (first xs))
applied r h.Complement xs = with_one (λ t. unbounded (op_one op.BitNot t)) (as_integer (first xs))
applied r (h.Arithmetic o) xs = with_two (λ t u. unbounded (op_two (op_of o) t u)) (as_integer (first xs)) (as_integer (second xs))
applied r (h.Convert k) xs = converted r.common.model k (first xs)
applied r (h.Compare c) xs = with_two (λ t u. truth (comparison c t u)) (as_integer (first xs)) (as_integer (second xs))
applied r (h.ComparePointers c) xs = with_two (λ p q. truth (pointer_comparison c p q)) (as_pointer (first xs)) (as_pointer (second xs))
applied r h.Not xs = with_one (λ f. truth (not_of f)) (as_formula (first xs))
applied r h.And xs = with_two (λ f g. truth (and_of (f ∷ g ∷ []))) (as_formula (first xs)) (as_formula (second xs))
applied r h.Or xs = with_two (λ f g. truth (or_of (f ∷ g ∷ []))) (as_formula (first xs)) (as_formula (second xs))
applied r h.Xor xs = with_two (λ f g. truth (not_of (iff_of f g))) (as_formula (first xs)) (as_formula (second xs))
applied r h.Implies xs = with_two (λ f g. truth (imp_of f g)) (as_formula (first xs)) (as_formula (second xs))
applied r h.Iff xs = with_two (λ f g. truth (iff_of f g)) (as_formula (first xs)) (as_formula (second xs))
applied r h.Choose xs = with_one (either (second xs) (third xs)) (as_formula (first xs))
applied r (h.Link c) xs = first xs
applied r (h.LinkPointers c) xs = first xs
applied r _ xs = nothing

-- ---- calls: the arguments, the memories in the order of kinds, and the variables of the file

-- nothing where one of them isn't there
abbrev pub put : {X : Type 0} → Option (List X) → Option (List X) → Option (List X)
put (Some xs) o = option_map (λ ys. xs ++ ys) o
put None o = None

abbrev pub all_put : {X Y : Type 0} → (X → Option (List Y)) → List X → Option (List Y)
all_put f [] = Some []
all_put f (x ∷ xs) = put (f x) (all_put f xs)

abbrev pub two_parts : Pointer → List Term
two_parts p = p.block ∷ p.offset ∷ []

abbrev pub argument : Named → Terms → Option (List Term)
argument (one x) t = option_map (λ u. u ∷ []) (as_integer t)
argument (two b o) t = option_map two_parts (as_pointer t)

-- one for each parameter
abbrev pub arguments : List Named → List Terms → Option (List Term)
arguments [] [] = Some []
arguments [] (x ∷ xs) = None
arguments (p ∷ ps) [] = None
arguments (p ∷ ps) (x ∷ xs) = put (argument p x) (arguments ps xs)

abbrev pub memory_of : Seen → CellKind → Option (List Term)
memory_of s (cell.Of k) = option_map (λ m. m ∷ []) (s.numbers k)
memory_of s cell.Ptr = option_map two_parts s.pointers

abbrev pub integer_of : Machdep → Kind → Slot → Option (List Term)
integer_of m k (whole l t) = if holds_all m k l then Some (t ∷ []) else None
integer_of m k _ = None

abbrev pub pointer_in : Slot → Option (List Term)
pointer_in (pointer b o) = Some (b ∷ o ∷ [])
pointer_in _ = None

abbrev pub global_of : Machdep → Seen → Global → Option (List Term)
global_of m s (integer_global n k x) = integer_of m k (s.variable (variables.Global n))
global_of m s (pointer_global n b o) = pointer_in (s.variable (variables.Global n))

abbrev pub all_given : Reading → Called → List Terms → Option (List Term)
all_given r f xs = put (arguments f.params xs) (put (all_put (memory_of r.here) f.memories) (all_put (global_of r.common.model r.here) f.globals))

abbrev pub app : (name : List ℕ) → List Term → Term
app x ts = tree.node (th.App x) (tree.trees_of ts)

abbrev pub called : Reading → Option Called → List Terms → Terms
called r None xs = nothing
called r (Some f) xs = with_one (λ ts. unbounded (app f.name ts)) (all_given r f xs)

-- ---- chains: a first term, and links behind it

abbrev pub both : {X : Type 0} → Option X → Option (List X) → Option (List X)
both (Some x) o = option_map (λ xs. x ∷ xs) o
both None o = None

abbrev pub on_two : {X Y : Type 0} → (X → X → Y) → Option X → Option X → Option Y
on_two f (Some x) o = option_map (f x) o
on_two f None o = None

-- a link compares with the term before
abbrev pub linked : Head → Terms → Terms → Option Term
linked (h.Link c) x y = on_two (comparison c) (as_integer x) (as_integer y)
linked (h.LinkPointers c) x y = on_two (pointer_comparison c) (as_pointer x) (as_pointer y)
linked _ x y = None

abbrev pub all_linked : (before : Terms) → List Head → List Terms → Option (List Term)
all_linked x [] ys = Some []
all_linked x (l ∷ ls) [] = Some []
all_linked x (l ∷ ls) (y ∷ ys) = both (linked l x y) (all_linked y ls ys)

abbrev pub in_chain : List Head → List Terms → Option (List Term)
in_chain [] xs = Some []
in_chain (l ∷ ls) [] = Some []
in_chain (l ∷ ls) (x ∷ xs) = all_linked x ls xs

-- ---- binders

-- a range from one end up to below the other one
pub record Ends : Type 0 where
  pub low : Term
  pub high : Term

abbrev pub one_more : Term → Term
one_more t = op_two op.Add t (num (pos 1))

abbrev pub low_end : (is_out : Bool) → Term → Term
low_end true t = one_more t
low_end false t = t

abbrev pub high_end : (is_out : Bool) → Term → Term
high_end true t = t
high_end false t = one_more t

abbrev pub ends_of : Machdep → Range → List Terms → Option Ends
ends_of m (range.Between low_out high_out place) xs =
    on_two (λ t u. record { low = low_end low_out t; high = high_end high_out u }) (as_integer (first xs)) (as_integer (second xs))
ends_of m (range.Kind k place) xs = Some (record { low = num (low m k); high = num (high m k +ℤ pos 1) })

abbrev pub kind_of : Range → Option Kind
kind_of (range.Between low_out high_out place) = None
kind_of (range.Kind k place) = Some k

abbrev pub over : TermHead → Ends → (body : Term) → Term
over q e f = tree.node q (tree.three e.low e.high f)

abbrev pub quantified : TermHead → Option Ends → Option Term → Terms
quantified q = with_two (λ e f. truth (over q e f))

-- ---- what may be read or written, cell by cell

abbrev pub content_cells : Common → Content → List CellKind
content_cells r (content.Integer k) = cell.Of k ∷ []
content_cells r content.Pointer = cell.Ptr ∷ []
content_cells r (content.Struct n) = r.structs n

abbrev pub access : (writable : Bool) → CellKind → FormOp
access true k = form.Write k
access false k = form.Read k

abbrev pub good_cell : (writable : Bool) → CellKind → (table block offset : Term) → Term
good_cell writable k t b o = tree.node (th.Form (access writable k)) (tree.three t b o)

-- the cells from the one with this number on
abbrev pub good_cells : (writable : Bool) → (table block offset : Term) → List CellKind → (number : ℕ) → List Term
good_cells writable t b o [] n = []
good_cells writable t b o (k ∷ ks) n = good_cell writable k t b (further n o) ∷ good_cells writable t b o ks (suc n)

-- where the element with this number is
abbrev pub element_at : (offset : Term) → (size : ℕ) → (number : Term) → Term
element_at o size t = op_two op.Add o (times size t)

-- a range has a binder of its own
abbrev pub valid : (binder : List ℕ) → (writable : Bool) → List CellKind → (table : Option Term) → Terms → Terms
valid x writable ks table (address b o) = with_one (λ t. truth (all_of (good_cells writable t b o ks 0))) table
valid x writable ks table (elements b o size low high) =
    with_one (λ t. truth (over (th.Forall x) (record { low = low; high = one_more high })
    (all_of (good_cells writable t b (element_at o size (var x)) ks 0)))) table
valid x writable ks table _ = nothing

-- ---- regions

-- an object, and the elements of a range
abbrev pub region_of : List CellKind → Terms → Terms
region_of ks (address b o) = region ks b o (further (length ks) o)
region_of ks (elements b o size low high) =
    if size == length ks then region ks b (element_at o size low) (element_at o size (one_more high)) else nothing
region_of ks _ = nothing

abbrev pub apart_by : (block low high : Term) → (block' low' high' : Term) → Term
apart_by b low high b' low' high' =
    or_of (not_of (equal b b') ∷ at_most high low' ∷ at_most high' low ∷ at_most high low ∷ at_most high' low' ∷ [])

abbrev pub apart_from : (block low high : Term) → Terms → Option Term
apart_from b low high (region cells b' low' high') = Some (apart_by b low high b' low' high')
apart_from b low high _ = None

abbrev pub apart : Terms → Terms → Option Term
apart (region cells b low high) y = apart_from b low high y
apart _ y = None

abbrev pub apart_all : Terms → List Terms → Option (List Term)
apart_all x [] = Some []
apart_all x (y ∷ ys) = both (apart x y) (apart_all x ys)

-- each two of them
abbrev pub pairs_apart : List Terms → Option (List Term)
pairs_apart [] = Some []
pairs_apart (x ∷ xs) = put (apart_all x xs) (pairs_apart xs)

abbrev pub is_range : List Head → Bool
is_range (h.Elements size count ∷ ls) = true
is_range (h.Behind size ∷ ls) = true
is_range _ = false

-- what stands for each name that is around
abbrev pub Names : Type 0
Names = (name : ℕ) → Terms

abbrev pub with_name : (name : ℕ) → Terms → Names → Names
with_name x t ns y = if y == x then t else ns y

-- what stands for a node's kids, wherever they are read; their binders have numbers from `next` on
abbrev pub Kids : Type 0
Kids = Reading → Names → (next around : ℕ) → List Terms

-- ---- trees

-- how many binders a node has itself, with kids of these heads
abbrev pub own_binders : Head → List Head → ℕ
own_binders (h.Every g) ls = 1
own_binders (h.Some g) ls = 1
own_binders (h.Valid c writable) ls = if is_range ls then 1 else 0
own_binders _ ls = 0

abbrev mutual
  pub binders : Tree → ℕ
  binders (node head ks) = own_binders head (heads_of ks) + all_binders ks

  pub all_binders : Trees → ℕ
  all_binders stop = 0
  all_binders (more t ts) = binders t + all_binders ts

-- the last kid under a quantifier's name
abbrev pub body_of : Kids → Reading → Names → (next around : ℕ) → Range → Terms
body_of kids r ns i d g = last_of (kids r (with_name d (integer (kind_of g) (var (r.common.binder i))) ns) (suc i) (suc d))

abbrev pub node_terms : Reading → Names → (next around : ℕ) → Head → List Head → Kids → Terms
node_terms r ns i d (h.Name x) ls kids = ns x
node_terms r ns i d (h.Call f) ls kids = called r (r.called f) (kids r ns i d)
node_terms r ns i d (h.At l) ls kids = first (kids (moved_to l r) ns i d)
node_terms r ns i d h.Let ls kids = last_of (kids r (with_name d (first (kids r ns i d)) ns) i (suc d))
node_terms r ns i d (h.Every g) ls kids =
    quantified (th.Forall (r.common.binder i)) (ends_of r.common.model g (kids r ns (suc i) d)) (as_formula (body_of kids r ns i d g))
node_terms r ns i d (h.Some g) ls kids =
    quantified (th.Exists (r.common.binder i)) (ends_of r.common.model g (kids r ns (suc i) d)) (as_formula (body_of kids r ns i d g))
node_terms r ns i d h.Chain ls kids = with_one (λ fs. truth (all_of fs)) (in_chain ls (kids r ns i d))
node_terms r ns i d (h.Valid c writable) ls kids =
    valid (r.common.binder i) writable (content_cells r.common c) r.here.table (first (kids r ns (i + own_binders (h.Valid c writable) ls) d))
node_terms r ns i d h.Separated ls kids = with_one (λ fs. truth (all_of fs)) (pairs_apart (kids r ns i d))
node_terms r ns i d (h.Region c) ls kids = region_of (content_cells r.common c) (first (kids r ns i d))
node_terms r ns i d head ls kids = applied r head (kids r ns i d)

abbrev mutual
  pub encoded : Reading → Names → (next around : ℕ) → Tree → Terms
  encoded r ns i d (node head ks) = node_terms r ns i d head (heads_of ks) (λ r' ns' i' d'. all_encoded r' ns' i' d' ks)

  pub all_encoded : Reading → Names → (next around : ℕ) → Trees → List Terms
  all_encoded r ns i d stop = []
  all_encoded r ns i d (more t ts) = encoded r ns i d t ∷ all_encoded r ns (i + binders t) d ts

-- ---- annotations, which have no parameters

abbrev pub no_names : Names
no_names x = nothing

abbrev pub terms_of : Reading → Tree → Terms
terms_of r t = encoded r no_names 0 0 t

-- the term of a number
abbrev pub term_of : Reading → Tree → Option Term
term_of r t = as_integer (terms_of r t)

abbrev pub formula_of : Reading → Tree → Option Term
formula_of r t = as_formula (terms_of r t)

-- the block and the offset of a pointer
abbrev pub pointer_of : Reading → Tree → Option Pointer
pointer_of r t = as_pointer (terms_of r t)

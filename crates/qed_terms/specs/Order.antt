-- The order of terms: numbers by value, names by their bytes, then heads in their order, then kids from the left, fewer kids first. What
-- stands before, between and after the kids in the text of a term (a kind, a name, the shape of a region, a layout) counts at its place.
use Rattle.std.specs.Prelude.{ℕ, nat_eq, Bool, true, false, IsTrue, ◌↔◌, ℤ, pos, List, [], ◌∷◌, map}
use Rattle.std.specs.declared.cmp.Ordering.{Ordering}
use Rattle.std.specs.declared.cmp.Ordering.TheVariants.{Less, Equal, Greater}
use Rattle.std.specs.Ordering.{ordering_then, nat_cmp, int_cmp, int_eq, is_eq, on, eq_of_both, eq_by_cmp}
use Rattle.std.specs.Str.{bytes_eq}
use Rattle.std.specs.Cmp.{IsTotalOrder}
use Rattle.std.specs.Cmp.Lexicographic.{slice_cmp}
use Rattle.std.specs.Prelude.{◌≡◌}
use Rattle.wp_base.specs.declared.kinds.Layout.{Layout}
use Rattle.wp_base.specs.Kinds.{kind_place, cell_place}
use Rattle.qed_terms.specs.declared.head.Sort.{Sort}
use Rattle.qed_terms.specs.declared.head.Sort.TheVariants as sort
use Rattle.qed_terms.specs.declared.head.Shape.{Shape}
use Rattle.qed_terms.specs.declared.head.Shape.TheVariants as shape
use Rattle.qed_terms.specs.declared.head.Head.{Head}
use Rattle.qed_terms.specs.declared.head.Head.TheVariants as h
use Rattle.qed_terms.specs.declared.head.TermOp.{TermOp}
use Rattle.qed_terms.specs.declared.head.TermOp.TheVariants as op
use Rattle.qed_terms.specs.declared.head.FormOp.{FormOp}
use Rattle.qed_terms.specs.declared.head.FormOp.TheVariants as form
use Rattle.qed_terms.specs.Tree.{Tree, node, Trees, stop, more}

-- ---- the order of heads

abbrev pub term_rank : TermOp → ℕ
term_rank op.Add = 2
term_rank op.Sub = 3
term_rank op.Mul = 4
term_rank op.Neg = 5
term_rank op.Div = 6
term_rank op.Mod = 7
term_rank (op.Wrap k) = 8
term_rank op.ShiftLeft = 9
term_rank op.ShiftRight = 10
term_rank op.BitAnd = 11
term_rank op.BitOr = 12
term_rank op.BitXor = 13
term_rank op.BitNot = 14
term_rank op.Load = 16
term_rank op.Count = 17
term_rank op.Len = 18
term_rank op.Store = 20
term_rank (op.Alloc layout) = 21
term_rank op.Grow = 22

abbrev pub form_rank : FormOp → ℕ
form_rank form.Equal = 23
form_rank form.AtMost = 24
form_rank form.Less = 25
form_rank form.Same = 26
form_rank (form.Read k) = 36
form_rank (form.Write k) = 37
form_rank form.Live = 38
form_rank (form.Has layout) = 39
form_rank (form.WellFormed k) = 40
form_rank (form.Frame shapes) = 41

abbrev pub rank : Head → ℕ
rank (h.Num z) = 0
rank (h.Var x s) = 1
rank (h.Term o) = term_rank o
rank h.Ite = 15
rank (h.App f) = 19
rank (h.Form o) = form_rank o
rank h.True = 27
rank h.False = 28
rank h.Not = 29
rank h.And = 30
rank h.Or = 31
rank h.Imp = 32
rank h.Iff = 33
rank (h.Forall x) = 34
rank (h.Exists x) = 35

-- ---- what stands before the kids: a number or a kind, a name

abbrev pub term_number : TermOp → ℕ
term_number (op.Wrap k) = kind_place k
term_number o = 0

abbrev pub form_number : FormOp → ℕ
form_number (form.Read k) = cell_place k
form_number (form.Write k) = cell_place k
form_number (form.WellFormed k) = cell_place k
form_number o = 0

abbrev pub number_in : Head → ℤ
number_in (h.Num z) = z
number_in (h.Term o) = pos (term_number o)
number_in (h.Form o) = pos (form_number o)
number_in head = pos 0

abbrev pub name_in : Head → List ℕ
name_in (h.Var x s) = x
name_in (h.App f) = f
name_in (h.Forall x) = x
name_in (h.Exists x) = x
name_in head = []

-- ---- what stands between them: a region has its shape before its first term

abbrev pub region_starts : List Shape → List ℕ
region_starts [] = []
region_starts (shape.Cells ∷ shapes) = 0 ∷ 0 ∷ 0 ∷ region_starts shapes
region_starts (shape.New ∷ shapes) = 1 ∷ region_starts shapes

abbrev pub shape_terms : Shape → ℕ
shape_terms shape.Cells = 3
shape_terms shape.New = 1

-- a number for each kid, 0 where there is none
abbrev pub form_starts : FormOp → List ℕ
form_starts (form.Frame shapes) = 0 ∷ 0 ∷ region_starts shapes
form_starts o = []

abbrev pub starts : Head → List ℕ
starts (h.Form o) = form_starts o
starts head = []

-- ---- what stands after them: a sort, a layout; and all shapes once more

abbrev pub sort_place : Sort → ℕ
sort_place sort.Int = 0
sort_place sort.Memory = 1
sort_place sort.Table = 2

abbrev pub shape_place : Shape → ℕ
shape_place shape.Cells = 0
shape_place shape.New = 1

abbrev pub flag_number : Bool → ℕ
flag_number false = 0
flag_number true = 1

-- the flag, the number of elements, the kinds
abbrev pub layout_back : Layout → List ℕ
layout_back l = flag_number l.writable ∷ l.count ∷ map cell_place l.cells

abbrev pub term_back : TermOp → List ℕ
term_back (op.Alloc layout) = layout_back layout
term_back o = []

abbrev pub form_back : FormOp → List ℕ
form_back (form.Has layout) = layout_back layout
form_back (form.Frame shapes) = map shape_place shapes
form_back o = []

abbrev pub back_in : Head → List ℕ
back_in (h.Var x s) = sort_place s ∷ []
back_in (h.Term o) = term_back o
back_in (h.Form o) = form_back o
back_in head = []

-- ---- the order

abbrev pub front_cmp : Head → Head → Ordering
front_cmp g k = ordering_then (nat_cmp (rank g) (rank k)) (ordering_then (int_cmp (number_in g) (number_in k)) (slice_cmp nat_cmp (name_in g) (name_in k)))

abbrev pub back_cmp : Head → Head → Ordering
back_cmp g k = slice_cmp nat_cmp (back_in g) (back_in k)

-- whether two heads are the same, by what stands before and after the kids
abbrev pub same_head : Head → Head → Bool
same_head = eq_of_both (eq_of_both (eq_of_both (on rank nat_eq) (on number_in int_eq)) (on name_in bytes_eq)) (eq_by_cmp back_cmp)

-- two heads that are the same are one head
abbrev pub HeadsAreExact : Type 0
HeadsAreExact = (g k : Head) → IsTrue (same_head g k) ↔ (g ≡ k)

abbrev pub first_of : List ℕ → ℕ
first_of [] = 0
first_of (n ∷ ns) = n

abbrev pub rest_of : List ℕ → List ℕ
rest_of [] = []
rest_of (n ∷ ns) = ns

unfoldable mutual
  pub tree_cmp : Tree → Tree → Ordering
  tree_cmp (node g ts) (node k us) = ordering_then (front_cmp g k) (ordering_then (kids_cmp (starts g) (starts k) ts us) (back_cmp g k))

  -- a kid's start, then the kid
  pub kids_cmp : (starts starts' : List ℕ) → Trees → Trees → Ordering
  kids_cmp ns ms stop stop = Equal
  kids_cmp ns ms stop (more u us) = Less
  kids_cmp ns ms (more t ts) stop = Greater
  kids_cmp ns ms (more t ts) (more u us) =
      ordering_then (nat_cmp (first_of ns) (first_of ms)) (ordering_then (tree_cmp t u) (kids_cmp (rest_of ns) (rest_of ms) ts us))

-- whether two trees are the same
abbrev pub same : Tree → Tree → Bool
same t u = is_eq (tree_cmp t u)

-- It is a total order, and two trees that tie are one tree.
pub record OrderIsTotal : Type 0 where
  pub total : IsTotalOrder tree_cmp
  pub exact : (t u : Tree) → tree_cmp t u ≡ Equal → t ≡ u

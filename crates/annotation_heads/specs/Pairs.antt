-- Two values, and by which of their shapes one of them is chosen.
use Rattle.std.specs.Prelude.{ℕ, [], ◌∷◌, Option, Some, None}
use Rattle.wp_base.specs.declared.kinds.Kind.{Kind}
use Rattle.qed_terms.specs.Tree.{Tree, ite, and_of, imp_of, not_of}
use Rattle.qed_terms.specs.View.{term_tree, formula_tree}
use Rattle.acsl_encode.specs.Readings.{Terms, Pointer, integer, truth, address, variable, elements, nothing}
use Rattle.acsl_encode.specs.Encode.{as_integer, as_formula, as_pointer, with_two, unbounded}
use Rattle.annotation_heads.specs.declared.terms.Shape.{Shape}
use Rattle.annotation_heads.specs.declared.terms.Shape.TheVariants as shape
use Rattle.annotation_heads.specs.declared.terms.Set as code_set
use Rattle.annotation_heads.specs.declared.terms.Set.TheVariants as set
use Rattle.qed_terms.specs.declared.term.Term.{Term}
use Rattle.qed_terms.specs.declared.term.Formula.{Formula}
use Rattle.annotation_heads.specs.declared.terms.Pointer as code
use Rattle.annotation_heads.specs.declared.pairs.Both.{Both}
use Rattle.annotation_heads.specs.declared.conversions.Way.{Way}
use Rattle.annotation_heads.specs.declared.conversions.Way.TheVariants as way
use Rattle.annotation_heads.specs.View.{view_pointer}

pub record Two (X Y : Type 0) : Type 0 where
  pub first : X
  pub second : Y

abbrev pub two : {X Y : Type 0} → X → Y → Two X Y
two x y = record { first = x; second = y }

-- both, where both are there
abbrev pub pair : {X Y : Type 0} → Option X → Option Y → Option (Two X Y)
pair (Some x) (Some y) = Some (two x y)
pair (Some x) None = None
pair None o = None

-- the same in memory
abbrev pub both_of : {X Y : Type 0} → Option X → Option Y → Option (Both X Y)
both_of (Some x) (Some y) = Some (record { first = x; second = y })
both_of (Some x) None = None
both_of None o = None

abbrev pub view_integers : Both Term Term → Two Tree Tree
view_integers p = two (term_tree p.first) (term_tree p.second)

abbrev pub view_formulas : Both Formula Formula → Two Tree Tree
view_formulas p = two (formula_tree p.first) (formula_tree p.second)

abbrev pub view_pointers : Both code.Pointer code.Pointer → Two Pointer Pointer
view_pointers p = two (view_pointer p.first) (view_pointer p.second)

abbrev pub view_moving : Both code.Pointer Term → Two Pointer Tree
view_moving p = two (view_pointer p.first) (term_tree p.second)

-- ---- sets of addresses

pub data Set : Type 0 where
  object : (p : Pointer) → Set
  some_elements : (p : Pointer) (size : ℕ) (low high : Tree) → Set
  no_set : Set

abbrev pub set_in : Terms → Set
set_in (address b o) = object (record { block = b; offset = o })
set_in (elements b o n low high) = some_elements (record { block = b; offset = o }) n low high
set_in _ = no_set

abbrev pub view_set : code_set.Set → Set
view_set (set.Object p) = object (view_pointer p)
view_set (set.Elements p n low high) = some_elements (view_pointer p) n (term_tree low) (term_tree high)
view_set set.Nothing = no_set

-- ---- shapes

abbrev pub shape_in : Terms → Shape
shape_in (integer k t) = shape.Integer k
shape_in (truth f) = shape.Truth
shape_in (address b o) = shape.Address
shape_in (variable x) = shape.Variable x
shape_in _ = shape.Other

-- the kind of C that an integer has
abbrev pub kind_in : Shape → Option Kind
kind_in (shape.Integer k) = k
kind_in _ = None

-- ---- choices

abbrev pub way_of : Shape → Shape → Way
way_of shape.Truth shape.Truth = way.Truths
way_of shape.Truth (shape.Integer l) = way.Integers
way_of (shape.Integer k) (shape.Integer l) = way.Integers
way_of (shape.Integer k) shape.Truth = way.Integers
way_of shape.Address shape.Address = way.Pointers
way_of _ _ = way.Nowhere

abbrev pub formula_chosen : (test : Tree) → Tree → Tree → Tree
formula_chosen c f g = and_of (imp_of c f ∷ imp_of (not_of c) g ∷ [])

abbrev pub truth_chosen : (test : Tree) → Tree → Tree → Terms
truth_chosen c f g = truth (formula_chosen c f g)

abbrev pub integer_chosen : (test : Tree) → Tree → Tree → Terms
integer_chosen c t u = unbounded (ite c t u)

abbrev pub pointer_chosen : (test : Tree) → Pointer → Pointer → Terms
pointer_chosen c p q = address (ite c p.block q.block) (ite c p.offset q.offset)

abbrev pub chosen_by : Way → (test : Tree) → Terms → Terms → Terms
chosen_by way.Truths c x y = with_two (truth_chosen c) (as_formula x) (as_formula y)
chosen_by way.Integers c x y = with_two (integer_chosen c) (as_integer x) (as_integer y)
chosen_by way.Pointers c x y = with_two (pointer_chosen c) (as_pointer x) (as_pointer y)
chosen_by way.Nowhere c x y = nothing

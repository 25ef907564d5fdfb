-- What a tree means under values of its names, in a world: a term an integer, a memory or a table, a formula a truth value.
use Rattle.std.specs.Prelude.{ℕ, zero, suc, Bool, true, false, not, ◌&&◌, ◌||◌, if◌then◌else◌, ℤ, pos, ◌+ℤ◌, ◌-ℤ◌, int_lt, int_le, List, [], ◌∷◌, map}
use Rattle.std.specs.Str.{bytes_eq}
use Rattle.wp_base.specs.declared.kinds.CellKind.{CellKind}
use Rattle.wp_base.specs.declared.kinds.CellKind.TheVariants as cell
use Rattle.wp_base.specs.Kinds.{convert}
use Rattle.qed_terms.specs.declared.head.Sort.{Sort}
use Rattle.qed_terms.specs.declared.head.Sort.TheVariants as sort
use Rattle.qed_terms.specs.declared.head.Shape.{Shape}
use Rattle.qed_terms.specs.declared.head.Shape.TheVariants as shape
use Rattle.qed_terms.specs.declared.head.Head.{Head}
use Rattle.qed_terms.specs.declared.head.Head.TheVariants as h
use Rattle.qed_terms.specs.declared.head.TermOp.{TermOp}
use Rattle.qed_terms.specs.declared.head.TermOp.TheVariants as op
use Rattle.qed_terms.specs.declared.head.FormOp.{FormOp}
use Rattle.qed_terms.specs.declared.head.FormOp.TheVariants as form
use Rattle.wp_base.specs.Blocks.{Table, count, len, is_live, is_cell, is_writable, alloc, grow, has_layout, same_truth, to_nat}
use Rattle.qed_terms.specs.Memory.{Memory, load, store, same_memory, is_well_formed, are_well_formed, Region, cells, new, agree_outside}
use Rattle.qed_terms.specs.Operators.{is_equal, total, product, quotient, remainder, shifted_left, shifted_right, both_bits, either_bit, one_bit, turned_bits}
use Rattle.qed_terms.specs.Tree.{Tree, node, Trees, stop, more}

-- ---- values

pub data Value : Type 0 where
  Whole : ℤ → Value
  Truth : Bool → Value
  Cells : Memory → Value
  Blocks : Table → Value

-- a value where one of another sort is wanted counts as 0, false, the memory of zeros, the table of block 0 alone
abbrev pub whole : Value → ℤ
whole (Whole z) = z
whole v = pos 0

abbrev pub is_so : Value → Bool
is_so (Truth b) = b
is_so v = false

abbrev pub memory : Value → Memory
memory (Cells m) = m
memory v = []

abbrev pub table : Value → Table
table (Blocks t) = t
table v = []

-- An assignment: a value for each name at each sort. A name at two sorts is two names.
pub record Values : Type 0 where
  pub ints : List ℕ → ℤ
  pub memories : List ℕ → Memory
  pub tables : List ℕ → Table

abbrev pub value_of : Values → List ℕ → Sort → Value
value_of env x sort.Int = Whole (env.ints x)
value_of env x sort.Memory = Cells (env.memories x)
value_of env x sort.Table = Blocks (env.tables x)

-- the same, with this integer for the name
abbrev pub with_int : Values → List ℕ → ℤ → Values
with_int env x z = record { ints = λ y. if bytes_eq y x then z else env.ints y; memories = env.memories; tables = env.tables }

-- What is the same for all terms of a file: how wide `long` is, and the values of its recursive logic functions.
pub record World : Type 0 where
  pub long_bits : ℕ
  pub apps : List ℕ → List Value → ℤ

-- ---- heads over terms

abbrev pub at_one : {A B : Type 0} → A → (B → A) → List B → A
at_one d f (a ∷ []) = f a
at_one d f _ = d

abbrev pub at_two : {A B : Type 0} → A → (B → B → A) → List B → A
at_two d f (a ∷ b ∷ []) = f a b
at_two d f _ = d

abbrev pub at_three : {A B : Type 0} → A → (B → B → B → A) → List B → A
at_three d f (a ∷ b ∷ c ∷ []) = f a b c
at_three d f _ = d

abbrev pub at_four : {A B : Type 0} → A → (B → B → B → B → A) → List B → A
at_four d f (a ∷ b ∷ c ∷ e ∷ []) = f a b c e
at_four d f _ = d

-- sums and products of any number of kids; the default at another number of kids than the head has
abbrev pub term_value : World → TermOp → List Value → Value
term_value w op.Add vs = Whole (total (map whole vs))
term_value w op.Sub vs = Whole (at_two (pos 0) (λ a b. a -ℤ b) (map whole vs))
term_value w op.Mul vs = Whole (product (map whole vs))
term_value w op.Neg vs = Whole (at_one (pos 0) (λ a. pos 0 -ℤ a) (map whole vs))
term_value w op.Div vs = Whole (at_two (pos 0) quotient (map whole vs))
term_value w op.Mod vs = Whole (at_two (pos 0) remainder (map whole vs))
term_value w (op.Wrap k) vs = Whole (at_one (pos 0) (convert w.long_bits k) (map whole vs))
term_value w op.ShiftLeft vs = Whole (at_two (pos 0) shifted_left (map whole vs))
term_value w op.ShiftRight vs = Whole (at_two (pos 0) shifted_right (map whole vs))
term_value w op.BitAnd vs = Whole (at_two (pos 0) both_bits (map whole vs))
term_value w op.BitOr vs = Whole (at_two (pos 0) either_bit (map whole vs))
term_value w op.BitXor vs = Whole (at_two (pos 0) one_bit (map whole vs))
term_value w op.BitNot vs = Whole (at_one (pos 0) turned_bits (map whole vs))
term_value w op.Load vs = Whole (at_three (pos 0) (λ m b o. load (memory m) (whole b) (whole o)) vs)
term_value w op.Count vs = Whole (at_one (pos 0) (λ t. count (table t)) vs)
term_value w op.Len vs = Whole (at_two (pos 0) (λ t b. len (table t) (whole b)) vs)
term_value w op.Store vs = Cells (at_four [] (λ m b o z. store (memory m) (whole b) (whole o) (whole z)) vs)
term_value w (op.Alloc layout) vs = Blocks (at_one [] (λ t. alloc (table t) layout) vs)
term_value w op.Grow vs = Blocks (at_two [] (λ t z. grow (table t) (whole z)) vs)

-- ---- heads of formulas over terms

-- the regions of these shapes, by the values of their terms
abbrev pub regions : List Shape → List ℤ → List Region
regions (shape.Cells ∷ shapes) (b ∷ low ∷ high ∷ zs) = cells b low high ∷ regions shapes zs
regions (shape.New ∷ shapes) (b ∷ zs) = new b ∷ regions shapes zs
regions shapes zs = []

abbrev pub frame_truth : List Shape → List Value → Bool
frame_truth shapes (m ∷ n ∷ vs) = agree_outside (memory m) (memory n) (regions shapes (map whole vs))
frame_truth shapes vs = false

abbrev pub well_formed_truth : World → CellKind → List Value → Bool
well_formed_truth w (cell.Of k) vs = at_two false (λ t m. is_well_formed w.long_bits k (table t) (memory m)) vs
well_formed_truth w cell.Ptr vs = at_three false (λ t bs os. are_well_formed (table t) (memory bs) (memory os)) vs

abbrev pub form_truth : World → FormOp → List Value → Bool
form_truth w form.Equal vs = at_two false is_equal (map whole vs)
form_truth w form.AtMost vs = at_two false int_le (map whole vs)
form_truth w form.Less vs = at_two false int_lt (map whole vs)
form_truth w form.Same vs = at_two false (λ m n. same_memory (memory m) (memory n)) vs
form_truth w (form.Read k) vs = at_three false (λ t b o. is_cell k (table t) (whole b) (whole o)) vs
form_truth w (form.Write k) vs = at_three false (λ t b o. is_writable k (table t) (whole b) (whole o)) vs
form_truth w form.Live vs = at_two false (λ t b. is_live (table t) (whole b)) vs
form_truth w (form.Has layout) vs = at_two false (λ t b. has_layout (table t) (whole b) layout) vs
form_truth w (form.WellFormed k) vs = well_formed_truth w k vs
form_truth w (form.Frame shapes) vs = frame_truth shapes vs

-- ---- all heads

abbrev pub each_true : List Bool → Bool
each_true [] = true
each_true (b ∷ bs) = b && each_true bs

abbrev pub some_true : List Bool → Bool
some_true [] = false
some_true (b ∷ bs) = b || some_true bs

abbrev pub chosen : Value → Value → Value → ℤ
chosen f t u = if is_so f then whole t else whole u

-- so many numbers from z on all pass; one of them passes
abbrev pub all_from : ℤ → (n : ℕ) → (ℤ → Bool) → Bool
all_from z zero test = true
all_from z (suc n) test = test z && all_from (z +ℤ pos 1) n test

abbrev pub some_from : ℤ → (n : ℕ) → (ℤ → Bool) → Bool
some_from z zero test = false
some_from z (suc n) test = test z || some_from (z +ℤ pos 1) n test

-- what a head that binds no name makes of the values of its kids
abbrev pub head_value : World → Values → Head → List Value → Value
head_value w env (h.Num z) vs = Whole z
head_value w env (h.Var x s) vs = value_of env x s
head_value w env (h.Term o) vs = term_value w o vs
head_value w env h.Ite vs = Whole (at_three (pos 0) chosen vs)
head_value w env (h.App f) vs = Whole (w.apps f vs)
head_value w env (h.Form o) vs = Truth (form_truth w o vs)
head_value w env h.True vs = Truth true
head_value w env h.False vs = Truth false
head_value w env h.Not vs = Truth (at_one false not (map is_so vs))
head_value w env h.And vs = Truth (each_true (map is_so vs))
head_value w env h.Or vs = Truth (some_true (map is_so vs))
head_value w env h.Imp vs = Truth (at_two false (λ a b. not a || b) (map is_so vs))
head_value w env h.Iff vs = Truth (at_two false same_truth (map is_so vs))
head_value w env (h.Forall x) vs = Truth false
head_value w env (h.Exists x) vs = Truth false

-- whether the third kid is true, of three
abbrev pub third_is_so : List Value → Bool
third_is_so vs = at_three false (λ t u f. is_so f) vs

-- A quantifier goes over the numbers from the first kid up to below the second (ACSL 2.2): for each of
-- them in the place of the name the third kid is meant.
abbrev pub over_range : {A : Type 0} → A → (ℤ → ℕ → A) → List Value → A
over_range d go vs = at_three d (λ t u f. go (whole t) (to_nat (whole u -ℤ whole t))) vs

-- what a head makes of its kids' values, which are given for each assignment
abbrev pub head_meaning : World → Head → (Values → List Value) → Values → Value
head_meaning w (h.Forall x) kids env = Truth (over_range false (λ low n. all_from low n (λ z. third_is_so (kids (with_int env x z)))) (kids env))
head_meaning w (h.Exists x) kids env = Truth (over_range false (λ low n. some_from low n (λ z. third_is_so (kids (with_int env x z)))) (kids env))
head_meaning w head kids env = head_value w env head (kids env)

abbrev mutual
  pub meaning : World → Values → Tree → Value
  meaning w env (node head kids) = head_meaning w head (λ env'. meanings w env' kids) env

  pub meanings : World → Values → Trees → List Value
  meanings w env stop = []
  meanings w env (more t ts) = meaning w env t ∷ meanings w env ts

abbrev pub value : World → Values → Tree → ℤ
value w env t = whole (meaning w env t)

abbrev pub truth : World → Values → Tree → Bool
truth w env f = is_so (meaning w env f)

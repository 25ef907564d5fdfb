-- What operators make of two operands that fit, and of the arms of `?:`, fits.
use Rattle.std.proofs.Common.{◌≡◌, ℕ, Bool, true, false, ◌&&◌, ◌||◌, if◌then◌else◌, List, Option, Some, None, Ok, Err, sym, refl, subst}
use Rattle.std.proofs.lemmas.Bool.{and_parts, and_from}
use Rattle.c_answers.specs.Answers.{Answer, wrong}
use Rattle.c_syntax.specs.declared.expr.BinOp.{BinOp}
use Rattle.c_syntax.specs.declared.expr.BinOp.TheVariants as bin
use Rattle.typed_prog.specs.declared.types.CoreType.{CoreType}
use Rattle.typed_prog.specs.declared.operators.Arithmetic.{Arithmetic}
use Rattle.typed_prog.specs.declared.operators.Arithmetic.TheVariants as ar
use Rattle.typed_prog.specs.declared.operators.Comparison.{Comparison}
use Rattle.typed_prog.specs.declared.operators.Comparison.TheVariants as cmp
use Rattle.acsl_trees.specs.declared.heads.Head.TheVariants as head
use Rattle.acsl_trees.specs.declared.operands.Sort.{Sort}
use Rattle.acsl_trees.specs.declared.operands.Sort.TheVariants as sort
use Rattle.acsl_trees.specs.Tree.{Tree, leaf, two}
use Rattle.acsl_trees.specs.Operands.{Operand, operand}
use Rattle.acsl_rules.specs.Sorts.{is_unknown, is_integer, is_pointer, is_null, may_be_integer, stride_of, alike, alike_to}
use Rattle.acsl_rules.specs.Values.{integer, beside}
use Rattle.acsl_rules.specs.Operators.{both_may_be_integers, arithmetic, number_sort, numbers, offset_by, offset, sum_by, sum, apart_by, taken_by, difference_by, difference, compare_by, are_numbers, ordered, are_equatable, equated, compared, order, equality, binary_values, binary}
use Rattle.acsl_rules.specs.Choices.{joint, arms, choice, conditional_by, conditional_values, conditional}
use Rattle.acsl_rules.specs.Laws as l
use Rattle.acsl_rules.specs.Laws.{an_integer, a_pointer, Leaves, Makes, Fits, Holds, Made}
use Rattle.acsl_rules.proofs.Fitting.{FitsValue, IsValue, value_fits, from_value, integer_is, pointer_is, truth_fits}

-- a value that fits is answered, or a fault
abbrev pub Valued : Leaves → Answer Operand → Type 0
Valued g o = Holds (IsValue g) o

made_by : (g : Leaves) (o : Answer Operand) → Valued g o → Made g o
made_by g (Ok v) f = value_fits g v f
made_by g (Err r) f = tt

-- ---- sums and differences

arithmetic_by : (g : Leaves) (line : ℕ) (o : Arithmetic) (v w : Operand) (b : Bool) → IsValue g v → IsValue g w → both_may_be_integers v w ≡ b
    → Valued g (if b then Ok (integer (two (head.Arithmetic o) v.tree w.tree)) else wrong line)
arithmetic_by g line o v w true fv fw e =
    let p = and_parts (may_be_integer v.sort) (may_be_integer w.sort) e in l.computed (integer_is g v.tree v.sort fv p.0) (integer_is g w.tree w.sort fw p.1)
arithmetic_by g line o v w false fv fw e = tt

pub arithmetic_fits : (g : Leaves) (line : ℕ) (o : Arithmetic) (v w : Operand) → IsValue g v → IsValue g w → Valued g (arithmetic line o v w)
arithmetic_fits g line o v w fv fw = arithmetic_by g line o v w _ fv fw refl

is_known : (g : Leaves) (t : Tree) (s : Sort) → FitsValue g t s → may_be_integer s ≡ true → is_integer s ≡ true
is_known g t (sort.Object type label) f e = absurd f
is_known g t (sort.Integer known) f e = refl
is_known g t (sort.Pointer type null) f e = absurd cc
is_known g t sort.Unknown f e = absurd f

numbers_by : (g : Leaves) (line : ℕ) (o : Arithmetic) (v w : Operand) (b : Bool) → IsValue g v → IsValue g w → both_may_be_integers v w ≡ b
    → Valued g (if b then Ok (operand (two (head.Arithmetic o) v.tree w.tree) (number_sort (is_integer v.sort && is_integer w.sort))) else wrong line)
numbers_by g line o v w true fv fw e =
    let p = and_parts (may_be_integer v.sort) (may_be_integer w.sort) e in
    subst (λ b. FitsValue g (two (head.Arithmetic o) v.tree w.tree) (number_sort b)) (sym (and_from (is_integer v.sort) (is_integer w.sort) (is_known g v.tree v.sort fv p.0) (is_known g w.tree w.sort fw p.1)))
    (l.computed (integer_is g v.tree v.sort fv p.0) (integer_is g w.tree w.sort fw p.1))
numbers_by g line o v w false fv fw e = tt

numbers_fit : (g : Leaves) (line : ℕ) (o : Arithmetic) (v w : Operand) → IsValue g v → IsValue g w → Valued g (numbers line o v w)
numbers_fit g line o v w fv fw = numbers_by g line o v w _ fv fw refl

moved_fits : (g : Leaves) (sizes : List ℕ) (minus : Bool) (size : ℕ) (p i : Tree) (s : Sort) → FitsValue g p s → stride_of sizes s ≡ Some size → Makes g an_integer i
    → FitsValue g (two (head.Moved minus size) p i) s
moved_fits g sizes minus size p i (sort.Object type label) f e fi = absurd f
moved_fits g sizes minus size p i (sort.Integer known) f e fi = absurd cc
moved_fits g sizes minus size p i (sort.Pointer type null) f e fi = l.is_moved f fi
moved_fits g sizes minus size p i sort.Unknown f e fi = absurd f

offset_by_fits : (g : Leaves) (sizes : List ℕ) (line : ℕ) (minus : Bool) (p : Operand) (i : Tree) (size : Option ℕ) (s : Sort) → IsValue g p → FitsValue g i s
    → stride_of sizes p.sort ≡ size → Valued g (offset_by line minus p i size s)
offset_by_fits g sizes line minus p i None s fp fi e = tt
offset_by_fits g sizes line minus p i (Some size) (sort.Integer known) fp fi e = moved_fits g sizes minus size p.tree i p.sort fp e fi
offset_by_fits g sizes line minus p i (Some size) sort.Unknown fp fi e = absurd fi
offset_by_fits g sizes line minus p i (Some size) (sort.Object type label) fp fi e = tt
offset_by_fits g sizes line minus p i (Some size) (sort.Pointer type null) fp fi e = tt

offset_fits : (g : Leaves) (sizes : List ℕ) (line : ℕ) (minus : Bool) (p i : Operand) → IsValue g p → IsValue g i → Valued g (offset sizes line minus p i)
offset_fits g sizes line minus p i fp fi = offset_by_fits g sizes line minus p i.tree _ i.sort fp fi refl

sum_by_fits : (g : Leaves) (sizes : List ℕ) (line : ℕ) (v w : Operand) (first second : Bool) → IsValue g v → IsValue g w → Valued g (sum_by sizes line v w first second)
sum_by_fits g sizes line v w true second fv fw = offset_fits g sizes line false v w fv fw
sum_by_fits g sizes line v w false true fv fw = offset_fits g sizes line false w v fw fv
sum_by_fits g sizes line v w false false fv fw = numbers_fit g line ar.Add v w fv fw

pub sum_fits : (g : Leaves) (sizes : List ℕ) (line : ℕ) (v w : Operand) → IsValue g v → IsValue g w → Valued g (sum sizes line v w)
unfolding sum
sum_fits g sizes line v w fv fw = sum_by_fits g sizes line v w _ _ fv fw

pub alike_second : (a : CoreType) (t : Sort) → alike_to a t ≡ true → is_pointer t ≡ true
alike_second a (sort.Pointer type null) e = refl
alike_second a (sort.Object type label) e = absurd cc
alike_second a (sort.Integer known) e = absurd cc
alike_second a sort.Unknown e = absurd cc

pub alike_are : (s t : Sort) → alike s t ≡ true → (is_pointer s ≡ true) × (is_pointer t ≡ true)
alike_are (sort.Pointer a null) t e = (refl, alike_second a t e)
alike_are (sort.Object type label) t e = absurd cc
alike_are (sort.Integer known) t e = absurd cc
alike_are sort.Unknown t e = absurd cc

apart_by_fits : (g : Leaves) (line : ℕ) (v w : Operand) (b : Bool) (size : Option ℕ) → IsValue g v → IsValue g w → alike v.sort w.sort ≡ b → Valued g (apart_by line v w b size)
apart_by_fits g line v w true (Some size) fv fw e =
    let p = alike_are v.sort w.sort e in l.difference_of (pointer_is g v.tree v.sort fv p.0) (pointer_is g w.tree w.sort fw p.1)
apart_by_fits g line v w true None fv fw e = tt
apart_by_fits g line v w false size fv fw e = tt

pub no_unknown : (g : Leaves) (t : Tree) (s : Sort) → FitsValue g t s → is_unknown s ≡ true → ⊥
no_unknown g t (sort.Object type label) f e = f
no_unknown g t (sort.Integer known) f e = cc
no_unknown g t (sort.Pointer type null) f e = cc
no_unknown g t sort.Unknown f e = f

taken_by_fits : (g : Leaves) (line : ℕ) (v w : Operand) (b : Bool) (size : Option ℕ) → IsValue g v → is_unknown v.sort ≡ b → Valued g (taken_by line v w b size)
taken_by_fits g line v w true (Some size) fv e = absurd (no_unknown g v.tree v.sort fv e)
taken_by_fits g line v w true None fv e = tt
taken_by_fits g line v w false size fv e = tt

difference_by_fits : (g : Leaves) (sizes : List ℕ) (line : ℕ) (v w : Operand) (first second : Bool) → IsValue g v → IsValue g w → Valued g (difference_by sizes line v w first second)
difference_by_fits g sizes line v w true true fv fw = apart_by_fits g line v w _ _ fv fw refl
difference_by_fits g sizes line v w true false fv fw = offset_fits g sizes line true v w fv fw
difference_by_fits g sizes line v w false true fv fw = taken_by_fits g line v w _ _ fv refl
difference_by_fits g sizes line v w false false fv fw = numbers_fit g line ar.Sub v w fv fw

difference_fits : (g : Leaves) (sizes : List ℕ) (line : ℕ) (v w : Operand) → IsValue g v → IsValue g w → Valued g (difference sizes line v w)
unfolding difference
difference_fits g sizes line v w fv fw = difference_by_fits g sizes line v w _ _ fv fw

-- ---- comparisons

numbers_are : (g : Leaves) (t u : Tree) (r s : Sort) → FitsValue g t r → FitsValue g u s → are_numbers r s ≡ true → Makes g an_integer t × Makes g an_integer u
numbers_are g t u (sort.Integer known) (sort.Integer other) f h e = (f, h)
numbers_are g t u (sort.Integer known) (sort.Pointer type null) f h e = absurd cc
numbers_are g t u (sort.Integer known) (sort.Object type label) f h e = absurd h
numbers_are g t u (sort.Integer known) sort.Unknown f h e = absurd h
numbers_are g t u (sort.Pointer type null) (sort.Integer other) f h e = absurd cc
numbers_are g t u (sort.Pointer type null) (sort.Pointer type' null') f h e = absurd cc
numbers_are g t u (sort.Pointer type null) (sort.Object type' label) f h e = absurd h
numbers_are g t u (sort.Pointer type null) sort.Unknown f h e = absurd h
numbers_are g t u (sort.Object type label) s f h e = absurd f
numbers_are g t u sort.Unknown s f h e = absurd f

-- as what they are compared, the trees are
compared_by : (g : Leaves) (line : ℕ) (how : Comparison) (t u : Tree) (n p : Bool) → (n ≡ true → Makes g an_integer t × Makes g an_integer u)
    → (p ≡ true → Makes g a_pointer t × Makes g a_pointer u) → Valued g (compared line how t u (compare_by n p))
compared_by g line how t u true p f h = let m = f refl in l.integers_compared m.0 m.1
compared_by g line how t u false true f h = let m = h refl in l.pointers_compared m.0 m.1
compared_by g line how t u false false f h = tt

order_fits : (g : Leaves) (line : ℕ) (how : Comparison) (v w : Operand) → IsValue g v → IsValue g w → Valued g (order line how v w)
unfolding order ordered
order_fits g line how v w fv fw =
    compared_by g line how v.tree w.tree (are_numbers v.sort w.sort) (alike v.sort w.sort) (λ e. numbers_are g v.tree w.tree v.sort w.sort fv fw e)
    (λ e. let p = alike_are v.sort w.sort e in (pointer_is g v.tree v.sort fv p.0, pointer_is g w.tree w.sort fw p.1))

-- null in the place of a pointer or not
or_null : (g : Leaves) (t : Tree) (b : Bool) → Makes g a_pointer t → Makes g a_pointer (if b then leaf head.Null else t)
or_null g t true f = l.is_null
or_null g t false f = f

in_place : (g : Leaves) (t : Tree) (b : Bool) → b ≡ true → Makes g a_pointer (if b then leaf head.Null else t)
in_place g t true e = l.is_null
in_place g t false e = absurd cc

first_or : (a b : Bool) → (a || b && false) ≡ true → a ≡ true
first_or true b e = refl
first_or false true e = absurd cc
first_or false false e = absurd cc

second_or : (a b : Bool) → (b && true) ≡ true → b ≡ true
second_or a true e = refl
second_or a false e = absurd cc

pub not_both : (b : Bool) → (b && false) ≡ true → ⊥
not_both true e = cc
not_both false e = cc

-- Integers are as they are, and pointers too but for null.
equatable_are : (g : Leaves) (t u : Tree) (r s : Sort) → FitsValue g t r → FitsValue g u s → are_equatable r s ≡ true
    → Makes g a_pointer (beside s (operand t r)) × Makes g a_pointer (beside r (operand u s))
equatable_are g t u (sort.Integer known) (sort.Integer other) f h e = absurd (not_both (is_null (sort.Integer known)) e)
equatable_are g t u (sort.Integer known) (sort.Pointer type null) f h e = (in_place g t (is_null (sort.Integer known)) (second_or false (is_null (sort.Integer known)) e), h)
equatable_are g t u (sort.Integer known) (sort.Object type label) f h e = absurd h
equatable_are g t u (sort.Integer known) sort.Unknown f h e = absurd h
equatable_are g t u (sort.Pointer type null) (sort.Integer other) f h e =
    (f, in_place g u (is_null (sort.Integer other)) (first_or (is_null (sort.Integer other)) (is_null (sort.Pointer type null)) e))
equatable_are g t u (sort.Pointer type null) (sort.Pointer type' null') f h e = (or_null g t (is_null (sort.Pointer type null)) f, or_null g u (is_null (sort.Pointer type' null')) h)
equatable_are g t u (sort.Pointer type null) (sort.Object type' label) f h e = absurd h
equatable_are g t u (sort.Pointer type null) sort.Unknown f h e = absurd h
equatable_are g t u (sort.Object type label) s f h e = absurd f
equatable_are g t u sort.Unknown s f h e = absurd f

-- beside an integer, and where it is one, a value is as it is
numbers_beside : (g : Leaves) (t u : Tree) (r s : Sort) → FitsValue g t r → FitsValue g u s → are_numbers r s ≡ true
    → Makes g an_integer (beside s (operand t r)) × Makes g an_integer (beside r (operand u s))
numbers_beside g t u (sort.Integer known) (sort.Integer other) f h e = (f, h)
numbers_beside g t u (sort.Integer known) (sort.Pointer type null) f h e = absurd cc
numbers_beside g t u (sort.Integer known) (sort.Object type label) f h e = absurd h
numbers_beside g t u (sort.Integer known) sort.Unknown f h e = absurd h
numbers_beside g t u (sort.Pointer type null) (sort.Integer other) f h e = absurd cc
numbers_beside g t u (sort.Pointer type null) (sort.Pointer type' null') f h e = absurd cc
numbers_beside g t u (sort.Pointer type null) (sort.Object type' label) f h e = absurd h
numbers_beside g t u (sort.Pointer type null) sort.Unknown f h e = absurd h
numbers_beside g t u (sort.Object type label) s f h e = absurd f
numbers_beside g t u sort.Unknown s f h e = absurd f

equality_fits : (g : Leaves) (line : ℕ) (how : Comparison) (v w : Operand) → IsValue g v → IsValue g w → Valued g (equality line how v w)
unfolding equality equated
equality_fits g line how v w fv fw =
    compared_by g line how (beside w.sort v) (beside v.sort w) (are_numbers v.sort w.sort) (are_equatable v.sort w.sort)
    (λ e. numbers_beside g v.tree w.tree v.sort w.sort fv fw e) (λ e. equatable_are g v.tree w.tree v.sort w.sort fv fw e)

-- ---- all operators of two operands

binary_values_fit : (g : Leaves) (sizes : List ℕ) (line : ℕ) (o : BinOp) (v w : Operand) → IsValue g v → IsValue g w → Valued g (binary_values sizes line o v w)
binary_values_fit g sizes line bin.Mul v w fv fw = arithmetic_fits g line ar.Mul v w fv fw
binary_values_fit g sizes line bin.Div v w fv fw = arithmetic_fits g line ar.Div v w fv fw
binary_values_fit g sizes line bin.Rem v w fv fw = arithmetic_fits g line ar.Rem v w fv fw
binary_values_fit g sizes line bin.Add v w fv fw = sum_fits g sizes line v w fv fw
binary_values_fit g sizes line bin.Sub v w fv fw = difference_fits g sizes line v w fv fw
binary_values_fit g sizes line bin.Shl v w fv fw = arithmetic_fits g line ar.Shl v w fv fw
binary_values_fit g sizes line bin.Shr v w fv fw = arithmetic_fits g line ar.Shr v w fv fw
binary_values_fit g sizes line bin.Less v w fv fw = order_fits g line cmp.Less v w fv fw
binary_values_fit g sizes line bin.AtMost v w fv fw = order_fits g line cmp.AtMost v w fv fw
binary_values_fit g sizes line bin.Greater v w fv fw = order_fits g line cmp.Greater v w fv fw
binary_values_fit g sizes line bin.AtLeast v w fv fw = order_fits g line cmp.AtLeast v w fv fw
binary_values_fit g sizes line bin.Equal v w fv fw = equality_fits g line cmp.Equal v w fv fw
binary_values_fit g sizes line bin.NotEqual v w fv fw = equality_fits g line cmp.NotEqual v w fv fw
binary_values_fit g sizes line bin.BitAnd v w fv fw = arithmetic_fits g line ar.And v w fv fw
binary_values_fit g sizes line bin.BitXor v w fv fw = arithmetic_fits g line ar.Xor v w fv fw
binary_values_fit g sizes line bin.BitOr v w fv fw = arithmetic_fits g line ar.Or v w fv fw
binary_values_fit g sizes line bin.And v w fv fw = l.both_so (truth_fits g v fv) (truth_fits g w fw)
binary_values_fit g sizes line bin.Or v w fv fw = l.either_so (truth_fits g v fv) (truth_fits g w fw)

pub binary_fits : (g : Leaves) (sizes : List ℕ) (line : ℕ) (o : BinOp) (x y : Operand) → Fits g x → Fits g y → Made g (binary sizes line o x y)
unfolding binary
binary_fits g sizes line o x y f h =
    from_value (Fits g) g line x _ f (λ v fv. from_value (Fits g) g line y (binary_values sizes line o v) h (λ w fw. made_by g (binary_values sizes line o v w) (binary_values_fit g sizes line o v w fv fw)))

-- ---- `?:`

-- a pointer of any type where both arms are, whichever test holds
pointers_by : (g : Leaves) (line : ℕ) (b v w : Operand) (x y z : Bool) (r s t : Sort) → Fits g (choice b v w r) → (y ≡ true → Fits g (choice b v w s)) → (z ≡ true → Fits g (choice b v w t))
    → Made g (conditional_by line b v w (if x then Some r else if y then Some s else if z then Some t else None))
pointers_by g line b v w true y z r s t fr fs ft = fr
pointers_by g line b v w false true z r s t fr fs ft = fs refl
pointers_by g line b v w false false true r s t fr fs ft = ft refl
pointers_by g line b v w false false false r s t fr fs ft = tt

-- no two pointers alike
others_by : (g : Leaves) (line : ℕ) (b v w : Operand) (y z : Bool) (s t : Sort) → (y ≡ true → Fits g (choice b v w s)) → (z ≡ true → Fits g (choice b v w t))
    → Made g (conditional_by line b v w (if y then Some s else if z then Some t else None))
others_by g line b v w true z s t fs ft = fs refl
others_by g line b v w false true s t fs ft = ft refl
others_by g line b v w false false s t fs ft = tt

arms_fit : (g : Leaves) (line : ℕ) (b : Operand) (t u : Tree) (r s : Sort) → IsValue g b → FitsValue g t r → FitsValue g u s
    → Made g (conditional_by line b (operand t r) (operand u s) (arms r s))
arms_fit g line b t u (sort.Integer known) (sort.Integer other) fb f h = l.chosen (truth_fits g b fb) f h
arms_fit g line b t u (sort.Integer known) (sort.Pointer type null) fb f h =
    others_by g line b (operand t (sort.Integer known)) (operand u (sort.Pointer type null)) (false && is_null (sort.Pointer type null)) (is_null (sort.Integer known) && true) (sort.Integer known) (sort.Pointer type null)
    (λ e. absurd cc) (λ e. l.chosen (truth_fits g b fb) (in_place g t (is_null (sort.Integer known)) (second_or false (is_null (sort.Integer known)) e)) h)
arms_fit g line b t u (sort.Integer known) (sort.Object type label) fb f h = absurd h
arms_fit g line b t u (sort.Integer known) sort.Unknown fb f h = absurd h
arms_fit g line b t u (sort.Pointer type null) (sort.Integer other) fb f h =
    others_by g line b (operand t (sort.Pointer type null)) (operand u (sort.Integer other)) (true && is_null (sort.Integer other)) (is_null (sort.Pointer type null) && false) (sort.Pointer type null) (sort.Integer other)
    (λ e. l.chosen (truth_fits g b fb) f (in_place g u (is_null (sort.Integer other)) e)) (λ e. absurd (not_both (is_null (sort.Pointer type null)) e))
arms_fit g line b t u (sort.Pointer type null) (sort.Pointer type' null') fb f h =
    let v = operand t (sort.Pointer type null) in
    let w = operand u (sort.Pointer type' null') in
    let whole = l.chosen (truth_fits g b fb) (or_null g t (is_null (sort.Pointer type null)) f) (or_null g u (is_null (sort.Pointer type' null')) h) in
    pointers_by g line b v w (alike v.sort w.sort) (is_pointer v.sort && is_null w.sort) (is_null v.sort && is_pointer w.sort) (joint v.sort w.sort) v.sort w.sort whole (λ e. whole) (λ e. whole)
arms_fit g line b t u (sort.Pointer type null) (sort.Object type' label) fb f h = absurd h
arms_fit g line b t u (sort.Pointer type null) sort.Unknown fb f h = absurd h
arms_fit g line b t u (sort.Object type label) s fb f h = absurd f
arms_fit g line b t u sort.Unknown s fb f h = absurd f

pub conditional_fits : (g : Leaves) (line : ℕ) (b x y : Operand) → Fits g b → Fits g x → Fits g y → Made g (conditional line b x y)
unfolding conditional
conditional_fits g line b x y fb f h =
    from_value (Fits g) g line b _ fb (λ c fc. from_value (Fits g) g line x _ f (λ v fv. from_value (Fits g) g line y (conditional_values line c v) h
    (λ w fw. arms_fit g line c v.tree w.tree v.sort w.sort fc fv fw)))

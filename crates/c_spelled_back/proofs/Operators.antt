-- What an operator on values makes spells that operator over what its operands spell.
use Rattle.std.proofs.Common.{◌≡◌, ℕ, ℤ, Bool, true, false, ◌&&◌, if◌then◌else◌, List, [], ◌∷◌, Option, Some, None, Ok, refl}
use Rattle.wp_base.specs.declared.kinds.Kind.{Kind}
use Rattle.wp_base.specs.declared.kinds.Kind.TheVariants as kind
use Rattle.c_syntax.specs.declared.expr.UnOp.{UnOp}
use Rattle.c_syntax.specs.declared.expr.UnOp.TheVariants as un
use Rattle.c_syntax.specs.declared.expr.BinOp.{BinOp}
use Rattle.c_syntax.specs.declared.expr.BinOp.TheVariants as bin
use Rattle.c_syntax.specs.Expr as e
use Rattle.c_kinds.specs.declared.models.Machdep.{Machdep}
use Rattle.c_kinds.specs.Conversions.{promote, common}
use Rattle.typed_prog.specs.declared.types.CoreType.{CoreType}
use Rattle.typed_prog.specs.declared.operators.Arithmetic.{Arithmetic}
use Rattle.typed_prog.specs.declared.operators.Arithmetic.TheVariants as ar
use Rattle.typed_prog.specs.declared.operators.Comparison.{Comparison}
use Rattle.typed_prog.specs.declared.operators.Comparison.TheVariants as cmp
use Rattle.typed_prog.specs.declared.operators.Connective.{Connective}
use Rattle.typed_prog.specs.declared.operators.Connective.TheVariants as con
use Rattle.typed_prog.specs.declared.operators.Op.{Op}
use Rattle.typed_prog.specs.declared.operators.Op.TheVariants as op
use Rattle.typed_prog.specs.Types.{of_kind, is_pointer, is_void, void}
use Rattle.typed_prog.specs.Tree as t
use Rattle.c_answers.specs.Answers.{Answer, wrong, after}
use Rattle.c_operands.specs.Operands.{Operand, value, Rvalue}
use Rattle.c_operands.specs.Conversions.{number_of, kind_of_value, folded, converted, is_null}
use Rattle.c_rules.specs.Integers.{constant_by, constant_in, known_of_one, known_of_two, promoted_by, plus_by, of_two, arithmetic_by, arithmetic, shift_by, shift, compared}
use Rattle.c_rules.specs.Pointers.{stride, are_alike, null_of, requalified, compared_pointers, equal_by, equal, joint}
use Rattle.c_rules.specs.Operators.{is_scalar, scalar, minus, complement, unary_plus, not_of, offset_by, offset, swapped_by, sum_by, sum, apart_by, difference_by, difference, order_by, order, equality_by, equality, connected, logic, binary_values, binary, known_of_three, integer_arms, other_arms_by, other_arms, arms_by, conditional_values, conditional}
use Rattle.c_exprs.specs.Typing.{Around}
use Rattle.c_spelled_back.specs.Constants.{Computes, itself}
use Rattle.c_spelled_back.specs.Spelled.{ValueSpells, ValuesSpell, NodeSpells, OperandSpells}
use Rattle.c_spelled_back.specs.Spelled as spec
use Rattle.c_spelled_back.proofs.Parts.{Holds, after_holds, RvalueSpells, Made, never, both, plus_stands}
use Rattle.c_spelled_back.proofs.Values.{after_valued, converted_spells, folded_spells, null_spells, requalified_spells}

-- ---- a number is known of integer constant expressions alone

pub known_one : (m : Machdep) (o : UnOp) (f : Bool) (k : Option Kind) (n : Option ℤ) (z : ℤ) → known_of_one m o (constant_by f k n) ≡ Some z → f ≡ true
known_one m o true k n z h = refl
known_one m o false k n z h = cc

known_two : (m : Machdep) (o : BinOp) (f g : Bool) (j k : Option Kind) (n p : Option ℤ) (z : ℤ)
    → known_of_two m o (constant_by f j n) (constant_by g k p) ≡ Some z → (f ≡ true) × (g ≡ true)
known_two m o true true j k n p z h = (refl, refl)
known_two m o true false (Some j) k n p z h = cc
known_two m o true false None k n p z h = cc
known_two m o false g j k n p z h = cc

known_three : (m : Machdep) (f g h : Bool) (i j k : Option Kind) (n p q : Option ℤ) (z : ℤ)
    → known_of_three m (constant_by f i n) (constant_by g j p) (constant_by h k q) ≡ Some z
    → (f ≡ true) × (g ≡ true) × (h ≡ true)
known_three m true true true i j k n p q z is = (refl, refl, refl)
known_three m true true false (Some i) (Some j) k n p q z is = cc
known_three m true true false (Some i) None k n p q z is = cc
known_three m true true false None j k n p q z is = cc
known_three m true false h (Some i) j k n p q z is = cc
known_three m true false h None j k n p q z is = cc
known_three m false g h i j k n p q z is = cc

all_three : (f g h : Bool) → (f && g && h) ≡ true → (f ≡ true) × (g ≡ true) × (h ≡ true)
all_three true true true is = (refl, refl, refl)
all_three true true false is = never is
all_three true false h is = never is
all_three false g h is = never is

-- ---- one operand

-- an operator over a value of its operand, folded where that is a constant
one_spells : (c : Around) (a : e.Expr) (m : Machdep) (line : ℕ) (o : Op) (how : UnOp) (k : Kind) (v : Rvalue) (w : t.Value) → Computes how
    → ((vs : t.Values) (type : CoreType) → ValuesSpell c vs (a ∷ []) → NodeSpells c (t.apply o vs) type line (e.unary line how a)) → RvalueSpells c a v
    → ValueSpells c w a
    → OperandSpells c (folded k line (t.apply o (t.more w t.stop)) v.is_constant (known_of_one m how (constant_in v))) (e.unary line how a)
one_spells c a m line o how k v w computes form fits fit =
    folded_spells c (e.unary line how a) k line (t.apply o (t.more w t.stop)) v.is_constant (known_of_one m how (constant_in v)) refl
    (form (t.more w t.stop) (of_kind k) (fit, tt))
    (λ h. (computes, fits.1 h)) (λ z h. (computes, fits.1 (known_one m how v.is_constant (kind_of_value v.value) (number_of v.value) z h)))

promoted_made : (c : Around) (a : e.Expr) (m : Machdep) (line : ℕ) (o : Op) (how : UnOp) (v : Rvalue) (k : Option Kind) → Computes how
    → ((vs : t.Values) (type : CoreType) → ValuesSpell c vs (a ∷ []) → NodeSpells c (t.apply o vs) type line (e.unary line how a)) → RvalueSpells c a v
    → Made c (e.unary line how a) (promoted_by m line o how v k)
promoted_made c a m line o how v (Some k) computes form fits =
    one_spells c a m line o how (promote k) v (converted m (promote k) v.value) computes form fits (converted_spells c a m (promote k) v.value fits.0)
promoted_made c a m line o how v None computes form fits = tt

pub minus_made : (c : Around) (a : e.Expr) (m : Machdep) (line : ℕ) (x : Operand) → OperandSpells c x a → Made c (e.unary line un.Minus a) (minus m line x)
unfolding minus
minus_made c a m line x fits =
    after_valued c a _ line x _ fits (λ v fv. promoted_made c a m line op.Negate un.Minus v (kind_of_value v.value) tt (λ vs type h. (a, h, refl)) fv)

pub complement_made : (c : Around) (a : e.Expr) (m : Machdep) (line : ℕ) (x : Operand) → OperandSpells c x a
    → Made c (e.unary line un.BitNot a) (complement m line x)
unfolding complement
complement_made c a m line x fits =
    after_valued c a _ line x _ fits (λ v fv. promoted_made c a m line op.Complement un.BitNot v (kind_of_value v.value) tt (λ vs type h. (a, h, refl)) fv)

plus_by_made : (c : Around) (a : e.Expr) (m : Machdep) (line : ℕ) (v : Rvalue) (k : Option Kind) → RvalueSpells c a v
    → Made c (e.unary line un.Plus a) (plus_by m line v k)
plus_by_made c a m line v (Some k) fits = (plus_stands c line _ a (converted_spells c a m (promote k) v.value fits.0), λ h. (tt, fits.1 h))
plus_by_made c a m line v None fits = tt

pub unary_plus_made : (c : Around) (a : e.Expr) (m : Machdep) (line : ℕ) (x : Operand) → OperandSpells c x a
    → Made c (e.unary line un.Plus a) (unary_plus m line x)
unfolding unary_plus
unary_plus_made c a m line x fits = after_valued c a _ line x _ fits (λ v fv. plus_by_made c a m line v (kind_of_value v.value) fv)

scalar_by : (c : Around) (a : e.Expr) (line : ℕ) (v : Rvalue) (is : Bool) → RvalueSpells c a v → Holds (RvalueSpells c a) (if is then Ok v else wrong line)
scalar_by c a line v true fits = fits
scalar_by c a line v false fits = tt

after_scalar : (c : Around) (a x : e.Expr) (line : ℕ) (v : Rvalue) (f : Rvalue → Answer Operand) → RvalueSpells c a v
    → ((w : Rvalue) → RvalueSpells c a w → Made c x (f w))
    → Made c x (after (scalar line v) f)
after_scalar c a x line v f fits more =
    after_holds (RvalueSpells c a) (λ y. OperandSpells c y x) (scalar line v) f (scalar_by c a line v (is_scalar (t.type_of v.value)) fits) more

pub not_made : (c : Around) (a : e.Expr) (m : Machdep) (line : ℕ) (x : Operand) → OperandSpells c x a → Made c (e.unary line un.Not a) (not_of m line x)
unfolding not_of
not_made c a m line x fits =
    after_valued c a _ line x _ fits
    (λ v fv. after_scalar c a _ line v _ fv (λ w fw. one_spells c a m line op.Not un.Not kind.Int w w.value tt (λ vs type h. (a, h, refl)) fw fw.0))

-- ---- two integers

two_spell : (c : Around) (a b : e.Expr) (m : Machdep) (line : ℕ) (o : Op) (how : BinOp) (k j l : Kind) (v w : Rvalue)
    → ((vs : t.Values) (type : CoreType) → ValuesSpell c vs (a ∷ b ∷ []) → NodeSpells c (t.apply o vs) type line (e.binary line how a b)) → RvalueSpells c a v
    → RvalueSpells c b w
    → OperandSpells c (of_two m line o how k j l v w) (e.binary line how a b)
two_spell c a b m line o how k j l v w form fv fw =
    folded_spells c (e.binary line how a b) k line _ (v.is_constant && w.is_constant) (known_of_two m how (constant_in v) (constant_in w)) refl
    (form (t.more (converted m j v.value) (t.more (converted m l w.value) t.stop)) (of_kind k)
    (converted_spells c a m j v.value fv.0, (converted_spells c b m l w.value fw.0, tt)))
    (λ h. let are : (v.is_constant ≡ true) × (w.is_constant ≡ true) = both v.is_constant w.is_constant h in (fv.1 are.0, fw.1 are.1))
    (λ z h. let are : (v.is_constant ≡ true) × (w.is_constant ≡ true) =
    known_two m how v.is_constant w.is_constant (kind_of_value v.value) (kind_of_value w.value) (number_of v.value) (number_of w.value) z h in
    (fv.1 are.0, fw.1 are.1))

arithmetic_by_made : (c : Around) (a b : e.Expr) (m : Machdep) (line : ℕ) (o : Arithmetic) (v w : Rvalue) (j k : Option Kind) → RvalueSpells c a v
    → RvalueSpells c b w
    → Made c (e.binary line (spec.arithmetic o) a b) (arithmetic_by m line o (spec.arithmetic o) v w j k)
arithmetic_by_made c a b m line o v w (Some j) (Some k) fv fw =
    two_spell c a b m line (op.Arithmetic o) (spec.arithmetic o) _ _ _ v w (λ vs type h. (a, b, h, refl)) fv fw
arithmetic_by_made c a b m line o v w (Some j) None fv fw = tt
arithmetic_by_made c a b m line o v w None k fv fw = tt

arithmetic_made : (c : Around) (a b : e.Expr) (m : Machdep) (line : ℕ) (o : Arithmetic) (v w : Rvalue) → RvalueSpells c a v → RvalueSpells c b w
    → Made c (e.binary line (spec.arithmetic o) a b) (arithmetic m line o (spec.arithmetic o) v w)
arithmetic_made c a b m line o v w fv fw = arithmetic_by_made c a b m line o v w (kind_of_value v.value) (kind_of_value w.value) fv fw

shift_by_made : (c : Around) (a b : e.Expr) (m : Machdep) (line : ℕ) (o : Arithmetic) (v w : Rvalue) (j k : Option Kind) → RvalueSpells c a v
    → RvalueSpells c b w
    → Made c (e.binary line (spec.arithmetic o) a b) (shift_by m line o (spec.arithmetic o) v w j k)
shift_by_made c a b m line o v w (Some j) (Some k) fv fw =
    two_spell c a b m line (op.Arithmetic o) (spec.arithmetic o) _ _ _ v w (λ vs type h. (a, b, h, refl)) fv fw
shift_by_made c a b m line o v w (Some j) None fv fw = tt
shift_by_made c a b m line o v w None k fv fw = tt

shift_made : (c : Around) (a b : e.Expr) (m : Machdep) (line : ℕ) (o : Arithmetic) (v w : Rvalue) → RvalueSpells c a v → RvalueSpells c b w
    → Made c (e.binary line (spec.arithmetic o) a b) (shift m line o (spec.arithmetic o) v w)
shift_made c a b m line o v w fv fw = shift_by_made c a b m line o v w (kind_of_value v.value) (kind_of_value w.value) fv fw

compared_spell : (c : Around) (a b : e.Expr) (m : Machdep) (line : ℕ) (o : Comparison) (v w : Rvalue) (j k : Kind) → RvalueSpells c a v → RvalueSpells c b w
    → OperandSpells c (compared m line o (spec.comparison o) v w j k) (e.binary line (spec.comparison o) a b)
compared_spell c a b m line o v w j k fv fw = two_spell c a b m line (op.Compare o) (spec.comparison o) _ _ _ v w (λ vs type h. (a, b, h, refl)) fv fw

-- ---- pointers

offset_by_made : (c : Around) (a b : e.Expr) (line : ℕ) (minus : Bool) (v w : Rvalue) (size : Option ℕ) (k : Option Kind) → RvalueSpells c a v
    → RvalueSpells c b w
    → Made c (e.binary line (spec.arithmetic (spec.moving minus)) a b) (offset_by line minus v w size k)
offset_by_made c a b line minus v w (Some size) (Some k) fv fw = ((_, itself _, refl, (a, b, (fv.0, (fw.0, tt)), refl)), λ h. never h)
offset_by_made c a b line minus v w (Some size) None fv fw = tt
offset_by_made c a b line minus v w None k fv fw = tt

offset_made : (c : Around) (a b : e.Expr) (sizes : List ℕ) (line : ℕ) (minus : Bool) (v w : Rvalue) → RvalueSpells c a v → RvalueSpells c b w
    → Made c (e.binary line (spec.arithmetic (spec.moving minus)) a b) (offset sizes line minus v w)
offset_made c a b sizes line minus v w fv fw = offset_by_made c a b line minus v w (stride sizes (t.type_of v.value)) (kind_of_value w.value) fv fw

swapped_made : (c : Around) (a b : e.Expr) (line : ℕ) (v w : Rvalue) (k : Option Kind) (size : Option ℕ) → RvalueSpells c a v → RvalueSpells c b w
    → Made c (e.binary line bin.Add a b) (swapped_by line v w k size)
swapped_made c a b line v w (Some k) (Some size) fv fw = ((_, itself _, refl, (a, b, (fv.0, (fw.0, tt)), refl)), λ h. never h)
swapped_made c a b line v w (Some k) None fv fw = tt
swapped_made c a b line v w None size fv fw = tt

sum_by_made : (c : Around) (a b : e.Expr) (m : Machdep) (sizes : List ℕ) (line : ℕ) (v w : Rvalue) (first second : Bool) → RvalueSpells c a v
    → RvalueSpells c b w
    → Made c (e.binary line bin.Add a b) (sum_by m sizes line v w first second)
sum_by_made c a b m sizes line v w true second fv fw = offset_made c a b sizes line false v w fv fw
sum_by_made c a b m sizes line v w false true fv fw = swapped_made c a b line v w (kind_of_value v.value) (stride sizes (t.type_of w.value)) fv fw
sum_by_made c a b m sizes line v w false false fv fw = arithmetic_made c a b m line ar.Add v w fv fw

sum_made : (c : Around) (a b : e.Expr) (m : Machdep) (sizes : List ℕ) (line : ℕ) (v w : Rvalue) → RvalueSpells c a v → RvalueSpells c b w
    → Made c (e.binary line bin.Add a b) (sum m sizes line v w)
unfolding sum
sum_made c a b m sizes line v w fv fw = sum_by_made c a b m sizes line v w (is_pointer (t.type_of v.value)) (is_pointer (t.type_of w.value)) fv fw

apart_made : (c : Around) (a b : e.Expr) (m : Machdep) (line : ℕ) (v w : Rvalue) (alike : Bool) (size : Option ℕ) → RvalueSpells c a v → RvalueSpells c b w
    → Made c (e.binary line bin.Sub a b) (apart_by m line v w alike size)
apart_made c a b m line v w true (Some size) fv fw = ((_, itself _, refl, (a, b, (fv.0, (fw.0, tt)), refl)), λ h. never h)
apart_made c a b m line v w true None fv fw = tt
apart_made c a b m line v w false size fv fw = tt

difference_by_made : (c : Around) (a b : e.Expr) (m : Machdep) (sizes : List ℕ) (line : ℕ) (v w : Rvalue) (first second : Bool) → RvalueSpells c a v
    → RvalueSpells c b w
    → Made c (e.binary line bin.Sub a b) (difference_by m sizes line v w first second)
difference_by_made c a b m sizes line v w true true fv fw =
    apart_made c a b m line v w (are_alike (t.type_of v.value) (t.type_of w.value)) (stride sizes (t.type_of v.value)) fv fw
difference_by_made c a b m sizes line v w true false fv fw = offset_made c a b sizes line true v w fv fw
difference_by_made c a b m sizes line v w false second fv fw = arithmetic_made c a b m line ar.Sub v w fv fw

difference_made : (c : Around) (a b : e.Expr) (m : Machdep) (sizes : List ℕ) (line : ℕ) (v w : Rvalue) → RvalueSpells c a v → RvalueSpells c b w
    → Made c (e.binary line bin.Sub a b) (difference m sizes line v w)
unfolding difference
difference_made c a b m sizes line v w fv fw =
    difference_by_made c a b m sizes line v w (is_pointer (t.type_of v.value)) (is_pointer (t.type_of w.value)) fv fw

-- ---- comparisons

compared_pointers_spell : (c : Around) (a b : e.Expr) (line : ℕ) (o : Comparison) (v w : t.Value) → ValueSpells c v a → ValueSpells c w b
    → OperandSpells c (compared_pointers line o v w) (e.binary line (spec.comparison o) a b)
compared_pointers_spell c a b line o v w fv fw = ((_, itself _, refl, (a, b, (fv, (fw, tt)), refl)), λ h. never h)

ordered_by : (c : Around) (a b : e.Expr) (line : ℕ) (o : Comparison) (v w : t.Value) (alike : Bool) → ValueSpells c v a → ValueSpells c w b
    → Made c (e.binary line (spec.comparison o) a b) (if alike then Ok (compared_pointers line o v w) else wrong line)
ordered_by c a b line o v w true fv fw = compared_pointers_spell c a b line o v w fv fw
ordered_by c a b line o v w false fv fw = tt

order_by_made : (c : Around) (a b : e.Expr) (m : Machdep) (line : ℕ) (o : Comparison) (v w : Rvalue) (j k : Option Kind) → RvalueSpells c a v
    → RvalueSpells c b w
    → Made c (e.binary line (spec.comparison o) a b) (order_by m line o (spec.comparison o) v w j k)
order_by_made c a b m line o v w (Some j) (Some k) fv fw = compared_spell c a b m line o v w j k fv fw
order_by_made c a b m line o v w (Some j) None fv fw = ordered_by c a b line o v.value w.value (are_alike (t.type_of v.value) (t.type_of w.value)) fv.0 fw.0
order_by_made c a b m line o v w None k fv fw = ordered_by c a b line o v.value w.value (are_alike (t.type_of v.value) (t.type_of w.value)) fv.0 fw.0

order_made : (c : Around) (a b : e.Expr) (m : Machdep) (line : ℕ) (o : Comparison) (v w : Rvalue) → RvalueSpells c a v → RvalueSpells c b w
    → Made c (e.binary line (spec.comparison o) a b) (order m line o (spec.comparison o) v w)
unfolding order
order_made c a b m line o v w fv fw = order_by_made c a b m line o v w (kind_of_value v.value) (kind_of_value w.value) fv fw

equal_by_made : (c : Around) (a b : e.Expr) (line : ℕ) (o : Comparison) (v w : t.Value) (alike second first : Bool)
    → (is_pointer (t.type_of v) && is_null w) ≡ second
    → (is_null v && is_pointer (t.type_of w)) ≡ first → ValueSpells c v a → ValueSpells c w b
    → Made c (e.binary line (spec.comparison o) a b) (equal_by line o v w alike second first)
equal_by_made c a b line o v w true second first hs hf fv fw = compared_pointers_spell c a b line o v w fv fw
equal_by_made c a b line o v w false true first hs hf fv fw =
    compared_pointers_spell c a b line o v (null_of (t.type_of v) w) fv
    (null_spells c b (t.type_of v) w (both (is_pointer (t.type_of v)) (is_null w) hs).1 fw)
equal_by_made c a b line o v w false false true hs hf fv fw =
    compared_pointers_spell c a b line o (null_of (t.type_of w) v) w (null_spells c a (t.type_of w) v (both (is_null v) (is_pointer (t.type_of w)) hf).0 fv)
    fw
equal_by_made c a b line o v w false false false hs hf fv fw = tt

equal_made : (c : Around) (a b : e.Expr) (line : ℕ) (o : Comparison) (v w : t.Value) → ValueSpells c v a → ValueSpells c w b
    → Made c (e.binary line (spec.comparison o) a b) (equal line o v w)
equal_made c a b line o v w fv fw =
    equal_by_made c a b line o v w (are_alike (t.type_of v) (t.type_of w)) (is_pointer (t.type_of v) && is_null w) (is_null v && is_pointer (t.type_of w))
    refl refl fv fw

equality_by_made : (c : Around) (a b : e.Expr) (m : Machdep) (line : ℕ) (o : Comparison) (v w : Rvalue) (j k : Option Kind) → RvalueSpells c a v
    → RvalueSpells c b w
    → Made c (e.binary line (spec.comparison o) a b) (equality_by m line o (spec.comparison o) v w j k)
equality_by_made c a b m line o v w (Some j) (Some k) fv fw = compared_spell c a b m line o v w j k fv fw
equality_by_made c a b m line o v w (Some j) None fv fw = equal_made c a b line o v.value w.value fv.0 fw.0
equality_by_made c a b m line o v w None k fv fw = equal_made c a b line o v.value w.value fv.0 fw.0

equality_made : (c : Around) (a b : e.Expr) (m : Machdep) (line : ℕ) (o : Comparison) (v w : Rvalue) → RvalueSpells c a v → RvalueSpells c b w
    → Made c (e.binary line (spec.comparison o) a b) (equality m line o (spec.comparison o) v w)
unfolding equality
equality_made c a b m line o v w fv fw = equality_by_made c a b m line o v w (kind_of_value v.value) (kind_of_value w.value) fv fw

-- ---- `&&` and `||`

connected_spell : (c : Around) (a b : e.Expr) (m : Machdep) (line : ℕ) (how : Connective) (v w : Rvalue) → RvalueSpells c a v → RvalueSpells c b w
    → OperandSpells c (connected m line how (spec.connective how) v w) (e.binary line (spec.connective how) a b)
connected_spell c a b m line how v w fv fw =
    folded_spells c (e.binary line (spec.connective how) a b) kind.Int line (t.logic how v.value w.value) (v.is_constant && w.is_constant)
    (known_of_two m (spec.connective how) (constant_in v) (constant_in w)) refl (a, b, fv.0, fw.0, refl)
    (λ h. let are : (v.is_constant ≡ true) × (w.is_constant ≡ true) = both v.is_constant w.is_constant h in (fv.1 are.0, fw.1 are.1))
    (λ z h. let are : (v.is_constant ≡ true) × (w.is_constant ≡ true) =
    known_two m (spec.connective how) v.is_constant w.is_constant (kind_of_value v.value) (kind_of_value w.value) (number_of v.value) (number_of w.value) z h
    in
    (fv.1 are.0, fw.1 are.1))

logic_made : (c : Around) (a b : e.Expr) (m : Machdep) (line : ℕ) (how : Connective) (v w : Rvalue) → RvalueSpells c a v → RvalueSpells c b w
    → Made c (e.binary line (spec.connective how) a b) (logic m line how (spec.connective how) v w)
unfolding logic
logic_made c a b m line how v w fv fw =
    after_scalar c a _ line v _ fv (λ x fx. after_scalar c b _ line w _ fw (λ y fy. connected_spell c a b m line how x y fx fy))

-- ---- all operators of two operands

binary_values_made : (c : Around) (a b : e.Expr) (m : Machdep) (sizes : List ℕ) (line : ℕ) (o : BinOp) (v w : Rvalue) → RvalueSpells c a v
    → RvalueSpells c b w
    → Made c (e.binary line o a b) (binary_values m sizes line o v w)
binary_values_made c a b m sizes line bin.Mul v w fv fw = arithmetic_made c a b m line ar.Mul v w fv fw
binary_values_made c a b m sizes line bin.Div v w fv fw = arithmetic_made c a b m line ar.Div v w fv fw
binary_values_made c a b m sizes line bin.Rem v w fv fw = arithmetic_made c a b m line ar.Rem v w fv fw
binary_values_made c a b m sizes line bin.Add v w fv fw = sum_made c a b m sizes line v w fv fw
binary_values_made c a b m sizes line bin.Sub v w fv fw = difference_made c a b m sizes line v w fv fw
binary_values_made c a b m sizes line bin.Shl v w fv fw = shift_made c a b m line ar.Shl v w fv fw
binary_values_made c a b m sizes line bin.Shr v w fv fw = shift_made c a b m line ar.Shr v w fv fw
binary_values_made c a b m sizes line bin.Less v w fv fw = order_made c a b m line cmp.Less v w fv fw
binary_values_made c a b m sizes line bin.AtMost v w fv fw = order_made c a b m line cmp.AtMost v w fv fw
binary_values_made c a b m sizes line bin.Greater v w fv fw = order_made c a b m line cmp.Greater v w fv fw
binary_values_made c a b m sizes line bin.AtLeast v w fv fw = order_made c a b m line cmp.AtLeast v w fv fw
binary_values_made c a b m sizes line bin.Equal v w fv fw = equality_made c a b m line cmp.Equal v w fv fw
binary_values_made c a b m sizes line bin.NotEqual v w fv fw = equality_made c a b m line cmp.NotEqual v w fv fw
binary_values_made c a b m sizes line bin.BitAnd v w fv fw = arithmetic_made c a b m line ar.And v w fv fw
binary_values_made c a b m sizes line bin.BitXor v w fv fw = arithmetic_made c a b m line ar.Xor v w fv fw
binary_values_made c a b m sizes line bin.BitOr v w fv fw = arithmetic_made c a b m line ar.Or v w fv fw
binary_values_made c a b m sizes line bin.And v w fv fw = logic_made c a b m line con.And v w fv fw
binary_values_made c a b m sizes line bin.Or v w fv fw = logic_made c a b m line con.Or v w fv fw

pub binary_made : (c : Around) (a b : e.Expr) (m : Machdep) (sizes : List ℕ) (line : ℕ) (o : BinOp) (x y : Operand) → OperandSpells c x a
    → OperandSpells c y b
    → Made c (e.binary line o a b) (binary m sizes line o x y)
unfolding binary
binary_made c a b m sizes line o x y fx fy =
    after_valued c a _ line x _ fx (λ v fv. after_valued c b _ line y _ fy (λ w fw. binary_values_made c a b m sizes line o v w fv fw))

-- ---- `?:`

integer_arms_spell : (c : Around) (i a b : e.Expr) (m : Machdep) (line : ℕ) (test v w : Rvalue) (k : Kind) → RvalueSpells c i test → RvalueSpells c a v
    → RvalueSpells c b w
    → OperandSpells c (integer_arms m line test v w k) (e.cond line i a b)
integer_arms_spell c i a b m line test v w k ft fv fw =
    folded_spells c (e.cond line i a b) k line _ (test.is_constant && v.is_constant && w.is_constant)
    (known_of_three m (constant_in test) (constant_in v) (constant_in w)) refl
    (i, a, b, ft.0, converted_spells c a m k v.value fv.0, converted_spells c b m k w.value fw.0, refl)
    (λ h. let are : (test.is_constant ≡ true) × (v.is_constant ≡ true) × (w.is_constant ≡ true) = all_three test.is_constant v.is_constant w.is_constant h in
    (ft.1 are.0, fv.1 are.1, fw.1 are.2))
    (λ z h. let are : (test.is_constant ≡ true) × (v.is_constant ≡ true) × (w.is_constant ≡ true) =
    known_three m test.is_constant v.is_constant w.is_constant (kind_of_value test.value) (kind_of_value v.value) (kind_of_value w.value)
    (number_of test.value) (number_of v.value)
    (number_of w.value) z h in
    (ft.1 are.0, fv.1 are.1, fw.1 are.2))

arms_spell : (c : Around) (i a b : e.Expr) (line : ℕ) (type : CoreType) (test v w : t.Value) → ValueSpells c test i → ValueSpells c v a → ValueSpells c w b
    → OperandSpells c (value (t.typed (t.choose test v w) type line) false) (e.cond line i a b)
arms_spell c i a b line type test v w ft fv fw = ((_, itself _, refl, (i, a, b, ft, fv, fw, refl)), λ h. never h)

other_arms_by_made : (c : Around) (i a b : e.Expr) (line : ℕ) (test : Rvalue) (v w : t.Value) (alike second first nothing : Bool)
    → (is_pointer (t.type_of v) && is_null w) ≡ second
    → (is_null v && is_pointer (t.type_of w)) ≡ first → RvalueSpells c i test → ValueSpells c v a → ValueSpells c w b
    → Made c (e.cond line i a b) (other_arms_by line test v w alike second first nothing)
other_arms_by_made c i a b line test v w true second first nothing hs hf ft fv fw =
    arms_spell c i a b line (joint (t.type_of v) (t.type_of w)) test.value (requalified (joint (t.type_of v) (t.type_of w)) v)
    (requalified (joint (t.type_of v) (t.type_of w)) w) ft.0
    (requalified_spells c a (joint (t.type_of v) (t.type_of w)) v fv) (requalified_spells c b (joint (t.type_of v) (t.type_of w)) w fw)
other_arms_by_made c i a b line test v w false true first nothing hs hf ft fv fw =
    arms_spell c i a b line (t.type_of v) test.value v (null_of (t.type_of v) w) ft.0 fv
    (null_spells c b (t.type_of v) w (both (is_pointer (t.type_of v)) (is_null w) hs).1 fw)
other_arms_by_made c i a b line test v w false false true nothing hs hf ft fv fw =
    arms_spell c i a b line (t.type_of w) test.value (null_of (t.type_of w) v) w ft.0
    (null_spells c a (t.type_of w) v (both (is_null v) (is_pointer (t.type_of w)) hf).0 fv) fw
other_arms_by_made c i a b line test v w false false false true hs hf ft fv fw = arms_spell c i a b line void test.value v w ft.0 fv fw
other_arms_by_made c i a b line test v w false false false false hs hf ft fv fw = tt

other_arms_made : (c : Around) (i a b : e.Expr) (line : ℕ) (test : Rvalue) (v w : t.Value) → RvalueSpells c i test → ValueSpells c v a → ValueSpells c w b
    → Made c (e.cond line i a b) (other_arms line test v w)
other_arms_made c i a b line test v w ft fv fw =
    other_arms_by_made c i a b line test v w (are_alike (t.type_of v) (t.type_of w)) (is_pointer (t.type_of v) && is_null w)
    (is_null v && is_pointer (t.type_of w))
    (is_void (t.type_of v) && is_void (t.type_of w)) refl refl ft fv fw

arms_by_made : (c : Around) (i a b : e.Expr) (m : Machdep) (line : ℕ) (test v w : Rvalue) (j k : Option Kind) → RvalueSpells c i test → RvalueSpells c a v
    → RvalueSpells c b w
    → Made c (e.cond line i a b) (arms_by m line test v w j k)
arms_by_made c i a b m line test v w (Some j) (Some k) ft fv fw = integer_arms_spell c i a b m line test v w (common m j k) ft fv fw
arms_by_made c i a b m line test v w (Some j) None ft fv fw = other_arms_made c i a b line test v.value w.value ft fv.0 fw.0
arms_by_made c i a b m line test v w None k ft fv fw = other_arms_made c i a b line test v.value w.value ft fv.0 fw.0

conditional_values_made : (c : Around) (i a b : e.Expr) (m : Machdep) (line : ℕ) (test v w : Rvalue) → RvalueSpells c i test → RvalueSpells c a v
    → RvalueSpells c b w
    → Made c (e.cond line i a b) (conditional_values m line test v w)
unfolding conditional_values
conditional_values_made c i a b m line test v w ft fv fw =
    after_scalar c i _ line test _ ft (λ s fs. arms_by_made c i a b m line s v w (kind_of_value v.value) (kind_of_value w.value) fs fv fw)

pub conditional_made : (c : Around) (i a b : e.Expr) (m : Machdep) (line : ℕ) (test x y : Operand) → OperandSpells c test i → OperandSpells c x a
    → OperandSpells c y b
    → Made c (e.cond line i a b) (conditional m line test x y)
unfolding conditional
conditional_made c i a b m line test x y ft fx fy =
    after_valued c i _ line test _ ft
    (λ u fu. after_valued c a _ line x _ fx (λ v fv. after_valued c b _ line y _ fy (λ w fw. conditional_values_made c i a b m line u v w fu fv fw)))

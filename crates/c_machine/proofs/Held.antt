-- The value of a constant is a number of its kind.
use Rattle.std.proofs.Common.{◌≡◌, ℤ, pos, ◌*ℤ◌, Bool, true, false, List, [], ◌∷◌, Option, Some, refl, sym, subst}
use Rattle.std.specs.Prelude.{if◌then◌else◌, not, int_lt, int_le}
use Rattle.std.specs.Ordering.{int_eq}
use Rattle.std.specs.List.{list_all}
use Rattle.c_kinds.specs.declared.models.Machdep.TheVariants as model
use Rattle.c_kinds.specs.NumberLaws.{IsOfKind}
use Rattle.c_kinds.proofs.Converting.{conversions_keep}
use Rattle.c_kinds.proofs.Ranking.{every_kind, for_each}
use Rattle.c_kinds.proofs.Results.{results_are_of_kind, chosen_is}
use Rattle.wp_base.specs.declared.kinds.Kind.{Kind}
use Rattle.wp_base.specs.declared.kinds.Kind.TheVariants as kind
use Rattle.c_syntax.specs.declared.expr.BinOp.{BinOp}
use Rattle.c_syntax.specs.declared.expr.BinOp.TheVariants as bin
use Rattle.c_syntax.specs.Expr as e
use Rattle.c_kinds.specs.declared.models.Machdep.{Machdep}
use Rattle.c_kinds.specs.Models.{holds, convert, size_kind}
use Rattle.c_kinds.specs.Conversions.{promote, common}
use Rattle.c_kinds.specs.Numbers as n
use Rattle.c_machine.specs.Literals.{kinds_for, first_holding}
use Rattle.c_machine.specs.Rules.{operate, shift, bytes}
use Rattle.c_machine.specs.Evaluates as r
use Rattle.c_machine.specs.Evaluates.{IsConstant, Evaluates, Takes, is_arithmetic, is_comparison, is_shift, is_logic}

first_holds : (m : Machdep) (z : ℤ) (ks : List Kind) (k : Kind) → first_holding m z ks ≡ Some k → holds m k z ≡ true
first_holds m z [] k h = absurd cc
first_holds m z (j ∷ ks) k h = by_test (holds m j z) refl h (first_holds m z ks k)
  where
    by_test : (b : Bool) → holds m j z ≡ b → (if b then Some j else first_holding m z ks) ≡ Some k → (first_holding m z ks ≡ Some k → holds m k z ≡ true) → holds m k z ≡ true
    by_test true is h rest = subst (λ k. holds m k z ≡ true) (let same : j ≡ k = cc in same) is
    by_test false is h rest = rest h

-- what is said of a result that there is
result_held : (m : Machdep) (k : Kind) (v : Option ℤ) (z : ℤ) → IsOfKind m k v → v ≡ Some z → holds m k z ≡ true
result_held m k v z is h = subst (IsOfKind m k) h is

truth_held : (m : Machdep) (b : Bool) → holds m kind.Int (n.truth b) ≡ true
truth_held m true = refl
truth_held m false = refl

test_held : (m : Machdep) (b : Bool) (z : ℤ) → Some (n.truth b) ≡ Some z → holds m kind.Int z ≡ true
test_held m b z h = let same : n.truth b ≡ z = cc in subst (λ z. holds m kind.Int z ≡ true) same (truth_held m b)

operate_held : (m : Machdep) (op : BinOp) (k : Kind) (x y z : ℤ) → is_arithmetic op ≡ true → operate m op k x y ≡ Some z → holds m k z ≡ true
operate_held m bin.Mul k x y z sort h = result_held m k (operate m bin.Mul k x y) z (results_are_of_kind m k x y).products h
operate_held m bin.Div k x y z sort h = result_held m k (operate m bin.Div k x y) z (results_are_of_kind m k x y).quotients h
operate_held m bin.Rem k x y z sort h = result_held m k (operate m bin.Rem k x y) z (results_are_of_kind m k x y).remainders h
operate_held m bin.Add k x y z sort h = result_held m k (operate m bin.Add k x y) z (results_are_of_kind m k x y).sums h
operate_held m bin.Sub k x y z sort h = result_held m k (operate m bin.Sub k x y) z (results_are_of_kind m k x y).differences h
operate_held m bin.BitAnd k x y z sort h = result_held m k (operate m bin.BitAnd k x y) z (results_are_of_kind m k x y).ands h
operate_held m bin.BitXor k x y z sort h = result_held m k (operate m bin.BitXor k x y) z (results_are_of_kind m k x y).xors h
operate_held m bin.BitOr k x y z sort h = result_held m k (operate m bin.BitOr k x y) z (results_are_of_kind m k x y).ors h
operate_held m op k x y z sort h = absurd cc

compare_held : (m : Machdep) (op : BinOp) (k : Kind) (x y z : ℤ) → is_comparison op ≡ true → operate m op k x y ≡ Some z → holds m kind.Int z ≡ true
compare_held m bin.Less k x y z sort h = test_held m (int_lt x y) z h
compare_held m bin.AtMost k x y z sort h = test_held m (int_le x y) z h
compare_held m bin.Greater k x y z sort h = test_held m (int_lt y x) z h
compare_held m bin.AtLeast k x y z sort h = test_held m (int_le y x) z h
compare_held m bin.Equal k x y z sort h = test_held m (int_eq x y) z h
compare_held m bin.NotEqual k x y z sort h = test_held m (not (int_eq x y)) z h
compare_held m op k x y z sort h = absurd cc

shift_held : (m : Machdep) (op : BinOp) (k : Kind) (x y z : ℤ) → is_shift op ≡ true → shift m op k x y ≡ Some z → holds m k z ≡ true
shift_held m bin.Shl k x y z sort h = result_held m k (n.left_shift m k x y) z (results_are_of_kind m k x y).shifts_left h
shift_held m bin.Shr k x y z sort h = result_held m k (n.right_shift m k x y) z (results_are_of_kind m k x y).shifts_right h
shift_held m op k x y z sort h = absurd cc

all_bytes_held : (m : Machdep) → list_all (λ k. holds m (size_kind m) (bytes m k)) every_kind ≡ true
unfolding every_kind
all_bytes_held model.X86_32 = refl
all_bytes_held model.X86_64 = refl

bytes_held : (m : Machdep) (k : Kind) → holds m (size_kind m) (bytes m k) ≡ true
bytes_held m k = for_each (λ k. holds m (size_kind m) (bytes m k)) (all_bytes_held m) k

size_held : (m : Machdep) (t : e.CType) (z : ℤ) → Takes m t z → holds m (size_kind m) z ≡ true
unfolding n.held
size_held m _ _ (r.of_kind {k = k}) = bytes_held m k
size_held m _ _ r.of_pointer = bytes_held m kind.Long
size_held m _ z (r.of_array k size count x w some held) =
    let is = chosen_is (holds m (size_kind m) (size *ℤ count)) (size *ℤ count) z held in subst (λ z. holds m (size_kind m) z ≡ true) (sym is.1) is.0
size_held m _ z (r.of_const {t = t} x) = size_held m t z x

pub value_held : (m : Machdep) (a : e.Expr) (k : Kind) (z : ℤ) → Evaluates m a k z → holds m k z ≡ true
value_held m _ k z (r.number_value b s is first) = first_holds m z (kinds_for b s) k first
value_held m _ _ _ (r.character_value h) = h
value_held m _ _ _ (r.plus_value {k = k} {y = y} x) = (conversions_keep m (promote k) y).held
value_held m _ _ z (r.minus_value {k = k} y x is) = result_held m (promote k) (n.negated m (promote k) (convert m (promote k) y)) z (results_are_of_kind m (promote k) (convert m (promote k) y) (pos 0)).opposites is
value_held m _ _ z (r.complement_value {k = k} y x is) = result_held m (promote k) (n.complement m (promote k) (convert m (promote k) y)) z (results_are_of_kind m (promote k) (convert m (promote k) y) (pos 0)).complements is
value_held m _ _ _ (r.negation_value k {y = y} x) = truth_held m (int_eq y (pos 0))
value_held m _ _ z (r.arithmetic_value {op = op} {k = k} {l = l} x y sort v w is) = operate_held m op (common m k l) (convert m (common m k l) x) (convert m (common m k l) y) z sort is
value_held m _ _ z (r.comparison_value {op = op} k l x y sort v w is) = compare_held m op (common m k l) (convert m (common m k l) x) (convert m (common m k l) y) z sort is
value_held m _ _ z (r.shift_value {op = op} {k = k} l x y sort v w is) = shift_held m op (promote k) (convert m (promote k) x) (convert m (promote l) y) z sort is
value_held m _ _ _ (r.and_short k l x w) = refl
value_held m _ _ _ (r.and_long k l y {z = z} x some w) = truth_held m (not (int_eq z (pos 0)))
value_held m _ _ _ (r.or_short k l y x some w) = refl
value_held m _ _ _ (r.or_long k l {z = z} x w) = truth_held m (not (int_eq z (pos 0)))
value_held m _ _ _ (r.first_chosen j {k = k} {l = l} x {y = y} t some w other) = (conversions_keep m (common m k l) y).held
value_held m _ _ _ (r.second_chosen j {k = k} {l = l} {z = z} t other w) = (conversions_keep m (common m k l) z).held
value_held m _ k _ (r.cast_value l {y = y} to x) = (conversions_keep m k y).held
value_held m _ _ z (r.size_value {t = t} x) = size_held m t z x

-- What the rules derive, the function gives.
use Rattle.std.proofs.Common.{◌≡◌, ◌≢◌, ℤ, pos, ◌*ℤ◌, true, false, List, [], ◌∷◌, Option, Some, None, refl, ap, ◌∙◌}
use Rattle.std.specs.Prelude.{int_le, if◌then◌else◌}
use Rattle.std.specs.Option.{option_map, option_and_then}
use Rattle.std.specs.Ordering.{int_eq}
use Rattle.std.proofs.lemmas.Bool.{false_from_ne_true}
use Rattle.std.proofs.lemmas.Bool.Decides.{Decides-int_eq}
use Rattle.c_kinds.proofs.Converting.{le_test}
use Rattle.wp_base.specs.declared.kinds.Kind.{Kind}
use Rattle.wp_base.specs.declared.kinds.Kind.TheVariants as kind
use Rattle.c_syntax.specs.declared.expr.UnOp.TheVariants as un
use Rattle.c_syntax.specs.declared.expr.BinOp.{BinOp}
use Rattle.c_syntax.specs.declared.expr.BinOp.TheVariants as bin
use Rattle.c_syntax.specs.Expr as e
use Rattle.c_kinds.specs.declared.models.Machdep.{Machdep}
use Rattle.c_kinds.specs.Models.{holds, convert, size_kind}
use Rattle.c_kinds.specs.Conversions.{promote, common}
use Rattle.c_kinds.specs.Numbers as n
use Rattle.c_machine.specs.declared.rules.Constant.{Constant}
use Rattle.c_machine.specs.Literals.{kinds_for, first_holding, literal, token_constant, char_constant}
use Rattle.c_machine.specs.Rules.{constant, converted, on_both, unary_of, operate, shift, binary_of, is_true, and_value, or_value, choose, chosen, array_bytes}
use Rattle.c_machine.specs.Constants.{unary, binary, conditional, cast, size_constant, constant_of, bytes_of}
use Rattle.c_machine.specs.Evaluates as r
use Rattle.c_machine.specs.Evaluates.{IsConstant, Evaluates, Takes, is_arithmetic, is_comparison, is_shift, is_logic}

literal_is : (m : Machdep) (z : ℤ) (ks : List Kind) (k : Kind) → first_holding m z ks ≡ Some k → literal m z ks ≡ Some (constant k (Some z))
unfolding literal
literal_is m z ks k h = ap (option_map (λ k. constant k (Some z))) h

char_is : (m : Machdep) (z : ℤ) → holds m kind.Int z ≡ true → char_constant m z ≡ Some (constant kind.Int (Some z))
char_is m z h = literal_is m z (kind.Int ∷ []) kind.Int (ap (λ b. if b then Some kind.Int else None) h)

pub test_false : (y : ℤ) → y ≢ pos 0 → int_eq y (pos 0) ≡ false
test_false y h = false_from_ne_true (int_eq y (pos 0)) (λ e. h ((Decides-int_eq y (pos 0)).0 e))

-- ---- operators by what sort they are of

abbrev pub joined_value : Machdep → BinOp → Constant → Constant → Option ℤ
joined_value m op c d = on_both (operate m op (common m c.kind d.kind)) (converted m (common m c.kind d.kind) c.value) (converted m (common m c.kind d.kind) d.value)

pub arithmetic_is : (m : Machdep) (op : BinOp) (c d : Constant) → is_arithmetic op ≡ true → binary_of m op c d ≡ constant (common m c.kind d.kind) (joined_value m op c d)
unfolding binary_of
arithmetic_is m bin.Mul c d h = refl
arithmetic_is m bin.Div c d h = refl
arithmetic_is m bin.Rem c d h = refl
arithmetic_is m bin.Add c d h = refl
arithmetic_is m bin.Sub c d h = refl
arithmetic_is m bin.BitAnd c d h = refl
arithmetic_is m bin.BitXor c d h = refl
arithmetic_is m bin.BitOr c d h = refl
arithmetic_is m op c d h = absurd cc

pub comparison_is : (m : Machdep) (op : BinOp) (c d : Constant) → is_comparison op ≡ true → binary_of m op c d ≡ constant kind.Int (joined_value m op c d)
unfolding binary_of
comparison_is m bin.Less c d h = refl
comparison_is m bin.AtMost c d h = refl
comparison_is m bin.Greater c d h = refl
comparison_is m bin.AtLeast c d h = refl
comparison_is m bin.Equal c d h = refl
comparison_is m bin.NotEqual c d h = refl
comparison_is m op c d h = absurd cc

abbrev pub shifted_value : Machdep → BinOp → Constant → Constant → Option ℤ
shifted_value m op c d = on_both (shift m op (promote c.kind)) (converted m (promote c.kind) c.value) (converted m (promote d.kind) d.value)

pub shift_is : (m : Machdep) (op : BinOp) (c d : Constant) → is_shift op ≡ true → binary_of m op c d ≡ constant (promote c.kind) (shifted_value m op c d)
unfolding binary_of
shift_is m bin.Shl c d h = refl
shift_is m bin.Shr c d h = refl
shift_is m op c d h = absurd cc

abbrev logic_value : BinOp → Constant → Constant → Option ℤ
logic_value bin.And c d = and_value c.value d.value
logic_value op c d = or_value c.value d.value

pub logic_is : (m : Machdep) (op : BinOp) (c d : Constant) → is_logic op ≡ true → binary_of m op c d ≡ constant kind.Int (logic_value op c d)
unfolding binary_of
logic_is m bin.And c d h = refl
logic_is m bin.Or c d h = refl
logic_is m op c d h = absurd cc

-- ---- the three relations

array_is : (m : Machdep) (k : Kind) (size count z : ℤ) → int_le (pos 1) count ≡ true → n.held m (size_kind m) (size *ℤ count) ≡ Some z → array_bytes m (Some size) (Some (constant k (Some count))) ≡ Some z
unfolding array_bytes
array_is m k size count z some held = ap (λ b. if b then n.held m (size_kind m) (size *ℤ count) else None) some ∙ held

mutual
  unfolding unary_of chosen

  pub constant_given : (m : Machdep) (a : e.Expr) (k : Kind) → IsConstant m a k → (v : Option ℤ) × (constant_of m a ≡ Some (constant k v))
  constant_given m _ k (r.number {t = t} z b s is first) = (Some z, ap (token_constant m) is ∙ literal_is m z (kinds_for b s) k first)
  constant_given m _ _ (r.character {z = z} h) = (Some z, char_is m z h)
  constant_given m _ _ (r.plus {a = a} {k = k} x) = let g = constant_given m a k x in (converted m (promote k) g.0, ap (unary m un.Plus) g.1)
  constant_given m _ _ (r.minus {a = a} {k = k} x) = let g = constant_given m a k x in (option_and_then (n.negated m (promote k)) (converted m (promote k) g.0), ap (unary m un.Minus) g.1)
  constant_given m _ _ (r.complement {a = a} {k = k} x) = let g = constant_given m a k x in (option_and_then (n.complement m (promote k)) (converted m (promote k) g.0), ap (unary m un.BitNot) g.1)
  constant_given m _ _ (r.negation {a = a} {k = k} x) = let g = constant_given m a k x in (option_map (λ z. n.equal z (pos 0)) g.0, ap (unary m un.Not) g.1)
  constant_given m _ _ (r.arithmetic {op = op} {a = a} {b = b} {k = k} {l = l} sort x y) =
      let g = constant_given m a k x in let h = constant_given m b l y in
      (joined_value m op (constant k g.0) (constant l h.0), (λ i. binary m op (g.1 i) (h.1 i)) ∙ ap Some (arithmetic_is m op (constant k g.0) (constant l h.0) sort))
  constant_given m _ _ (r.comparison {op = op} {a = a} {b = b} {k = k} {l = l} sort x y) =
      let g = constant_given m a k x in let h = constant_given m b l y in
      (joined_value m op (constant k g.0) (constant l h.0), (λ i. binary m op (g.1 i) (h.1 i)) ∙ ap Some (comparison_is m op (constant k g.0) (constant l h.0) sort))
  constant_given m _ _ (r.shifted {op = op} {a = a} {b = b} {k = k} {l = l} sort x y) =
      let g = constant_given m a k x in let h = constant_given m b l y in
      (shifted_value m op (constant k g.0) (constant l h.0), (λ i. binary m op (g.1 i) (h.1 i)) ∙ ap Some (shift_is m op (constant k g.0) (constant l h.0) sort))
  constant_given m _ _ (r.logic {op = op} {a = a} {b = b} {k = k} {l = l} sort x y) =
      let g = constant_given m a k x in let h = constant_given m b l y in
      (logic_value op (constant k g.0) (constant l h.0), (λ i. binary m op (g.1 i) (h.1 i)) ∙ ap Some (logic_is m op (constant k g.0) (constant l h.0) sort))
  constant_given m _ _ (r.conditional {test = test} {a = a} {b = b} {j = j} {k = k} {l = l} t x y) =
      let f = constant_given m test j t in let g = constant_given m a k x in let h = constant_given m b l y in
      (choose f.0 (converted m (common m k l) g.0) (converted m (common m k l) h.0), λ i. conditional m (f.1 i) (g.1 i) (h.1 i))
  constant_given m _ k (r.cast {t = t} {a = a} {l = l} to x) = let g = constant_given m a l x in (converted m k g.0, λ i. cast m (to i) (g.1 i))
  constant_given m _ _ (r.size {t = t} {z = z} x) = (Some z, ap (size_constant m) (takes_given m t z x))

  pub value_given : (m : Machdep) (a : e.Expr) (k : Kind) (z : ℤ) → Evaluates m a k z → constant_of m a ≡ Some (constant k (Some z))
  value_given m _ k z (r.number_value {t = t} b s is first) = ap (token_constant m) is ∙ literal_is m z (kinds_for b s) k first
  value_given m _ _ _ (r.character_value {z = z} h) = char_is m z h
  value_given m _ _ _ (r.plus_value {a = a} {k = k} {y = y} x) = ap (unary m un.Plus) (value_given m a k y x)
  value_given m _ _ z (r.minus_value {a = a} {k = k} y x is) = ap (unary m un.Minus) (value_given m a k y x) ∙ ap (λ v. Some (constant (promote k) v)) is
  value_given m _ _ z (r.complement_value {a = a} {k = k} y x is) = ap (unary m un.BitNot) (value_given m a k y x) ∙ ap (λ v. Some (constant (promote k) v)) is
  value_given m _ _ _ (r.negation_value {a = a} k {y = y} x) = ap (unary m un.Not) (value_given m a k y x)
  value_given m _ _ _ (r.arithmetic_value {op = op} {a = a} {b = b} {k = k} {l = l} y z sort x w is) =
      (λ i. binary m op (value_given m a k y x i) (value_given m b l z w i)) ∙ ap Some (arithmetic_is m op (constant k (Some y)) (constant l (Some z)) sort) ∙ ap (λ v. Some (constant (common m k l) v)) is
  value_given m _ _ _ (r.comparison_value {op = op} {a = a} {b = b} k l y z sort x w is) =
      (λ i. binary m op (value_given m a k y x i) (value_given m b l z w i)) ∙ ap Some (comparison_is m op (constant k (Some y)) (constant l (Some z)) sort) ∙ ap (λ v. Some (constant kind.Int v)) is
  value_given m _ _ _ (r.shift_value {op = op} {a = a} {b = b} {k = k} l y z sort x w is) =
      (λ i. binary m op (value_given m a k y x i) (value_given m b l z w i)) ∙ ap Some (shift_is m op (constant k (Some y)) (constant l (Some z)) sort) ∙ ap (λ v. Some (constant (promote k) v)) is
  value_given m _ _ _ (r.and_short {a = a} {b = b} k l x w) =
      let h = constant_given m b l w in
      (λ i. binary m bin.And (value_given m a k (pos 0) x i) (h.1 i)) ∙ ap Some (logic_is m bin.And (constant k (Some (pos 0))) (constant l h.0) refl)
  value_given m _ _ _ (r.and_long {a = a} {b = b} k l y {z = z} x some w) =
      (λ i. binary m bin.And (value_given m a k y x i) (value_given m b l z w i)) ∙ ap Some (logic_is m bin.And (constant k (Some y)) (constant l (Some z)) refl)
      ∙ ap (λ b. Some (constant kind.Int (if b then Some (pos 0) else Some (is_true z)))) (test_false y some)
  value_given m _ _ _ (r.or_short {a = a} {b = b} k l y x some w) =
      let h = constant_given m b l w in
      (λ i. binary m bin.Or (value_given m a k y x i) (h.1 i)) ∙ ap Some (logic_is m bin.Or (constant k (Some y)) (constant l h.0) refl)
      ∙ ap (λ b. Some (constant kind.Int (if b then option_map is_true h.0 else Some (pos 1)))) (test_false y some)
  value_given m _ _ _ (r.or_long {a = a} {b = b} k l {z = z} x w) =
      (λ i. binary m bin.Or (value_given m a k (pos 0) x i) (value_given m b l z w i)) ∙ ap Some (logic_is m bin.Or (constant k (Some (pos 0))) (constant l (Some z)) refl)
  value_given m _ _ _ (r.first_chosen {test = test} {a = a} {b = b} j {k = k} {l = l} x {y = y} t some w other) =
      let h = constant_given m b l other in
      (λ i. conditional m (value_given m test j x t i) (value_given m a k y w i) (h.1 i))
      ∙ ap (λ b. Some (constant (common m k l) (if b then converted m (common m k l) h.0 else Some (convert m (common m k l) y)))) (test_false x some)
  value_given m _ _ _ (r.second_chosen {test = test} {a = a} {b = b} j {k = k} {l = l} {z = z} t other w) =
      let g = constant_given m a k other in
      λ i. conditional m (value_given m test j (pos 0) t i) (g.1 i) (value_given m b l z w i)
  value_given m _ k _ (r.cast_value {t = t} {a = a} l {y = y} to x) = λ i. cast m (to i) (value_given m a l y x i)
  value_given m _ _ z (r.size_value {t = t} x) = ap (size_constant m) (takes_given m t z x)

  pub takes_given : (m : Machdep) (t : e.CType) (z : ℤ) → Takes m t z → bytes_of m t ≡ Some z
  takes_given m _ _ r.of_kind = refl
  takes_given m _ _ r.of_pointer = refl
  takes_given m _ z (r.of_array {t = t} {a = a} k size count x w some held) =
      (λ i. array_bytes m (takes_given m t size x i) (value_given m a k count w i)) ∙ array_is m k size count z (le_test (pos 1) count some) held
  takes_given m _ z (r.of_const {t = t} x) = takes_given m t z x

-- Temporaries in expressions, in the words of the code.
use Rattle.std.proofs.Common.{◌≡◌, ℕ, suc, ℤ, List, [], ◌∷◌, Option, Some, refl, sym, ap, subst}
use Rattle.wp_base.specs.declared.kinds.CellKind.{CellKind}
use Rattle.typed_prog.specs.declared.types.CoreType.{CoreType}
use Rattle.typed_prog.specs.declared.operators.Connective.{Connective}
use Rattle.typed_prog.specs.declared.operators.Effect.{Effect}
use Rattle.typed_prog.specs.declared.operators.Op.{Op}
use Rattle.typed_prog.specs.declared.tree.Value.{Value as Code}
use Rattle.typed_prog.specs.Tree as t
use Rattle.typed_prog.specs.Tree.{values_of}
use Rattle.typed_prog.specs.View.{view_value, view_values}
use Rattle.value_terms.specs.Typed.{kind_given}
use Rattle.temporary_kinds.specs.Kinds.{or_else, only_if, greater, node_kind, node_count, value_kind, value_count, values_kind, values_count}
use Rattle.temporary_kinds.specs.View.{Tells}
use Rattle.temporary_kinds.proofs.Telling.{nothing_told, same_told, kinds_of, count_of}

abbrev Kinds : Type 0
Kinds = List (Option CellKind)

module _ (type : CoreType) (xs ys : Kinds) where
  abbrev Told : t.ValueNode → Type 0
  Told e = Tells xs ys (node_kind type e) (node_count e)

  pub temporary_told : (e : t.ValueNode) (m : ℕ) (k : CellKind) → e ≡ t.temporary m → k ≡ kind_given type
      → Tells xs ys (λ n. only_if m n (Some k)) (suc m) → Told e
  temporary_told e m k is same h =
      subst Told (sym is) (subst (λ l. Tells xs ys (λ n. only_if m n (Some l)) (suc m)) same h)

  pub operation_told : (e : t.ValueNode) (o : Op) (es : t.Values) → e ≡ t.apply o es → Tells xs ys (values_kind es) (values_count es) → Told e
  operation_told e o es is h = subst Told (sym is) h

module _ (type : CoreType) (xs : Kinds) where
  abbrev None_told : t.ValueNode → Type 0
  None_told e = Tells xs xs (node_kind type e) (node_count e)

  pub constant_told : (e : t.ValueNode) (z : ℤ) → e ≡ t.constant z → None_told e
  constant_told e z is = subst None_told (sym is) (nothing_told xs)

  pub null_told : (e : t.ValueNode) → e ≡ t.null → None_told e
  null_told e is = subst None_told (sym is) (nothing_told xs)

  pub logic_told : (e : t.ValueNode) (how : Connective) (a b : t.Value) → e ≡ t.logic how a b → None_told e
  logic_told e how a b is = subst None_told (sym is) (nothing_told xs)

  pub choice_told : (e : t.ValueNode) (a b c : t.Value) → e ≡ t.choose a b c → None_told e
  choice_told e a b c is = subst None_told (sym is) (nothing_told xs)

  pub effect_told : (e : t.ValueNode) (does : Effect) (es : t.Values) → e ≡ t.effect does es → None_told e
  effect_told e does es is = subst None_told (sym is) (nothing_told xs)

pub ruleset node_laws = (temporary_told, operation_told, constant_told, null_told, logic_told, choice_told, effect_told)

-- ---- operands

abbrev pub code_kind : Code → ℕ → Option CellKind
code_kind v n = value_kind (view_value v) n

abbrev pub code_count : Code → ℕ
code_count v = value_count (view_value v)

kinds_same : (vs : List Code) (n : ℕ) → kinds_of code_kind code_count vs n ≡ values_kind (values_of (view_values vs)) n
kinds_same [] n = refl
kinds_same (v ∷ vs) n = ap (or_else (code_kind v n)) (kinds_same vs n)

count_same : (vs : List Code) → count_of code_kind code_count vs ≡ values_count (values_of (view_values vs))
count_same [] = refl
count_same (v ∷ vs) = ap (greater (code_count v)) (count_same vs)

pub operands_told : (vs : List Code) (xs ys : Kinds) → Tells xs ys (kinds_of code_kind code_count vs) (count_of code_kind code_count vs)
    → Tells xs ys (values_kind (values_of (view_values vs))) (values_count (values_of (view_values vs)))
operands_told vs xs ys h =
    same_told xs ys (kinds_of code_kind code_count vs) (values_kind (values_of (view_values vs))) (count_of code_kind code_count vs)
    (values_count (values_of (view_values vs))) (kinds_same vs) (count_same vs) h

pub ruleset list_laws = (operands_told)

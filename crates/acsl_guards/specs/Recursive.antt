-- Definitions that call themselves (ACSL 2.6.1, 2.6.6). A logic function that does has the body `n <= c ? E0 : E1`, with its last parameter n, an
-- `integer`, and a number c as spelled, and calls itself in E1 alone and with `n - 1` in last place.
use Rattle.std.specs.Prelude.{ℕ, ℤ, pos, Bool, true, false, ◌&&◌, ◌||◌, ◌-◌, List, length, Option, Some, None}
use Rattle.std.specs.List.{list_any, slice_get}
use Rattle.std.specs.Ordering.{int_eq}
use Rattle.std.specs.Str.{bytes_eq}
use Rattle.c_syntax.specs.declared.token.Token.{Token}
use Rattle.c_syntax.specs.declared.token.TokenKind.{TokenKind}
use Rattle.c_syntax.specs.declared.token.TokenKind.TheVariants as kind
use Rattle.c_syntax.specs.declared.expr.BinOp.{BinOp}
use Rattle.c_syntax.specs.declared.expr.BinOp.TheVariants as op
use Rattle.c_syntax.specs.Expr as e
use Rattle.c_syntax.specs.Term as t
use Rattle.c_syntax.specs.Pred as p
use Rattle.c_syntax.specs.Decl as d
use Rattle.acsl_guards.specs.Mentions.{calls, is_name}
use Rattle.acsl_guards.specs.Guarding.{is_integer}

-- ---- calls

-- a call of this predicate or function stands in it
abbrev pub pred_calls : List ℕ → p.Pred → Bool
pred_calls f (p.always line) = false
pred_calls f (p.never line) = false
pred_calls f (p.not_of line a) = pred_calls f a
pred_calls f (p.and_of line a b) = pred_calls f a || pred_calls f b
pred_calls f (p.xor_of line a b) = pred_calls f a || pred_calls f b
pred_calls f (p.or_of line a b) = pred_calls f a || pred_calls f b
pred_calls f (p.implies line a b) = pred_calls f a || pred_calls f b
pred_calls f (p.iff line a b) = pred_calls f a || pred_calls f b
pred_calls f (p.cond line test a b) = pred_calls f test || (pred_calls f a || pred_calls f b)
pred_calls f (p.let_in line x value a) = calls f value || pred_calls f a
pred_calls f (p.chain line ts os) = list_any (calls f) ts
pred_calls f (p.for_all line bs a) = pred_calls f a
pred_calls f (p.for_some line bs a) = pred_calls f a
pred_calls f (p.valid line a) = calls f a
pred_calls f (p.valid_read line a) = calls f a
pred_calls f (p.separated line ts) = list_any (calls f) ts
pred_calls f (p.old line a) = pred_calls f a
pred_calls f (p.call line g args) = bytes_eq f g || list_any (calls f) args

abbrev pub body_calls : List ℕ → d.LogicBody → Bool
body_calls f (d.term a) = calls f a
body_calls f (d.pred a) = pred_calls f a

abbrev pub calls_itself : d.LogicDecl → Bool
calls_itself x = body_calls x.name x.body

-- ---- parts of terms

abbrev pub kind_value : TokenKind → Option ℤ
kind_value (kind.Number value base suffix) = Some value
kind_value other = None

abbrev pub value_of : Token → Option ℤ
value_of token = kind_value token.kind

-- the value of a number as spelled
abbrev pub number_of : t.Term → Option ℤ
number_of (t.number line token) = value_of token
number_of a = None

abbrev pub binary_of : t.Term → Option (BinOp × (t.Term × t.Term))
binary_of (t.binary line o a b) = Some (o, (a, b))
binary_of a = None

-- the test of a conditional
abbrev pub test_of : t.Term → Option t.Term
test_of (t.cond line test a b) = Some test
test_of a = None

abbrev pub last_of : {X : Type 0} → List X → Option X
last_of xs = slice_get xs (length xs - 1)

abbrev pub is_at_most : BinOp → Bool
is_at_most op.AtMost = true
is_at_most o = false

abbrev pub is_minus : BinOp → Bool
is_minus op.Sub = true
is_minus o = false

abbrev pub is_number : Option ℤ → Bool
is_number None = false
is_number (Some z) = true

abbrev pub is_one : Option ℤ → Bool
is_one None = false
is_one (Some z) = int_eq z (pos 1)

-- ---- the form

-- `n <= c`
abbrev pub is_base_test : List ℕ → Option (BinOp × (t.Term × t.Term)) → Bool
is_base_test n None = false
is_base_test n (Some b) = is_at_most b.0 && (is_name n b.1.0 && is_number (number_of b.1.1))

-- `n - 1`
abbrev pub is_step : List ℕ → Option (BinOp × (t.Term × t.Term)) → Bool
is_step n None = false
is_step n (Some b) = is_minus b.0 && (is_name n b.1.0 && is_one (number_of b.1.1))

abbrev pub tests_last : Option e.VarDecl → Option t.Term → Bool
tests_last None test = false
tests_last (Some n) None = false
tests_last (Some n) (Some test) = is_integer n.ty && is_base_test n.name (binary_of test)

abbrev pub is_recursive_form : (params : List e.VarDecl) → (body : t.Term) → Bool
is_recursive_form params body = tests_last (last_of params) (test_of body)

abbrev pub steps_last : Option e.VarDecl → Option t.Term → Bool
steps_last None arg = false
steps_last (Some n) None = false
steps_last (Some n) (Some arg) = is_step n.name (binary_of arg)

abbrev pub steps_down : (params : List e.VarDecl) → (args : List t.Term) → Bool
steps_down params args = steps_last (last_of params) (last_of args)

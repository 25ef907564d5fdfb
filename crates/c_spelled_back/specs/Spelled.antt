-- Which expressions a typed expression is of, as spelled: numbers, types and conversions by the context are forgotten. Every other node is an operator that
-- stands in the text, on its own line, over what its operands spell.
use Rattle.std.specs.Prelude.{◌≡◌, ℕ, pos, Bool, true, false, not, List, [], ◌∷◌, Some, None, Ok}
use Rattle.c_syntax.specs.declared.expr.UnOp.TheVariants as un
use Rattle.c_syntax.specs.declared.expr.BinOp.{BinOp}
use Rattle.c_syntax.specs.declared.expr.BinOp.TheVariants as bin
use Rattle.c_syntax.specs.Expr as e
use Rattle.c_syntax.specs.Lines.{line_of}
use Rattle.typed_prog.specs.declared.types.CoreType.{CoreType}
use Rattle.typed_prog.specs.declared.operators.Arithmetic.{Arithmetic}
use Rattle.typed_prog.specs.declared.operators.Arithmetic.TheVariants as ar
use Rattle.typed_prog.specs.declared.operators.Comparison.{Comparison}
use Rattle.typed_prog.specs.declared.operators.Comparison.TheVariants as cmp
use Rattle.typed_prog.specs.declared.operators.Connective.{Connective}
use Rattle.typed_prog.specs.declared.operators.Connective.TheVariants as con
use Rattle.typed_prog.specs.declared.operators.Change.{Change}
use Rattle.typed_prog.specs.declared.operators.Change.TheVariants as change
use Rattle.typed_prog.specs.declared.operators.UpdateForm.TheVariants as form
use Rattle.typed_prog.specs.declared.operators.Op.{Op}
use Rattle.typed_prog.specs.declared.operators.Op.TheVariants as op
use Rattle.typed_prog.specs.declared.operators.Effect.{Effect}
use Rattle.typed_prog.specs.declared.operators.Effect.TheVariants as effect
use Rattle.typed_prog.specs.Tree as t
use Rattle.c_operands.specs.Operands.{Operand, object, value, Place}
use Rattle.c_operands.specs.Conversions.{number_of}
use Rattle.c_scopes.specs.declared.symbols.Symbol.TheVariants as symbol
use Rattle.c_scopes.specs.declared.symbols.Resolved.{Resolved}
use Rattle.c_scopes.specs.Declarations.{find}
use Rattle.c_scopes.specs.Meanings.{named}
use Rattle.c_exprs.specs.Typing.{Around, typed}
use Rattle.c_spelled_back.specs.Constants.{IsConstantExpr, StandsFor, IsNullConstant}
use Rattle.c_spelled_back.specs.Ways.{PathSpells}

-- ---- how the operators are spelled (C11 6.5.5 to 6.5.14)

abbrev pub arithmetic : Arithmetic → BinOp
arithmetic ar.Mul = bin.Mul
arithmetic ar.Div = bin.Div
arithmetic ar.Rem = bin.Rem
arithmetic ar.Add = bin.Add
arithmetic ar.Sub = bin.Sub
arithmetic ar.Shl = bin.Shl
arithmetic ar.Shr = bin.Shr
arithmetic ar.And = bin.BitAnd
arithmetic ar.Xor = bin.BitXor
arithmetic ar.Or = bin.BitOr

abbrev pub comparison : Comparison → BinOp
comparison cmp.Less = bin.Less
comparison cmp.AtMost = bin.AtMost
comparison cmp.Greater = bin.Greater
comparison cmp.AtLeast = bin.AtLeast
comparison cmp.Equal = bin.Equal
comparison cmp.NotEqual = bin.NotEqual

abbrev pub connective : Connective → BinOp
connective con.And = bin.And
connective con.Or = bin.Or

-- `-` or `+` before a number of elements
abbrev pub moving : (minus : Bool) → Arithmetic
moving true = ar.Sub
moving false = ar.Add

-- what an update computes
abbrev pub computed : Change → Arithmetic
computed (change.Integer o k) = o
computed (change.Pointer minus size) = moving minus

-- ---- operators over operands; `Operands` says which lists of expressions these spell

abbrev pub OneSpells : (Operands : List e.Expr → Type 0) → (e.Expr → e.Expr) → e.Expr → Type 0
OneSpells Operands over x = (a : e.Expr) × Operands (a ∷ []) × (x ≡ over a)

abbrev pub TwoSpell : (Operands : List e.Expr → Type 0) → (e.Expr → e.Expr → e.Expr) → e.Expr → Type 0
TwoSpell Operands over x = (a : e.Expr) × (b : e.Expr) × Operands (a ∷ b ∷ []) × (x ≡ over a b)

-- a cast, whose type is the one that is spelled there
abbrev pub CastSpells : Around → (Operands : List e.Expr → Type 0) → CoreType → (line : ℕ) → e.Expr → Type 0
CastSpells c Operands type line x =
    (spelled : e.CType) × (r : Resolved) × (named c.scope.file line spelled ≡ Ok (Some r)) × (r.ty ≡ type) × OneSpells Operands (e.cast line spelled) x

abbrev pub OpSpells : Around → Op → (Operands : List e.Expr → Type 0) → CoreType → (line : ℕ) → e.Expr → Type 0
OpSpells c (op.Read path) Operands type line x = (xs : List e.Expr) × Operands xs × PathSpells c xs path x
OpSpells c (op.Decay path accessed) Operands type line x = (xs : List e.Expr) × Operands xs × PathSpells c xs path x
OpSpells c (op.Address path accessed) Operands type line x =
    (xs : List e.Expr) × (a : e.Expr) × Operands xs × PathSpells c xs path a × (x ≡ e.unary line un.AddressOf a)
OpSpells c op.Negate Operands type line x = OneSpells Operands (e.unary line un.Minus) x
OpSpells c op.Complement Operands type line x = OneSpells Operands (e.unary line un.BitNot) x
OpSpells c op.Not Operands type line x = OneSpells Operands (e.unary line un.Not) x
OpSpells c (op.Arithmetic o) Operands type line x = TwoSpell Operands (e.binary line (arithmetic o)) x
OpSpells c (op.Compare o) Operands type line x = TwoSpell Operands (e.binary line (comparison o)) x
OpSpells c (op.ComparePointers o) Operands type line x = TwoSpell Operands (e.binary line (comparison o)) x
OpSpells c (op.Offset minus index_first size accessed) Operands type line x = TwoSpell Operands (e.binary line (arithmetic (moving minus))) x
OpSpells c (op.Difference size) Operands type line x = TwoSpell Operands (e.binary line bin.Sub) x
OpSpells c op.Convert Operands type line x = Operands (x ∷ [])
OpSpells c op.Requalify Operands type line x = Operands (x ∷ [])
OpSpells c op.Cast Operands type line x = CastSpells c Operands type line x

-- `BehindOne` says which lists the operands spell but for the first, which is the number 1
abbrev pub EffectSpells : Around → Effect → (Operands BehindOne : List e.Expr → Type 0) → (line : ℕ) → e.Expr → Type 0
EffectSpells c (effect.Assign path) Operands BehindOne line x =
    (v : e.Expr) × (xs : List e.Expr) × (a : e.Expr) × Operands (v ∷ xs) × PathSpells c xs path a × (x ≡ e.assign line None a v)
EffectSpells c (effect.Update path by form.Compound) Operands BehindOne line x =
    (v : e.Expr) × (xs : List e.Expr) × (a : e.Expr) × Operands (v ∷ xs) × PathSpells c xs path a × (x ≡ e.assign line (Some (arithmetic (computed by))) a v)
EffectSpells c (effect.Update path by form.Prefix) Operands BehindOne line x =
    (up : Bool) × (xs : List e.Expr) × (a : e.Expr) × BehindOne xs × PathSpells c xs path a × (computed by ≡ moving (not up)) × (x ≡ e.step line up true a)
EffectSpells c (effect.Update path by form.Postfix) Operands BehindOne line x =
    (up : Bool) × (xs : List e.Expr) × (a : e.Expr) × BehindOne xs × PathSpells c xs path a × (computed by ≡ moving (not up)) × (x ≡ e.step line up false a)
EffectSpells c (effect.Call n) Operands BehindOne line x =
    (f : List ℕ) × (args : e.Exprs) × (find c.scope f ≡ Some (symbol.Function n)) × Operands (e.list_of args) × (x ≡ e.call line f args)

-- ---- expressions

abbrev mutual
  pub ValueSpells : Around → t.Value → e.Expr → Type 0
  ValueSpells c (t.typed node type line) x = (y : e.Expr) × StandsFor x y × (line_of y ≡ line) × NodeSpells c node type line y

  pub NodeSpells : Around → t.ValueNode → CoreType → (line : ℕ) → e.Expr → Type 0
  NodeSpells c (t.constant z) type line x = IsConstantExpr c x
  NodeSpells c t.null type line x = IsNullConstant c x
  NodeSpells c (t.temporary n) type line x = ⊥
  NodeSpells c (t.apply o operands) type line x = OpSpells c o (λ xs. ValuesSpell c operands xs) type line x
  NodeSpells c (t.logic how v w) type line x = (a : e.Expr) × (b : e.Expr) × ValueSpells c v a × ValueSpells c w b × (x ≡ e.binary line (connective how) a b)
  NodeSpells c (t.choose test v w) type line x =
      (if_so : e.Expr) × (a : e.Expr) × (b : e.Expr) × ValueSpells c test if_so × ValueSpells c v a × ValueSpells c w b × (x ≡ e.cond line if_so a b)
  NodeSpells c (t.effect does operands) type line x = EffectSpells c does (λ xs. ValuesSpell c operands xs) (λ xs. BehindOneSpell c operands xs) line x

  pub ValuesSpell : Around → t.Values → List e.Expr → Type 0
  ValuesSpell c t.stop [] = Unit {0}
  ValuesSpell c t.stop (x ∷ xs) = ⊥
  ValuesSpell c (t.more v vs) [] = ⊥
  ValuesSpell c (t.more v vs) (x ∷ xs) = ValueSpells c v x × ValuesSpell c vs xs

  -- behind the number 1, which `++` and `--` add or take off
  pub BehindOneSpell : Around → t.Values → List e.Expr → Type 0
  BehindOneSpell c t.stop xs = ⊥
  BehindOneSpell c (t.more v vs) xs = (number_of v ≡ Some (pos 1)) × ValuesSpell c vs xs

abbrev pub PlaceSpells : Around → Place → e.Expr → Type 0
PlaceSpells c p x = (xs : List e.Expr) × ValuesSpell c (t.values_of p.operands) xs × PathSpells c xs p.path x

-- a value that counts as an integer constant expression is of one
abbrev pub OperandSpells : Around → Operand → e.Expr → Type 0
OperandSpells c (object p is_const) x = PlaceSpells c p x
OperandSpells c (value v is_constant) x = ValueSpells c v x × (is_constant ≡ true → IsConstantExpr c x)

-- What an expression is typed as spells that expression.
abbrev pub TypedExpressionsAreSpelled : Type 0
TypedExpressionsAreSpelled = (c : Around) (x : e.Expr) (o : Operand) → typed c x ≡ Ok o → OperandSpells c o x

-- Integer constant expressions as they are spelled, and null pointer constants (C11 6.3.2.3p3, 6.6p6).
use Rattle.std.specs.Prelude.{◌≡◌, ◌⊎◌, ℕ, ℤ, Some, Ok}
use Rattle.wp_base.specs.declared.kinds.Kind.{Kind}
use Rattle.c_syntax.specs.declared.expr.UnOp.{UnOp}
use Rattle.c_syntax.specs.declared.expr.UnOp.TheVariants as un
use Rattle.c_syntax.specs.Expr as e
use Rattle.typed_prog.specs.Types.{kind_of}
use Rattle.c_scopes.specs.declared.symbols.Symbol.TheVariants as symbol
use Rattle.c_scopes.specs.declared.symbols.Resolved.{Resolved}
use Rattle.c_scopes.specs.Declarations.{find}
use Rattle.c_scopes.specs.Meanings.{named}
use Rattle.c_exprs.specs.Typing.{Around}

-- the operators of one operand that compute: all but `&` and `*`
abbrev pub Computes : UnOp → Type 0
Computes un.AddressOf = ⊥
Computes un.Deref = ⊥
Computes un.Plus = Unit {0}
Computes un.Minus = Unit {0}
Computes un.BitNot = Unit {0}
Computes un.Not = Unit {0}

-- the name of an integer kind
abbrev pub NamesKind : Around → (line : ℕ) → e.CType → Type 0
NamesKind c line type = (r : Resolved) × (k : Kind) × (named c.scope.file line type ≡ Ok (Some r)) × (kind_of r.ty ≡ Some k)

-- Numbers, characters, enumerators and `sizeof`, and operators that compute over these; casts are to integer kinds.
abbrev pub IsConstantExpr : Around → e.Expr → Type 0
IsConstantExpr c (e.number line token) = Unit {0}
IsConstantExpr c (e.char line z) = Unit {0}
IsConstantExpr c (e.name line x) = (z : ℤ) × (find c.scope x ≡ Some (symbol.Enumerator z))
IsConstantExpr c (e.unary line o a) = Computes o × IsConstantExpr c a
IsConstantExpr c (e.binary line o a b) = IsConstantExpr c a × IsConstantExpr c b
IsConstantExpr c (e.cond line test a b) = IsConstantExpr c test × IsConstantExpr c a × IsConstantExpr c b
IsConstantExpr c (e.assign line o a b) = ⊥
IsConstantExpr c (e.step line up prefix a) = ⊥
IsConstantExpr c (e.call line f args) = ⊥
IsConstantExpr c (e.index line a b) = ⊥
IsConstantExpr c (e.field line a f arrow) = ⊥
IsConstantExpr c (e.cast line type a) = NamesKind c line type × IsConstantExpr c a
IsConstantExpr c (e.sizeof line type) = Unit {0}

-- The first is the second, behind unary `+` and pairs of `&` and `*`: these leave no node (C11 6.5.3.2p3, 6.5.3.3p2).
pub data StandsFor : e.Expr → e.Expr → Type 0 where
  itself : (x : e.Expr) → StandsFor x x
  behind_plus : (line : ℕ) (x y : e.Expr) → StandsFor x y → StandsFor (e.unary line un.Plus x) y
  behind_both : (line at : ℕ) (x y : e.Expr) → StandsFor x y → StandsFor (e.unary line un.AddressOf (e.unary at un.Deref x)) y

-- an integer constant expression, or one that is cast
abbrev pub IsNullConstant : Around → e.Expr → Type 0
IsNullConstant c x =
    IsConstantExpr c x ⊎ ((line : ℕ) × (type : e.CType) × (a : e.Expr) × (b : e.Expr) × (x ≡ e.cast line type a) × StandsFor a b × IsConstantExpr c b)

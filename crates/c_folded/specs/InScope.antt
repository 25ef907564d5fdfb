-- Constant expressions with names, as the rules of constants want them (C11 6.4.4.3, 6.6p6): enumerators as numbers, and each type as the integer kind or the
-- pointer that it stands for.
use Rattle.std.specs.Prelude.{◌≡◌, ℕ, ℤ, Bool, true, false, List, Option, Some, None, Ok, Err}
use Rattle.wp_base.specs.declared.kinds.Kind.{Kind}
use Rattle.wp_base.specs.declared.kinds.Kind.TheVariants as kind
use Rattle.c_syntax.specs.Expr as e
use Rattle.c_kinds.specs.Models.{holds}
use Rattle.c_answers.specs.Answers.{Answer}
use Rattle.c_machine.specs.declared.rules.Constant.{Constant}
use Rattle.c_machine.specs.Constants.{constant_of}
use Rattle.typed_prog.specs.Types.{kind_of, is_pointer}
use Rattle.typed_prog.specs.Tree as t
use Rattle.c_operands.specs.Operands.{Operand, value}
use Rattle.c_scopes.specs.declared.symbols.Symbol.{Symbol}
use Rattle.c_scopes.specs.declared.symbols.Symbol.TheVariants as symbol
use Rattle.c_scopes.specs.declared.symbols.Resolved.{Resolved}
use Rattle.c_scopes.specs.Declarations.{find}
use Rattle.c_scopes.specs.Meanings.{named}
use Rattle.c_exprs.specs.Typing.{Around, typed}
use Rattle.c_folded.specs.Folded.{IsConstant, IsFolded}

-- ---- types

-- an integer kind or a pointer by itself; what a pointer points to doesn't matter to constants
abbrev pub scalar_as : (type : e.CType) → Option Kind → (is_pointer : Bool) → e.CType
scalar_as type (Some k) p = e.kind k
scalar_as type None true = e.pointer e.void
scalar_as type None false = type

-- any other type is left as it is spelled
abbrev pub type_by : (type : e.CType) → Answer (Option Resolved) → e.CType
type_by type (Ok (Some r)) = scalar_as type (kind_of r.ty) (is_pointer r.ty)
type_by type (Ok None) = type
type_by type (Err r) = type

abbrev pub type_in : Around → (line : ℕ) → e.CType → e.CType
type_in c line type = type_by type (named c.scope.file line type)

-- ---- expressions

-- an enumerator as a constant of type `int`
abbrev pub name_by : (line : ℕ) → (x : List ℕ) → Option Symbol → e.Expr
name_by line x (Some (symbol.Enumerator z)) = e.char line z
name_by line x (Some (symbol.Object v)) = e.name line x
name_by line x (Some (symbol.Function n)) = e.name line x
name_by line x (Some (symbol.Typedef n)) = e.name line x
name_by line x None = e.name line x

abbrev pub in_numbers : Around → e.Expr → e.Expr
in_numbers c (e.number line token) = e.number line token
in_numbers c (e.char line z) = e.char line z
in_numbers c (e.name line x) = name_by line x (find c.scope x)
in_numbers c (e.unary line o a) = e.unary line o (in_numbers c a)
in_numbers c (e.binary line o a b) = e.binary line o (in_numbers c a) (in_numbers c b)
in_numbers c (e.cond line test a b) = e.cond line (in_numbers c test) (in_numbers c a) (in_numbers c b)
in_numbers c (e.cast line type a) = e.cast line (type_in c line type) (in_numbers c a)
in_numbers c (e.sizeof line type) = e.sizeof line (type_in c line type)
in_numbers c (e.assign line o a b) = e.assign line o a b
in_numbers c (e.step line up prefix a) = e.step line up prefix a
in_numbers c (e.call line f args) = e.call line f args
in_numbers c (e.index line a b) = e.index line a b
in_numbers c (e.field line a f arrow) = e.field line a f arrow

-- ---- what is so

-- Once names are taken for what they stand for, what the rules of constant expressions give is what typing gives.
abbrev pub ConstantsInScopeAreFolded : Type 0
ConstantsInScopeAreFolded = (c : Around) (a : e.Expr) (k : Constant) (o : Operand) → constant_of c.model (in_numbers c a) ≡ Some k → typed c a ≡ Ok o → IsFolded c.model k o

-- enumerators are numbers of `int` (C11 6.7.2.2p2)
abbrev pub EnumeratorsAreInts : Around → Type 0
EnumeratorsAreInts c = (x : List ℕ) (z : ℤ) → find c.scope x ≡ Some (symbol.Enumerator z) → holds c.model kind.Int z ≡ true

-- In it characters are numbers of `int` (C11 6.4.4.4p10), and no `sizeof` is of an array: arrays have no spelled form here that stands for a type name.
abbrev pub IsInOrder : Around → e.Expr → Type 0
IsInOrder c (e.char line z) = holds c.model kind.Int z ≡ true
IsInOrder c (e.sizeof line type) = (r : Resolved) → named c.scope.file line type ≡ Ok (Some r) → r.ty.count ≡ None
IsInOrder c (e.unary line o a) = IsInOrder c a
IsInOrder c (e.binary line o a b) = IsInOrder c a × IsInOrder c b
IsInOrder c (e.cond line test a b) = IsInOrder c test × IsInOrder c a × IsInOrder c b
IsInOrder c (e.cast line type a) = IsInOrder c a
IsInOrder c (e.number line token) = Unit {0}
IsInOrder c (e.name line x) = Unit {0}
IsInOrder c (e.assign line o a b) = Unit {0}
IsInOrder c (e.step line up prefix a) = Unit {0}
IsInOrder c (e.call line f args) = Unit {0}
IsInOrder c (e.index line a b) = Unit {0}
IsInOrder c (e.field line a f arrow) = Unit {0}

-- What typing lets count as an integer constant expression is one by the rules, and this one.
pub record IsConstantByRules (c : Around) (a : e.Expr) (v : t.Value) : Type 0 where
  pub constant : Constant
  pub by_rules : constant_of c.model (in_numbers c a) ≡ Some constant
  pub is : IsConstant c.model constant v

abbrev pub OnlyConstantsCount : Type 0
OnlyConstantsCount = (c : Around) (a : e.Expr) (v : t.Value) → EnumeratorsAreInts c → IsInOrder c a → typed c a ≡ Ok (value v true) → IsConstantByRules c a v

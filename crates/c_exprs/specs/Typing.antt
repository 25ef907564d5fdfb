-- The type of an expression, or the first fault in it (C11 6.5). The operands are typed from the left, and then the operator: so faults come in the order of
-- the text, and an operator has one only where no operand has.
use Rattle.std.specs.Prelude.{ℕ, suc, ◌==◌, Bool, true, false, if◌then◌else◌, List, [], ◌∷◌, length, Option, Some, None, Ok, Err, slice_get}
use Rattle.wp_base.specs.declared.kinds.Kind.TheVariants as kind
use Rattle.c_syntax.specs.declared.expr.UnOp.{UnOp}
use Rattle.c_syntax.specs.declared.expr.UnOp.TheVariants as un
use Rattle.c_syntax.specs.declared.expr.BinOp.{BinOp}
use Rattle.c_syntax.specs.Expr as e
use Rattle.c_syntax.specs.Lines.{line_of}
use Rattle.c_kinds.specs.declared.models.Machdep.{Machdep}
use Rattle.c_answers.specs.Answers.{Answer, wrong, unknown, after}
use Rattle.typed_prog.specs.declared.types.CoreType.{CoreType}
use Rattle.typed_prog.specs.declared.operators.Effect.TheVariants as effect
use Rattle.typed_prog.specs.Tree as t
use Rattle.c_operands.specs.Operands.{Operand, value, valued}
use Rattle.c_operands.specs.Conversions.{assignable}
use Rattle.c_rules.specs.Operators.{minus, complement, unary_plus, not_of, binary, conditional}
use Rattle.c_places.specs.Objects.{dereferenced, address, indexed, member}
use Rattle.c_places.specs.Changes.{assigned, compound, stepped}
use Rattle.c_places.specs.Casts.{cast}
use Rattle.c_scopes.specs.declared.symbols.Symbol.{Symbol}
use Rattle.c_scopes.specs.declared.symbols.Symbol.TheVariants as symbol
use Rattle.c_scopes.specs.declared.symbols.Signature.{Signature}
use Rattle.c_scopes.specs.declared.symbols.Resolved.{Resolved}
use Rattle.c_scopes.specs.declared.scope.Scope.{Scope}
use Rattle.c_scopes.specs.Declarations.{find}
use Rattle.c_scopes.specs.Meanings.{named, is_void_pointer}
use Rattle.c_exprs.specs.Leaves.{integer, literal, name, field_named, cast_type_by, size_of}

-- What is declared, the data model, and how many cells each struct of the file has.
pub record Around : Type 0 where
  pub model : Machdep
  pub sizes : List ℕ
  pub scope : Scope

abbrev pub around : Machdep → List ℕ → Scope → Around
around m sizes s = record { model = m; sizes = sizes; scope = s }

-- ---- operators

unfoldable pub unary : Machdep → (line : ℕ) → UnOp → Operand → Answer Operand
unary m line un.AddressOf x = address line x
unary m line un.Deref x = dereferenced line x
unary m line un.Plus x = unary_plus m line x
unary m line un.Minus x = minus m line x
unary m line un.BitNot x = complement m line x
unary m line un.Not x = not_of m line x

abbrev pub assign_by : Machdep → List ℕ → (line : ℕ) → Option BinOp → Operand → Operand → Answer Operand
assign_by m sizes line None x y = assigned m line x y
assign_by m sizes line (Some o) x y = compound m sizes line o x y

unfoldable pub assign : Machdep → List ℕ → (line : ℕ) → Option BinOp → Operand → Operand → Answer Operand
assign m sizes line o x y = assign_by m sizes line o x y

abbrev pub member_named : Scope → (line : ℕ) → List ℕ → Operand → Answer Operand
member_named s line f x = member line (field_named s f) x

-- `x->f` is `(*x).f` (6.5.2.3p4)
abbrev pub field_by : Scope → (line : ℕ) → List ℕ → (arrow : Bool) → Operand → Answer Operand
field_by s line f false x = member_named s line f x
field_by s line f true x = after (dereferenced line x) (member_named s line f)

unfoldable pub field : Scope → (line : ℕ) → List ℕ → (arrow : Bool) → Operand → Answer Operand
field s line f arrow x = field_by s line f arrow x

-- the names in the type come before the operand, and whether it is a type behind it
abbrev pub cast_to_type : Machdep → Scope → (line : ℕ) → e.CType → Option Resolved → Operand → Answer Operand
cast_to_type m s line type t x = after (is_void_pointer s.file line type) (λ p. after (cast_type_by line p t) (λ to. cast m line to x))

-- ---- calls (6.5.2.2)

-- an argument on its line, for a parameter of this type
unfoldable pub passed : Machdep → (line : ℕ) → CoreType → Operand → Answer t.Value
passed m line type x = after (valued line x) (λ v. assignable m line type v.value)

abbrev pub call_made : (line n : ℕ) → CoreType → List t.Value → Operand
call_made line n type vs = value (t.typed (t.effect (effect.Call n) (t.values_of vs)) type line) false

abbrev pub count_of : e.Exprs → ℕ
count_of e.stop = 0
count_of (e.more a rest) = suc (count_of rest)

-- As many arguments as parameters are typed for these; else all are typed, and the number is a fault at the call.
abbrev pub call_at : (line n count : ℕ) → (for_params : List CoreType → Answer (List t.Value)) → (alone : Answer (Unit {0})) → Option Signature → Answer Operand
call_at line n count for_params alone None = after alone (λ _. wrong line)
call_at line n count for_params alone (Some f) =
    if length f.params == count then after (for_params f.params) (λ vs. Ok (call_made line n f.result vs)) else after alone (λ _. wrong line)

-- what isn't declared is a fault at once, and what is no function one behind the arguments
abbrev pub call_by : Scope → (line count : ℕ) → (for_params : List CoreType → Answer (List t.Value)) → (alone : Answer (Unit {0})) → Option Symbol → Answer Operand
call_by s line count for_params alone None = unknown line
call_by s line count for_params alone (Some (symbol.Function n)) = call_at line n count for_params alone (slice_get s.file.functions n)
call_by s line count for_params alone (Some (symbol.Object x)) = after alone (λ _. wrong line)
call_by s line count for_params alone (Some (symbol.Enumerator z)) = after alone (λ _. wrong line)
call_by s line count for_params alone (Some (symbol.Typedef n)) = after alone (λ _. wrong line)

-- ---- expressions

abbrev mutual
  pub typed : Around → e.Expr → Answer Operand
  typed c (e.number line token) = literal c.model line token.kind
  typed c (e.char line z) = Ok (integer kind.Int z line)
  typed c (e.name line x) = name c.scope line x
  typed c (e.unary line o a) = after (typed c a) (unary c.model line o)
  typed c (e.binary line o a b) = after (typed c a) (λ x. after (typed c b) (binary c.model c.sizes line o x))
  typed c (e.cond line test a b) = after (typed c test) (λ x. after (typed c a) (λ y. after (typed c b) (conditional c.model line x y)))
  typed c (e.assign line o a b) = after (typed c a) (λ x. after (typed c b) (assign c.model c.sizes line o x))
  typed c (e.step line up prefix a) = after (typed c a) (stepped c.model c.sizes line up prefix)
  typed c (e.call line f args) = call_by c.scope line (count_of args) (λ params. typed_for c params args) (typed_all c args) (find c.scope f)
  typed c (e.index line a b) = after (typed c a) (λ x. after (typed c b) (indexed c.sizes line x))
  typed c (e.field line a f arrow) = after (typed c a) (field c.scope line f arrow)
  typed c (e.cast line type a) = after (named c.scope.file line type) (λ t. after (typed c a) (cast_to_type c.model c.scope line type t))
  typed c (e.sizeof line type) = size_of c.model c.scope line type

  -- arguments for parameters of these types, the faults of each before those of the next
  pub typed_for : Around → List CoreType → e.Exprs → Answer (List t.Value)
  typed_for c (type ∷ types) (e.more a rest) = after (after (typed c a) (passed c.model (line_of a) type)) (λ v. after (typed_for c types rest) (λ vs. Ok (v ∷ vs)))
  typed_for c types args = Ok []

  pub typed_all : Around → e.Exprs → Answer (Unit {0})
  typed_all c e.stop = Ok tt
  typed_all c (e.more a rest) = after (typed c a) (λ _. typed_all c rest)

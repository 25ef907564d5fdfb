-- Names, constants, fields and the types in casts, as an expression meets them (C11 6.4.4, 6.5.1, 6.5.2.3, 6.5.3.4, 6.5.4).
use Rattle.std.specs.Prelude.{ℕ, ℤ, pos, ◌*ℤ◌, Bool, true, false, if◌then◌else◌, List, [], ◌∷◌, length, position, bytes_eq, Option, Some, None, Ok, Err, slice_get}
use Rattle.wp_base.specs.declared.kinds.Kind.{Kind}
use Rattle.wp_base.specs.declared.kinds.Kind.TheVariants as kind
use Rattle.c_syntax.specs.declared.token.TokenKind.{TokenKind}
use Rattle.c_syntax.specs.Expr as e
use Rattle.c_kinds.specs.declared.models.Machdep.{Machdep}
use Rattle.c_kinds.specs.Models.{size_kind}
use Rattle.c_kinds.specs.Numbers.{held}
use Rattle.c_machine.specs.declared.rules.Constant.{Constant}
use Rattle.c_machine.specs.Literals.{token_constant}
use Rattle.c_machine.specs.Rules.{bytes, pointer_bytes}
use Rattle.c_answers.specs.Answers.{Answer, wrong, unknown, after}
use Rattle.typed_prog.specs.declared.types.CoreType.{CoreType}
use Rattle.typed_prog.specs.declared.types.Base.TheVariants as base
use Rattle.typed_prog.specs.declared.operators.Variable.{Variable}
use Rattle.typed_prog.specs.Types.{type_with, kind_of, is_pointer, element_of}
use Rattle.c_operands.specs.Operands.{Operand, value}
use Rattle.c_operands.specs.Conversions.{number}
use Rattle.c_places.specs.declared.objects.Field.{Field}
use Rattle.c_places.specs.Objects.{variable}
use Rattle.c_scopes.specs.declared.symbols.Symbol.{Symbol}
use Rattle.c_scopes.specs.declared.symbols.Symbol.TheVariants as symbol
use Rattle.c_scopes.specs.declared.symbols.Object.{Object}
use Rattle.c_scopes.specs.declared.symbols.Resolved.{Resolved}
use Rattle.c_scopes.specs.declared.symbols.Structure.{Structure}
use Rattle.c_scopes.specs.declared.symbols.Field.{Field as Member}
use Rattle.c_scopes.specs.declared.scope.Scope.{Scope}
use Rattle.c_scopes.specs.Declarations.{find, object_of}
use Rattle.c_scopes.specs.Meanings.{named, type_of, is_void_pointer}

-- ---- constants

-- an integer constant of a kind
abbrev pub integer : Kind → ℤ → (line : ℕ) → Operand
integer k z line = value (number k z line) true

abbrev pub literal_by : (line : ℕ) → Kind → Option ℤ → Answer Operand
literal_by line k (Some z) = Ok (integer k z line)
literal_by line k None = wrong line

abbrev pub literal_of : (line : ℕ) → Option Constant → Answer Operand
literal_of line (Some c) = literal_by line c.kind c.value
literal_of line None = wrong line

-- a constant that no kind holds has no type
unfoldable pub literal : Machdep → (line : ℕ) → TokenKind → Answer Operand
literal m line token = literal_of line (token_constant m token)

-- ---- names

abbrev pub declared : (line : ℕ) → Variable → Option Object → Answer Operand
declared line x (Some o) = Ok (variable line x o.ty o.is_const)
declared line x None = wrong line

-- a function is only called, and a type is no value
abbrev pub name_by : Scope → (line : ℕ) → Option Symbol → Answer Operand
name_by s line None = unknown line
name_by s line (Some (symbol.Object x)) = declared line x (object_of s x)
name_by s line (Some (symbol.Enumerator z)) = Ok (integer kind.Int z line)
name_by s line (Some (symbol.Function n)) = wrong line
name_by s line (Some (symbol.Typedef n)) = wrong line

unfoldable pub name : Scope → (line : ℕ) → List ℕ → Answer Operand
name s line x = name_by s line (find s x)

-- ---- fields

abbrev pub field_with : (number : ℕ) → Option Member → Option ℕ → Option Field
field_with number (Some f) (Some offset) = Some (record { number = number; offset = offset; ty = f.ty; is_const = f.is_const })
field_with number f offset = None

abbrev pub field_at : Structure → (number : ℕ) → Option Field
field_at t i = field_with i (slice_get t.fields i) (slice_get t.layout.fields i)

abbrev pub field_by : Structure → Option ℕ → Option Field
field_by t (Some i) = field_at t i
field_by t None = None

abbrev pub field_in : List ℕ → Option Structure → Option Field
field_in x (Some t) = field_by t (position (λ f. bytes_eq x f.name) t.fields)
field_in x None = None

-- the field of this name of each struct of the file
abbrev pub field_named : Scope → List ℕ → ℕ → Option Field
field_named s x n = field_in x (slice_get s.file.structs n)

-- ---- types in casts and behind `sizeof`

abbrev pub void_pointer : CoreType
void_pointer = type_with base.Void (false ∷ []) None

abbrev pub type_in : Resolved → CoreType
type_in t = t.ty

-- the type of a cast, where its operand has no fault; a pointer to `void` is one here alone
abbrev pub cast_type_by : (line : ℕ) → (is_void_pointer : Bool) → Option Resolved → Answer CoreType
cast_type_by line true t = Ok void_pointer
cast_type_by line false t = after (type_of line t) (λ r. Ok (type_in r))

-- ---- `sizeof` (6.5.3.4): of a scalar, or of an array of scalars; structs are left out

abbrev pub scalar_bytes_by : Machdep → Option Kind → (is_pointer : Bool) → Option ℤ
scalar_bytes_by m (Some k) p = Some (bytes m k)
scalar_bytes_by m None true = Some (pointer_bytes m)
scalar_bytes_by m None false = None

abbrev pub scalar_bytes : Machdep → CoreType → Option ℤ
scalar_bytes m type = scalar_bytes_by m (kind_of type) (is_pointer type)

-- so many elements, where the number is one that `sizeof` can give
abbrev pub elements : Machdep → Option ℤ → (count : ℕ) → Option ℤ
elements m None n = None
elements m (Some size) n = held m (size_kind m) (size *ℤ pos n)

abbrev pub bytes_by : Machdep → CoreType → Option ℕ → Option ℤ
bytes_by m type None = scalar_bytes m type
bytes_by m type (Some n) = elements m (scalar_bytes m (element_of type)) n

abbrev pub size_by : Machdep → (line : ℕ) → Option ℤ → Answer Operand
size_by m line (Some z) = Ok (integer (size_kind m) z line)
size_by m line None = wrong line

abbrev pub size_of_type : Machdep → (line : ℕ) → Resolved → Answer Operand
size_of_type m line t = size_by m line (bytes_by m t.ty t.ty.count)

unfoldable pub size_of : Machdep → Scope → (line : ℕ) → e.CType → Answer Operand
size_of m s line type = after (named s.file line type) (λ t. after (type_of line t) (size_of_type m line))

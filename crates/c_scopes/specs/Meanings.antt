-- What a type as spelled means (C11 6.7.2, 6.7.3, 6.7.6, 6.7.8). Its names are looked up first: a name that isn't declared as what it is used for is a fault
-- of its own, at the line of the declaration or cast in which the type stands. Whether what is spelled is a type of the language is told after all that
-- stands inside the declaration or cast.
use Rattle.std.specs.Prelude.{ℕ, Bool, true, false, not, ◌&&◌, ℤ, int_lt, nat_lt, pos, ◌^◌, List, [], Option, Some, None, slice_get, if◌then◌else◌, Ok}
use Rattle.std.specs.Option.{is_none, option_map}
use Rattle.wp_base.specs.Blocks.{to_nat}
use Rattle.c_syntax.specs.Expr as e
use Rattle.typed_prog.specs.declared.types.Base.TheVariants as base
use Rattle.typed_prog.specs.declared.types.CoreType.{CoreType}
use Rattle.typed_prog.specs.Types.{type_with, of_kind, void, pointer_to, is_void}
use Rattle.name_table.specs.Names.{meaning_of}
use Rattle.c_answers.specs.Answers.{Answer, after, unknown, wrong, too_large}
use Rattle.c_scopes.specs.declared.symbols.Symbol.{Symbol}
use Rattle.c_scopes.specs.declared.symbols.Symbol.TheVariants as symbol
use Rattle.c_scopes.specs.declared.symbols.Tag.{Tag}
use Rattle.c_scopes.specs.declared.symbols.Tag.TheVariants as tag
use Rattle.c_scopes.specs.declared.symbols.Resolved.{Resolved}
use Rattle.c_scopes.specs.declared.file.File.{File}

abbrev pub plain : CoreType → Resolved
plain type = record { ty = type; is_const = false }

abbrev pub constant : Resolved → Resolved
constant t = record { ty = t.ty; is_const = true }

-- ---- names

abbrev pub struct_meaning : (line : ℕ) → Option Tag → Answer (Option Resolved)
struct_meaning line (Some (tag.Struct n)) = Ok (Some (plain (type_with (base.Struct n) [] None)))
struct_meaning line (Some (tag.Enum k)) = unknown line
struct_meaning line None = unknown line

abbrev pub enum_meaning : (line : ℕ) → Option Tag → Answer (Option Resolved)
enum_meaning line (Some (tag.Enum k)) = Ok (Some (plain (of_kind k)))
enum_meaning line (Some (tag.Struct n)) = unknown line
enum_meaning line None = unknown line

abbrev pub or_unknown : (line : ℕ) → Option Resolved → Answer (Option Resolved)
or_unknown line (Some t) = Ok (Some t)
or_unknown line None = unknown line

abbrev pub typedef_meaning : List Resolved → (line : ℕ) → Option Symbol → Answer (Option Resolved)
typedef_meaning ts line (Some (symbol.Typedef n)) = or_unknown line (slice_get ts n)
typedef_meaning ts line _ = unknown line

abbrev pub struct_named : File → (line : ℕ) → List ℕ → Answer (Option Resolved)
struct_named f line x = struct_meaning line (meaning_of f.tags x)

abbrev pub enum_named : File → (line : ℕ) → List ℕ → Answer (Option Resolved)
enum_named f line x = enum_meaning line (meaning_of f.tags x)

abbrev pub typedef_named : File → (line : ℕ) → List ℕ → Answer (Option Resolved)
typedef_named f line x = typedef_meaning f.typedefs line (meaning_of f.names x)

-- ---- types

-- there are no pointers to `void` or to arrays, and no arrays of these
abbrev pub has_pointers : CoreType → Bool
has_pointers type = not (is_void type) && is_none type.count

abbrev pub pointed : Option Resolved → Option Resolved
pointed (Some t) = if has_pointers t.ty then Some (plain (pointer_to t.ty t.is_const)) else None
pointed None = None

-- The type with its names looked up; none is no type of the language. An array stands outermost in a declaration, where its elements and its length have
-- meanings of their own (`array_meaning`).
abbrev pub named : File → (line : ℕ) → e.CType → Answer (Option Resolved)
named f line e.void = Ok (Some (plain void))
named f line (e.kind k) = Ok (Some (plain (of_kind k)))
named f line e.integer = Ok None
named f line (e.struct_of x) = struct_named f line x
named f line (e.enum_of x) = enum_named f line x
named f line (e.named x) = typedef_named f line x
named f line (e.pointer to) = after (named f line to) (λ t. Ok (pointed t))
named f line (e.array of length) = after (named f line of) (λ t. Ok None)
named f line (e.constant of) = after (named f line of) (λ t. Ok (option_map constant t))

abbrev pub type_of : (line : ℕ) → Option Resolved → Answer Resolved
type_of line (Some t) = Ok t
type_of line None = wrong line

-- a type that isn't an array
abbrev pub meaning : File → (line : ℕ) → e.CType → Answer Resolved
meaning f line c = after (named f line c) (type_of line)

-- whether it is spelled as a pointer to `void`, which is a type for the null constant alone (C11 6.3.2.3p3)
abbrev pub is_plain_void : Option Resolved → Bool
is_plain_void (Some t) = not t.is_const && is_void t.ty
is_plain_void None = false

abbrev pub is_void_pointer : File → (line : ℕ) → e.CType → Answer Bool
is_void_pointer f line (e.pointer to) = after (named f line to) (λ t. Ok (is_plain_void t))
is_void_pointer f line _ = Ok false

-- ---- arrays

-- An array of so many elements, whose constness is that of each (C11 6.7.3p9). Its length stands inside, so a fault there comes first: it is at least 1
-- (C11 6.7.6.2p1).
abbrev pub elements_of : (line length_line : ℕ) → Option Resolved → (length : ℤ) → Answer Resolved
elements_of line length_line element z =
    if int_lt z (pos 1) then wrong length_line else after (type_of line element) (λ t. if has_pointers t.ty then Ok t else wrong line)

abbrev pub with_count : Resolved → ℕ → Resolved
with_count t n = record { ty = type_with t.ty.base t.ty.stars (Some n); is_const = t.is_const }

-- a length has 32 bits
abbrev pub array_meaning : (line length_line : ℕ) → Option Resolved → (length : ℤ) → Answer Resolved
array_meaning line length_line element z =
    after (elements_of line length_line element z) (λ t. if nat_lt (to_nat z) (2 ^ 32) then Ok (with_count t (to_nat z)) else too_large line)

-- ---- parameters

-- a parameter that is an array is a pointer to its elements (C11 6.7.6.3p7)
abbrev pub to_elements : Resolved → Resolved
to_elements t = plain (pointer_to t.ty t.is_const)

abbrev pub sized_parameter : (line length_line : ℕ) → Option Resolved → (length : ℤ) → Answer Resolved
sized_parameter line length_line element z = after (elements_of line length_line element z) (λ t. Ok (to_elements t))

abbrev pub parameter_by : Option ℕ → Resolved → Resolved
parameter_by (Some n) t = to_elements t
parameter_by None t = t

abbrev pub parameter_of : Resolved → Resolved
parameter_of t = parameter_by t.ty.count t

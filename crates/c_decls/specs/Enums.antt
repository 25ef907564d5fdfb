-- Declarations of enumerated types (C11 6.7.2.2) and of typedef names (6.7.8).
use Rattle.std.specs.Prelude.{ℕ, ℤ, pos, ◌+ℤ◌, int_lt, Bool, true, false, ◌||◌, List, Option, Some, None, if◌then◌else◌, Ok}
use Rattle.wp_base.specs.declared.kinds.Kind.{Kind}
use Rattle.wp_base.specs.declared.kinds.Kind.TheVariants as kind
use Rattle.c_kinds.specs.declared.models.Machdep.{Machdep}
use Rattle.c_kinds.specs.Models.{holds}
use Rattle.c_syntax.specs.Expr as e
use Rattle.c_syntax.specs.Decl as decl
use Rattle.name_table.specs.Names.{is_free}
use Rattle.c_answers.specs.Answers.{Answer, after, unknown, wrong}
use Rattle.c_exprs.specs.Typing.{Around}
use Rattle.c_contexts.specs.Contexts.{constant_number}
use Rattle.c_scopes.specs.declared.file.File.{File}
use Rattle.c_scopes.specs.Declarations.{with_enumerator, with_enum_tag, with_typedef}
use Rattle.c_variables.specs.declared.context.Context.{Context}
use Rattle.c_variables.specs.Contexts.{around_of}
use Rattle.c_variables.specs.Variables.{variable}
use Rattle.c_decls.specs.Each.{each, with_file}
use Rattle.c_decls.specs.declared.enums.Counted.{Counted}

-- ---- enumerators

-- what is written, or else one more than the number before (6.7.2.2p3)
abbrev pub number_of : Around → (next : ℤ) → Option e.Expr → Answer ℤ
number_of c next None = Ok next
number_of c next (Some a) = constant_number c a

-- it is a number of `int` (6.7.2.2p2)
abbrev pub as_int : Machdep → (line : ℕ) → ℤ → Answer ℤ
as_int m line z = if holds m kind.Int z then Ok z else wrong line

-- the number of an enumerator, where the next one is this if none is written
unfoldable pub enumerator : Context → (next : ℤ) → e.VarDecl → Answer ℤ
enumerator c next d = if is_free c.scope.file.names d.name then after (number_of (around_of c) next d.init) (as_int c.model d.line) else unknown d.line

-- the first number is 0
abbrev pub none_counted : Counted
none_counted = record { next = pos 0; has_negative = false }

abbrev pub counted : Counted → ℤ → Counted
counted n z = record { next = z +ℤ pos 1; has_negative = n.has_negative || int_lt z (pos 0) }

-- an enumerator is in scope behind itself (C11 6.2.1p7)
abbrev pub with_constant : Context → e.VarDecl → ℤ → Context
with_constant c d z = with_file c (with_enumerator c.scope.file d.name z)

unfoldable pub item : Context × Counted → e.VarDecl → Answer (Context × Counted)
item s d = after (enumerator s.0 s.1.next d) (λ z. Ok (with_constant s.0 d z, counted s.1 z))

abbrev pub items : Context → List e.VarDecl → Answer (Context × Counted)
items c ds = each item (c, none_counted) ds

-- ---- enumerated types

-- the kind that an enumerated type is the same as (C11 6.7.2.2p4 leaves it to the implementation)
abbrev pub enum_kind : (has_negative : Bool) → Kind
enum_kind true = kind.Int
enum_kind false = kind.UInt

abbrev pub is_new_tag : File → Option (List ℕ) → Bool
is_new_tag f None = true
is_new_tag f (Some x) = is_free f.tags x

abbrev pub with_tag : Context → Option (List ℕ) → Kind → Context
with_tag c None k = c
with_tag c (Some x) k = with_file c (with_enum_tag c.scope.file x k)

-- its tag is declared behind the enumerators
unfoldable pub enum_declared : Context → decl.EnumDecl → Answer Context
enum_declared c d =
    if is_new_tag c.scope.file d.name then after (items c d.items) (λ s. Ok (with_tag s.0 d.name (enum_kind s.1.has_negative))) else unknown d.line

-- ---- typedef names, which are ordinary names (C11 6.2.3p1); narrower than 6.7p3, by which one may be declared again

abbrev pub is_new_name : Context → List ℕ → Bool
is_new_name c x = is_free c.scope.file.names x

unfoldable pub typedef_declared : Context → e.VarDecl → Answer Context
typedef_declared c d = after (variable (around_of c) (is_new_name c d.name) d.line d.ty) (λ t. Ok (with_file c (with_typedef c.scope.file d.name t)))

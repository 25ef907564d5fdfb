-- What a declarator declares: the type of a variable, a field or a typedef name, and of a parameter (C11 6.7.6). Its faults come in this order: a name in its
-- type that isn't declared, and its own name where that is declared already; those of the length of an array; and that what is spelled is no type of the
-- language, or too large.
use Rattle.std.specs.Prelude.{ℕ, Bool, Option, Ok, if◌then◌else◌}
use Rattle.c_syntax.specs.Expr as e
use Rattle.c_syntax.specs.Lines.{line_of}
use Rattle.c_answers.specs.Answers.{Answer, after, unknown, wrong}
use Rattle.c_rules.specs.Operators.{is_scalar}
use Rattle.c_scopes.specs.declared.symbols.Resolved.{Resolved}
use Rattle.c_scopes.specs.declared.symbols.Object.{Object}
use Rattle.c_scopes.specs.declared.file.File.{File}
use Rattle.c_scopes.specs.Meanings.{named, type_of, array_meaning, sized_parameter, parameter_of}
use Rattle.c_exprs.specs.Typing.{Around}
use Rattle.c_contexts.specs.Contexts.{constant_number}

-- the names in the type, and then the declared name
abbrev pub named_here : File → (is_free : Bool) → (line : ℕ) → e.CType → Answer (Option Resolved)
named_here f is_free line type = after (named f line type) (λ t. if is_free then Ok t else unknown line)

-- The type of a variable, a field or a typedef name. The length of an array stands where the name isn't declared yet (C11 6.2.1p7).
unfoldable pub variable : Around → (is_free : Bool) → (line : ℕ) → e.CType → Answer Resolved
variable c is_free line (e.array of length) =
    after (named_here c.scope.file is_free line of) (λ t. after (constant_number c length) (array_meaning line (line_of length) t))
variable c is_free line type = after (named_here c.scope.file is_free line type) (type_of line)

abbrev pub scalar_parameter : (line : ℕ) → Resolved → Answer Resolved
scalar_parameter line t = if is_scalar t.ty then Ok t else wrong line

abbrev pub plain_parameter : File → (is_free : Bool) → (line : ℕ) → e.CType → Answer Resolved
plain_parameter f is_free line type = after (named_here f is_free line type) (λ t. after (type_of line t) (λ u. scalar_parameter line (parameter_of u)))

-- The type of a parameter: an array is a pointer to its elements (C11 6.7.6.3p7), and no struct is passed.
unfoldable pub parameter : Around → (is_free : Bool) → (line : ℕ) → e.CType → Answer Resolved
parameter c is_free line (e.array of length) =
    after (named_here c.scope.file is_free line of) (λ t. after (constant_number c length) (sized_parameter line (line_of length) t))
parameter c is_free line type = plain_parameter c.scope.file is_free line type

-- the declared object
abbrev pub object_with : e.VarDecl → Resolved → Object
object_with d t = record { name = d.name; ty = t.ty; is_const = t.is_const; line = d.line }

-- Declarations of variables of the file (C11 6.7, 6.9.2), in order. A variable may be declared again with the same type, and one of its declarations may have
-- an initialiser. The faults of a declarator come in this order: a name in its type that isn't declared, and its own name where that stands for something
-- else; those of the length of an array; that what is spelled is no type; its name again, where the variable has another type already, or an initialiser;
-- that no object can have the type, or that it is too large; and those of the initialiser.
use Rattle.std.specs.Prelude.{ℕ, Bool, true, false, not, ◌&&◌, List, map, length, is_some, Option, Some, None, slice_get, slice_set, if◌then◌else◌, Ok}
use Rattle.std.specs.Option.{option_map}
use Rattle.c_syntax.specs.Expr as e
use Rattle.c_syntax.specs.Lines.{line_of}
use Rattle.name_table.specs.Names.{Names, meaning_of, is_free}
use Rattle.c_answers.specs.Answers.{Answer, after, unknown, wrong}
use Rattle.typed_prog.specs.declared.operators.Variable.TheVariants as variable_of
use Rattle.typed_prog.specs.declared.types.CoreType.{CoreType}
use Rattle.typed_prog.specs.declared.tree.Value.{Value}
use Rattle.typed_prog.specs.Types.{same_type, same_star}
use Rattle.typed_prog.specs.Tree as t
use Rattle.typed_prog.specs.View.{view_value}
use Rattle.c_rules.specs.Operators.{is_scalar}
use Rattle.c_contexts.specs.Contexts.{initialiser}
use Rattle.c_scopes.specs.declared.symbols.Symbol.{Symbol}
use Rattle.c_scopes.specs.declared.symbols.Symbol.TheVariants as symbol
use Rattle.c_scopes.specs.declared.symbols.Object.{Object}
use Rattle.c_scopes.specs.declared.symbols.Resolved.{Resolved}
use Rattle.c_scopes.specs.Declarations.{more_if, with_object}
use Rattle.c_scopes.specs.Extents.{extent}
use Rattle.c_variables.specs.declared.context.Context.{Context}
use Rattle.c_variables.specs.Contexts.{around_of, plain_in}
use Rattle.c_variables.specs.Variables.{variable, object_with}
use Rattle.c_decls.specs.Each.{each, with_file}
use Rattle.c_decls.specs.Constants.{is_constant}
use Rattle.c_decls.specs.declared.globals.Earlier.{Earlier}
use Rattle.c_decls.specs.declared.globals.Earlier.TheVariants as earlier

-- the initialiser of each variable of the file, by its number
abbrev pub Inits : Type 0
Inits = List (Option t.Value)

abbrev pub view_inits : List (Option Value) → Inits
view_inits inits = map (option_map view_value) inits

-- what is declared, and the initialisers
abbrev pub state : Context → List (Option Value) → Context × Inits
state c inits = (c, view_inits inits)

-- ---- what the name stands for so far

abbrev pub earlier_by : Option Symbol → Earlier
earlier_by None = earlier.Nothing
earlier_by (Some (symbol.Object (variable_of.Global n))) = earlier.Global n
earlier_by (Some (symbol.Object (variable_of.Local n))) = earlier.Other
earlier_by (Some (symbol.Function n)) = earlier.Other
earlier_by (Some (symbol.Enumerator z)) = earlier.Other
earlier_by (Some (symbol.Typedef n)) = earlier.Other

abbrev pub earlier_of : Context → (name : List ℕ) → Earlier
earlier_of c x = earlier_by (meaning_of c.scope.file.names x)

-- a variable may be declared with a name that is new, or that is one
abbrev pub may_declare : Earlier → Bool
may_declare earlier.Nothing = true
may_declare (earlier.Global n) = true
may_declare earlier.Other = false

-- ---- declared again (C11 6.7p4, 6.9.2p1)

abbrev pub is_same_object : Resolved → Option Object → Bool
is_same_object t None = false
is_same_object t (Some o) = same_type t.ty o.ty && same_star t.is_const o.is_const

abbrev pub has_value : Option (Option t.Value) → Bool
has_value None = false
has_value (Some None) = false
has_value (Some (Some v)) = true

abbrev pub agrees : Context → Inits → (with_init : Bool) → Resolved → Earlier → Bool
agrees c inits with_init t earlier.Nothing = true
agrees c inits with_init t (earlier.Global n) = is_same_object t (slice_get c.scope.file.globals n) && not (with_init && has_value (slice_get inits n))
agrees c inits with_init t earlier.Other = true

-- ---- the variable

-- its type, once what is there already agrees
abbrev pub agreed : Context → Inits → e.VarDecl → Earlier → Resolved → Answer Resolved
agreed c inits d which t = if agrees c inits (is_some d.init) t which then Ok t else unknown d.line

abbrev pub held_type : Context → e.VarDecl → Resolved → Answer Resolved
held_type c d t = after (extent c.scope.file.structs d.line t) (λ layout. Ok t)

unfoldable pub global_type : Context → Inits → e.VarDecl → Answer Resolved
global_type c inits d =
    after (variable (around_of c) (may_declare (earlier_of c d.name)) d.line d.ty) (λ t. after (agreed c inits d (earlier_of c d.name) t) (held_type c d))

-- the number of a variable; that of a new one is the next
abbrev pub place_by : Earlier → (next : ℕ) → ℕ
place_by earlier.Nothing next = next
place_by (earlier.Global n) next = n
place_by earlier.Other next = next

abbrev pub place_of : Context → (name : List ℕ) → ℕ
place_of c x = place_by (earlier_of c x) (length c.scope.file.globals)

-- whether it is plain: a scalar whose address is never taken
abbrev pub is_plain_global : (taken : Names Bool) → e.VarDecl → CoreType → Bool
is_plain_global taken d type = is_scalar type && is_free taken d.name

abbrev pub is_new : Context → (name : List ℕ) → Bool
is_new c x = is_free c.scope.file.names x

-- of a variable that is declared again the first declaration stays
abbrev pub with_global : (taken : Names Bool) → Context → e.VarDecl → Resolved → Context
with_global taken c d t =
    record (with_file c (with_object c.scope.file (object_with d t))) { globals = more_if (is_new c d.name) c.globals (is_plain_global taken d t.ty) }

-- a new variable has no initialiser yet
abbrev pub with_place : Context → Inits → e.VarDecl → Inits
with_place c inits d = more_if (is_new c d.name) inits None

-- ---- its initialiser: it stands behind the declarator, so the variable is in scope there (C11 6.2.1p7)

-- a constant (C11 6.7.9p4)
abbrev pub as_constant : (line : ℕ) → t.Value → Answer t.Value
as_constant line v = if is_constant v then Ok v else wrong line

unfoldable pub initial_value : Context → CoreType → e.Expr → Answer t.Value
initial_value c type a = after (initialiser (around_of c) (plain_in c) type a) (as_constant (line_of a))

abbrev pub initialised : Context → Inits → (number : ℕ) → CoreType → Option e.Expr → Answer (Context × Inits)
initialised c inits n type None = Ok (c, inits)
initialised c inits n type (Some a) = after (initial_value c type a) (λ v. Ok (c, slice_set inits n (Some v)))

-- ---- declarators

unfoldable pub global : (taken : Names Bool) → Context × Inits → e.VarDecl → Answer (Context × Inits)
global taken s d =
    after (global_type s.0 s.1 d) (λ t. initialised (with_global taken s.0 d t) (with_place s.0 s.1 d) (place_of s.0 d.name) t.ty d.init)

abbrev pub globals_declared : (taken : Names Bool) → Context → Inits → List e.VarDecl → Answer (Context × Inits)
globals_declared taken c inits ds = each (global taken) (c, inits) ds

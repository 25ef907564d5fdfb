-- Declarations of locals (C11 6.7). A local is in scope from its declarator on, so it hides its name in its own initialiser, but isn't named there.
use Rattle.std.specs.Prelude.{ℕ, Bool, true, not, ◌&&◌, List, [], ◌∷◌, ◌++◌, length, Option, Some, None, Ok, slice_index_or}
use Rattle.c_syntax.specs.Expr as e
use Rattle.c_answers.specs.Answers.{Answer, after}
use Rattle.typed_prog.specs.Tree as t
use Rattle.typed_prog.specs.declared.types.CoreType.{CoreType}
use Rattle.c_rules.specs.Operators.{is_scalar}
use Rattle.c_contexts.specs.Contexts.{initialiser}
use Rattle.c_scopes.specs.declared.symbols.Resolved.{Resolved}
use Rattle.c_scopes.specs.declared.local.Local.{Local}
use Rattle.c_scopes.specs.Declarations.{is_free_here, with_local}
use Rattle.c_scopes.specs.Extents.{extent}
use Rattle.c_variables.specs.declared.context.Context.{Context}
use Rattle.c_variables.specs.Contexts.{around_of, plain_in, with_locals}
use Rattle.c_variables.specs.Variables.{variable, object_with}
use Rattle.typed_unit.specs.Stmt as s

-- ---- the object

-- whether a local with this number and type is plain
abbrev pub is_plain_local : Context → ℕ → CoreType → Bool
is_plain_local c n type = not (slice_index_or c.taken n true) && is_scalar type

abbrev pub count_of : Context → ℕ
count_of c = length c.scope.local.objects

-- with one local more
abbrev pub with_variable : Context → e.VarDecl → Resolved → Context
with_variable c d t =
    record (with_locals c (with_local c.scope.local (object_with d t))) { locals = c.locals ++ is_plain_local c (count_of c) t.ty ∷ [] }

-- the type of a local, which an object can have within the limit of cells
abbrev pub local_type : Context → e.VarDecl → Answer Resolved
local_type c d =
    after (variable (around_of c) (is_free_here c.scope.local d.name) d.line d.ty) (λ t. after (extent c.scope.file.structs d.line t) (λ layout. Ok t))

-- ---- its initialiser

abbrev pub now_initialising : Option ℕ → Local → Local
now_initialising which l = record l { initialising = which }

abbrev pub initialising : Context → Option ℕ → Context
initialising c which = with_locals c (now_initialising which c.scope.local)

abbrev pub initial_value : Context → CoreType → Option e.Expr → Answer (Option t.Value)
initial_value c type None = Ok None
initial_value c type (Some a) = after (initialiser (around_of c) (plain_in c) type a) (λ v. Ok (Some v))

-- ---- declarators

abbrev pub made_local : e.VarDecl → ℕ → Option t.Value → s.Declared
made_local d n init = record { local = n; init = init; line = d.line }

-- a local of this type, in a context that has it
unfoldable pub initialised : Context → e.VarDecl → (n : ℕ) → CoreType → Answer (s.Declared × Context)
initialised c d n type =
    after (initial_value (initialising c (Some n)) type d.init) (λ init. Ok (made_local d n init, initialising c None))

unfoldable pub local : Context → e.VarDecl → Answer (s.Declared × Context)
local c d = after (local_type c d) (λ t. initialised (with_variable c d t) d (count_of c) t.ty)

abbrev pub locals : Context → List e.VarDecl → Answer (List s.Declared × Context)
locals c [] = Ok ([], c)
locals c (d ∷ ds) = after (local c d) (λ r. after (locals r.1 ds) (λ q. Ok (r.0 ∷ q.0, q.1)))

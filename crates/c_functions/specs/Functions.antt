-- Declarations of functions (C11 6.7.6.3, 6.9.1). The faults come in this order: names in the type of the result, and the function's own name where it is
-- declared as something else, or has a body already; that no value has the type of the result; that the function is declared already with another type,
-- where this one has no fault; that no declaration of it has a body; those of its parameters, in order; and those of its body.
use Rattle.std.specs.Prelude.{ℕ, Bool, true, false, not, ◌&&◌, ◌||◌, ◌==◌, List, [], ◌∷◌, ◌++◌, length, map, Option, Some, None, Ok, Err, if◌then◌else◌, slice_get}
use Rattle.std.specs.List.{list_any}
use Rattle.std.specs.Option.{is_some, unwrap_or}
use Rattle.wp_base.specs.declared.answers.Rule.TheVariants as rule
use Rattle.c_syntax.specs.Expr as e
use Rattle.c_syntax.specs.Decl as d
use Rattle.c_syntax.specs.Stmt as p
use Rattle.c_answers.specs.Answers.{Answer, after, fault, unknown, wrong}
use Rattle.typed_prog.specs.declared.types.CoreType.{CoreType}
use Rattle.typed_prog.specs.Types.{is_void, same_type, void}
use Rattle.name_table.specs.Names.{Names, meaning_of, is_free}
use Rattle.c_rules.specs.Operators.{is_scalar}
use Rattle.c_scopes.specs.declared.symbols.Symbol.{Symbol}
use Rattle.c_scopes.specs.declared.symbols.Symbol.TheVariants as symbol
use Rattle.c_scopes.specs.declared.symbols.Object.{Object}
use Rattle.c_scopes.specs.declared.symbols.Resolved.{Resolved}
use Rattle.c_scopes.specs.declared.symbols.Signature.{Signature}
use Rattle.c_scopes.specs.declared.file.File.{File}
use Rattle.c_scopes.specs.declared.local.Local.{Local}
use Rattle.c_scopes.specs.Declarations.{no_locals, with_block, is_free_here, with_function}
use Rattle.c_scopes.specs.Meanings.{type_of}
use Rattle.c_variables.specs.declared.context.Context.{Context}
use Rattle.c_variables.specs.Contexts.{around_of, with_locals}
use Rattle.c_variables.specs.Variables.{named_here, parameter}
use Rattle.c_stmts.specs.Locals.{with_variable}
use Rattle.c_stmts.specs.Statements.{body}
use Rattle.typed_unit.specs.Stmt as s
use Rattle.typed_unit.specs.Unit as u

-- what the functions of the file have left so far: their bodies, and the declarations with annotations
pub record Functions : Type 0 where
  pub bodies : List u.Body
  pub parts : List u.Part

-- ---- the name

-- the number of a function; none for what is no function
abbrev pub function_number : Option Symbol → Option ℕ
function_number None = None
function_number (Some (symbol.Function n)) = Some n
function_number (Some (symbol.Object x)) = None
function_number (Some (symbol.Enumerator z)) = None
function_number (Some (symbol.Typedef n)) = None

abbrev pub number_of : File → List ℕ → Option ℕ
number_of f x = function_number (meaning_of f.names x)

-- whether one of these bodies is that of this function
abbrev pub is_defined : List u.Body → Option ℕ → Bool
is_defined bs None = false
is_defined bs (Some n) = list_any (λ b. b.function == n) bs

-- whether the name may be declared as a function here: it is new, or that of a function, of which there is one body (6.9p3)
abbrev pub is_open : File → List u.Body → (has_body : Bool) → List ℕ → Bool
is_open f bs has_body x = (is_free f.names x || is_some (number_of f x)) && not (has_body && is_defined bs (number_of f x))

-- ---- the result

-- no struct and no array is returned, and whether a result is constant doesn't matter (6.9.1p3)
abbrev pub result_with : (line : ℕ) → Resolved → Answer CoreType
result_with line t = if is_void t.ty || is_scalar t.ty then Ok t.ty else wrong line

abbrev pub result_type : File → (is_open : Bool) → (line : ℕ) → e.CType → Answer CoreType
result_type f is_open line type = after (named_here f is_open line type) (λ t. after (type_of line t) (result_with line))

-- ---- parameters

-- the place of a function's parameters, which is the outermost block of its body (6.2.1p4)
abbrev pub inside : Context → (taken : List Bool) → CoreType → Context
inside c taken result = record (with_locals c (with_block no_locals)) { locals = []; taken = taken; result = result }

abbrev pub param_type : Context → e.VarDecl → Answer Resolved
param_type c d = parameter (around_of c) (is_free_here c.scope.local d.name) d.line d.ty

unfoldable pub param : Context → e.VarDecl → Answer Context
param c d = after (param_type c d) (λ t. Ok (with_variable c d t))

abbrev pub params : Context → List e.VarDecl → Answer Context
params c [] = Ok c
params c (d ∷ ds) = after (param c d) (λ more. params more ds)

-- ---- functions that are declared again (6.7p4; narrower than 6.7.6.3p15, as each declaration has its parameters)

abbrev pub same_types : List CoreType → List Object → Bool
same_types [] [] = true
same_types (t ∷ ts) (o ∷ os) = same_type t o.ty && same_types ts os
same_types [] (o ∷ os) = false
same_types (t ∷ ts) [] = false

abbrev pub signature_at : List Signature → Option ℕ → Option Signature
signature_at gs None = None
signature_at gs (Some n) = slice_get gs n

abbrev pub agrees_with : (line : ℕ) → Option Signature → CoreType → List Object → Answer (Unit {0})
agrees_with line None result os = Ok tt
agrees_with line (Some g) result os = if same_type g.result result && same_types g.params os then Ok tt else unknown line

-- this declaration against the first one, where its parameters have no fault
abbrev pub agrees : (line : ℕ) → List ℕ → CoreType → Answer Context → Answer (Unit {0})
agrees line x result (Err r) = Ok tt
agrees line x result (Ok c) = agrees_with line (signature_at c.scope.file.functions (number_of c.scope.file x)) result c.scope.local.objects

-- ---- declarations

-- some declaration of the function in the file has a body
abbrev pub with_body : (line : ℕ) → (bodied : Names Bool) → List ℕ → Answer (Unit {0})
with_body line bodied x = if is_free bodied x then Err (fault rule.NoBody line) else Ok tt

abbrev pub signature : d.Function → CoreType → List Object → Signature
signature g result os = record { name = g.name; result = result; params = map (λ o. o.ty) os; line = g.line }

abbrev pub with_declared : Context → d.Function → CoreType → Context
with_declared c g result = record c { scope = record c.scope { file = with_function c.scope.file (signature g result c.scope.local.objects) } }

abbrev pub header_of : (bodied : Names Bool) → d.Function → CoreType → Answer Context → Answer Context
header_of bodied g result o =
    after (agrees g.line g.name result o) (λ _. after (with_body g.line bodied g.name) (λ _. after o (λ c. Ok (with_declared c g result))))

-- all but its body; what is in scope in that
unfoldable pub header : Context → (bodied : Names Bool) → List u.Body → (taken : List Bool) → d.Function → Answer Context
header c bodied bs taken g =
    after (result_type c.scope.file (is_open c.scope.file bs (is_some g.body) g.name) g.line g.result)
    (λ result. header_of bodied g result (params (inside c taken result) g.params))

-- ---- bodies

abbrev pub declared_number : Context → d.Function → ℕ
declared_number c g = unwrap_or (number_of c.scope.file g.name) 0

abbrev pub body_with : Context → d.Function → (number : ℕ) → s.Stmt → u.Body
body_with c g n x = record { function = n; locals = c.scope.local.objects; plain = c.locals; stmt = x; line = g.line; end = g.end }

-- what is in scope behind a function: no parameter, and no local
abbrev pub outside : Context → Context
outside c = record c { scope = record { file = c.scope.file; local = no_locals }; locals = []; taken = []; result = void }

-- the bodies with that of this function, where it has one, in the context of its header; and what is in scope behind it
abbrev pub with_stmt : Context → List u.Body → d.Function → Option p.Stmt → Answer (List u.Body × Context)
with_stmt c bs g None = Ok (bs, outside c)
with_stmt c bs g (Some x) = after (body c x) (λ r. Ok (bs ++ body_with r.1 g (declared_number c g) r.0 ∷ [], outside r.1))

-- ---- functions

-- the declaration with its contract, at its place among the names of the file
abbrev pub part_at : (names tags : ℕ) → Context → d.Function → u.Part
part_at names tags c g = record { names = names; tags = tags; decl = u.of_function (declared_number c g) c.scope.local.objects g.contract (is_some g.body) }

abbrev pub part_of : (before : File) → Context → d.Function → u.Part
part_of before c g = part_at (length before.names) (length before.tags) c g

abbrev pub more_parts : Functions → List u.Body → u.Part → Functions
more_parts fs bs part = record { bodies = bs; parts = fs.parts ++ part ∷ [] }

-- the body, and then the declaration among those with annotations
unfoldable pub finished : Context → Functions → u.Part → d.Function → Answer (Context × Functions)
finished c fs part g = after (with_stmt c fs.bodies g g.body) (λ q. Ok (q.1, more_parts fs q.0 part))

unfoldable pub function : Context → Functions → (bodied : Names Bool) → (taken : List Bool) → d.Function → Answer (Context × Functions)
function c fs bodied taken g = after (header c bodied fs.bodies taken g) (λ h. finished h fs (part_of c.scope.file h g) g)

-- A parameter or a function whose name may not be declared is a fault, whatever its type is.
use Rattle.std.proofs.Common.{◌≡◌, ℕ, Bool, true, false, Option, Ok, Err, refl}
use Rattle.c_syntax.specs.Expr as e
use Rattle.c_syntax.specs.Lines.{line_of}
use Rattle.c_answers.specs.Answers.{Answer, after}
use Rattle.typed_prog.specs.declared.types.CoreType.{CoreType}
use Rattle.c_contexts.specs.Contexts.{constant_number}
use Rattle.c_exprs.specs.Typing.{Around}
use Rattle.c_scopes.specs.declared.symbols.Resolved.{Resolved}
use Rattle.c_scopes.specs.declared.file.File.{File}
use Rattle.c_scopes.specs.Meanings.{named, type_of, sized_parameter, parameter_of}
use Rattle.c_variables.specs.Variables.{parameter, scalar_parameter}
use Rattle.c_functions.specs.Functions.{result_type, result_with}
use Rattle.c_typed_stmts.proofs.Names.{refused}

abbrev plainly : (line : ℕ) → Option Resolved → Answer Resolved
plainly line t = after (type_of line t) (λ u. scalar_parameter line (parameter_of u))

no_parameter : (c : Around) (line : ℕ) (type : e.CType) (r : Resolved) → parameter c false line type ≡ Ok r → ⊥
unfolding parameter
no_parameter c line (e.array of length) r is =
    refused (named c.scope.file line of) (λ t. after (constant_number c length) (sized_parameter line (line_of length) t)) line r is
no_parameter c line e.void r is = refused (named c.scope.file line e.void) (plainly line) line r is
no_parameter c line (e.kind k) r is = refused (named c.scope.file line (e.kind k)) (plainly line) line r is
no_parameter c line e.integer r is = refused (named c.scope.file line e.integer) (plainly line) line r is
no_parameter c line (e.struct_of x) r is = refused (named c.scope.file line (e.struct_of x)) (plainly line) line r is
no_parameter c line (e.enum_of x) r is = refused (named c.scope.file line (e.enum_of x)) (plainly line) line r is
no_parameter c line (e.named x) r is = refused (named c.scope.file line (e.named x)) (plainly line) line r is
no_parameter c line (e.pointer to) r is = refused (named c.scope.file line (e.pointer to)) (plainly line) line r is
no_parameter c line (e.constant of) r is = refused (named c.scope.file line (e.constant of)) (plainly line) line r is

pub new_parameter : (c : Around) (b : Bool) (line : ℕ) (type : e.CType) (r : Resolved) → parameter c b line type ≡ Ok r → b ≡ true
new_parameter c true line type r is = refl
new_parameter c false line type r is = absurd (no_parameter c line type r is)

pub new_result : (f : File) (b : Bool) (line : ℕ) (type : e.CType) (r : CoreType) → result_type f b line type ≡ Ok r → b ≡ true
new_result f true line type r is = refl
new_result f false line type r is = absurd (refused (named f line type) (λ t. after (type_of line t) (result_with line)) line r is)

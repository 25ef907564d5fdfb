-- A name that may not be declared is a fault, whatever its type is.
use Rattle.std.proofs.Common.{◌≡◌, ℕ, Bool, true, false, Option, Ok, Err, refl, sym}
use Rattle.c_syntax.specs.Expr as e
use Rattle.c_syntax.specs.Lines.{line_of}
use Rattle.c_answers.specs.Answers.{Answer, after, unknown}
use Rattle.c_contexts.specs.Contexts.{constant_number}
use Rattle.c_exprs.specs.Typing.{Around}
use Rattle.c_scopes.specs.declared.symbols.Resolved.{Resolved}
use Rattle.c_scopes.specs.Meanings.{named, type_of, array_meaning}
use Rattle.c_variables.specs.Variables.{variable}
use Rattle.c_well_typed.proofs.Fitting.{Holds}

-- what is answered, as it was answered
pub kept : {X : Type 0} (o : Answer X) → Holds (λ x. o ≡ Ok x) o
kept (Ok x) = refl
kept (Err r) = tt

pub refused : {X : Type 0} (o : Answer (Option Resolved)) (f : Option Resolved → Answer X) (line : ℕ) (x : X) → after (after o (λ t. unknown line)) f ≡ Ok x → ⊥
refused (Ok t) f line x is = cc
refused (Err q) f line x is = cc

no_variable : (c : Around) (line : ℕ) (type : e.CType) (r : Resolved) → variable c false line type ≡ Ok r → ⊥
unfolding variable
no_variable c line (e.array of length) r is =
    refused (named c.scope.file line of) (λ t. after (constant_number c length) (array_meaning line (line_of length) t)) line r is
no_variable c line e.void r is = refused (named c.scope.file line e.void) (type_of line) line r is
no_variable c line (e.kind k) r is = refused (named c.scope.file line (e.kind k)) (type_of line) line r is
no_variable c line e.integer r is = refused (named c.scope.file line e.integer) (type_of line) line r is
no_variable c line (e.struct_of x) r is = refused (named c.scope.file line (e.struct_of x)) (type_of line) line r is
no_variable c line (e.enum_of x) r is = refused (named c.scope.file line (e.enum_of x)) (type_of line) line r is
no_variable c line (e.named x) r is = refused (named c.scope.file line (e.named x)) (type_of line) line r is
no_variable c line (e.pointer to) r is = refused (named c.scope.file line (e.pointer to)) (type_of line) line r is
no_variable c line (e.constant of) r is = refused (named c.scope.file line (e.constant of)) (type_of line) line r is

pub new_variable : (c : Around) (b : Bool) (line : ℕ) (type : e.CType) (r : Resolved) → variable c b line type ≡ Ok r → b ≡ true
new_variable c true line type r is = refl
new_variable c false line type r is = absurd (no_variable c line type r is)

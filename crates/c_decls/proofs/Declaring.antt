-- Names that are declared, and declared again.
use Rattle.std.proofs.Common.{◌≡◌, ℕ, Bool, true, false, List, Option, Some, None, Ok, Err, refl, sym, ap, ◌∙◌}
use Rattle.std.specs.Prelude.{slice_get}
use Rattle.wp_base.specs.declared.answers.Refusal.{Refusal}
use Rattle.wp_base.specs.declared.answers.Rule.TheVariants as rule
use Rattle.c_syntax.specs.Expr as e
use Rattle.name_table.specs.Names.{meaning_of}
use Rattle.c_answers.specs.Answers.{Answer, after, fault, unknown}
use Rattle.c_exprs.specs.Typing.{Around}
use Rattle.c_contexts.specs.Contexts.{constant_number}
use Rattle.c_scopes.specs.declared.symbols.Symbol.{Symbol}
use Rattle.c_scopes.specs.declared.symbols.Symbol.TheVariants as symbol
use Rattle.c_scopes.specs.declared.symbols.Tag.{Tag}
use Rattle.c_scopes.specs.declared.symbols.Tag.TheVariants as tag
use Rattle.c_scopes.specs.declared.symbols.Resolved.{Resolved}
use Rattle.c_scopes.specs.declared.file.File.{File}
use Rattle.c_syntax.specs.Lines.{line_of}
use Rattle.c_scopes.specs.Meanings.{named, struct_meaning, enum_meaning, or_unknown, typedef_meaning, type_of, array_meaning}
use Rattle.c_variables.specs.Variables.{named_here, variable}

-- ---- a type in a declarator whose name is taken

struct_only : (line : ℕ) (o : Option Tag) (r : Refusal) → struct_meaning line o ≡ Err r → r ≡ fault rule.Name line
struct_only line (Some (tag.Struct n)) r h = absurd cc
struct_only line (Some (tag.Enum k)) r h = cc
struct_only line None r h = cc

enum_only : (line : ℕ) (o : Option Tag) (r : Refusal) → enum_meaning line o ≡ Err r → r ≡ fault rule.Name line
enum_only line (Some (tag.Enum k)) r h = absurd cc
enum_only line (Some (tag.Struct n)) r h = cc
enum_only line None r h = cc

there_only : (line : ℕ) (o : Option Resolved) (r : Refusal) → or_unknown line o ≡ Err r → r ≡ fault rule.Name line
there_only line (Some t) r h = absurd cc
there_only line None r h = cc

typedef_only : (ts : List Resolved) (line : ℕ) (o : Option Symbol) (r : Refusal) → typedef_meaning ts line o ≡ Err r → r ≡ fault rule.Name line
typedef_only ts line (Some (symbol.Typedef n)) r h = there_only line (slice_get ts n) r h
typedef_only ts line (Some (symbol.Object x)) r h = cc
typedef_only ts line (Some (symbol.Function n)) r h = cc
typedef_only ts line (Some (symbol.Enumerator z)) r h = cc
typedef_only ts line None r h = cc

around_only : {X Y : Type 0} (line : ℕ) (o : Answer X) (f : X → Y) (r : Refusal) → ((s : Refusal) → o ≡ Err s → s ≡ fault rule.Name line) → after o (λ x. Ok (f x)) ≡ Err r → r ≡ fault rule.Name line
around_only line (Ok x) f r only h = absurd cc
around_only line (Err s) f r only h = let e : s ≡ r = cc in sym e ∙ only s refl

-- the only fault is that of a name on this line
named_only : (f : File) (line : ℕ) (type : e.CType) (r : Refusal) → named f line type ≡ Err r → r ≡ fault rule.Name line
named_only f line e.void r h = absurd cc
named_only f line (e.kind k) r h = absurd cc
named_only f line e.integer r h = absurd cc
named_only f line (e.struct_of x) r h = struct_only line (meaning_of f.tags x) r h
named_only f line (e.enum_of x) r h = enum_only line (meaning_of f.tags x) r h
named_only f line (e.named x) r h = typedef_only f.typedefs line (meaning_of f.names x) r h
named_only f line (e.pointer to) r h = around_only line (named f line to) _ r (named_only f line to) h
named_only f line (e.array of length) r h = around_only line (named f line of) _ r (named_only f line of) h
named_only f line (e.constant of) r h = around_only line (named f line of) _ r (named_only f line of) h

taken_by : {X Y : Type 0} (line : ℕ) (o : Answer X) → ((s : Refusal) → o ≡ Err s → s ≡ fault rule.Name line) → after o (λ x. unknown {X = Y} line) ≡ unknown line
taken_by line (Ok x) only = refl
taken_by line (Err s) only = ap Err (only s refl)

named_taken : (f : File) (line : ℕ) (type : e.CType) → named_here f false line type ≡ unknown line
named_taken f line type = taken_by line (named f line type) (named_only f line type)

other_taken : (f : File) (line : ℕ) (type : e.CType) → after (named_here f false line type) (type_of line) ≡ unknown line
other_taken f line type = ap (λ o. after o (type_of line)) (named_taken f line type)

-- where the name of a declarator is taken, that is its fault, whatever its type
pub variable_taken : (c : Around) (line : ℕ) (type : e.CType) → variable c false line type ≡ unknown line
unfolding variable
variable_taken c line (e.array of length) =
    ap (λ o. after o (λ t. after (constant_number c length) (array_meaning line (line_of length) t))) (named_taken c.scope.file line of)
variable_taken c line e.void = other_taken c.scope.file line e.void
variable_taken c line (e.kind k) = other_taken c.scope.file line (e.kind k)
variable_taken c line e.integer = other_taken c.scope.file line e.integer
variable_taken c line (e.struct_of x) = other_taken c.scope.file line (e.struct_of x)
variable_taken c line (e.enum_of x) = other_taken c.scope.file line (e.enum_of x)
variable_taken c line (e.named x) = other_taken c.scope.file line (e.named x)
variable_taken c line (e.pointer to) = other_taken c.scope.file line (e.pointer to)
variable_taken c line (e.constant of) = other_taken c.scope.file line (e.constant of)

-- so a declarator that gives a type has a name that isn't taken
pub variable_free : (c : Around) (b : Bool) (line : ℕ) (type : e.CType) (t : Resolved) → variable c b line type ≡ Ok t → b ≡ true
variable_free c true line type t h = refl
variable_free c false line type t h = let none : unknown {X = Resolved} line ≡ Ok t = sym (variable_taken c line type) ∙ h in absurd cc

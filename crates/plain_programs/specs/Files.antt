-- Files whose programs are over plain integers.
use Rattle.std.specs.Prelude.{◌≡◌, ◌≤◌, ℕ, true, length, Some, slice_get}
use Rattle.c_syntax.specs.Stmt as p
use Rattle.c_scopes.specs.declared.symbols.Signature.{Signature}
use Rattle.c_variables.specs.declared.context.Context.{Context}
use Rattle.c_variables.specs.Contexts.{around_of}
use Rattle.typed_unit.specs.Stmt as s
use Rattle.typed_unit.specs.Unit as u
use Rattle.c_typed_stmts.specs.Judgement.{IsTyped, AreTyped}
use Rattle.c_programs.specs.Told.{Annotations}
use Rattle.c_runs.specs.Program.{Stmts, Function, Program}
use Rattle.c_programs.specs.Files.{Text, notes_of, text_of, clauses_for, function_with, result_of, program_of}
use Rattle.c_runs.specs.Normal.{normal}
use Rattle.c_runs.specs.Adding.{add_checks}
use Rattle.plain_runs.specs.Fitting.{is_param, FitsProgram}
use Rattle.plain_normal.specs.Plain.{IsPlainProgram}
use Rattle.plain_test.specs.Plain.{is_plain_file}
use Rattle.plain_programs.specs.Values.{Meets}
use Rattle.plain_programs.specs.Standing.{stmts_stand}

-- a function of the program: its signature, and its body with what stands in it
pub record IsFound (t : u.Typed) (a : Annotations) (n : ℕ) (f : Function Stmts) : Type 0 where
  pub signature : Signature
  pub declared : slice_get t.file.functions n ≡ Some signature
  pub text : Text
  pub written : text_of n t.bodies (notes_of t.parts a.items) ≡ Some text
  pub same : f ≡ function_with t.file.structs signature (clauses_for n t.parts a.items) text

-- the outermost block of a body is that of the parameters (C11 6.2.1p4)
pub data IsTypedBody : Context → s.Stmt → Context → Type 0 where
  of_block : (c b : Context) (line : ℕ) (xs : p.Stmts) (ys : s.Stmts) → AreTyped c xs ys b → IsTypedBody c (s.block line ys) b
  of_other : (c b : Context) (x : p.Stmt) (y : s.Stmt) → IsTyped c x y b → IsTypedBody c y b

-- A body is typed in declarations that are in the program, with the type of its function's results; its first variables are the parameters.
pub record IsTypedIn (q : Program Stmts) (g : Signature) (b : u.Body) (f : Function Stmts) : Type 0 where
  pub before : Context
  pub after : Context
  pub typed : IsTypedBody before b.stmt after
  pub meets : Meets (around_of after) q.facts f.variables q.functions
  pub result : result_of g.result ≡ result_of after.result
  pub params : length g.params ≤ length b.locals

abbrev pub BodiesAreTyped : u.Typed → Annotations → Type 0
BodiesAreTyped t a = (n : ℕ) (f : Function Stmts) (found : IsFound t a n f) → IsTypedIn (program_of t a) found.signature found.text.body f

-- each body keeps its scopes
abbrev pub BodiesStand : Program Stmts → Type 0
BodiesStand q = (n : ℕ) (f : Function Stmts) → q.functions n ≡ Some f → stmts_stand (length f.variables) (is_param f.params) (is_param f.params) 0 f.body ≡ true

-- The program of a plain file is one over plain integers.
abbrev pub PlainFilesArePlain : Type 0
PlainFilesArePlain = (t : u.Typed) (a : Annotations) → is_plain_file t ≡ true → BodiesAreTyped t a → BodiesStand (program_of t a) → IsPlainProgram (program_of t a)

-- The core program with its checks of a plain file fits what the laws on runs ask.
abbrev pub PlainFilesFit : Type 0
PlainFilesFit = (t : u.Typed) (a : Annotations) → is_plain_file t ≡ true → BodiesAreTyped t a → BodiesStand (program_of t a) → FitsProgram (add_checks (normal (program_of t a)))

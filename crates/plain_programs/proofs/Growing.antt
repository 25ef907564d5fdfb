-- What is declared stays declared in what follows.
use Rattle.std.proofs.Common.{◌≡◌, ℕ, ℤ, zero, suc, Bool, true, false, List, [], ◌∷◌, ◌++◌, length, Option, Some, slice_get, refl, sym, ap, ◌∙◌, subst}
use Rattle.wp_base.specs.declared.kinds.Kind.{Kind}
use Rattle.c_syntax.specs.Expr as e
use Rattle.c_syntax.specs.Stmt as p
use Rattle.c_scopes.specs.declared.symbols.Object.{Object}
use Rattle.c_scopes.specs.declared.symbols.Resolved.{Resolved}
use Rattle.c_scopes.specs.declared.file.File.{File}
use Rattle.c_scopes.specs.Declarations.{more_if, is_free_here}
use Rattle.c_variables.specs.declared.context.Context.{Context}
use Rattle.c_variables.specs.Contexts.{around_of}
use Rattle.c_variables.specs.Variables.{object_with}
use Rattle.c_stmts.specs.Locals.{with_variable}
use Rattle.c_stmts.specs.Statements.{entered, left}
use Rattle.c_runs.specs.Program.{Stmts, Variable, Function, Facts}
use Rattle.plain_states.proofs.Scoping.{none_some}
use Rattle.typed_unit.specs.Stmt as s
use Rattle.c_typed_stmts.specs.Judgement as j
use Rattle.c_typed_stmts.specs.Judgement.{IsLocal, AreLocals, IsTyped, AreTyped, AreLabelled}
use Rattle.plain_programs.specs.Values.{Meets}

-- the file and the type of the results are the same, and each object has its number
pub record Grows (c b : Context) : Type 0 where
  pub file : b.scope.file ≡ c.scope.file
  pub result : b.result ≡ c.result
  pub objects : (n : ℕ) (o : Object) → slice_get c.scope.local.objects n ≡ Some o → slice_get b.scope.local.objects n ≡ Some o

pub grows_self : (c : Context) → Grows c c
grows_self c = record { file = refl; result = refl; objects = λ n o h. h }

pub grows_then : (a b c : Context) → Grows a b → Grows b c → Grows a c
grows_then a b c h g = record { file = g.file ∙ h.file; result = g.result ∙ h.result; objects = λ n o k. g.objects n o (h.objects n o k) }

kept_before : (os : List Object) (x o : Object) (n : ℕ) → slice_get os n ≡ Some o → slice_get (os ++ x ∷ []) n ≡ Some o
kept_before [] x o n h = absurd (none_some o h)
kept_before (y ∷ os) x o zero h = h
kept_before (y ∷ os) x o (suc n) h = kept_before os x o n h

pub last_one : (os : List Object) (x : Object) → slice_get (os ++ x ∷ []) (length os) ≡ Some x
last_one [] x = refl
last_one (y ∷ os) x = last_one os x

kept_if : (b : Bool) (os : List Object) (x o : Object) (n : ℕ) → slice_get os n ≡ Some o → slice_get (more_if b os x) n ≡ Some o
kept_if true os x o n h = kept_before os x o n h
kept_if false os x o n h = h

pub variable_grows : (c : Context) (d : e.VarDecl) (t : Resolved) → Grows c (with_variable c d t)
variable_grows c d t = record { file = refl; result = refl; objects = λ n o h. kept_if (is_free_here c.scope.local d.name) c.scope.local.objects (object_with d t) o n h }

pub local_grows : {c : Context} {d : e.VarDecl} {r : s.Declared} {b : Context} → IsLocal c d r b → Grows c b
local_grows {c = c} {d = d} h = subst (Grows c) (sym h.declares) (record { file = refl; result = refl; objects = (variable_grows c d h.is).objects })

pub locals_grow : {c : Context} {ds : List e.VarDecl} {rs : List s.Declared} {b : Context} → AreLocals c ds rs b → Grows c b
locals_grow (j.no_local c) = grows_self c
locals_grow (j.one_local c next behind d r ds rs h are) = grows_then c next behind (local_grows h) (locals_grow are)

in_block : (c b : Context) → Grows (entered c) b → Grows c (left b)
in_block c b h = record { file = h.file; result = h.result; objects = h.objects }

mutual
  pub stmt_grows : {c : Context} {x : p.Stmt} {y : s.Stmt} {behind : Context} → IsTyped c x y behind → Grows c behind
  stmt_grows (j.empty c line) = grows_self c
  stmt_grows (j.expr c line a v is) = grows_self c
  stmt_grows (j.block c behind line xs ys are) = in_block c behind (stmts_grow are)
  stmt_grows (j.locals c behind line ds rs are) = locals_grow are
  stmt_grows (j.if_only c behind line test v x y is so) = stmt_grows so
  stmt_grows (j.if_else c next behind line test v x x' y y' is so so') = grows_then c next behind (stmt_grows so) (stmt_grows so')
  stmt_grows (j.while_loop c behind line annot test v x y is so) = stmt_grows so
  stmt_grows (j.do_loop c behind line annot test v x y so is) = stmt_grows so
  stmt_grows (j.for_loop c next behind line annot first body test step y z v w so is is' so') = in_block c behind (grows_then (entered c) next behind (stmt_grows so) (stmt_grows so'))
  stmt_grows (j.switch c behind line a v xs ys is are) = in_block c behind (labelled_grow are)
  stmt_grows (j.break c line) = grows_self c
  stmt_grows (j.continue c line) = grows_self c
  stmt_grows (j.return_of c line a v is) = grows_self c
  stmt_grows (j.assert c line q) = grows_self c

  pub stmts_grow : {c : Context} {xs : p.Stmts} {ys : s.Stmts} {behind : Context} → AreTyped c xs ys behind → Grows c behind
  stmts_grow (j.no_stmt c) = grows_self c
  stmts_grow (j.one_stmt c next behind x y xs ys is are) = grows_then c next behind (stmt_grows is) (stmts_grow are)

  pub labelled_grow : {k : Option Kind} {zs : List ℤ} {c : Context} {xs : p.Stmts} {ys : s.Stmts} {behind : Context} → AreLabelled k zs c xs ys behind → Grows c behind
  labelled_grow (j.no_item k zs c) = grows_self c
  labelled_grow (j.label k zs c behind line a z xs ys is new are) = labelled_grow are
  labelled_grow (j.default k zs c behind line xs ys are) = labelled_grow are
  labelled_grow (j.one_item k zs c next behind x y xs ys is are) = grows_then c next behind (stmt_grows is) (labelled_grow are)

-- what is in the program behind is in it before
pub meets_before : (c b : Context) → Grows c b → (p : Facts) (xs : List Variable) (functions : ℕ → Option (Function Stmts)) → Meets (around_of b) p xs functions → Meets (around_of c) p xs functions
meets_before c b h p xs functions m = record {
  globals = λ n o k. m.globals n o (ap (λ (f : File). slice_get f.globals n) h.file ∙ k);
  locals = λ n o k. m.locals n o (h.objects n o k);
  called = λ n g k. m.called n g (ap (λ (f : File). slice_get f.functions n) h.file ∙ k);
}

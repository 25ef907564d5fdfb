-- By induction on the typed statement, and on the declarations that stand so far.
use Rattle.std.proofs.Common.{ℤ, List, Option, sym, subst}
use Rattle.wp_base.specs.declared.kinds.Kind.{Kind}
use Rattle.c_syntax.specs.Stmt as p
use Rattle.c_syntax.specs.Decl as d
use Rattle.c_variables.specs.declared.context.Context.{Context}
use Rattle.typed_unit.specs.Stmt as s
use Rattle.typed_unit.specs.Unit as u
use Rattle.c_functions.specs.Functions.{Functions}
use Rattle.c_typing.specs.Typing.{Facts, Unit as Code, finished}
use Rattle.c_typed_stmts.specs.Judgement as j
use Rattle.c_typed_stmts.specs.Judgement.{IsTyped, AreTyped, AreLabelled}
use Rattle.c_typed_stmts.proofs.Statements.{typed_statements_are_in_order}
use Rattle.c_typed_files.specs.Functions as f
use Rattle.c_typed_files.specs.Functions.{IsBody, HasBody}
use Rattle.c_typed_files.specs.Files as g
use Rattle.c_typed_files.specs.Files.{IsDeclared, AreDeclared}
use Rattle.c_typed_files.proofs.Files.{typed_files_are_in_order}
use Rattle.acsl_well_typed.specs.Clauses.{All}
use Rattle.acsl_well_typed.specs.Files.{StmtBinds, StmtsBind, PartBinds, FileBinds}
use Rattle.acsl_well_typed.proofs.Notes.{ranges_of_files_are_well_typed}
use Rattle.acsl_binders.specs.Spelled.{SpelledBinds, AllSpelledBind, BodySpelledBinds, DeclBinds, ProgramBinds}
use Rattle.acsl_binders.specs.Typed.{TypedStatementsBind, TypedProgramsBind, SpelledProgramsAreWellTyped}
use Rattle.acsl_binders.proofs.Annots.{both_all}
use Rattle.acsl_binders.proofs.Decls.{spelled_programs_bind}

-- ---- statements

mutual
  stmt_keeps : {c : Context} {x : p.Stmt} {y : s.Stmt} {behind : Context} → IsTyped c x y behind → SpelledBinds x → StmtBinds y
  stmt_keeps (j.empty c line) b = tt
  stmt_keeps (j.expr c line a v is) b = tt
  stmt_keeps (j.block c behind line xs ys are) b = stmts_keep are b
  stmt_keeps (j.locals c behind line ds rs are) b = tt
  stmt_keeps (j.if_only c behind line test v x y is so) b = (stmt_keeps so b, tt)
  stmt_keeps (j.if_else c next behind line test v x x' y y' is so so') b = (stmt_keeps so b.0, stmt_keeps so' b.1)
  stmt_keeps (j.while_loop c behind line annot test v x y is so) b = (b.0, stmt_keeps so b.1)
  stmt_keeps (j.do_loop c behind line annot test v x y so is) b = (b.0, stmt_keeps so b.1)
  stmt_keeps (j.for_loop c next behind line annot first body test step y z v w so is is' so') b = (stmt_keeps so b.1, ((b.0, stmt_keeps so' b.2), tt))
  stmt_keeps (j.switch c behind line a v xs ys is are) b = labelled_keep are b
  stmt_keeps (j.break c line) b = tt
  stmt_keeps (j.continue c line) b = tt
  stmt_keeps (j.return_of c line a v is) b = tt
  stmt_keeps (j.assert c line q) b = b

  stmts_keep : {c : Context} {xs : p.Stmts} {ys : s.Stmts} {behind : Context} → AreTyped c xs ys behind → AllSpelledBind xs → StmtsBind ys
  stmts_keep (j.no_stmt c) b = tt
  stmts_keep (j.one_stmt c next behind x y xs ys is are) b = (stmt_keeps is b.0, stmts_keep are b.1)

  labelled_keep : {k : Option Kind} {zs : List ℤ} {c : Context} {xs : p.Stmts} {ys : s.Stmts} {behind : Context} → AreLabelled k zs c xs ys behind → AllSpelledBind xs → StmtsBind ys
  labelled_keep (j.no_item k zs c) b = tt
  labelled_keep (j.label k zs c behind line a z xs ys is new are) b = (tt, labelled_keep are b.1)
  labelled_keep (j.default k zs c behind line xs ys are) b = (tt, labelled_keep are b.1)
  labelled_keep (j.one_item k zs c next behind x y xs ys is are) b = (stmt_keeps is b.0, labelled_keep are b.1)

pub typed_statements_bind : TypedStatementsBind
typed_statements_bind c x y behind is b = stmt_keeps (typed_statements_are_in_order c x y behind is) b

-- ---- functions

abbrev pub OfPart : u.Part → Type 0
OfPart x = PartBinds x.decl

abbrev pub OfBody : u.Body → Type 0
OfBody x = StmtBinds x.stmt

body_keeps : {c : Context} {x : p.Stmt} {y : s.Stmt} {behind : Context} → IsBody c x y behind → SpelledBinds x → StmtBinds y
body_keeps (f.block c behind line xs ys are) b = stmts_keep are b
body_keeps (f.other c behind x y is) b = stmt_keeps is b

bodies_keep : {c : Context} {bs : List u.Body} {g : d.Function} {x : Option p.Stmt} {bs' : List u.Body} {behind : Context} → HasBody c bs g x bs' behind
    → BodySpelledBinds x → All OfBody bs → All OfBody bs'
bodies_keep f.not_written b fs = fs
bodies_keep {bs = bs} (f.written behind x y is) b fs = both_all OfBody bs _ fs (body_keeps is b, tt)

-- ---- declarations

abbrev pub SoFar : Functions → Type 0
SoFar v = All OfPart v.parts × All OfBody v.bodies

decl_keeps : {facts : Facts} {v : Code} {x : d.Decl} {w : Code} → IsDeclared facts v x w → DeclBinds x → SoFar v.functions → SoFar w.functions
decl_keeps (g.of_struct x behind is) b fs = fs
decl_keeps (g.of_enum x behind is) b fs = fs
decl_keeps (g.of_typedef x behind is) b fs = fs
decl_keeps (g.of_globals xs behind inits are) b fs = fs
decl_keeps {v = v} (g.of_function h behind after is) b fs =
    (subst (All OfPart) (sym is.parts) (both_all OfPart v.functions.parts _ fs.0 (b.0, tt)), bodies_keep is.body b.1 fs.1)
decl_keeps {v = v} (g.of_logic l) b fs = (both_all OfPart v.functions.parts _ fs.0 (b, tt), fs.1)

decls_keep : {facts : Facts} {v : Code} {xs : List d.Decl} {w : Code} → AreDeclared facts v xs w → ProgramBinds xs → SoFar v.functions → SoFar w.functions
decls_keep (g.no_decl v) b fs = fs
decls_keep (g.one_decl v next behind x xs is are) b fs = decls_keep are b.1 (decl_keeps is b.0 fs)

-- ---- files

so_far_binds : (v : Code) → SoFar v.functions → FileBinds (finished v)
so_far_binds v fs = record { parts = fs.0; bodies = fs.1 }

pub typed_programs_bind : TypedProgramsBind
typed_programs_bind m p t is b =
    let file = typed_files_are_in_order m p t is in
    subst FileBinds (sym file.holds) (so_far_binds file.behind (decls_keep file.declared b (tt, tt)))

pub spelled_programs_are_well_typed : SpelledProgramsAreWellTyped
spelled_programs_are_well_typed ts p ls m t spelled is = ranges_of_files_are_well_typed t (typed_programs_bind m p t is (spelled_programs_bind ts p ls spelled))

-- What is declared stays declared in what follows.
use Rattle.std.proofs.Common.{◌≡◌, ℕ, ℤ, List, Option, slice_get, refl, sym, ap, ◌∙◌, subst}
use Rattle.std.specs.Prelude.{slice_index_or}
use Rattle.wp_base.specs.declared.kinds.Kind.{Kind}
use Rattle.c_syntax.specs.Expr as e
use Rattle.c_syntax.specs.Stmt as spelled
use Rattle.c_scopes.specs.declared.file.File.{File}
use Rattle.c_variables.specs.declared.context.Context.{Context}
use Rattle.c_variables.specs.Contexts.{around_of}
use Rattle.c_stmts.specs.Statements.{entered, left}
use Rattle.c_programs.specs.Files.{result_of}
use Rattle.c_runs.specs.Program.{Stmts, Variable, Function, Facts}
use Rattle.typed_unit.specs.Stmt as unit
use Rattle.c_typed_stmts.specs.Judgement as j
use Rattle.c_typed_stmts.specs.Judgement.{IsLocal, AreLocals, IsTyped, AreTyped, AreLabelled}
use Rattle.plain_programs.proofs.Growing.{Grows, stmt_grows, stmts_grow, labelled_grow, locals_grow}
use Rattle.value_terms.specs.Typed.{Scope}
use Rattle.typed_values.specs.Declared.{IsLaidOut, Holds, Meets}
use Rattle.typed_runs.specs.Fitting.{Shape}
use Rattle.typed_normal.specs.Spelled.{spelled_scope}
use Rattle.kinded_programs.specs.Standing.{IsIn}

-- ---- the machine

-- the data model, how many cells each struct has, and which variables of the file no pointer leads to
pub record Keeps (c b : Context) : Type 0 where
  pub model : b.model ≡ c.model
  pub sizes : b.sizes ≡ c.sizes
  pub globals : b.globals ≡ c.globals

pub keeps_self : (c : Context) → Keeps c c
keeps_self c = record { model = refl; sizes = refl; globals = refl }

pub keeps_then : (a b c : Context) → Keeps a b → Keeps b c → Keeps a c
keeps_then a b c h g = record { model = g.model ∙ h.model; sizes = g.sizes ∙ h.sizes; globals = g.globals ∙ h.globals }

local_keeps : {c : Context} {d : e.VarDecl} {r : unit.Declared} {b : Context} → IsLocal c d r b → Keeps c b
local_keeps {c = c} h = subst (Keeps c) (sym h.declares) (record { model = refl; sizes = refl; globals = refl })

pub locals_keep : {c : Context} {ds : List e.VarDecl} {rs : List unit.Declared} {b : Context} → AreLocals c ds rs b → Keeps c b
locals_keep (j.no_local c) = keeps_self c
locals_keep (j.one_local c next behind d r ds rs h are) = keeps_then c next behind (local_keeps h) (locals_keep are)

in_block : (c b : Context) → Keeps (entered c) b → Keeps c (left b)
in_block c b h = record { model = h.model; sizes = h.sizes; globals = h.globals }

mutual
  pub stmt_keeps : {c : Context} {x : spelled.Stmt} {y : unit.Stmt} {behind : Context} → IsTyped c x y behind → Keeps c behind
  stmt_keeps (j.empty c line) = keeps_self c
  stmt_keeps (j.expr c line a v is) = keeps_self c
  stmt_keeps (j.block c behind line xs ys are) = in_block c behind (stmts_keep are)
  stmt_keeps (j.locals c behind line ds rs are) = locals_keep are
  stmt_keeps (j.if_only c behind line test v x y is so) = stmt_keeps so
  stmt_keeps (j.if_else c next behind line test v x x' y y' is so so') = keeps_then c next behind (stmt_keeps so) (stmt_keeps so')
  stmt_keeps (j.while_loop c behind line annot test v x y is so) = stmt_keeps so
  stmt_keeps (j.do_loop c behind line annot test v x y so is) = stmt_keeps so
  stmt_keeps (j.for_loop c next behind line annot first body test step y z v w so is is' so') =
      in_block c behind (keeps_then (entered c) next behind (stmt_keeps so) (stmt_keeps so'))
  stmt_keeps (j.switch c behind line a v xs ys is are) = in_block c behind (labelled_keep are)
  stmt_keeps (j.break c line) = keeps_self c
  stmt_keeps (j.continue c line) = keeps_self c
  stmt_keeps (j.return_of c line a v is) = keeps_self c
  stmt_keeps (j.assert c line q) = keeps_self c

  pub stmts_keep : {c : Context} {xs : spelled.Stmts} {ys : unit.Stmts} {behind : Context} → AreTyped c xs ys behind → Keeps c behind
  stmts_keep (j.no_stmt c) = keeps_self c
  stmts_keep (j.one_stmt c next behind x y xs ys is are) = keeps_then c next behind (stmt_keeps is) (stmts_keep are)

  pub labelled_keep : {k : Option Kind} {zs : List ℤ} {c : Context} {xs : spelled.Stmts} {ys : unit.Stmts} {behind : Context} → AreLabelled k zs c xs ys behind → Keeps c behind
  labelled_keep (j.no_item k zs c) = keeps_self c
  labelled_keep (j.label k zs c behind line a z xs ys is new are) = labelled_keep are
  labelled_keep (j.default k zs c behind line xs ys are) = labelled_keep are
  labelled_keep (j.one_item k zs c next behind x y xs ys is are) = keeps_then c next behind (stmt_keeps is) (labelled_keep are)

-- ---- what is in the program behind is in it before

meets_before : (c b : Context) → Grows c b → Keeps c b → (p : Facts) (xs : List Variable) (s : Scope) → Meets (around_of b) p xs s → Meets (around_of c) p xs s
meets_before c b h k p xs s m = record {
  model = m.model ∙ k.model;
  globals = λ n o e. subst (λ (f : File). Holds f.structs s p.globals n o) h.file (m.globals n o (ap (λ (f : File). slice_get f.globals n) h.file ∙ e));
  locals = λ n o e. subst (λ (f : File). Holds f.structs s xs n o) h.file (m.locals n o (h.objects n o e));
  sizes = λ tag x e. ap (λ ns. slice_index_or ns tag 1) (sym k.sizes) ∙ m.sizes tag x (ap (λ (f : File). slice_get f.structs tag) h.file ∙ e);
  structs = λ tag x e. subst (λ (f : File). IsLaidOut f.structs x) h.file (m.structs tag x (ap (λ (f : File). slice_get f.structs tag) h.file ∙ e));
  fields = λ tag number x f e has. m.fields tag number x f (ap (λ (g : File). slice_get g.structs tag) h.file ∙ e) has;
}

module _ (p : Facts) (s : Shape) (functions : ℕ → Option (Function Stmts)) where
  pub is_in_before : (c b : Context) → Grows c b → Keeps c b → IsIn p s functions b → IsIn p s functions c
  is_in_before c b h k m = record {
    there = record {
      meets = λ f. meets_before c b h k p s.variables (spelled_scope p s f) (m.there.meets f);
      called = λ n g e. m.there.called n g (ap (λ (f : File). slice_get f.functions n) h.file ∙ e);
    };
    result = m.result ∙ ap result_of h.result;
  }

  pub before_stmt : {c : Context} {x : spelled.Stmt} {y : unit.Stmt} {b : Context} → IsTyped c x y b → IsIn p s functions b → IsIn p s functions c
  before_stmt {c = c} {b = b} is m = is_in_before c b (stmt_grows is) (stmt_keeps is) m

  pub before_stmts : {c : Context} {xs : spelled.Stmts} {ys : unit.Stmts} {b : Context} → AreTyped c xs ys b → IsIn p s functions b → IsIn p s functions c
  before_stmts {c = c} {b = b} are m = is_in_before c b (stmts_grow are) (stmts_keep are) m

  pub before_labelled : {k : Option Kind} {zs : List ℤ} {c : Context} {xs : spelled.Stmts} {ys : unit.Stmts} {b : Context} → AreLabelled k zs c xs ys b → IsIn p s functions b → IsIn p s functions c
  before_labelled {c = c} {b = b} are m = is_in_before c b (labelled_grow are) (labelled_keep are) m

  pub before_locals : {c : Context} {ds : List e.VarDecl} {rs : List unit.Declared} {b : Context} → AreLocals c ds rs b → IsIn p s functions b → IsIn p s functions c
  before_locals {c = c} {b = b} are m = is_in_before c b (locals_grow are) (locals_keep are) m

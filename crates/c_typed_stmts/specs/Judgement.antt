-- Which typed statement a statement has, and what is declared behind it (C11 6.8): a rule a form. Each rule stands for itself, with no order of faults.
use Rattle.std.specs.Prelude.{◌≡◌, ℕ, ℤ, Bool, true, false, List, [], ◌∷◌, ◌++◌, Option, Some, None, Ok}
use Rattle.wp_base.specs.declared.kinds.Kind.{Kind}
use Rattle.wp_base.specs.declared.kinds.Layout.{Layout}
use Rattle.c_syntax.specs.Expr as e
use Rattle.c_syntax.specs.Contract.{LoopAnnot}
use Rattle.c_syntax.specs.Pred.{Pred}
use Rattle.c_syntax.specs.Stmt as p
use Rattle.typed_prog.specs.Types.{is_void}
use Rattle.typed_prog.specs.Tree as t
use Rattle.c_operands.specs.Conversions.{kind_of_value}
use Rattle.c_contexts.specs.Contexts.{case_number}
use Rattle.c_scopes.specs.declared.symbols.Resolved.{Resolved}
use Rattle.c_scopes.specs.Declarations.{is_free_here}
use Rattle.c_scopes.specs.Extents.{extent}
use Rattle.c_variables.specs.declared.context.Context.{Context}
use Rattle.c_variables.specs.Contexts.{around_of}
use Rattle.c_variables.specs.Variables.{variable}
use Rattle.typed_unit.specs.Stmt as s
use Rattle.c_stmts.specs.Locals.{with_variable, count_of, initialising}
use Rattle.c_stmts.specs.Statements.{entered, left, turns_with, in_for}
use Rattle.c_stmts.specs.Cases.{is_among}
use Rattle.c_typed_stmts.specs.Full.{IsFull, IsTest, IsAssigned, IsSwitched, IfThere}

-- ---- declarations

-- A local: its name is new in its block, an object of its type has no more cells than the limit, it has the number behind those before it, and its
-- initialiser has its type, where itself isn't named.
pub record IsLocal (c : Context) (d : e.VarDecl) (r : s.Declared) (behind : Context) : Type 0 where
  pub is : Resolved
  pub layout : Layout
  pub new : is_free_here c.scope.local d.name ≡ true
  pub means : variable (around_of c) true d.line d.ty ≡ Ok is
  pub held : extent c.scope.file.structs d.line is ≡ Ok layout
  pub number : r.local ≡ count_of c
  pub init : IfThere (IsAssigned (initialising (with_variable c d is) (Some r.local)) is.ty) d.init r.init
  pub line : r.line ≡ d.line
  pub declares : behind ≡ initialising (with_variable c d is) None

pub data AreLocals : Context → List e.VarDecl → List s.Declared → Context → Type 0 where
  no_local : (c : Context) → AreLocals c [] [] c
  one_local : (c next behind : Context) (d : e.VarDecl) (r : s.Declared) (ds : List e.VarDecl) (rs : List s.Declared) → IsLocal c d r next → AreLocals next ds rs behind
      → AreLocals c (d ∷ ds) (r ∷ rs) behind

-- ---- statements

-- a value is returned exactly where the function has results (6.8.6.4p1)
pub data IsReturned (c : Context) : Option e.Expr → Option t.Value → Type 0 where
  without : is_void c.result ≡ true → IsReturned c None None
  with_value : (a : e.Expr) (v : t.Value) → is_void c.result ≡ false → IsAssigned c c.result a v → IsReturned c (Some a) (Some v)

mutual
  pub data IsTyped : Context → p.Stmt → s.Stmt → Context → Type 0 where
    empty : (c : Context) (line : ℕ) → IsTyped c (p.empty line) (s.empty line) c
    expr : (c : Context) (line : ℕ) (a : e.Expr) (v : t.Value) → IsFull c a v → IsTyped c (p.expr line a) (s.expr line v) c
    block : (c behind : Context) (line : ℕ) (xs : p.Stmts) (ys : s.Stmts) → AreTyped (entered c) xs ys behind → IsTyped c (p.block line xs) (s.block line ys) (left behind)
    locals : (c behind : Context) (line : ℕ) (ds : List e.VarDecl) (rs : List s.Declared) → AreLocals c ds rs behind → IsTyped c (p.locals line ds) (s.locals line rs) behind
    if_only : (c behind : Context) (line : ℕ) (test : e.Expr) (v : t.Value) (x : p.Stmt) (y : s.Stmt) → IsTest c test v → IsTyped c x y behind
        → IsTyped c (p.if_only line test x) (s.if_else line v y (s.empty line)) behind
    if_else : (c next behind : Context) (line : ℕ) (test : e.Expr) (v : t.Value) (x x' : p.Stmt) (y y' : s.Stmt) → IsTest c test v → IsTyped c x y next → IsTyped next x' y' behind
        → IsTyped c (p.if_else line test x x') (s.if_else line v y y') behind
    while_loop : (c behind : Context) (line : ℕ) (annot : LoopAnnot) (test : e.Expr) (v : t.Value) (x : p.Stmt) (y : s.Stmt) → IsTest c test v → IsTyped c x y behind
        → IsTyped c (p.while_of line annot test x) (s.loop_of line annot (turns_with (Some v) None None) y) behind
    do_loop : (c behind : Context) (line : ℕ) (annot : LoopAnnot) (test : e.Expr) (v : t.Value) (x : p.Stmt) (y : s.Stmt) → IsTyped c x y behind → IsTest behind test v
        → IsTyped c (p.do_of line annot x test) (s.loop_of line annot (turns_with None (Some v) None) y) behind
    for_loop : (c next behind : Context) (line : ℕ) (annot : LoopAnnot) (first body : p.Stmt) (test step : Option e.Expr) (y z : s.Stmt) (v w : Option t.Value)
        → IsTyped (entered c) first y next → IfThere (IsTest next) test v → IfThere (IsFull next) step w → IsTyped next body z behind
        → IsTyped c (p.for_of line annot first test step body) (in_for line y (s.loop_of line annot (turns_with v None w) z)) (left behind)
    switch : (c behind : Context) (line : ℕ) (a : e.Expr) (v : t.Value) (xs : p.Stmts) (ys : s.Stmts) → IsSwitched c a v → AreLabelled (kind_of_value v) [] (entered c) xs ys behind
        → IsTyped c (p.switch line a xs) (s.switch line v ys) (left behind)
    break : (c : Context) (line : ℕ) → IsTyped c (p.break line) (s.break line) c
    continue : (c : Context) (line : ℕ) → IsTyped c (p.continue line) (s.continue line) c
    return_of : (c : Context) (line : ℕ) (a : Option e.Expr) (v : Option t.Value) → IsReturned c a v → IsTyped c (p.return_of line a) (s.return_of line v) c
    assert : (c : Context) (line : ℕ) (q : Pred) → IsTyped c (p.assert line q) (s.assert line q) c

  pub data AreTyped : Context → p.Stmts → s.Stmts → Context → Type 0 where
    no_stmt : (c : Context) → AreTyped c p.stop s.stop c
    one_stmt : (c next behind : Context) (x : p.Stmt) (y : s.Stmt) (xs : p.Stmts) (ys : s.Stmts) → IsTyped c x y next → AreTyped next xs ys behind
        → AreTyped c (p.more x xs) (s.more y ys) behind

  -- in the body of a `switch` over this kind, behind labels with these numbers
  pub data AreLabelled : Option Kind → List ℤ → Context → p.Stmts → s.Stmts → Context → Type 0 where
    no_item : (k : Option Kind) (zs : List ℤ) (c : Context) → AreLabelled k zs c p.stop s.stop c
    label : (k : Kind) (zs : List ℤ) (c behind : Context) (line : ℕ) (a : e.Expr) (z : ℤ) (xs : p.Stmts) (ys : s.Stmts) → case_number (around_of c) k a ≡ Ok z → is_among z zs ≡ false
        → AreLabelled (Some k) (zs ++ z ∷ []) c xs ys behind → AreLabelled (Some k) zs c (p.more (p.case_of line a) xs) (s.more (s.case_of line z) ys) behind
    default : (k : Option Kind) (zs : List ℤ) (c behind : Context) (line : ℕ) (xs : p.Stmts) (ys : s.Stmts) → AreLabelled k zs c xs ys behind
        → AreLabelled k zs c (p.more (p.default line) xs) (s.more (s.default line) ys) behind
    one_item : (k : Option Kind) (zs : List ℤ) (c next behind : Context) (x : p.Stmt) (y : s.Stmt) (xs : p.Stmts) (ys : s.Stmts) → IsTyped c x y next → AreLabelled k zs next xs ys behind
        → AreLabelled k zs c (p.more x xs) (s.more y ys) behind

-- Statements, by what the code finds.
use Rattle.std.proofs.Common.{◌≡◌, ℕ, Option, Some, None, Result, Ok, Err, OnOk, option_map, refl, sym, ap, ◌∙◌}
use Rattle.c_syntax.specs.declared.expr.Expr.{Expr}
use Rattle.c_syntax.specs.declared.stmt.Stmt.{Stmt}
use Rattle.c_syntax.specs.declared.stmt.StmtNode.TheVariants as stmt
use Rattle.c_syntax.specs.View.{view_expr, view_stmt, view_stmt_node}
use Rattle.c_syntax.proofs.Equations.{view_stmt_node-If}
use Rattle.c_syntax.specs.Expr as e
use Rattle.c_syntax.specs.Stmt as s
use Rattle.c_taken.specs.Addressed.{addressed}
use Rattle.c_taken.specs.declared.marks.Marks.{Marks}
use Rattle.c_taken.specs.Marking.{marked}
use Rattle.c_taken.specs.Walks.{walked, else_walked, block_of}

pub walked_if : (line : ℕ) (test : e.Expr) (a : s.Stmt) (other : Option s.Stmt) (m : Marks) → walked (s.if_of line test a other) m ≡ else_walked other (walked a (marked (addressed test) m))
walked_if line test a None m = refl
walked_if line test a (Some b) m = refl

-- by the parts of an `if`, one after another
pub if_turn : (x : Stmt) (test : Expr) (a b : Stmt) (other : Option Stmt) (m n k l : Marks) → x.node ≡ stmt.If test a other → n ≡ marked (addressed (view_expr test)) m → b ≡ a
    → k ≡ walked (view_stmt b) n → l ≡ else_walked (option_map view_stmt other) k → l ≡ walked (view_stmt x) m
if_turn x test a b other m n k l is tested same first second =
    second ∙ ap (else_walked (option_map view_stmt other)) (first ∙ (λ i. walked (view_stmt (same i)) (tested i)))
    ∙ sym (walked_if x.line (view_expr test) (view_stmt a) (option_map view_stmt other) m) ∙ ap (λ s. walked s m) (sym (view_stmt_node-If test a other x.line))
    ∙ ap (λ n. walked (view_stmt_node n x.line) m) (sym is)

pub ruleset stmt_laws = (walked_if)

pub no_block_if : (line : ℕ) (test : e.Expr) (a : s.Stmt) (other : Option s.Stmt) → block_of (s.if_of line test a other) ≡ None
no_block_if line test a None = refl
no_block_if line test a (Some b) = refl

pub if_on_ok : {A E : Type 0} (r : Result A E) (x : Stmt) (test : Expr) (a b : Stmt) (other : Option Stmt) (m n k l : Marks) → x.node ≡ stmt.If test a other
    → n ≡ marked (addressed (view_expr test)) m → b ≡ a → k ≡ walked (view_stmt b) n → OnOk r (l ≡ else_walked (option_map view_stmt other) k) → OnOk r (l ≡ walked (view_stmt x) m)
if_on_ok (Ok v) x test a b other m n k l is tested same first second = if_turn x test a b other m n k l is tested same first second
if_on_ok (Err v) x test a b other m n k l is tested same first second = tt

-- The plain tree of a statement, by its variant.
use Rattle.std.proofs.Common.{◌≡◌, ℕ, ℤ, List, Option, map, ap, sym, ◌∙◌}
use Rattle.std.specs.Option.{option_map}
use Rattle.std.specs.Borrow.{Bor}
use Rattle.c_syntax.specs.declared.annot.LoopAnnot.{LoopAnnot}
use Rattle.c_syntax.specs.declared.annot.Pred.{Pred}
use Rattle.c_syntax.specs.View.{view_pred, view_loop}
use Rattle.typed_prog.specs.declared.tree.Value.{Value}
use Rattle.typed_prog.specs.View.{view_value}
use Rattle.typed_unit.specs.declared.stmt.Turns.{Turns}
use Rattle.typed_unit.specs.declared.stmt.Declared.{Declared}
use Rattle.typed_unit.specs.declared.stmt.StmtNode.{StmtNode-F, fold-roll-StmtNode}
use Rattle.typed_unit.specs.declared.stmt.StmtNode.TheVariants as stmt
use Rattle.typed_unit.specs.declared.stmt.Stmt.{Stmt, fold-Stmt, fold-roll-Stmt, out-Stmt, roll-out-Stmt}
use Rattle.typed_unit.specs.Stmt as s
use Rattle.typed_unit.specs.View.{view_turns, view_declared, view_stmt_node, view_stmt, stmt_node_layer, stmt_layer}

abbrev fold_stmt : Stmt → s.Stmt
fold_stmt = fold-Stmt (ℕ → s.Stmt) s.Stmt stmt_node_layer stmt_layer

stmt_whole : (x : Stmt) → fold_stmt x ≡ view_stmt x
unfolding view_stmt_node
stmt_whole x = ap fold_stmt (sym (roll-out-Stmt x)) ∙ fold-roll-Stmt (ℕ → s.Stmt) s.Stmt stmt_node_layer stmt_layer (out-Stmt x)

pub view_stmt_node-Empty : (line : ℕ) → view_stmt_node stmt.Empty line ≡ s.empty line
unfolding view_stmt_node
view_stmt_node-Empty line =
    ap (λ f. f line) (ap view_stmt_node (sym stmt.rolls-Empty) ∙ fold-roll-StmtNode (ℕ → s.Stmt) s.Stmt stmt_node_layer stmt_layer StmtNode-F.Empty)

pub view_stmt_node-Expr : (v : Value) (line : ℕ) → view_stmt_node (stmt.Expr v) line ≡ s.expr line (view_value v)
unfolding view_stmt_node
view_stmt_node-Expr v line =
    ap (λ f. f line) (ap view_stmt_node (sym (stmt.rolls-Expr v)) ∙ fold-roll-StmtNode (ℕ → s.Stmt) s.Stmt stmt_node_layer stmt_layer (StmtNode-F.Expr v))

pub view_stmt_node-Block : (body : List Stmt) (line : ℕ) → view_stmt_node (stmt.Block body) line ≡ s.block line (s.stmts_of (map view_stmt body))
unfolding view_stmt_node
view_stmt_node-Block body line =
    ap (λ f. f line) (ap view_stmt_node (sym (stmt.rolls-Block body)) ∙ fold-roll-StmtNode (ℕ → s.Stmt) s.Stmt stmt_node_layer stmt_layer (StmtNode-F.Block body))
    ∙ (λ i. s.block line (s.stmts_of (map (λ x. stmt_whole x i) body)))

pub view_stmt_node-Locals : (vars : List Declared) (line : ℕ) → view_stmt_node (stmt.Locals vars) line ≡ s.locals line (map view_declared vars)
unfolding view_stmt_node
view_stmt_node-Locals vars line =
    ap (λ f. f line) (ap view_stmt_node (sym (stmt.rolls-Locals vars)) ∙ fold-roll-StmtNode (ℕ → s.Stmt) s.Stmt stmt_node_layer stmt_layer (StmtNode-F.Locals vars))

pub view_stmt_node-If : (test : Value) (a : Stmt) (b : Stmt) (line : ℕ) → view_stmt_node (stmt.If test a b) line ≡ s.if_else line (view_value test) (view_stmt a) (view_stmt b)
unfolding view_stmt_node
view_stmt_node-If test a b line =
    ap (λ f. f line) (ap view_stmt_node (sym (stmt.rolls-If test a b)) ∙ fold-roll-StmtNode (ℕ → s.Stmt) s.Stmt stmt_node_layer stmt_layer (StmtNode-F.If test a b))
    ∙ (λ i. s.if_else line (view_value test) (stmt_whole a i) (stmt_whole b i))

pub view_stmt_node-Loop : (annot : Bor LoopAnnot) (turns : Turns) (a : Stmt) (line : ℕ) → view_stmt_node (stmt.Loop annot turns a) line ≡ s.loop_of line (view_loop annot.now) (view_turns turns) (view_stmt a)
unfolding view_stmt_node
view_stmt_node-Loop annot turns a line =
    ap (λ f. f line) (ap view_stmt_node (sym (stmt.rolls-Loop annot turns a)) ∙ fold-roll-StmtNode (ℕ → s.Stmt) s.Stmt stmt_node_layer stmt_layer (StmtNode-F.Loop annot turns a))
    ∙ (λ i. s.loop_of line (view_loop annot.now) (view_turns turns) (stmt_whole a i))

pub view_stmt_node-Switch : (v : Value) (body : List Stmt) (line : ℕ) → view_stmt_node (stmt.Switch v body) line ≡ s.switch line (view_value v) (s.stmts_of (map view_stmt body))
unfolding view_stmt_node
view_stmt_node-Switch v body line =
    ap (λ f. f line) (ap view_stmt_node (sym (stmt.rolls-Switch v body)) ∙ fold-roll-StmtNode (ℕ → s.Stmt) s.Stmt stmt_node_layer stmt_layer (StmtNode-F.Switch v body))
    ∙ (λ i. s.switch line (view_value v) (s.stmts_of (map (λ x. stmt_whole x i) body)))

pub view_stmt_node-Case : (z : ℤ) (line : ℕ) → view_stmt_node (stmt.Case z) line ≡ s.case_of line z
unfolding view_stmt_node
view_stmt_node-Case z line =
    ap (λ f. f line) (ap view_stmt_node (sym (stmt.rolls-Case z)) ∙ fold-roll-StmtNode (ℕ → s.Stmt) s.Stmt stmt_node_layer stmt_layer (StmtNode-F.Case z))

pub view_stmt_node-Default : (line : ℕ) → view_stmt_node stmt.Default line ≡ s.default line
unfolding view_stmt_node
view_stmt_node-Default line =
    ap (λ f. f line) (ap view_stmt_node (sym stmt.rolls-Default) ∙ fold-roll-StmtNode (ℕ → s.Stmt) s.Stmt stmt_node_layer stmt_layer StmtNode-F.Default)

pub view_stmt_node-Break : (line : ℕ) → view_stmt_node stmt.Break line ≡ s.break line
unfolding view_stmt_node
view_stmt_node-Break line =
    ap (λ f. f line) (ap view_stmt_node (sym stmt.rolls-Break) ∙ fold-roll-StmtNode (ℕ → s.Stmt) s.Stmt stmt_node_layer stmt_layer StmtNode-F.Break)

pub view_stmt_node-Continue : (line : ℕ) → view_stmt_node stmt.Continue line ≡ s.continue line
unfolding view_stmt_node
view_stmt_node-Continue line =
    ap (λ f. f line) (ap view_stmt_node (sym stmt.rolls-Continue) ∙ fold-roll-StmtNode (ℕ → s.Stmt) s.Stmt stmt_node_layer stmt_layer StmtNode-F.Continue)

pub view_stmt_node-Return : (v : Option Value) (line : ℕ) → view_stmt_node (stmt.Return v) line ≡ s.return_of line (option_map view_value v)
unfolding view_stmt_node
view_stmt_node-Return v line =
    ap (λ f. f line) (ap view_stmt_node (sym (stmt.rolls-Return v)) ∙ fold-roll-StmtNode (ℕ → s.Stmt) s.Stmt stmt_node_layer stmt_layer (StmtNode-F.Return v))

pub view_stmt_node-Assert : (p : Bor Pred) (line : ℕ) → view_stmt_node (stmt.Assert p) line ≡ s.assert line (view_pred p.now)
unfolding view_stmt_node
view_stmt_node-Assert p line =
    ap (λ f. f line) (ap view_stmt_node (sym (stmt.rolls-Assert p)) ∙ fold-roll-StmtNode (ℕ → s.Stmt) s.Stmt stmt_node_layer stmt_layer (StmtNode-F.Assert p))

pub ruleset stmt_laws = (view_stmt_node-Empty, view_stmt_node-Expr, view_stmt_node-Block, view_stmt_node-Locals, view_stmt_node-If, view_stmt_node-Loop, view_stmt_node-Switch, view_stmt_node-Case, view_stmt_node-Default, view_stmt_node-Break, view_stmt_node-Continue, view_stmt_node-Return, view_stmt_node-Assert)

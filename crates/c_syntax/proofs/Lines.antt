-- What is in memory has the line of its plain tree.
use Rattle.std.proofs.Common.{◌≡◌, ℕ, ap, sym, ◌∙◌, refl}
use Rattle.c_syntax.specs.declared.expr.ExprNode.{ExprNode-F, out-ExprNode, roll-out-ExprNode, fold-roll-ExprNode}
use Rattle.c_syntax.specs.declared.expr.Expr.{Expr}
use Rattle.c_syntax.specs.declared.annot.TermNode.{TermNode-F, out-TermNode, roll-out-TermNode, fold-roll-TermNode}
use Rattle.c_syntax.specs.declared.annot.Term.{Term}
use Rattle.c_syntax.specs.Expr as e
use Rattle.c_syntax.specs.Term as t
use Rattle.c_syntax.specs.View.{ctype_layer, view_expr_node, expr_node_layer, view_expr, expr_layer, view_term_node, term_node_layer, view_term, term_layer}
use Rattle.c_syntax.specs.Lines.{line_of, term_line_of}

layer_line : (x : ExprNode-F e.CType (ℕ → e.Expr) e.Expr) (line : ℕ) → line_of (expr_node_layer x line) ≡ line
layer_line (ExprNode-F.Number token) line = refl
layer_line (ExprNode-F.Char value) line = refl
layer_line (ExprNode-F.Name x) line = refl
layer_line (ExprNode-F.Unary op a) line = refl
layer_line (ExprNode-F.Binary op a b) line = refl
layer_line (ExprNode-F.Cond test a b) line = refl
layer_line (ExprNode-F.Assign op a b) line = refl
layer_line (ExprNode-F.Step up prefix a) line = refl
layer_line (ExprNode-F.Call f args) line = refl
layer_line (ExprNode-F.Index a b) line = refl
layer_line (ExprNode-F.Field a f arrow) line = refl
layer_line (ExprNode-F.Cast type a) line = refl
layer_line (ExprNode-F.SizeOf type) line = refl

pub line_is : (x : Expr) → line_of (view_expr x) ≡ x.line
unfolding view_expr_node
line_is x =
    ap (λ node. line_of (view_expr_node node x.line)) (sym (roll-out-ExprNode x.node))
    ∙ ap (λ f. line_of (f x.line)) (fold-roll-ExprNode e.CType (ℕ → e.Expr) e.Expr ctype_layer expr_node_layer expr_layer (out-ExprNode x.node))
    ∙ layer_line _ x.line

term_layer_line : (x : TermNode-F (ℕ → t.Term) t.Term) (line : ℕ) → term_line_of (term_node_layer x line) ≡ line
term_layer_line (TermNode-F.Number token) line = refl
term_layer_line (TermNode-F.Char value) line = refl
term_layer_line (TermNode-F.Name x) line = refl
term_layer_line (TermNode-F.Unary op a) line = refl
term_layer_line (TermNode-F.Binary op a b) line = refl
term_layer_line (TermNode-F.Cond test a b) line = refl
term_layer_line (TermNode-F.Call f args) line = refl
term_layer_line (TermNode-F.Index a b) line = refl
term_layer_line (TermNode-F.Field a f arrow) line = refl
term_layer_line (TermNode-F.Cast type a) line = refl
term_layer_line TermNode-F.Result line = refl
term_layer_line (TermNode-F.Old a) line = refl
term_layer_line (TermNode-F.At a label) line = refl
term_layer_line TermNode-F.Null line = refl
term_layer_line (TermNode-F.Range a b) line = refl

pub term_line_is : (x : Term) → term_line_of (view_term x) ≡ x.line
unfolding view_term_node
term_line_is x =
    ap (λ node. term_line_of (view_term_node node x.line)) (sym (roll-out-TermNode x.node))
    ∙ ap (λ f. term_line_of (f x.line)) (fold-roll-TermNode (ℕ → t.Term) t.Term term_node_layer term_layer (out-TermNode x.node))
    ∙ term_layer_line _ x.line

-- The plain tree of a type, an expression, a term, a predicate or a statement, by its variant.
use Rattle.std.proofs.Common.{◌≡◌, ℕ, ℤ, Bool, List, Option, Some, None, map, ap, sym, ◌∙◌}
use Rattle.std.specs.Option.{option_map}
use Rattle.wp_base.specs.declared.kinds.Kind.{Kind}
use Rattle.c_syntax.specs.declared.token.Token.{Token}
use Rattle.c_syntax.specs.declared.expr.UnOp.{UnOp}
use Rattle.c_syntax.specs.declared.expr.BinOp.{BinOp}
use Rattle.c_syntax.specs.declared.expr.CType.{CType, CType-F, fold-roll-CType}
use Rattle.c_syntax.specs.declared.expr.CType.TheVariants as ctype
use Rattle.c_syntax.specs.declared.expr.ExprNode.{ExprNode-F, fold-roll-ExprNode}
use Rattle.c_syntax.specs.declared.expr.ExprNode.TheVariants as expr
use Rattle.c_syntax.specs.declared.expr.Expr.{Expr, fold-Expr, fold-roll-Expr, out-Expr, roll-out-Expr}
use Rattle.c_syntax.specs.declared.annot.TermNode.{TermNode-F, fold-roll-TermNode}
use Rattle.c_syntax.specs.declared.annot.TermNode.TheVariants as term
use Rattle.c_syntax.specs.declared.annot.Term.{Term, fold-Term, fold-roll-Term, out-Term, roll-out-Term}
use Rattle.c_syntax.specs.declared.annot.PredNode.{PredNode-F, fold-roll-PredNode}
use Rattle.c_syntax.specs.declared.annot.PredNode.TheVariants as pred
use Rattle.c_syntax.specs.declared.annot.Pred.{Pred, fold-Pred, fold-roll-Pred, out-Pred, roll-out-Pred}
use Rattle.c_syntax.specs.declared.annot.LoopAnnot.{LoopAnnot}
use Rattle.c_syntax.specs.declared.stmt.StmtNode.{StmtNode-F, fold-roll-StmtNode}
use Rattle.c_syntax.specs.declared.stmt.StmtNode.TheVariants as stmt
use Rattle.c_syntax.specs.declared.stmt.Stmt.{Stmt, fold-Stmt, fold-roll-Stmt, out-Stmt, roll-out-Stmt}
use Rattle.c_syntax.specs.declared.decl.VarDecl.{VarDecl}
use Rattle.c_syntax.specs.Expr as e
use Rattle.c_syntax.specs.Term as t
use Rattle.c_syntax.specs.Pred as p
use Rattle.c_syntax.specs.Stmt as s
use Rattle.c_syntax.specs.View.{view_ctype, ctype_layer, view_expr_node, expr_node_layer, view_expr, expr_layer, view_var, view_term_node, term_node_layer, view_term, term_layer, view_pred_node, pred_node_layer, view_pred, pred_layer, view_loop, view_stmt_node, stmt_node_layer, view_stmt, stmt_layer}

-- ---- types and expressions

abbrev fold_expr : Expr → e.Expr
fold_expr = fold-Expr e.CType (ℕ → e.Expr) e.Expr ctype_layer expr_node_layer expr_layer

expr_whole : (x : Expr) → fold_expr x ≡ view_expr x
unfolding view_expr_node
expr_whole x = ap fold_expr (sym (roll-out-Expr x)) ∙ fold-roll-Expr e.CType (ℕ → e.Expr) e.Expr ctype_layer expr_node_layer expr_layer (out-Expr x)

pub view_ctype-Void : view_ctype ctype.Void ≡ e.void
unfolding view_ctype view_expr_node
view_ctype-Void = ap view_ctype (sym ctype.rolls-Void) ∙ fold-roll-CType e.CType (ℕ → e.Expr) e.Expr ctype_layer expr_node_layer expr_layer CType-F.Void

pub view_ctype-Kind : (k : Kind) → view_ctype (ctype.Kind k) ≡ e.kind k
unfolding view_ctype view_expr_node
view_ctype-Kind k = ap view_ctype (sym (ctype.rolls-Kind k)) ∙ fold-roll-CType e.CType (ℕ → e.Expr) e.Expr ctype_layer expr_node_layer expr_layer (CType-F.Kind k)

pub view_ctype-Integer : view_ctype ctype.Integer ≡ e.integer
unfolding view_ctype view_expr_node
view_ctype-Integer = ap view_ctype (sym ctype.rolls-Integer) ∙ fold-roll-CType e.CType (ℕ → e.Expr) e.Expr ctype_layer expr_node_layer expr_layer CType-F.Integer

pub view_ctype-Struct : (x : List ℕ) → view_ctype (ctype.Struct x) ≡ e.struct_of x
unfolding view_ctype view_expr_node
view_ctype-Struct x = ap view_ctype (sym (ctype.rolls-Struct x)) ∙ fold-roll-CType e.CType (ℕ → e.Expr) e.Expr ctype_layer expr_node_layer expr_layer (CType-F.Struct x)

pub view_ctype-Enum : (x : List ℕ) → view_ctype (ctype.Enum x) ≡ e.enum_of x
unfolding view_ctype view_expr_node
view_ctype-Enum x = ap view_ctype (sym (ctype.rolls-Enum x)) ∙ fold-roll-CType e.CType (ℕ → e.Expr) e.Expr ctype_layer expr_node_layer expr_layer (CType-F.Enum x)

pub view_ctype-Named : (x : List ℕ) → view_ctype (ctype.Named x) ≡ e.named x
unfolding view_ctype view_expr_node
view_ctype-Named x = ap view_ctype (sym (ctype.rolls-Named x)) ∙ fold-roll-CType e.CType (ℕ → e.Expr) e.Expr ctype_layer expr_node_layer expr_layer (CType-F.Named x)

pub view_ctype-Pointer : (a : CType) → view_ctype (ctype.Pointer a) ≡ e.pointer (view_ctype a)
unfolding view_ctype view_expr_node
view_ctype-Pointer a = ap view_ctype (sym (ctype.rolls-Pointer a)) ∙ fold-roll-CType e.CType (ℕ → e.Expr) e.Expr ctype_layer expr_node_layer expr_layer (CType-F.Pointer a)

pub view_ctype-Array : (a : CType) (n : Expr) → view_ctype (ctype.Array a n) ≡ e.array (view_ctype a) (view_expr n)
unfolding view_ctype view_expr_node
view_ctype-Array a n = ap view_ctype (sym (ctype.rolls-Array a n)) ∙ fold-roll-CType e.CType (ℕ → e.Expr) e.Expr ctype_layer expr_node_layer expr_layer (CType-F.Array a n) ∙ (λ i. e.array (view_ctype a) (expr_whole n i))

pub view_ctype-Const : (a : CType) → view_ctype (ctype.Const a) ≡ e.constant (view_ctype a)
unfolding view_ctype view_expr_node
view_ctype-Const a = ap view_ctype (sym (ctype.rolls-Const a)) ∙ fold-roll-CType e.CType (ℕ → e.Expr) e.Expr ctype_layer expr_node_layer expr_layer (CType-F.Const a)

pub view_expr_node-Number : (token : Token) (line : ℕ) → view_expr_node (expr.Number token) line ≡ e.number line token
unfolding view_ctype view_expr_node
view_expr_node-Number token line = ap (λ f. f line) (ap view_expr_node (sym (expr.rolls-Number token)) ∙ fold-roll-ExprNode e.CType (ℕ → e.Expr) e.Expr ctype_layer expr_node_layer expr_layer (ExprNode-F.Number token))

pub view_expr_node-Char : (value : ℤ) (line : ℕ) → view_expr_node (expr.Char value) line ≡ e.char line value
unfolding view_ctype view_expr_node
view_expr_node-Char value line = ap (λ f. f line) (ap view_expr_node (sym (expr.rolls-Char value)) ∙ fold-roll-ExprNode e.CType (ℕ → e.Expr) e.Expr ctype_layer expr_node_layer expr_layer (ExprNode-F.Char value))

pub view_expr_node-Name : (x : List ℕ) (line : ℕ) → view_expr_node (expr.Name x) line ≡ e.name line x
unfolding view_ctype view_expr_node
view_expr_node-Name x line = ap (λ f. f line) (ap view_expr_node (sym (expr.rolls-Name x)) ∙ fold-roll-ExprNode e.CType (ℕ → e.Expr) e.Expr ctype_layer expr_node_layer expr_layer (ExprNode-F.Name x))

pub view_expr_node-Unary : (op : UnOp) (a : Expr) (line : ℕ) → view_expr_node (expr.Unary op a) line ≡ e.unary line op (view_expr a)
unfolding view_ctype view_expr_node
view_expr_node-Unary op a line = ap (λ f. f line) (ap view_expr_node (sym (expr.rolls-Unary op a)) ∙ fold-roll-ExprNode e.CType (ℕ → e.Expr) e.Expr ctype_layer expr_node_layer expr_layer (ExprNode-F.Unary op a)) ∙ (λ i. e.unary line op (expr_whole a i))

pub view_expr_node-Binary : (op : BinOp) (a : Expr) (b : Expr) (line : ℕ) → view_expr_node (expr.Binary op a b) line ≡ e.binary line op (view_expr a) (view_expr b)
unfolding view_ctype view_expr_node
view_expr_node-Binary op a b line = ap (λ f. f line) (ap view_expr_node (sym (expr.rolls-Binary op a b)) ∙ fold-roll-ExprNode e.CType (ℕ → e.Expr) e.Expr ctype_layer expr_node_layer expr_layer (ExprNode-F.Binary op a b)) ∙ (λ i. e.binary line op (expr_whole a i) (expr_whole b i))

pub view_expr_node-Cond : (test : Expr) (a : Expr) (b : Expr) (line : ℕ) → view_expr_node (expr.Cond test a b) line ≡ e.cond line (view_expr test) (view_expr a) (view_expr b)
unfolding view_ctype view_expr_node
view_expr_node-Cond test a b line = ap (λ f. f line) (ap view_expr_node (sym (expr.rolls-Cond test a b)) ∙ fold-roll-ExprNode e.CType (ℕ → e.Expr) e.Expr ctype_layer expr_node_layer expr_layer (ExprNode-F.Cond test a b)) ∙ (λ i. e.cond line (expr_whole test i) (expr_whole a i) (expr_whole b i))

pub view_expr_node-Assign : (op : Option BinOp) (a : Expr) (b : Expr) (line : ℕ) → view_expr_node (expr.Assign op a b) line ≡ e.assign line op (view_expr a) (view_expr b)
unfolding view_ctype view_expr_node
view_expr_node-Assign op a b line = ap (λ f. f line) (ap view_expr_node (sym (expr.rolls-Assign op a b)) ∙ fold-roll-ExprNode e.CType (ℕ → e.Expr) e.Expr ctype_layer expr_node_layer expr_layer (ExprNode-F.Assign op a b)) ∙ (λ i. e.assign line op (expr_whole a i) (expr_whole b i))

pub view_expr_node-Step : (up : Bool) (prefix : Bool) (a : Expr) (line : ℕ) → view_expr_node (expr.Step up prefix a) line ≡ e.step line up prefix (view_expr a)
unfolding view_ctype view_expr_node
view_expr_node-Step up prefix a line = ap (λ f. f line) (ap view_expr_node (sym (expr.rolls-Step up prefix a)) ∙ fold-roll-ExprNode e.CType (ℕ → e.Expr) e.Expr ctype_layer expr_node_layer expr_layer (ExprNode-F.Step up prefix a)) ∙ (λ i. e.step line up prefix (expr_whole a i))

pub view_expr_node-Call : (f : List ℕ) (args : List Expr) (line : ℕ) → view_expr_node (expr.Call f args) line ≡ e.call line f (e.exprs_of (map view_expr args))
unfolding view_ctype view_expr_node
view_expr_node-Call f args line = ap (λ f. f line) (ap view_expr_node (sym (expr.rolls-Call f args)) ∙ fold-roll-ExprNode e.CType (ℕ → e.Expr) e.Expr ctype_layer expr_node_layer expr_layer (ExprNode-F.Call f args)) ∙ (λ i. e.call line f (e.exprs_of (map (λ x. expr_whole x i) args)))

pub view_expr_node-Index : (a : Expr) (b : Expr) (line : ℕ) → view_expr_node (expr.Index a b) line ≡ e.index line (view_expr a) (view_expr b)
unfolding view_ctype view_expr_node
view_expr_node-Index a b line = ap (λ f. f line) (ap view_expr_node (sym (expr.rolls-Index a b)) ∙ fold-roll-ExprNode e.CType (ℕ → e.Expr) e.Expr ctype_layer expr_node_layer expr_layer (ExprNode-F.Index a b)) ∙ (λ i. e.index line (expr_whole a i) (expr_whole b i))

pub view_expr_node-Field : (a : Expr) (f : List ℕ) (arrow : Bool) (line : ℕ) → view_expr_node (expr.Field a f arrow) line ≡ e.field line (view_expr a) f arrow
unfolding view_ctype view_expr_node
view_expr_node-Field a f arrow line = ap (λ f. f line) (ap view_expr_node (sym (expr.rolls-Field a f arrow)) ∙ fold-roll-ExprNode e.CType (ℕ → e.Expr) e.Expr ctype_layer expr_node_layer expr_layer (ExprNode-F.Field a f arrow)) ∙ (λ i. e.field line (expr_whole a i) f arrow)

pub view_expr_node-Cast : (type : CType) (a : Expr) (line : ℕ) → view_expr_node (expr.Cast type a) line ≡ e.cast line (view_ctype type) (view_expr a)
unfolding view_ctype view_expr_node
view_expr_node-Cast type a line = ap (λ f. f line) (ap view_expr_node (sym (expr.rolls-Cast type a)) ∙ fold-roll-ExprNode e.CType (ℕ → e.Expr) e.Expr ctype_layer expr_node_layer expr_layer (ExprNode-F.Cast type a)) ∙ (λ i. e.cast line (view_ctype type) (expr_whole a i))

pub view_expr_node-SizeOf : (type : CType) (line : ℕ) → view_expr_node (expr.SizeOf type) line ≡ e.sizeof line (view_ctype type)
unfolding view_ctype view_expr_node
view_expr_node-SizeOf type line = ap (λ f. f line) (ap view_expr_node (sym (expr.rolls-SizeOf type)) ∙ fold-roll-ExprNode e.CType (ℕ → e.Expr) e.Expr ctype_layer expr_node_layer expr_layer (ExprNode-F.SizeOf type))

-- ---- terms

abbrev fold_term : Term → t.Term
fold_term = fold-Term (ℕ → t.Term) t.Term term_node_layer term_layer

term_whole : (x : Term) → fold_term x ≡ view_term x
unfolding view_term_node
term_whole x = ap fold_term (sym (roll-out-Term x)) ∙ fold-roll-Term (ℕ → t.Term) t.Term term_node_layer term_layer (out-Term x)

pub view_term_node-Number : (token : Token) (line : ℕ) → view_term_node (term.Number token) line ≡ t.number line token
unfolding view_term_node
view_term_node-Number token line = ap (λ f. f line) (ap view_term_node (sym (term.rolls-Number token)) ∙ fold-roll-TermNode (ℕ → t.Term) t.Term term_node_layer term_layer (TermNode-F.Number token))

pub view_term_node-Char : (value : ℤ) (line : ℕ) → view_term_node (term.Char value) line ≡ t.char line value
unfolding view_term_node
view_term_node-Char value line = ap (λ f. f line) (ap view_term_node (sym (term.rolls-Char value)) ∙ fold-roll-TermNode (ℕ → t.Term) t.Term term_node_layer term_layer (TermNode-F.Char value))

pub view_term_node-Name : (x : List ℕ) (line : ℕ) → view_term_node (term.Name x) line ≡ t.name line x
unfolding view_term_node
view_term_node-Name x line = ap (λ f. f line) (ap view_term_node (sym (term.rolls-Name x)) ∙ fold-roll-TermNode (ℕ → t.Term) t.Term term_node_layer term_layer (TermNode-F.Name x))

pub view_term_node-Unary : (op : UnOp) (a : Term) (line : ℕ) → view_term_node (term.Unary op a) line ≡ t.unary line op (view_term a)
unfolding view_term_node
view_term_node-Unary op a line = ap (λ f. f line) (ap view_term_node (sym (term.rolls-Unary op a)) ∙ fold-roll-TermNode (ℕ → t.Term) t.Term term_node_layer term_layer (TermNode-F.Unary op a)) ∙ (λ i. t.unary line op (term_whole a i))

pub view_term_node-Binary : (op : BinOp) (a : Term) (b : Term) (line : ℕ) → view_term_node (term.Binary op a b) line ≡ t.binary line op (view_term a) (view_term b)
unfolding view_term_node
view_term_node-Binary op a b line = ap (λ f. f line) (ap view_term_node (sym (term.rolls-Binary op a b)) ∙ fold-roll-TermNode (ℕ → t.Term) t.Term term_node_layer term_layer (TermNode-F.Binary op a b)) ∙ (λ i. t.binary line op (term_whole a i) (term_whole b i))

pub view_term_node-Cond : (test : Term) (a : Term) (b : Term) (line : ℕ) → view_term_node (term.Cond test a b) line ≡ t.cond line (view_term test) (view_term a) (view_term b)
unfolding view_term_node
view_term_node-Cond test a b line = ap (λ f. f line) (ap view_term_node (sym (term.rolls-Cond test a b)) ∙ fold-roll-TermNode (ℕ → t.Term) t.Term term_node_layer term_layer (TermNode-F.Cond test a b)) ∙ (λ i. t.cond line (term_whole test i) (term_whole a i) (term_whole b i))

pub view_term_node-Call : (f : List ℕ) (args : List Term) (line : ℕ) → view_term_node (term.Call f args) line ≡ t.call line f (t.terms_of (map view_term args))
unfolding view_term_node
view_term_node-Call f args line = ap (λ f. f line) (ap view_term_node (sym (term.rolls-Call f args)) ∙ fold-roll-TermNode (ℕ → t.Term) t.Term term_node_layer term_layer (TermNode-F.Call f args)) ∙ (λ i. t.call line f (t.terms_of (map (λ x. term_whole x i) args)))

pub view_term_node-Index : (a : Term) (b : Term) (line : ℕ) → view_term_node (term.Index a b) line ≡ t.index line (view_term a) (view_term b)
unfolding view_term_node
view_term_node-Index a b line = ap (λ f. f line) (ap view_term_node (sym (term.rolls-Index a b)) ∙ fold-roll-TermNode (ℕ → t.Term) t.Term term_node_layer term_layer (TermNode-F.Index a b)) ∙ (λ i. t.index line (term_whole a i) (term_whole b i))

pub view_term_node-Field : (a : Term) (f : List ℕ) (arrow : Bool) (line : ℕ) → view_term_node (term.Field a f arrow) line ≡ t.field line (view_term a) f arrow
unfolding view_term_node
view_term_node-Field a f arrow line = ap (λ f. f line) (ap view_term_node (sym (term.rolls-Field a f arrow)) ∙ fold-roll-TermNode (ℕ → t.Term) t.Term term_node_layer term_layer (TermNode-F.Field a f arrow)) ∙ (λ i. t.field line (term_whole a i) f arrow)

pub view_term_node-Cast : (type : CType) (a : Term) (line : ℕ) → view_term_node (term.Cast type a) line ≡ t.cast line (view_ctype type) (view_term a)
unfolding view_term_node
view_term_node-Cast type a line = ap (λ f. f line) (ap view_term_node (sym (term.rolls-Cast type a)) ∙ fold-roll-TermNode (ℕ → t.Term) t.Term term_node_layer term_layer (TermNode-F.Cast type a)) ∙ (λ i. t.cast line (view_ctype type) (term_whole a i))

pub view_term_node-Result : (line : ℕ) → view_term_node term.Result line ≡ t.result line
unfolding view_term_node
view_term_node-Result line = ap (λ f. f line) (ap view_term_node (sym term.rolls-Result) ∙ fold-roll-TermNode (ℕ → t.Term) t.Term term_node_layer term_layer TermNode-F.Result)

pub view_term_node-Old : (a : Term) (line : ℕ) → view_term_node (term.Old a) line ≡ t.old line (view_term a)
unfolding view_term_node
view_term_node-Old a line = ap (λ f. f line) (ap view_term_node (sym (term.rolls-Old a)) ∙ fold-roll-TermNode (ℕ → t.Term) t.Term term_node_layer term_layer (TermNode-F.Old a)) ∙ (λ i. t.old line (term_whole a i))

pub view_term_node-At : (a : Term) (label : List ℕ) (line : ℕ) → view_term_node (term.At a label) line ≡ t.at_label line (view_term a) label
unfolding view_term_node
view_term_node-At a label line = ap (λ f. f line) (ap view_term_node (sym (term.rolls-At a label)) ∙ fold-roll-TermNode (ℕ → t.Term) t.Term term_node_layer term_layer (TermNode-F.At a label)) ∙ (λ i. t.at_label line (term_whole a i) label)

pub view_term_node-Null : (line : ℕ) → view_term_node term.Null line ≡ t.null line
unfolding view_term_node
view_term_node-Null line = ap (λ f. f line) (ap view_term_node (sym term.rolls-Null) ∙ fold-roll-TermNode (ℕ → t.Term) t.Term term_node_layer term_layer TermNode-F.Null)

pub view_term_node-Range : (a : Term) (b : Term) (line : ℕ) → view_term_node (term.Range a b) line ≡ t.range line (view_term a) (view_term b)
unfolding view_term_node
view_term_node-Range a b line = ap (λ f. f line) (ap view_term_node (sym (term.rolls-Range a b)) ∙ fold-roll-TermNode (ℕ → t.Term) t.Term term_node_layer term_layer (TermNode-F.Range a b)) ∙ (λ i. t.range line (term_whole a i) (term_whole b i))

-- ---- predicates

abbrev fold_pred : Pred → p.Pred
fold_pred = fold-Pred (ℕ → p.Pred) p.Pred pred_node_layer pred_layer

pred_whole : (x : Pred) → fold_pred x ≡ view_pred x
unfolding view_pred_node
pred_whole x = ap fold_pred (sym (roll-out-Pred x)) ∙ fold-roll-Pred (ℕ → p.Pred) p.Pred pred_node_layer pred_layer (out-Pred x)

pub view_pred_node-True : (line : ℕ) → view_pred_node pred.True line ≡ p.always line
unfolding view_pred_node
view_pred_node-True line = ap (λ f. f line) (ap view_pred_node (sym pred.rolls-True) ∙ fold-roll-PredNode (ℕ → p.Pred) p.Pred pred_node_layer pred_layer PredNode-F.True)

pub view_pred_node-False : (line : ℕ) → view_pred_node pred.False line ≡ p.never line
unfolding view_pred_node
view_pred_node-False line = ap (λ f. f line) (ap view_pred_node (sym pred.rolls-False) ∙ fold-roll-PredNode (ℕ → p.Pred) p.Pred pred_node_layer pred_layer PredNode-F.False)

pub view_pred_node-Not : (a : Pred) (line : ℕ) → view_pred_node (pred.Not a) line ≡ p.not_of line (view_pred a)
unfolding view_pred_node
view_pred_node-Not a line = ap (λ f. f line) (ap view_pred_node (sym (pred.rolls-Not a)) ∙ fold-roll-PredNode (ℕ → p.Pred) p.Pred pred_node_layer pred_layer (PredNode-F.Not a)) ∙ (λ i. p.not_of line (pred_whole a i))

pub view_pred_node-And : (a : Pred) (b : Pred) (line : ℕ) → view_pred_node (pred.And a b) line ≡ p.and_of line (view_pred a) (view_pred b)
unfolding view_pred_node
view_pred_node-And a b line = ap (λ f. f line) (ap view_pred_node (sym (pred.rolls-And a b)) ∙ fold-roll-PredNode (ℕ → p.Pred) p.Pred pred_node_layer pred_layer (PredNode-F.And a b)) ∙ (λ i. p.and_of line (pred_whole a i) (pred_whole b i))

pub view_pred_node-Xor : (a : Pred) (b : Pred) (line : ℕ) → view_pred_node (pred.Xor a b) line ≡ p.xor_of line (view_pred a) (view_pred b)
unfolding view_pred_node
view_pred_node-Xor a b line = ap (λ f. f line) (ap view_pred_node (sym (pred.rolls-Xor a b)) ∙ fold-roll-PredNode (ℕ → p.Pred) p.Pred pred_node_layer pred_layer (PredNode-F.Xor a b)) ∙ (λ i. p.xor_of line (pred_whole a i) (pred_whole b i))

pub view_pred_node-Or : (a : Pred) (b : Pred) (line : ℕ) → view_pred_node (pred.Or a b) line ≡ p.or_of line (view_pred a) (view_pred b)
unfolding view_pred_node
view_pred_node-Or a b line = ap (λ f. f line) (ap view_pred_node (sym (pred.rolls-Or a b)) ∙ fold-roll-PredNode (ℕ → p.Pred) p.Pred pred_node_layer pred_layer (PredNode-F.Or a b)) ∙ (λ i. p.or_of line (pred_whole a i) (pred_whole b i))

pub view_pred_node-Implies : (a : Pred) (b : Pred) (line : ℕ) → view_pred_node (pred.Implies a b) line ≡ p.implies line (view_pred a) (view_pred b)
unfolding view_pred_node
view_pred_node-Implies a b line = ap (λ f. f line) (ap view_pred_node (sym (pred.rolls-Implies a b)) ∙ fold-roll-PredNode (ℕ → p.Pred) p.Pred pred_node_layer pred_layer (PredNode-F.Implies a b)) ∙ (λ i. p.implies line (pred_whole a i) (pred_whole b i))

pub view_pred_node-Iff : (a : Pred) (b : Pred) (line : ℕ) → view_pred_node (pred.Iff a b) line ≡ p.iff line (view_pred a) (view_pred b)
unfolding view_pred_node
view_pred_node-Iff a b line = ap (λ f. f line) (ap view_pred_node (sym (pred.rolls-Iff a b)) ∙ fold-roll-PredNode (ℕ → p.Pred) p.Pred pred_node_layer pred_layer (PredNode-F.Iff a b)) ∙ (λ i. p.iff line (pred_whole a i) (pred_whole b i))

pub view_pred_node-Cond : (test : Pred) (a : Pred) (b : Pred) (line : ℕ) → view_pred_node (pred.Cond test a b) line ≡ p.cond line (view_pred test) (view_pred a) (view_pred b)
unfolding view_pred_node
view_pred_node-Cond test a b line = ap (λ f. f line) (ap view_pred_node (sym (pred.rolls-Cond test a b)) ∙ fold-roll-PredNode (ℕ → p.Pred) p.Pred pred_node_layer pred_layer (PredNode-F.Cond test a b)) ∙ (λ i. p.cond line (pred_whole test i) (pred_whole a i) (pred_whole b i))

pub view_pred_node-Let : (x : List ℕ) (value : Term) (a : Pred) (line : ℕ) → view_pred_node (pred.Let x value a) line ≡ p.let_in line x (view_term value) (view_pred a)
unfolding view_pred_node
view_pred_node-Let x value a line = ap (λ f. f line) (ap view_pred_node (sym (pred.rolls-Let x value a)) ∙ fold-roll-PredNode (ℕ → p.Pred) p.Pred pred_node_layer pred_layer (PredNode-F.Let x value a)) ∙ (λ i. p.let_in line x (view_term value) (pred_whole a i))

pub view_pred_node-Chain : (terms : List Term) (ops : List BinOp) (line : ℕ) → view_pred_node (pred.Chain terms ops) line ≡ p.chain line (map view_term terms) ops
unfolding view_pred_node
view_pred_node-Chain terms ops line = ap (λ f. f line) (ap view_pred_node (sym (pred.rolls-Chain terms ops)) ∙ fold-roll-PredNode (ℕ → p.Pred) p.Pred pred_node_layer pred_layer (PredNode-F.Chain terms ops))

pub view_pred_node-Forall : (binders : List VarDecl) (a : Pred) (line : ℕ) → view_pred_node (pred.Forall binders a) line ≡ p.for_all line (map view_var binders) (view_pred a)
unfolding view_pred_node
view_pred_node-Forall binders a line = ap (λ f. f line) (ap view_pred_node (sym (pred.rolls-Forall binders a)) ∙ fold-roll-PredNode (ℕ → p.Pred) p.Pred pred_node_layer pred_layer (PredNode-F.Forall binders a)) ∙ (λ i. p.for_all line (map view_var binders) (pred_whole a i))

pub view_pred_node-Exists : (binders : List VarDecl) (a : Pred) (line : ℕ) → view_pred_node (pred.Exists binders a) line ≡ p.for_some line (map view_var binders) (view_pred a)
unfolding view_pred_node
view_pred_node-Exists binders a line = ap (λ f. f line) (ap view_pred_node (sym (pred.rolls-Exists binders a)) ∙ fold-roll-PredNode (ℕ → p.Pred) p.Pred pred_node_layer pred_layer (PredNode-F.Exists binders a)) ∙ (λ i. p.for_some line (map view_var binders) (pred_whole a i))

pub view_pred_node-Valid : (pointer : Term) (line : ℕ) → view_pred_node (pred.Valid pointer) line ≡ p.valid line (view_term pointer)
unfolding view_pred_node
view_pred_node-Valid pointer line = ap (λ f. f line) (ap view_pred_node (sym (pred.rolls-Valid pointer)) ∙ fold-roll-PredNode (ℕ → p.Pred) p.Pred pred_node_layer pred_layer (PredNode-F.Valid pointer))

pub view_pred_node-ValidRead : (pointer : Term) (line : ℕ) → view_pred_node (pred.ValidRead pointer) line ≡ p.valid_read line (view_term pointer)
unfolding view_pred_node
view_pred_node-ValidRead pointer line = ap (λ f. f line) (ap view_pred_node (sym (pred.rolls-ValidRead pointer)) ∙ fold-roll-PredNode (ℕ → p.Pred) p.Pred pred_node_layer pred_layer (PredNode-F.ValidRead pointer))

pub view_pred_node-Separated : (pointers : List Term) (line : ℕ) → view_pred_node (pred.Separated pointers) line ≡ p.separated line (map view_term pointers)
unfolding view_pred_node
view_pred_node-Separated pointers line = ap (λ f. f line) (ap view_pred_node (sym (pred.rolls-Separated pointers)) ∙ fold-roll-PredNode (ℕ → p.Pred) p.Pred pred_node_layer pred_layer (PredNode-F.Separated pointers))

pub view_pred_node-Old : (a : Pred) (line : ℕ) → view_pred_node (pred.Old a) line ≡ p.old line (view_pred a)
unfolding view_pred_node
view_pred_node-Old a line = ap (λ f. f line) (ap view_pred_node (sym (pred.rolls-Old a)) ∙ fold-roll-PredNode (ℕ → p.Pred) p.Pred pred_node_layer pred_layer (PredNode-F.Old a)) ∙ (λ i. p.old line (pred_whole a i))

pub view_pred_node-Call : (f : List ℕ) (args : List Term) (line : ℕ) → view_pred_node (pred.Call f args) line ≡ p.call line f (map view_term args)
unfolding view_pred_node
view_pred_node-Call f args line = ap (λ f. f line) (ap view_pred_node (sym (pred.rolls-Call f args)) ∙ fold-roll-PredNode (ℕ → p.Pred) p.Pred pred_node_layer pred_layer (PredNode-F.Call f args))

-- ---- statements

abbrev fold_stmt : Stmt → s.Stmt
fold_stmt = fold-Stmt (ℕ → s.Stmt) s.Stmt stmt_node_layer stmt_layer

stmt_whole : (x : Stmt) → fold_stmt x ≡ view_stmt x
unfolding view_stmt_node
stmt_whole x = ap fold_stmt (sym (roll-out-Stmt x)) ∙ fold-roll-Stmt (ℕ → s.Stmt) s.Stmt stmt_node_layer stmt_layer (out-Stmt x)

pub view_stmt_node-Empty : (line : ℕ) → view_stmt_node stmt.Empty line ≡ s.empty line
unfolding view_stmt_node
view_stmt_node-Empty line = ap (λ f. f line) (ap view_stmt_node (sym stmt.rolls-Empty) ∙ fold-roll-StmtNode (ℕ → s.Stmt) s.Stmt stmt_node_layer stmt_layer StmtNode-F.Empty)

pub view_stmt_node-Expr : (a : Expr) (line : ℕ) → view_stmt_node (stmt.Expr a) line ≡ s.expr line (view_expr a)
unfolding view_stmt_node
view_stmt_node-Expr a line = ap (λ f. f line) (ap view_stmt_node (sym (stmt.rolls-Expr a)) ∙ fold-roll-StmtNode (ℕ → s.Stmt) s.Stmt stmt_node_layer stmt_layer (StmtNode-F.Expr a))

pub view_stmt_node-Block : (body : List Stmt) (line : ℕ) → view_stmt_node (stmt.Block body) line ≡ s.block line (s.stmts_of (map view_stmt body))
unfolding view_stmt_node
view_stmt_node-Block body line = ap (λ f. f line) (ap view_stmt_node (sym (stmt.rolls-Block body)) ∙ fold-roll-StmtNode (ℕ → s.Stmt) s.Stmt stmt_node_layer stmt_layer (StmtNode-F.Block body)) ∙ (λ i. s.block line (s.stmts_of (map (λ x. stmt_whole x i) body)))

pub view_stmt_node-Locals : (vars : List VarDecl) (line : ℕ) → view_stmt_node (stmt.Locals vars) line ≡ s.locals line (map view_var vars)
unfolding view_stmt_node
view_stmt_node-Locals vars line = ap (λ f. f line) (ap view_stmt_node (sym (stmt.rolls-Locals vars)) ∙ fold-roll-StmtNode (ℕ → s.Stmt) s.Stmt stmt_node_layer stmt_layer (StmtNode-F.Locals vars))

pub view_stmt_node-If : (test : Expr) (a : Stmt) (other : Option Stmt) (line : ℕ) → view_stmt_node (stmt.If test a other) line ≡ s.if_of line (view_expr test) (view_stmt a) (option_map view_stmt other)
unfolding view_stmt_node
view_stmt_node-If test a None line =
    ap (λ f. f line) (ap view_stmt_node (sym (stmt.rolls-If test a None)) ∙ fold-roll-StmtNode (ℕ → s.Stmt) s.Stmt stmt_node_layer stmt_layer (StmtNode-F.If test a None))
    ∙ (λ i. s.if_only line (view_expr test) (stmt_whole a i))
view_stmt_node-If test a (Some b) line =
    ap (λ f. f line) (ap view_stmt_node (sym (stmt.rolls-If test a (Some b))) ∙ fold-roll-StmtNode (ℕ → s.Stmt) s.Stmt stmt_node_layer stmt_layer (StmtNode-F.If test a (Some b)))
    ∙ (λ i. s.if_else line (view_expr test) (stmt_whole a i) (stmt_whole b i))

pub view_stmt_node-While : (annot : LoopAnnot) (test : Expr) (a : Stmt) (line : ℕ) → view_stmt_node (stmt.While annot test a) line ≡ s.while_of line (view_loop annot) (view_expr test) (view_stmt a)
unfolding view_stmt_node
view_stmt_node-While annot test a line = ap (λ f. f line) (ap view_stmt_node (sym (stmt.rolls-While annot test a)) ∙ fold-roll-StmtNode (ℕ → s.Stmt) s.Stmt stmt_node_layer stmt_layer (StmtNode-F.While annot test a)) ∙ (λ i. s.while_of line (view_loop annot) (view_expr test) (stmt_whole a i))

pub view_stmt_node-Do : (annot : LoopAnnot) (a : Stmt) (test : Expr) (line : ℕ) → view_stmt_node (stmt.Do annot a test) line ≡ s.do_of line (view_loop annot) (view_stmt a) (view_expr test)
unfolding view_stmt_node
view_stmt_node-Do annot a test line = ap (λ f. f line) (ap view_stmt_node (sym (stmt.rolls-Do annot a test)) ∙ fold-roll-StmtNode (ℕ → s.Stmt) s.Stmt stmt_node_layer stmt_layer (StmtNode-F.Do annot a test)) ∙ (λ i. s.do_of line (view_loop annot) (stmt_whole a i) (view_expr test))

pub view_stmt_node-For : (annot : LoopAnnot) (first : Stmt) (test : Option Expr) (next : Option Expr) (a : Stmt) (line : ℕ) → view_stmt_node (stmt.For annot first test next a) line ≡ s.for_of line (view_loop annot) (view_stmt first) (option_map view_expr test) (option_map view_expr next) (view_stmt a)
unfolding view_stmt_node
view_stmt_node-For annot first test next a line = ap (λ f. f line) (ap view_stmt_node (sym (stmt.rolls-For annot first test next a)) ∙ fold-roll-StmtNode (ℕ → s.Stmt) s.Stmt stmt_node_layer stmt_layer (StmtNode-F.For annot first test next a)) ∙ (λ i. s.for_of line (view_loop annot) (stmt_whole first i) (option_map view_expr test) (option_map view_expr next) (stmt_whole a i))

pub view_stmt_node-Switch : (a : Expr) (body : List Stmt) (line : ℕ) → view_stmt_node (stmt.Switch a body) line ≡ s.switch line (view_expr a) (s.stmts_of (map view_stmt body))
unfolding view_stmt_node
view_stmt_node-Switch a body line = ap (λ f. f line) (ap view_stmt_node (sym (stmt.rolls-Switch a body)) ∙ fold-roll-StmtNode (ℕ → s.Stmt) s.Stmt stmt_node_layer stmt_layer (StmtNode-F.Switch a body)) ∙ (λ i. s.switch line (view_expr a) (s.stmts_of (map (λ x. stmt_whole x i) body)))

pub view_stmt_node-Case : (a : Expr) (line : ℕ) → view_stmt_node (stmt.Case a) line ≡ s.case_of line (view_expr a)
unfolding view_stmt_node
view_stmt_node-Case a line = ap (λ f. f line) (ap view_stmt_node (sym (stmt.rolls-Case a)) ∙ fold-roll-StmtNode (ℕ → s.Stmt) s.Stmt stmt_node_layer stmt_layer (StmtNode-F.Case a))

pub view_stmt_node-Default : (line : ℕ) → view_stmt_node stmt.Default line ≡ s.default line
unfolding view_stmt_node
view_stmt_node-Default line = ap (λ f. f line) (ap view_stmt_node (sym stmt.rolls-Default) ∙ fold-roll-StmtNode (ℕ → s.Stmt) s.Stmt stmt_node_layer stmt_layer StmtNode-F.Default)

pub view_stmt_node-Break : (line : ℕ) → view_stmt_node stmt.Break line ≡ s.break line
unfolding view_stmt_node
view_stmt_node-Break line = ap (λ f. f line) (ap view_stmt_node (sym stmt.rolls-Break) ∙ fold-roll-StmtNode (ℕ → s.Stmt) s.Stmt stmt_node_layer stmt_layer StmtNode-F.Break)

pub view_stmt_node-Continue : (line : ℕ) → view_stmt_node stmt.Continue line ≡ s.continue line
unfolding view_stmt_node
view_stmt_node-Continue line = ap (λ f. f line) (ap view_stmt_node (sym stmt.rolls-Continue) ∙ fold-roll-StmtNode (ℕ → s.Stmt) s.Stmt stmt_node_layer stmt_layer StmtNode-F.Continue)

pub view_stmt_node-Return : (value : Option Expr) (line : ℕ) → view_stmt_node (stmt.Return value) line ≡ s.return_of line (option_map view_expr value)
unfolding view_stmt_node
view_stmt_node-Return value line = ap (λ f. f line) (ap view_stmt_node (sym (stmt.rolls-Return value)) ∙ fold-roll-StmtNode (ℕ → s.Stmt) s.Stmt stmt_node_layer stmt_layer (StmtNode-F.Return value))

pub view_stmt_node-Assert : (a : Pred) (line : ℕ) → view_stmt_node (stmt.Assert a) line ≡ s.assert line (view_pred a)
unfolding view_stmt_node
view_stmt_node-Assert a line = ap (λ f. f line) (ap view_stmt_node (sym (stmt.rolls-Assert a)) ∙ fold-roll-StmtNode (ℕ → s.Stmt) s.Stmt stmt_node_layer stmt_layer (StmtNode-F.Assert a))

-- to be named on a function whose clauses speak of plain trees
pub ruleset expr_laws = (view_ctype-Void, view_ctype-Kind, view_ctype-Integer, view_ctype-Struct, view_ctype-Enum, view_ctype-Named, view_ctype-Pointer, view_ctype-Array, view_ctype-Const, view_expr_node-Number, view_expr_node-Char, view_expr_node-Name, view_expr_node-Unary, view_expr_node-Binary, view_expr_node-Cond, view_expr_node-Assign, view_expr_node-Step, view_expr_node-Call, view_expr_node-Index, view_expr_node-Field, view_expr_node-Cast, view_expr_node-SizeOf)

pub ruleset term_laws = (view_term_node-Number, view_term_node-Char, view_term_node-Name, view_term_node-Unary, view_term_node-Binary, view_term_node-Cond, view_term_node-Call, view_term_node-Index, view_term_node-Field, view_term_node-Cast, view_term_node-Result, view_term_node-Old, view_term_node-At, view_term_node-Null, view_term_node-Range)

pub ruleset pred_laws = (view_pred_node-True, view_pred_node-False, view_pred_node-Not, view_pred_node-And, view_pred_node-Xor, view_pred_node-Or, view_pred_node-Implies, view_pred_node-Iff, view_pred_node-Cond, view_pred_node-Let, view_pred_node-Chain, view_pred_node-Forall, view_pred_node-Exists, view_pred_node-Valid, view_pred_node-ValidRead, view_pred_node-Separated, view_pred_node-Old, view_pred_node-Call)

pub ruleset stmt_laws = (view_stmt_node-Empty, view_stmt_node-Expr, view_stmt_node-Block, view_stmt_node-Locals, view_stmt_node-If, view_stmt_node-While, view_stmt_node-Do, view_stmt_node-For, view_stmt_node-Switch, view_stmt_node-Case, view_stmt_node-Default, view_stmt_node-Break, view_stmt_node-Continue, view_stmt_node-Return, view_stmt_node-Assert)

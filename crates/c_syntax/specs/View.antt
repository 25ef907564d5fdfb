-- The plain trees of the trees in memory.
use Rattle.std.specs.Prelude.{ℕ, map}
use Rattle.std.specs.Option.{option_map}
use Rattle.c_syntax.specs.declared.expr.CType.{CType, CType-F, fold-CType}
use Rattle.c_syntax.specs.declared.expr.ExprNode.{ExprNode, ExprNode-F, fold-ExprNode}
use Rattle.c_syntax.specs.declared.expr.Expr.{Expr, Expr-F}
use Rattle.c_syntax.specs.declared.annot.TermNode.{TermNode, TermNode-F, fold-TermNode}
use Rattle.c_syntax.specs.declared.annot.Term.{Term, Term-F}
use Rattle.c_syntax.specs.declared.annot.PredNode.{PredNode, PredNode-F, fold-PredNode}
use Rattle.c_syntax.specs.declared.annot.Pred.{Pred, Pred-F}
use Rattle.c_syntax.specs.declared.annot.Clause.{Clause}
use Rattle.c_syntax.specs.declared.annot.Measure.{Measure}
use Rattle.c_syntax.specs.declared.annot.AssignsClause.{AssignsClause}
use Rattle.c_syntax.specs.declared.annot.Behavior.{Behavior}
use Rattle.c_syntax.specs.declared.annot.Contract.{Contract}
use Rattle.c_syntax.specs.declared.annot.LoopAnnot.{LoopAnnot}
use Rattle.c_syntax.specs.declared.stmt.StmtNode.{StmtNode, StmtNode-F, fold-StmtNode}
use Rattle.c_syntax.specs.declared.stmt.Stmt.{Stmt, Stmt-F}
use Rattle.c_syntax.specs.declared.decl.VarDecl.{VarDecl}
use Rattle.c_syntax.specs.declared.decl.StructDecl.{StructDecl}
use Rattle.c_syntax.specs.declared.decl.EnumDecl.{EnumDecl}
use Rattle.c_syntax.specs.declared.decl.Function.{Function}
use Rattle.c_syntax.specs.declared.decl.LogicBody.{LogicBody}
use Rattle.c_syntax.specs.declared.decl.LogicBody.TheVariants as body
use Rattle.c_syntax.specs.declared.decl.LogicDecl.{LogicDecl}
use Rattle.c_syntax.specs.declared.decl.Decl.{Decl}
use Rattle.c_syntax.specs.declared.decl.Decl.TheVariants as decl
use Rattle.c_syntax.specs.declared.decl.Program.{Program}
use Rattle.c_syntax.specs.Expr as e
use Rattle.c_syntax.specs.Term as t
use Rattle.c_syntax.specs.Pred as p
use Rattle.c_syntax.specs.Contract as c
use Rattle.c_syntax.specs.Stmt as s
use Rattle.c_syntax.specs.Decl as d

-- ---- types and expressions

abbrev pub ctype_layer : CType-F e.CType (ℕ → e.Expr) e.Expr → e.CType
ctype_layer CType-F.Void = e.void
ctype_layer (CType-F.Kind k) = e.kind k
ctype_layer CType-F.Integer = e.integer
ctype_layer (CType-F.Struct x) = e.struct_of x
ctype_layer (CType-F.Enum x) = e.enum_of x
ctype_layer (CType-F.Named x) = e.named x
ctype_layer (CType-F.Pointer to) = e.pointer to
ctype_layer (CType-F.Array of length) = e.array of length
ctype_layer (CType-F.Const of) = e.constant of

abbrev pub expr_node_layer : ExprNode-F e.CType (ℕ → e.Expr) e.Expr → ℕ → e.Expr
expr_node_layer (ExprNode-F.Number token) line = e.number line token
expr_node_layer (ExprNode-F.Char value) line = e.char line value
expr_node_layer (ExprNode-F.Name x) line = e.name line x
expr_node_layer (ExprNode-F.Unary op a) line = e.unary line op a
expr_node_layer (ExprNode-F.Binary op a b) line = e.binary line op a b
expr_node_layer (ExprNode-F.Cond test a b) line = e.cond line test a b
expr_node_layer (ExprNode-F.Assign op a b) line = e.assign line op a b
expr_node_layer (ExprNode-F.Step up prefix a) line = e.step line up prefix a
expr_node_layer (ExprNode-F.Call f args) line = e.call line f (e.exprs_of args)
expr_node_layer (ExprNode-F.Index a b) line = e.index line a b
expr_node_layer (ExprNode-F.Field a f arrow) line = e.field line a f arrow
expr_node_layer (ExprNode-F.Cast type a) line = e.cast line type a
expr_node_layer (ExprNode-F.SizeOf type) line = e.sizeof line type

abbrev pub expr_layer : Expr-F e.CType (ℕ → e.Expr) e.Expr → e.Expr
expr_layer x = x.node x.line

unfoldable pub view_ctype : CType → e.CType
view_ctype = fold-CType e.CType (ℕ → e.Expr) e.Expr ctype_layer expr_node_layer expr_layer

unfoldable pub view_expr_node : ExprNode → ℕ → e.Expr
view_expr_node = fold-ExprNode e.CType (ℕ → e.Expr) e.Expr ctype_layer expr_node_layer expr_layer

abbrev pub view_expr : Expr → e.Expr
view_expr x = view_expr_node x.node x.line

abbrev pub view_var : VarDecl → e.VarDecl
view_var x = record { name = x.name; ty = view_ctype x.ty; init = option_map view_expr x.init; line = x.line }

-- ---- terms and predicates

abbrev pub term_node_layer : TermNode-F (ℕ → t.Term) t.Term → ℕ → t.Term
term_node_layer (TermNode-F.Number token) line = t.number line token
term_node_layer (TermNode-F.Char value) line = t.char line value
term_node_layer (TermNode-F.Name x) line = t.name line x
term_node_layer (TermNode-F.Unary op a) line = t.unary line op a
term_node_layer (TermNode-F.Binary op a b) line = t.binary line op a b
term_node_layer (TermNode-F.Cond test a b) line = t.cond line test a b
term_node_layer (TermNode-F.Call f args) line = t.call line f (t.terms_of args)
term_node_layer (TermNode-F.Index a b) line = t.index line a b
term_node_layer (TermNode-F.Field a f arrow) line = t.field line a f arrow
term_node_layer (TermNode-F.Cast type a) line = t.cast line (view_ctype type) a
term_node_layer TermNode-F.Result line = t.result line
term_node_layer (TermNode-F.Old a) line = t.old line a
term_node_layer (TermNode-F.At a label) line = t.at_label line a label
term_node_layer TermNode-F.Null line = t.null line
term_node_layer (TermNode-F.Range a b) line = t.range line a b

abbrev pub term_layer : Term-F (ℕ → t.Term) t.Term → t.Term
term_layer x = x.node x.line

unfoldable pub view_term_node : TermNode → ℕ → t.Term
view_term_node = fold-TermNode (ℕ → t.Term) t.Term term_node_layer term_layer

abbrev pub view_term : Term → t.Term
view_term x = view_term_node x.node x.line

abbrev pub pred_node_layer : PredNode-F (ℕ → p.Pred) p.Pred → ℕ → p.Pred
pred_node_layer PredNode-F.True line = p.always line
pred_node_layer PredNode-F.False line = p.never line
pred_node_layer (PredNode-F.Not a) line = p.not_of line a
pred_node_layer (PredNode-F.And a b) line = p.and_of line a b
pred_node_layer (PredNode-F.Xor a b) line = p.xor_of line a b
pred_node_layer (PredNode-F.Or a b) line = p.or_of line a b
pred_node_layer (PredNode-F.Implies a b) line = p.implies line a b
pred_node_layer (PredNode-F.Iff a b) line = p.iff line a b
pred_node_layer (PredNode-F.Cond test a b) line = p.cond line test a b
pred_node_layer (PredNode-F.Let x value a) line = p.let_in line x (view_term value) a
pred_node_layer (PredNode-F.Chain terms ops) line = p.chain line (map view_term terms) ops
pred_node_layer (PredNode-F.Forall binders a) line = p.for_all line (map view_var binders) a
pred_node_layer (PredNode-F.Exists binders a) line = p.for_some line (map view_var binders) a
pred_node_layer (PredNode-F.Valid pointer) line = p.valid line (view_term pointer)
pred_node_layer (PredNode-F.ValidRead pointer) line = p.valid_read line (view_term pointer)
pred_node_layer (PredNode-F.Separated pointers) line = p.separated line (map view_term pointers)
pred_node_layer (PredNode-F.Old a) line = p.old line a
pred_node_layer (PredNode-F.Call f args) line = p.call line f (map view_term args)

abbrev pub pred_layer : Pred-F (ℕ → p.Pred) p.Pred → p.Pred
pred_layer x = x.node x.line

unfoldable pub view_pred_node : PredNode → ℕ → p.Pred
view_pred_node = fold-PredNode (ℕ → p.Pred) p.Pred pred_node_layer pred_layer

abbrev pub view_pred : Pred → p.Pred
view_pred x = view_pred_node x.node x.line

-- ---- contracts

abbrev pub view_clause : Clause → c.Clause
view_clause x = record { pred = view_pred x.pred; line = x.line; place = x.place }

abbrev pub view_measure : Measure → c.Measure
view_measure x = record { term = view_term x.term; line = x.line; place = x.place }

abbrev pub view_assigns : AssignsClause → c.AssignsClause
view_assigns x = record { set = option_map (map view_term) x.set; from = x.from; line = x.line; place = x.place }

abbrev pub view_behavior : Behavior → c.Behavior
view_behavior x = record {
  name = x.name;
  assumes = map view_clause x.assumes;
  requires_ = map view_clause x.requires_;
  assigns = view_assigns x.assigns;
  ensures_ = map view_clause x.ensures_;
  line = x.line;
  place = x.place;
}

abbrev pub view_contract : Contract → c.Contract
view_contract x = record {
  requires_ = map view_clause x.requires_;
  assigns = view_assigns x.assigns;
  ensures_ = map view_clause x.ensures_;
  decreases_ = option_map view_measure x.decreases_;
  behaviors = map view_behavior x.behaviors;
  complete = x.complete;
  disjoint = x.disjoint;
}

abbrev pub view_loop : LoopAnnot → c.LoopAnnot
view_loop x = record {
  invariants = map view_clause x.invariants;
  assigns = view_assigns x.assigns;
  variant = option_map view_measure x.variant;
}

-- ---- statements

abbrev pub stmt_node_layer : StmtNode-F (ℕ → s.Stmt) s.Stmt → ℕ → s.Stmt
stmt_node_layer StmtNode-F.Empty line = s.empty line
stmt_node_layer (StmtNode-F.Expr a) line = s.expr line (view_expr a)
stmt_node_layer (StmtNode-F.Block body) line = s.block line (s.stmts_of body)
stmt_node_layer (StmtNode-F.Locals vars) line = s.locals line (map view_var vars)
stmt_node_layer (StmtNode-F.If test a other) line = s.if_of line (view_expr test) a other
stmt_node_layer (StmtNode-F.While annot test a) line = s.while_of line (view_loop annot) (view_expr test) a
stmt_node_layer (StmtNode-F.Do annot a test) line = s.do_of line (view_loop annot) a (view_expr test)
stmt_node_layer (StmtNode-F.For annot first test next a) line = s.for_of line (view_loop annot) first (option_map view_expr test) (option_map view_expr next) a
stmt_node_layer (StmtNode-F.Switch a body) line = s.switch line (view_expr a) (s.stmts_of body)
stmt_node_layer (StmtNode-F.Case a) line = s.case_of line (view_expr a)
stmt_node_layer StmtNode-F.Default line = s.default line
stmt_node_layer StmtNode-F.Break line = s.break line
stmt_node_layer StmtNode-F.Continue line = s.continue line
stmt_node_layer (StmtNode-F.Return value) line = s.return_of line (option_map view_expr value)
stmt_node_layer (StmtNode-F.Assert a) line = s.assert line (view_pred a)

abbrev pub stmt_layer : Stmt-F (ℕ → s.Stmt) s.Stmt → s.Stmt
stmt_layer x = x.node x.line

unfoldable pub view_stmt_node : StmtNode → ℕ → s.Stmt
view_stmt_node = fold-StmtNode (ℕ → s.Stmt) s.Stmt stmt_node_layer stmt_layer

abbrev pub view_stmt : Stmt → s.Stmt
view_stmt x = view_stmt_node x.node x.line

-- ---- declarations

abbrev pub view_struct : StructDecl → d.StructDecl
view_struct x = record { name = x.name; fields = map view_var x.fields; line = x.line }

abbrev pub view_enum : EnumDecl → d.EnumDecl
view_enum x = record { name = x.name; items = map view_var x.items; line = x.line }

abbrev pub view_function : Function → d.Function
view_function x = record {
  name = x.name;
  result = view_ctype x.result;
  params = map view_var x.params;
  contract = view_contract x.contract;
  body = option_map view_stmt x.body;
  line = x.line;
  end = x.end;
}

abbrev pub view_logic_body : LogicBody → d.LogicBody
view_logic_body (body.Term a) = d.term (view_term a)
view_logic_body (body.Pred a) = d.pred (view_pred a)

abbrev pub view_logic : LogicDecl → d.LogicDecl
view_logic x = record {
  name = x.name;
  result = option_map view_ctype x.result;
  params = map view_var x.params;
  body = view_logic_body x.body;
  line = x.line;
}

abbrev pub view_decl : Decl → d.Decl
view_decl (decl.Struct x) = d.struct_decl (view_struct x)
view_decl (decl.Enum x) = d.enum_decl (view_enum x)
view_decl (decl.Typedef x) = d.typedef_decl (view_var x)
view_decl (decl.Globals xs) = d.globals (map view_var xs)
view_decl (decl.Function x) = d.function (view_function x)
view_decl (decl.Logic x) = d.logic_decl (view_logic x)

abbrev pub view_program : Program → d.Program
view_program x = map view_decl x.decls

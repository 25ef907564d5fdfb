-- Statements, functions and files, gone through from the front: names behind `&` are marked in the scopes around them (C11 6.2.1).
use Rattle.std.specs.Prelude.{Bool, List, [], ◌∷◌, Option, Some, None}
use Rattle.c_syntax.specs.Expr as e
use Rattle.c_syntax.specs.Contract as c
use Rattle.c_syntax.specs.Stmt as s
use Rattle.c_syntax.specs.Decl as d
use Rattle.name_table.specs.Names as table
use Rattle.c_taken.specs.Addressed.{addressed, option_addressed, type_addressed, var_addressed, vars_addressed, pred_addressed, loop_addressed, contract_addressed, logic_addressed}
use Rattle.c_taken.specs.declared.marks.Marks.{Marks}
use Rattle.c_taken.specs.Marking.{no_marks, inside, left, declared_here, marked}

-- ---- statements (C11 6.8)

-- A local is in scope from the end of its declarator on, so in its initialiser, but not in its type (6.2.1p7).
unfoldable pub var_walked : e.VarDecl → Marks → Marks
var_walked v m = marked (option_addressed v.init) (declared_here v.name (marked (type_addressed v.ty) m))

abbrev pub vars_walked : List e.VarDecl → Marks → Marks
vars_walked [] m = m
vars_walked (v ∷ vs) m = vars_walked vs (var_walked v m)

-- the annotation of a `while` loop, and its test
abbrev pub head_marked : c.LoopAnnot → e.Expr → Marks → Marks
head_marked annot test m = marked (addressed test) (marked (loop_addressed annot) m)

-- the annotation of a `for`, and what its brackets hold behind its declaration
abbrev pub tests_marked : c.LoopAnnot → (test next : Option e.Expr) → Marks → Marks
tests_marked annot test next m = marked (option_addressed next) (marked (option_addressed test) (marked (loop_addressed annot) m))

-- A block, the body of a `switch` and a whole `for` are scopes (6.8.2, 6.8.5p5); the annotation of a `for` is inside it.
abbrev mutual
  pub walked : s.Stmt → Marks → Marks
  walked (s.empty line) m = m
  walked (s.expr line a) m = marked (addressed a) m
  walked (s.block line body) m = left (all_walked body (inside m))
  walked (s.locals line vars) m = vars_walked vars m
  walked (s.if_only line test a) m = walked a (marked (addressed test) m)
  walked (s.if_else line test a b) m = walked b (walked a (marked (addressed test) m))
  walked (s.while_of line annot test a) m = walked a (head_marked annot test m)
  walked (s.do_of line annot a test) m = marked (addressed test) (walked a (marked (loop_addressed annot) m))
  walked (s.for_of line annot first test next a) m = left (walked a (tests_marked annot test next (walked first (inside m))))
  walked (s.switch line a body) m = left (all_walked body (inside (marked (addressed a) m)))
  walked (s.case_of line value) m = marked (addressed value) m
  walked (s.default line) m = m
  walked (s.break line) m = m
  walked (s.continue line) m = m
  walked (s.return_of line value) m = marked (option_addressed value) m
  walked (s.assert line a) m = marked (pred_addressed a) m

  pub all_walked : s.Stmts → Marks → Marks
  all_walked s.stop m = m
  all_walked (s.more a rest) m = all_walked rest (walked a m)

-- what stands behind `else`, if anything does
abbrev pub else_walked : Option s.Stmt → Marks → Marks
else_walked None m = m
else_walked (Some a) m = walked a m

-- ---- functions (C11 6.9.1)

abbrev pub block_of : s.Stmt → Option s.Stmts
block_of (s.block line body) = Some body
block_of a = None

-- The outermost block of a body is one scope with the parameters (6.2.1p4).
abbrev pub body_by : Option s.Stmts → s.Stmt → Marks → Marks
body_by (Some body) a m = all_walked body m
body_by None a m = walked a m

abbrev pub body_walked : Option s.Stmt → Marks → Marks
body_walked None m = m
body_walked (Some a) m = body_by (block_of a) a m

-- A contract is in the scope of the parameters, and of no local.
unfoldable pub function_walked : d.Function → Marks → Marks
function_walked f m =
    left (body_walked f.body (marked (contract_addressed f.contract) (vars_walked f.params (inside (marked (type_addressed f.result) m)))))

-- ---- files (C11 6.9)

abbrev pub decl_walked : d.Decl → Marks → Marks
decl_walked (d.struct_decl x) m = marked (vars_addressed x.fields) m
decl_walked (d.enum_decl x) m = marked (vars_addressed x.items) m
decl_walked (d.typedef_decl v) m = marked (var_addressed v) m
decl_walked (d.globals vs) m = marked (vars_addressed vs) m
decl_walked (d.function f) m = function_walked f m
decl_walked (d.logic_decl x) m = marked (logic_addressed x) m

abbrev pub decls_walked : List d.Decl → Marks → Marks
decls_walked [] m = m
decls_walked (x ∷ xs) m = decls_walked xs (decl_walked x m)

-- Whether the address of a local is taken, by the numbers of the locals, parameters first. A prototype has none: its parameters are no objects.
abbrev pub locals_by : Option s.Stmt → d.Function → List Bool
locals_by None f = []
locals_by (Some body) f = (function_walked f no_marks).taken

unfoldable pub taken_locals : d.Function → List Bool
taken_locals f = locals_by f.body f

-- the names of the file scope whose address is taken, each with `true`
unfoldable pub taken_names : d.Program → table.Names Bool
taken_names decls = (decls_walked decls no_marks).outer

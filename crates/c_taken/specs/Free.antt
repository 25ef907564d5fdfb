-- The names behind `&` that are free in a text: it stands in the scope of no declaration of the name in the text itself (C11 6.2.1p4).
use Rattle.std.specs.Prelude.{List, [], ◌∷◌, ◌++◌, Option, Some, None}
use Rattle.c_syntax.specs.Expr as e
use Rattle.c_syntax.specs.Stmt as s
use Rattle.c_syntax.specs.Decl as d
use Rattle.c_taken.specs.Addressed.{Names, addressed, option_addressed, type_addressed, var_addressed, vars_addressed, outside, pred_addressed, loop_addressed, contract_addressed, logic_addressed}
use Rattle.c_taken.specs.Walks.{block_of}

-- in declarations, and in what follows them in their block, whose free names are these
abbrev pub free_in_vars : List e.VarDecl → (rest : Names) → Names
free_in_vars [] rest = rest
free_in_vars (v ∷ vs) rest = type_addressed v.ty ++ outside (v.name ∷ []) (option_addressed v.init ++ free_in_vars vs rest)

-- in a statement, and in what follows it in its block, whose free names are these
abbrev mutual
  pub free_in : s.Stmt → (rest : Names) → Names
  free_in (s.empty line) rest = rest
  free_in (s.expr line a) rest = addressed a ++ rest
  free_in (s.block line body) rest = free_in_all body [] ++ rest
  free_in (s.locals line vars) rest = free_in_vars vars rest
  free_in (s.if_only line test a) rest = addressed test ++ free_in a rest
  free_in (s.if_else line test a b) rest = addressed test ++ free_in a (free_in b rest)
  free_in (s.while_of line annot test a) rest = loop_addressed annot ++ (addressed test ++ free_in a rest)
  free_in (s.do_of line annot a test) rest = loop_addressed annot ++ free_in a (addressed test ++ rest)
  free_in (s.for_of line annot first test next a) rest =
      free_in first (loop_addressed annot ++ (option_addressed test ++ (option_addressed next ++ free_in a []))) ++ rest
  free_in (s.switch line a body) rest = addressed a ++ (free_in_all body [] ++ rest)
  free_in (s.case_of line value) rest = addressed value ++ rest
  free_in (s.default line) rest = rest
  free_in (s.break line) rest = rest
  free_in (s.continue line) rest = rest
  free_in (s.return_of line value) rest = option_addressed value ++ rest
  free_in (s.assert line a) rest = pred_addressed a ++ rest

  pub free_in_all : s.Stmts → (rest : Names) → Names
  free_in_all s.stop rest = rest
  free_in_all (s.more a others) rest = free_in a (free_in_all others rest)

-- the outermost block of a body is one scope with the parameters
abbrev pub free_in_body_by : Option s.Stmts → s.Stmt → Names
free_in_body_by (Some body) a = free_in_all body []
free_in_body_by None a = free_in a []

abbrev pub free_in_body : Option s.Stmt → Names
free_in_body None = []
free_in_body (Some a) = free_in_body_by (block_of a) a

abbrev pub free_in_function : d.Function → Names
free_in_function f = type_addressed f.result ++ free_in_vars f.params (contract_addressed f.contract ++ free_in_body f.body)

abbrev pub free_in_decl : d.Decl → Names
free_in_decl (d.struct_decl x) = vars_addressed x.fields
free_in_decl (d.enum_decl x) = vars_addressed x.items
free_in_decl (d.typedef_decl v) = var_addressed v
free_in_decl (d.globals vs) = vars_addressed vs
free_in_decl (d.function f) = free_in_function f
free_in_decl (d.logic_decl x) = logic_addressed x

abbrev pub free_in_decls : List d.Decl → Names
free_in_decls [] = []
free_in_decls (x ∷ xs) = free_in_decl x ++ free_in_decls xs

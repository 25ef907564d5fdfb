-- What a function is declared as, and the typed form of its body (C11 6.9.1), in rules that each stand for itself, with no order of faults.
use Rattle.std.specs.Prelude.{◌≡◌, ℕ, Bool, true, false, ◌||◌, is_some, List, [], ◌∷◌, ◌++◌, Option, Some, None, Ok}
use Rattle.c_syntax.specs.Expr as e
use Rattle.c_syntax.specs.Decl as d
use Rattle.c_syntax.specs.Stmt as p
use Rattle.typed_prog.specs.declared.types.CoreType.{CoreType}
use Rattle.typed_prog.specs.Types.{is_void}
use Rattle.name_table.specs.Names.{Names, is_free}
use Rattle.c_rules.specs.Operators.{is_scalar}
use Rattle.c_scopes.specs.declared.symbols.Resolved.{Resolved}
use Rattle.c_scopes.specs.Declarations.{is_free_here}
use Rattle.c_variables.specs.declared.context.Context.{Context}
use Rattle.c_variables.specs.Contexts.{around_of}
use Rattle.c_variables.specs.Variables.{parameter}
use Rattle.c_stmts.specs.Locals.{with_variable}
use Rattle.typed_unit.specs.Stmt as s
use Rattle.typed_unit.specs.Unit as u
use Rattle.c_functions.specs.Functions.{Functions, number_of, is_open, result_type, inside, signature_at, agrees_with, with_declared, declared_number, body_with, outside, part_of}
use Rattle.c_typed_stmts.specs.Judgement.{IsTyped, AreTyped}

-- ---- parameters: their names differ

pub record IsParam (c : Context) (d : e.VarDecl) (behind : Context) : Type 0 where
  pub is : Resolved
  pub new : is_free_here c.scope.local d.name ≡ true
  pub means : parameter (around_of c) true d.line d.ty ≡ Ok is
  pub declares : behind ≡ with_variable c d is

pub data AreParams : Context → List e.VarDecl → Context → Type 0 where
  no_param : (c : Context) → AreParams c [] c
  one_param : (c next behind : Context) (d : e.VarDecl) (ds : List e.VarDecl) → IsParam c d next → AreParams next ds behind → AreParams c (d ∷ ds) behind

-- ---- headers

-- Its name is new, or that of a function that is declared with the same types, of which this is the only body; it has no value or a scalar;
-- and some declaration of it in the file has a body.
pub record IsHeader (c : Context) (bodied : Names Bool) (bodies : List u.Body) (taken : List Bool) (g : d.Function) (behind : Context) : Type 0 where
  pub result : CoreType
  pub within : Context
  pub may : is_open c.scope.file bodies (is_some g.body) g.name ≡ true
  pub returns : result_type c.scope.file true g.line g.result ≡ Ok result
  pub scalar : (is_void result || is_scalar result) ≡ true
  pub params : AreParams (inside c taken result) g.params within
  pub same : agrees_with g.line (signature_at within.scope.file.functions (number_of within.scope.file g.name)) result within.scope.local.objects ≡ Ok tt
  pub body : is_free bodied g.name ≡ false
  pub declares : behind ≡ with_declared within g result

-- ---- bodies

-- the outermost block is that of the parameters (6.2.1p4)
pub data IsBody : Context → p.Stmt → s.Stmt → Context → Type 0 where
  block : (c behind : Context) (line : ℕ) (xs : p.Stmts) (ys : s.Stmts) → AreTyped c xs ys behind → IsBody c (p.block line xs) (s.block line ys) behind
  other : (c behind : Context) (x : p.Stmt) (y : s.Stmt) → IsTyped c x y behind → IsBody c x y behind

-- the bodies with that of this function, where it has one, and what is in scope behind it
pub data HasBody (c : Context) (bodies : List u.Body) (g : d.Function) : Option p.Stmt → List u.Body → Context → Type 0 where
  not_written : HasBody c bodies g None bodies (outside c)
  written : (behind : Context) (x : p.Stmt) (y : s.Stmt) → IsBody c x y behind
      → HasBody c bodies g (Some x) (bodies ++ body_with behind g (declared_number c g) y ∷ []) (outside behind)

pub record IsFunction (bodied : Names Bool) (taken : List Bool) (c : Context) (fs : Functions) (g : d.Function) (behind : Context) (fs' : Functions) : Type 0 where
  pub header : Context
  pub is : IsHeader c bodied fs.bodies taken g header
  pub body : HasBody header fs.bodies g g.body fs'.bodies behind
  pub parts : fs'.parts ≡ fs.parts ++ part_of c.scope.file header g ∷ []

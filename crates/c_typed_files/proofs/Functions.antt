-- Functions: their headers, and their bodies.
use Rattle.std.proofs.Common.{◌≡◌, ℕ, Bool, true, false, ◌||◌, is_some, if◌then◌else◌, List, [], ◌∷◌, ◌++◌, Option, Some, None, Ok, Err, refl, sym, subst}
use Rattle.wp_base.specs.declared.answers.Rule.TheVariants as rule
use Rattle.c_syntax.specs.Expr as e
use Rattle.c_syntax.specs.Decl as d
use Rattle.c_syntax.specs.Stmt as p
use Rattle.c_answers.specs.Answers.{Answer, after, fault, unknown, wrong}
use Rattle.typed_prog.specs.declared.types.CoreType.{CoreType}
use Rattle.typed_prog.specs.Types.{is_void}
use Rattle.name_table.specs.Names.{Names, is_free}
use Rattle.c_rules.specs.Operators.{is_scalar}
use Rattle.c_scopes.specs.declared.symbols.Resolved.{Resolved}
use Rattle.c_scopes.specs.declared.file.File.{File}
use Rattle.c_scopes.specs.Declarations.{is_free_here}
use Rattle.c_scopes.specs.Meanings.{type_of}
use Rattle.c_variables.specs.declared.context.Context.{Context}
use Rattle.c_variables.specs.Contexts.{around_of}
use Rattle.c_variables.specs.Variables.{named_here, parameter}
use Rattle.c_stmts.specs.Locals.{with_variable}
use Rattle.c_stmts.specs.Statements.{stmt, stmts, body}
use Rattle.typed_unit.specs.Stmt as s
use Rattle.typed_unit.specs.Unit as u
use Rattle.c_functions.specs.Functions as f
use Rattle.c_functions.specs.Functions.{Functions, number_of, is_open, result_with, result_type, inside, param, params, signature_at, agrees_with, agrees, with_body, with_declared, header_of, header, declared_number, body_with, outside, with_stmt, part_of, more_parts, finished, function}
use Rattle.c_well_typed.proofs.Fitting.{Holds, after_holds, after_any}
use Rattle.c_typed_stmts.specs.Judgement.{IsTyped, AreTyped}
use Rattle.c_typed_stmts.proofs.Statements.{a_stmt, all_stmts}
use Rattle.c_typed_files.specs.Functions as g
use Rattle.c_typed_files.specs.Functions.{IsParam, AreParams, IsHeader, IsBody, HasBody, IsFunction}
use Rattle.c_typed_stmts.proofs.Names.{kept}
use Rattle.c_typed_files.proofs.Names.{new_parameter, new_result}

-- ---- parameters

a_param : (c : Context) (d : e.VarDecl) → Holds (IsParam c d) (param c d)
unfolding param
a_param c d = after_holds (λ r. parameter (around_of c) (is_free_here c.scope.local d.name) d.line d.ty ≡ Ok r) (IsParam c d) _ _
    (kept (parameter (around_of c) (is_free_here c.scope.local d.name) d.line d.ty)) (λ r is.
    let new = new_parameter (around_of c) (is_free_here c.scope.local d.name) d.line d.ty r is in
    record { is = r; new = new; means = subst (λ b. parameter (around_of c) b d.line d.ty ≡ Ok r) new is; declares = refl })

all_params : (c : Context) (ds : List e.VarDecl) → Holds (AreParams c ds) (params c ds)
all_params c [] = g.no_param c
all_params c (d ∷ ds) = after_holds (IsParam c d) (AreParams c (d ∷ ds)) (param c d) _ (a_param c d) (λ next is. more next is (params next ds) (all_params next ds))
  where
    more : (next : Context) → IsParam c d next → (o : Answer Context) → Holds (AreParams next ds) o → Holds (AreParams c (d ∷ ds)) o
    more next is (Ok behind) are = g.one_param c next behind d ds is are
    more next is (Err r) are = tt

-- ---- headers

scalar_result : (file : File) (line : ℕ) (type : e.CType) → Holds (λ result. (is_void result || is_scalar result) ≡ true) (result_type file true line type)
scalar_result file line type = after_any (λ result. (is_void result || is_scalar result) ≡ true) (named_here file true line type) _ (λ t.
    after_any (λ result. (is_void result || is_scalar result) ≡ true) (type_of line t) (result_with line) (λ r. by r (is_void r.ty || is_scalar r.ty) refl))
  where
    by : (r : Resolved) (b : Bool) → (is_void r.ty || is_scalar r.ty) ≡ b → Holds (λ result. (is_void result || is_scalar result) ≡ true) (if b then Ok r.ty else wrong line)
    by r true is = is
    by r false is = tt

record ResultOf (c : Context) (bodies : List u.Body) (h : d.Function) (result : CoreType) : Type 0 where
  may : is_open c.scope.file bodies (is_some h.body) h.name ≡ true
  returns : result_type c.scope.file true h.line h.result ≡ Ok result
  scalar : (is_void result || is_scalar result) ≡ true

a_result : (c : Context) (bodies : List u.Body) (h : d.Function)
    → Holds (ResultOf c bodies h) (result_type c.scope.file (is_open c.scope.file bodies (is_some h.body) h.name) h.line h.result)
a_result c bodies h = by (result_type c.scope.file (is_open c.scope.file bodies (is_some h.body) h.name) h.line h.result) refl
  where
    held : (o : Answer CoreType) (result : CoreType) → o ≡ Ok result → Holds (λ r. (is_void r || is_scalar r) ≡ true) o → (is_void result || is_scalar result) ≡ true
    held o result is h = subst (Holds (λ r. (is_void r || is_scalar r) ≡ true)) is h

    by : (o : Answer CoreType) → result_type c.scope.file (is_open c.scope.file bodies (is_some h.body) h.name) h.line h.result ≡ o → Holds (ResultOf c bodies h) o
    by (Ok result) is =
        let may = new_result c.scope.file (is_open c.scope.file bodies (is_some h.body) h.name) h.line h.result result is in
        let returns = subst (λ b. result_type c.scope.file b h.line h.result ≡ Ok result) may is in
        record { may = may; returns = returns; scalar = held (result_type c.scope.file true h.line h.result) result returns (scalar_result c.scope.file h.line h.result) }
    by (Err r) is = tt

pub a_header : (c : Context) (bodied : Names Bool) (bodies : List u.Body) (taken : List Bool) (h : d.Function) → Holds (IsHeader c bodied bodies taken h) (header c bodied bodies taken h)
unfolding header
a_header c bodied bodies taken h =
    after_holds (ResultOf c bodies h) (IsHeader c bodied bodies taken h) (result_type c.scope.file (is_open c.scope.file bodies (is_some h.body) h.name) h.line h.result)
    (λ result. header_of bodied h result (params (inside c taken result) h.params)) (a_result c bodies h)
    (λ result of. with_params result of (params (inside c taken result) h.params) (all_params (inside c taken result) h.params))
  where
    with_end : (result : CoreType) → ResultOf c bodies h result → (within : Context) → AreParams (inside c taken result) h.params within
        → agrees_with h.line (signature_at within.scope.file.functions (number_of within.scope.file h.name)) result within.scope.local.objects ≡ Ok tt → (b : Bool) → is_free bodied h.name ≡ b
        → Holds (IsHeader c bodied bodies taken h) (after (if b then Err (fault rule.NoBody h.line) else Ok (tt {0})) (λ _. Ok (with_declared within h result)))
    with_end result of within are same true is = tt
    with_end result of within are same false is = record {
      result = result;
      within = within;
      may = of.may;
      returns = of.returns;
      scalar = of.scalar;
      params = are;
      same = same;
      body = is;
      declares = refl;
    }

    with_same : (result : CoreType) → ResultOf c bodies h result → (within : Context) → AreParams (inside c taken result) h.params within
        → (o : Answer (Unit {0})) → agrees_with h.line (signature_at within.scope.file.functions (number_of within.scope.file h.name)) result within.scope.local.objects ≡ o
        → Holds (IsHeader c bodied bodies taken h) (after o (λ _. after (with_body h.line bodied h.name) (λ _. Ok (with_declared within h result))))
    with_same result of within are (Ok u) same = with_end result of within are same (is_free bodied h.name) refl
    with_same result of within are (Err r) same = tt

    with_params : (result : CoreType) → ResultOf c bodies h result → (o : Answer Context) → Holds (AreParams (inside c taken result) h.params) o
        → Holds (IsHeader c bodied bodies taken h) (header_of bodied h result o)
    with_params result of (Ok within) are =
        with_same result of within are (agrees_with h.line (signature_at within.scope.file.functions (number_of within.scope.file h.name)) result within.scope.local.objects) refl
    with_params result of (Err r) are = after_any (IsHeader c bodied bodies taken h) (with_body h.line bodied h.name) _ (λ _. tt)

-- ---- bodies

single : (c : Context) (x : p.Stmt) → Holds (λ r. IsBody c x r.0 r.1) (stmt c x)
single c x = by (stmt c x) (a_stmt c x)
  where
    by : (o : Answer (s.Stmt × Context)) → Holds (λ r. IsTyped c x r.0 r.1) o → Holds (λ r. IsBody c x r.0 r.1) o
    by (Ok r) is = g.other c r.1 x r.0 is
    by (Err r) is = tt

a_body : (c : Context) (x : p.Stmt) → Holds (λ r. IsBody c x r.0 r.1) (body c x)
a_body c (p.block line xs) =
    after_holds (λ r. AreTyped c xs r.0 r.1) (λ r. IsBody c (p.block line xs) r.0 r.1) (stmts c xs) _ (all_stmts c xs) (λ r are. g.block c r.1 line xs r.0 are)
a_body c (p.empty line) = single c (p.empty line)
a_body c (p.expr line a) = single c (p.expr line a)
a_body c (p.locals line ds) = single c (p.locals line ds)
a_body c (p.if_only line a x) = single c (p.if_only line a x)
a_body c (p.if_else line a x y) = single c (p.if_else line a x y)
a_body c (p.while_of line annot a x) = single c (p.while_of line annot a x)
a_body c (p.do_of line annot x a) = single c (p.do_of line annot x a)
a_body c (p.for_of line annot x a b y) = single c (p.for_of line annot x a b y)
a_body c (p.switch line a xs) = single c (p.switch line a xs)
a_body c (p.case_of line a) = single c (p.case_of line a)
a_body c (p.default line) = single c (p.default line)
a_body c (p.break line) = single c (p.break line)
a_body c (p.continue line) = single c (p.continue line)
a_body c (p.return_of line a) = single c (p.return_of line a)
a_body c (p.assert line q) = single c (p.assert line q)

a_bodied : (c : Context) (bodies : List u.Body) (h : d.Function) (x : Option p.Stmt) → Holds (λ q. HasBody c bodies h x q.0 q.1) (with_stmt c bodies h x)
a_bodied c bodies h None = g.not_written
a_bodied c bodies h (Some x) = after_holds (λ r. IsBody c x r.0 r.1) (λ q. HasBody c bodies h (Some x) q.0 q.1) (body c x) _ (a_body c x) (λ r is. g.written r.1 x r.0 is)

-- ---- functions

pub a_function : (bodied : Names Bool) (taken : List Bool) (c : Context) (fs : Functions) (h : d.Function)
    → Holds (λ r. IsFunction bodied taken c fs h r.0 r.1) (function c fs bodied taken h)
unfolding function finished
a_function bodied taken c fs h =
    after_holds (IsHeader c bodied fs.bodies taken h) (λ r. IsFunction bodied taken c fs h r.0 r.1) (header c bodied fs.bodies taken h) _ (a_header c bodied fs.bodies taken h) (λ within is.
    after_holds (λ q. HasBody within fs.bodies h h.body q.0 q.1) (λ r. IsFunction bodied taken c fs h r.0 r.1) (with_stmt within fs.bodies h h.body) _ (a_bodied within fs.bodies h h.body) (λ q has.
    record { header = within; is = is; body = has; parts = refl }))

-- Typed statements, or the first fault in them (C11 6.8). What stands in a statement is typed in the order of the text; what a statement declares is in
-- scope in what follows it in its block.
use Rattle.std.specs.Prelude.{ℕ, ℤ, Bool, true, false, List, [], ◌∷◌, Option, Some, None, Ok, if◌then◌else◌}
use Rattle.wp_base.specs.declared.kinds.Kind.{Kind}
use Rattle.c_syntax.specs.Expr as e
use Rattle.c_syntax.specs.Contract.{LoopAnnot}
use Rattle.c_syntax.specs.Stmt as p
use Rattle.c_answers.specs.Answers.{Answer, after, wrong}
use Rattle.typed_prog.specs.Tree as t
use Rattle.typed_prog.specs.Types.{is_void}
use Rattle.c_operands.specs.Conversions.{kind_of_value}
use Rattle.c_contexts.specs.Contexts.{condition, statement, returned, switched, case_number}
use Rattle.c_scopes.specs.Declarations.{with_block, without_block}
use Rattle.c_variables.specs.declared.context.Context.{Context}
use Rattle.c_variables.specs.Contexts.{around_of, plain_in, with_locals}
use Rattle.typed_unit.specs.Stmt as s
use Rattle.c_stmts.specs.Locals.{locals}
use Rattle.c_stmts.specs.Cases.{with_case}

-- ---- blocks

abbrev pub entered : Context → Context
entered c = with_locals c (with_block c.scope.local)

abbrev pub left : Context → Context
left c = with_locals c (without_block c.scope.local)

-- ---- expressions of statements

unfoldable pub test_of : Context → e.Expr → Answer t.Value
test_of c a = condition (around_of c) (plain_in c) a

unfoldable pub value_of : Context → e.Expr → Answer t.Value
value_of c a = statement (around_of c) (plain_in c) a

unfoldable pub switched_value : Context → e.Expr → Answer t.Value
switched_value c a = switched (around_of c) (plain_in c) a

abbrev pub test_if : Context → Option e.Expr → Answer (Option t.Value)
test_if c None = Ok None
test_if c (Some a) = after (test_of c a) (λ v. Ok (Some v))

abbrev pub step_if : Context → Option e.Expr → Answer (Option t.Value)
step_if c None = Ok None
step_if c (Some a) = after (value_of c a) (λ v. Ok (Some v))

-- a value is returned exactly where the function has results (6.8.6.4p1)
abbrev pub return_by : Context → (line : ℕ) → (is_void : Bool) → Option e.Expr → Answer (Option t.Value)
return_by c line true None = Ok None
return_by c line true (Some a) = wrong line
return_by c line false None = wrong line
return_by c line false (Some a) = after (returned (around_of c) (plain_in c) line c.result a) (λ v. Ok (Some v))

unfoldable pub return_value : Context → (line : ℕ) → Option e.Expr → Answer (Option t.Value)
return_value c line a = return_by c line (is_void c.result) a

-- ---- labels of `switch`

abbrev pub number_for : Context → Option Kind → (line : ℕ) → e.Expr → Answer ℤ
number_for c None line a = wrong line
number_for c (Some k) line a = case_number (around_of c) k a

-- a statement in the body of a `switch`: what is made of it, the numbers of the labels up to it, and what is declared behind it
pub record Item : Type 0 where
  pub stmt : s.Stmt
  pub numbers : List ℤ
  pub context : Context

abbrev pub item_with : s.Stmt → List ℤ → Context → Item
item_with x zs c = record { stmt = x; numbers = zs; context = c }

unfoldable pub label : Option Kind → List ℤ → Context → (line : ℕ) → e.Expr → Answer Item
label k zs c line a = after (number_for c k line a) (λ z. after (with_case line zs z) (λ ws. Ok (item_with (s.case_of line z) ws c)))

-- labels, and other statements, which give what is told of them
abbrev pub item : Option Kind → List ℤ → Context → p.Stmt → (other : Answer (s.Stmt × Context)) → Answer Item
item k zs c (p.case_of line a) other = label k zs c line a
item k zs c (p.default line) other = Ok (item_with (s.default line) zs c)
item k zs c x other = after other (λ r. Ok (item_with r.0 zs r.1))

-- ---- statements

-- what a loop evaluates beside its body
abbrev pub turns_with : (before behind step : Option t.Value) → s.Turns
turns_with before behind step = record { before = before; behind = behind; step = step }

-- that of `while`, of `do` and of `for`
abbrev pub turns_before : Context → e.Expr → Answer s.Turns
turns_before c test = after (test_of c test) (λ v. Ok (turns_with (Some v) None None))

abbrev pub turns_behind : Context → e.Expr → Answer s.Turns
turns_behind c test = after (test_of c test) (λ v. Ok (turns_with None (Some v) None))

abbrev pub turns_of : Context → (test next : Option e.Expr) → Answer s.Turns
turns_of c test next = after (test_if c test) (λ v. after (step_if c next) (λ w. Ok (turns_with v None w)))

-- what comes first in a `for`, in a block with the loop
abbrev pub in_for : (line : ℕ) → s.Stmt → (again : s.Stmt) → s.Stmt
in_for line first again = s.block line (s.more first (s.more again s.stop))

-- a loop over what this gives, and what comes first in a `for`, in a block with its loop
abbrev pub loop_by : (line : ℕ) → LoopAnnot → s.Turns → Answer (s.Stmt × Context) → Answer (s.Stmt × Context)
loop_by line annot t body = after body (λ r. Ok (s.loop_of line annot t r.0, r.1))

abbrev pub for_by : (line : ℕ) → s.Stmt → Answer (s.Stmt × Context) → Answer (s.Stmt × Context)
for_by line first again = after again (λ r. Ok (in_for line first r.0, left r.1))

abbrev mutual
  pub stmt : Context → p.Stmt → Answer (s.Stmt × Context)
  stmt c (p.empty line) = Ok (s.empty line, c)
  stmt c (p.expr line a) = after (value_of c a) (λ v. Ok (s.expr line v, c))
  stmt c (p.block line body) = after (stmts (entered c) body) (λ r. Ok (s.block line r.0, left r.1))
  stmt c (p.locals line vars) = after (locals c vars) (λ r. Ok (s.locals line r.0, r.1))
  stmt c (p.if_only line test a) = after (test_of c test) (λ v. after (stmt c a) (λ r. Ok (s.if_else line v r.0 (s.empty line), r.1)))
  stmt c (p.if_else line test a b) = after (test_of c test) (λ v. after (stmt c a) (λ r. after (stmt r.1 b) (λ q. Ok (s.if_else line v r.0 q.0, q.1))))
  stmt c (p.while_of line annot test body) =
      after (turns_before c test) (λ t. loop_by line annot t (stmt c body))
  stmt c (p.do_of line annot body test) =
      after (stmt c body) (λ r. after (turns_behind r.1 test) (λ t. Ok (s.loop_of line annot t r.0, r.1)))
  -- the declaration before a loop is in scope in the loop alone (6.8.5.3p1)
  stmt c (p.for_of line annot first test next body) =
      after (stmt (entered c) first) (λ r. for_by line r.0 (after (turns_of r.1 test next) (λ t. loop_by line annot t (stmt r.1 body))))
  stmt c (p.switch line a body) =
      after (switched_value c a) (λ v. after (labelled (kind_of_value v) [] (entered c) body) (λ r. Ok (s.switch line v r.0, left r.1)))
  -- labels stand in the body of a `switch` alone (6.8.1p2)
  stmt c (p.case_of line a) = wrong line
  stmt c (p.default line) = wrong line
  stmt c (p.break line) = Ok (s.break line, c)
  stmt c (p.continue line) = Ok (s.continue line, c)
  stmt c (p.return_of line a) = after (return_value c line a) (λ v. Ok (s.return_of line v, c))
  stmt c (p.assert line q) = Ok (s.assert line q, c)

  pub stmts : Context → p.Stmts → Answer (s.Stmts × Context)
  stmts c p.stop = Ok (s.stop, c)
  stmts c (p.more x xs) = after (stmt c x) (λ r. after (stmts r.1 xs) (λ q. Ok (s.more r.0 q.0, q.1)))

  -- the body of a `switch` over this kind, with the numbers of the labels before
  pub labelled : Option Kind → List ℤ → Context → p.Stmts → Answer (s.Stmts × Context)
  labelled k zs c p.stop = Ok (s.stop, c)
  labelled k zs c (p.more x xs) = after (item k zs c x (stmt c x)) (λ r. after (labelled k r.numbers r.context xs) (λ q. Ok (s.more r.stmt q.0, q.1)))

-- The body of a function, whose outermost block is that of its parameters (6.2.1p4).
abbrev pub body : Context → p.Stmt → Answer (s.Stmt × Context)
body c (p.block line ss) = after (stmts c ss) (λ r. Ok (s.block line r.0, r.1))
body c x = stmt c x

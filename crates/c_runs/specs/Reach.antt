-- Which functions a function reaches by calls (C11 6.5.2.2).
use Rattle.std.specs.Prelude.{◌≡◌, ℕ, ◌==◌, Bool, true, false, ◌||◌, Option, Some, None}
use Rattle.typed_prog.specs.declared.operators.Effect.{Effect}
use Rattle.typed_prog.specs.declared.operators.Effect.TheVariants as effect
use Rattle.typed_prog.specs.Tree as t
use Rattle.c_runs.specs.Program.{Stmt, evaluate, block, initial, choose, loop, switch, case_of, default, break, continue, return_of, assert, Stmts, stop, more, Function, Program}

-- ---- calls in a text

abbrev pub is_call_of : (function : ℕ) → Effect → Bool
is_call_of f (effect.Call g) = g == f
is_call_of f e = false

abbrev mutual
  pub node_calls : (function : ℕ) → t.ValueNode → Bool
  node_calls f (t.apply o es) = some_calls f es
  node_calls f (t.logic c a b) = calls f a || calls f b
  node_calls f (t.choose c a b) = calls f c || (calls f a || calls f b)
  node_calls f (t.effect e es) = is_call_of f e || some_calls f es
  node_calls f node = false

  -- a call of the function stands in an expression
  pub calls : (function : ℕ) → t.Value → Bool
  calls f (t.typed node type line) = node_calls f node

  pub some_calls : (function : ℕ) → t.Values → Bool
  some_calls f t.stop = false
  some_calls f (t.more e es) = calls f e || some_calls f es

abbrev pub may_call : (function : ℕ) → Option t.Value → Bool
may_call f None = false
may_call f (Some e) = calls f e

abbrev mutual
  pub stmt_calls : (function : ℕ) → Stmt → Bool
  stmt_calls f (evaluate e) = calls f e
  stmt_calls f (block ys ss) = stmts_call f ss
  stmt_calls f (initial x line e) = calls f e
  stmt_calls f (choose e a b) = calls f e || (stmt_calls f a || stmt_calls f b)
  stmt_calls f (loop l before s step behind) = may_call f before || (stmt_calls f s || (may_call f step || may_call f behind))
  stmt_calls f (switch e ss) = calls f e || stmts_call f ss
  stmt_calls f (case_of z) = false
  stmt_calls f default = false
  stmt_calls f break = false
  stmt_calls f continue = false
  stmt_calls f (return_of e) = may_call f e
  stmt_calls f (assert c) = false

  pub stmts_call : (function : ℕ) → Stmts → Bool
  stmts_call f stop = false
  stmts_call f (more s ss) = stmt_calls f s || stmts_call f ss

-- ---- reach

-- a function, and all that those call which it reaches
pub data Reaches (p : Program Stmts) : (from to : ℕ) → Type 0 where
  itself : (f : ℕ) → Reaches p f f
  through : {f g h : ℕ} {b : Function Stmts} → p.functions f ≡ Some b → stmts_call g b.body ≡ true → Reaches p g h → Reaches p f h

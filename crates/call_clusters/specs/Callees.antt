-- The functions that are called in a text, in order (C11 6.5.2.2).
use Rattle.std.specs.Prelude.{ℕ, ◌==◌, Bool, false, ◌||◌, List, [], ◌∷◌, ◌++◌, Option, Some, None}
use Rattle.typed_prog.specs.declared.operators.Effect.{Effect}
use Rattle.typed_prog.specs.declared.operators.Effect.TheVariants as effect
use Rattle.typed_prog.specs.Tree as t
use Rattle.c_runs.specs.Program.{Stmt, evaluate, block, initial, choose, loop, switch, case_of, default, break, continue, return_of, assert, Stmts, stop, more, Function}

abbrev pub is_among : ℕ → List ℕ → Bool
is_among g [] = false
is_among g (x ∷ xs) = (x == g) || is_among g xs

abbrev pub called_by : Effect → List ℕ
called_by (effect.Call f) = f ∷ []
called_by (effect.Assign path) = []
called_by (effect.Update path by form) = []

abbrev mutual
  pub node_callees : t.ValueNode → List ℕ
  node_callees (t.constant z) = []
  node_callees t.null = []
  node_callees (t.temporary n) = []
  node_callees (t.apply o es) = all_callees es
  node_callees (t.logic c a b) = callees a ++ callees b
  node_callees (t.choose c a b) = callees c ++ (callees a ++ callees b)
  node_callees (t.effect e es) = called_by e ++ all_callees es

  pub callees : t.Value → List ℕ
  callees (t.typed node type line) = node_callees node

  pub all_callees : t.Values → List ℕ
  all_callees t.stop = []
  all_callees (t.more e es) = callees e ++ all_callees es

abbrev pub callees_if : Option t.Value → List ℕ
callees_if None = []
callees_if (Some e) = callees e

abbrev mutual
  pub stmt_callees : Stmt → List ℕ
  stmt_callees (evaluate e) = callees e
  stmt_callees (block ys ss) = stmts_callees ss
  stmt_callees (initial x line e) = callees e
  stmt_callees (choose e a b) = callees e ++ (stmt_callees a ++ stmt_callees b)
  stmt_callees (loop l before s step behind) = callees_if before ++ (stmt_callees s ++ (callees_if step ++ callees_if behind))
  stmt_callees (switch e ss) = callees e ++ stmts_callees ss
  stmt_callees (case_of z) = []
  stmt_callees default = []
  stmt_callees break = []
  stmt_callees continue = []
  stmt_callees (return_of e) = callees_if e
  stmt_callees (assert c) = []

  pub stmts_callees : Stmts → List ℕ
  stmts_callees stop = []
  stmts_callees (more s ss) = stmt_callees s ++ stmts_callees ss

abbrev pub body_callees : Option (Function Stmts) → List ℕ
body_callees None = []
body_callees (Some f) = stmts_callees f.body

-- Where annotations stand: which statement of a program a typed statement is, with what was typed of its own annotations (C11 6.8, ACSL 2.4). A rule a form.
use Rattle.std.specs.Prelude.{◌≡◌, ℕ, ℤ, List, map, Option, Some, Ok}
use Rattle.c_syntax.specs.Pred.{Pred}
use Rattle.c_syntax.specs.Contract.{LoopAnnot}
use Rattle.typed_prog.specs.Tree as t
use Rattle.typed_unit.specs.Stmt as s
use Rattle.acsl_trees.specs.Tree.{Tree}
use Rattle.acsl_expand.specs.Expansion.{Definition, expanded}
use Rattle.acsl_clauses.specs.Typed.{TypedClause}
use Rattle.acsl_clauses.specs.Clauses.{loop_typed, assertion_typed}
use Rattle.acsl_notes.specs.Notes.{Enclosing, Noted, of_loop, assertion, around_at, opened, closed, with_locals, with_note}
use Rattle.acsl_annotated.specs.Annotated.{clause_expanded}
use Rattle.c_runs.specs.Program.{Stmts, evaluate, block, choose, loop, switch, case_of, default, break, continue, return_of, assert, stop}
use Rattle.c_programs.specs.Clauses.{claim_of, loop_with}
use Rattle.c_programs.specs.Bodies.{one, then_, whole, initials, variables_in}

mutual
  -- Inside of what encloses them and of the innermost loop, with what definitions stand for. What is known before is that of typing: the annotations so far,
  -- the locals in scope, and how many are declared.
  pub data Becomes (e : Enclosing) (ds : List Definition) : (entry : Option ℕ) → (before : Noted) → s.Stmt → (after : Noted) → Stmts → Type 0 where
    empty : {i : Option ℕ} {k : Noted} {line : ℕ} → Becomes e ds i k (s.empty line) k stop
    expr : {i : Option ℕ} {k : Noted} {line : ℕ} {v : t.Value} → Becomes e ds i k (s.expr line v) k (one (evaluate v))
    block_of : {i : Option ℕ} {k j : Noted} {line : ℕ} {body : s.Stmts} {xs : Stmts}
        → AllBecome e ds i (opened k) body j xs → Becomes e ds i k (s.block line body) (closed j) (one (block (variables_in body) xs))
    locals : {i : Option ℕ} {k : Noted} {line : ℕ} {vars : List s.Declared} → Becomes e ds i k (s.locals line vars) (with_locals e.within.objects k vars) (initials vars)
    if_else : {i : Option ℕ} {k j l : Noted} {line : ℕ} {test : t.Value} {a b : s.Stmt} {xs ys : Stmts}
        → Becomes e ds i k a j xs → Becomes e ds i j b l ys → Becomes e ds i k (s.if_else line test a b) l (one (choose test (whole xs) (whole ys)))
    -- a loop has its own clauses, and knows how many locals are declared where it begins
    loop_of : {i : Option ℕ} {k j : Noted} {line : ℕ} {annot : LoopAnnot} {turns : s.Turns} {body : s.Stmt} {xs : Stmts} (cs : List TypedClause)
        → loop_typed (around_at e k.blocks (Some k.declared)) annot ≡ Ok cs → Becomes e ds (Some k.declared) (with_note (of_loop cs) k) body j xs
        → Becomes e ds i k (s.loop_of line annot turns body) j
        (one (loop (loop_with k.declared (map (clause_expanded ds) cs)) turns.before (whole xs) turns.step turns.behind))
    switch_of : {i : Option ℕ} {k j : Noted} {line : ℕ} {v : t.Value} {body : s.Stmts} {xs : Stmts}
        → AllBecome e ds i (opened k) body j xs → Becomes e ds i k (s.switch line v body) (closed j) (one (switch v xs))
    case_number : {i : Option ℕ} {k : Noted} {line : ℕ} {z : ℤ} → Becomes e ds i k (s.case_of line z) k (one (case_of z))
    default_of : {i : Option ℕ} {k : Noted} {line : ℕ} → Becomes e ds i k (s.default line) k (one default)
    break_of : {i : Option ℕ} {k : Noted} {line : ℕ} → Becomes e ds i k (s.break line) k (one break)
    continue_of : {i : Option ℕ} {k : Noted} {line : ℕ} → Becomes e ds i k (s.continue line) k (one continue)
    returned : {i : Option ℕ} {k : Noted} {line : ℕ} {v : Option t.Value} → Becomes e ds i k (s.return_of line v) k (one (return_of v))
    -- an assertion has its own predicate
    asserted : {i : Option ℕ} {k : Noted} {line : ℕ} {p : Pred} (q : Tree) → assertion_typed (around_at e k.blocks i) p ≡ Ok q
        → Becomes e ds i k (s.assert line p) (with_note (assertion q) k) (one (assert (claim_of line (expanded ds q))))

  pub data AllBecome (e : Enclosing) (ds : List Definition) : (entry : Option ℕ) → (before : Noted) → s.Stmts → (after : Noted) → Stmts → Type 0 where
    none : {i : Option ℕ} {k : Noted} → AllBecome e ds i k s.stop k stop
    some : {i : Option ℕ} {k j l : Noted} {a : s.Stmt} {rest : s.Stmts} {xs ys : Stmts}
        → Becomes e ds i k a j xs → AllBecome e ds i j rest l ys → AllBecome e ds i k (s.more a rest) l (then_ xs ys)

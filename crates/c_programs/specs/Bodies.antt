-- Bodies as they run: typed statements in which each loop and each assertion has the typed annotation that stands there in the text (C11 6.8, ACSL 2.4).
use Rattle.std.specs.Prelude.{ℕ, ◌+◌, Bool, List, [], ◌∷◌, ◌++◌, map, Option, Some, None}
use Rattle.std.specs.Option.{is_some}
use Rattle.typed_prog.specs.Tree as t
use Rattle.typed_unit.specs.Stmt as s
use Rattle.acsl_trees.specs.Tree.{Tree}
use Rattle.acsl_expand.specs.Expansion.{nought}
use Rattle.acsl_clauses.specs.Typed.{TypedClause}
use Rattle.acsl_notes.specs.Notes.{Note, of_loop, assertion}
use Rattle.c_runs.specs.Program.{Stmt, Stmts, evaluate, block, initial, choose, loop, switch, case_of, default, break, continue, return_of, assert, stop, more}
use Rattle.c_programs.specs.Clauses.{claim_of, loop_with}

-- ---- statements one behind another

abbrev pub one : Stmt → Stmts
one x = more x stop

abbrev pub then_ : Stmts → Stmts → Stmts
then_ stop ys = ys
then_ (more x xs) ys = more x (then_ xs ys)

-- the arm of a choice, or the body of a loop
abbrev pub whole : Stmts → Stmt
whole stop = block [] stop
whole (more x stop) = x
whole (more x (more y ys)) = block [] (more x (more y ys))

-- ---- declarations

abbrev pub initial_of : (local line : ℕ) → Option t.Value → Stmts
initial_of n l None = stop
initial_of n l (Some e) = one (initial n l e)

-- the values with which locals are declared, where they stand
abbrev pub initials : List s.Declared → Stmts
initials [] = stop
initials (d ∷ ds) = then_ (initial_of d.local d.line d.init) (initials ds)

-- how many variables are declared behind a declaration
abbrev pub declared_behind : (before : ℕ) → List s.Declared → ℕ
declared_behind n [] = n
declared_behind n (d ∷ ds) = declared_behind (d.local + 1) ds

abbrev pub number_of : s.Declared → ℕ
number_of d = d.local

abbrev pub declared_by : s.Stmt → List ℕ
declared_by (s.locals line ds) = map number_of ds
declared_by _ = []

-- All variables that a block declares itself, in order: they are made where it is entered.
abbrev pub variables_in : s.Stmts → List ℕ
variables_in s.stop = []
variables_in (s.more x xs) = declared_by x ++ variables_in xs

-- ---- annotations, of which the next one stands first

abbrev pub clauses_at : List Note → List TypedClause
clauses_at (of_loop cs ∷ ns) = cs
clauses_at (assertion t ∷ ns) = []
clauses_at [] = []

abbrev pub assertion_at : List Note → Tree
assertion_at (assertion t ∷ ns) = t
assertion_at (of_loop cs ∷ ns) = nought
assertion_at [] = nought

abbrev pub behind : List Note → List Note
behind [] = []
behind (n ∷ ns) = ns

-- ---- statements

-- what a statement becomes, the annotations behind it, and how many variables are declared before what follows
pub record Placed : Type 0 where
  pub stmts : Stmts
  pub notes : List Note
  pub declared : ℕ

abbrev pub as_it_is : Stmts → List Note → (declared : ℕ) → Placed
as_it_is xs ns n = record { stmts = xs; notes = ns; declared = n }

abbrev pub placed_as : Stmts → Placed → Placed
placed_as xs p = record p { stmts = xs }

-- No declaration stands in the body of a `switch` itself; that of a `for` is in a block with its loop.
abbrev mutual
  pub placed : s.Stmt → List Note → (declared : ℕ) → Placed
  placed (s.empty line) ns n = as_it_is stop ns n
  placed (s.expr line e) ns n = as_it_is (one (evaluate e)) ns n
  placed (s.block line body) ns n = let p = all_placed body ns n in placed_as (one (block (variables_in body) p.stmts)) p
  placed (s.locals line ds) ns n = as_it_is (initials ds) ns (declared_behind n ds)
  placed (s.if_else line e a b) ns n =
      let p = placed a ns n in let q = placed b p.notes p.declared in placed_as (one (choose e (whole p.stmts) (whole q.stmts))) q
  placed (s.loop_of line annot turns body) ns n =
      let p = placed body (behind ns) n in
      placed_as (one (loop (loop_with n (clauses_at ns)) turns.before (whole p.stmts) turns.step turns.behind)) p
  placed (s.switch line e body) ns n = let p = all_placed body ns n in placed_as (one (switch e p.stmts)) p
  placed (s.case_of line z) ns n = as_it_is (one (case_of z)) ns n
  placed (s.default line) ns n = as_it_is (one default) ns n
  placed (s.break line) ns n = as_it_is (one break) ns n
  placed (s.continue line) ns n = as_it_is (one continue) ns n
  placed (s.return_of line e) ns n = as_it_is (one (return_of e)) ns n
  placed (s.assert line q) ns n = as_it_is (one (assert (claim_of line (assertion_at ns)))) (behind ns) n

  pub all_placed : s.Stmts → List Note → (declared : ℕ) → Placed
  all_placed s.stop ns n = as_it_is stop ns n
  all_placed (s.more x xs) ns n =
      let p = placed x ns n in let q = all_placed xs p.notes p.declared in placed_as (then_ p.stmts q.stmts) q

-- ---- declared with a value

abbrev pub has_init : s.Declared → Bool
has_init d = is_some d.init

-- of each local that is declared in it, in order, whether it is declared with a value
abbrev mutual
  pub valued : s.Stmt → List Bool
  valued (s.empty line) = []
  valued (s.expr line e) = []
  valued (s.block line body) = all_valued body
  valued (s.locals line ds) = map has_init ds
  valued (s.if_else line e a b) = valued a ++ valued b
  valued (s.loop_of line annot turns body) = valued body
  valued (s.switch line e body) = all_valued body
  valued (s.case_of line z) = []
  valued (s.default line) = []
  valued (s.break line) = []
  valued (s.continue line) = []
  valued (s.return_of line e) = []
  valued (s.assert line q) = []

  pub all_valued : s.Stmts → List Bool
  all_valued s.stop = []
  all_valued (s.more x xs) = valued x ++ all_valued xs

-- Statements behind those that are there, and the annotations that are left behind them.
use Rattle.std.specs.Prelude.{◌≡◌, ℕ, List, map}
use Rattle.acsl_notes.specs.declared.notes.Note.{Note as Code}
use Rattle.acsl_notes.specs.Notes.{Note, view_note}
use Rattle.c_runs.specs.Program as run
use Rattle.typed_prog.specs.Tree as t
use Rattle.typed_unit.specs.Stmt as s
use Rattle.c_programs.specs.Clauses.{loop_with}
use Rattle.c_programs.specs.Bodies.{Placed, one, then_, whole, variables_in, placed_as, placed, all_placed, clauses_at, behind}
use Rattle.program_trees.specs.declared.stmts.Stmt.{Stmt}
use Rattle.program_trees.specs.View.{view_stmt, view_stmts}
use Rattle.placed_bodies.specs.declared.left.Left.{Left}

abbrev pub view_notes : List Code → List Note
view_notes ns = map view_note ns

abbrev pub notes_left : Left → List Note
notes_left l = view_notes l.notes.now

-- what was placed behind these, and what is left now
pub record PutInto (old new : List Stmt) (p : Placed) (l : Left) : Type 0 where
  pub stmts : view_stmts new ≡ then_ (view_stmts old) p.stmts
  pub notes : notes_left l ≡ p.notes
  pub declared : l.declared ≡ p.declared

-- what was placed, as one statement
pub record MadeWhole (x : Stmt) (p : Placed) (l : Left) : Type 0 where
  pub stmt : view_stmt x ≡ whole p.stmts
  pub notes : notes_left l ≡ p.notes
  pub declared : l.declared ≡ p.declared

-- ---- the statements that have others in them, by their parts

abbrev pub block_of : s.Stmts → List Note → (declared : ℕ) → Placed
block_of body ns n = let p = all_placed body ns n in placed_as (one (run.block (variables_in body) p.stmts)) p

abbrev pub switch_of : t.Value → s.Stmts → List Note → (declared : ℕ) → Placed
switch_of e body ns n = let p = all_placed body ns n in placed_as (one (run.switch e p.stmts)) p

abbrev pub choice_of : t.Value → (first second : s.Stmt) → List Note → (declared : ℕ) → Placed
choice_of e a b ns n = let p = placed a ns n in let q = placed b p.notes p.declared in placed_as (one (run.choose e (whole p.stmts) (whole q.stmts))) q

abbrev pub loop_of : s.Turns → s.Stmt → List Note → (declared : ℕ) → Placed
loop_of turns body ns n =
    let p = placed body (behind ns) n in placed_as (one (run.loop (loop_with n (clauses_at ns)) turns.before (whole p.stmts) turns.step turns.behind)) p

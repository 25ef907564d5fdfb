-- In the program jumps of typed statements stand inside of what they leave.
use Rattle.std.proofs.Common.{ℕ, ℤ, Bool, true, List, [], ◌∷◌, Option, Some, None}
use Rattle.wp_base.specs.declared.kinds.Kind.{Kind}
use Rattle.c_syntax.specs.Stmt as p
use Rattle.typed_prog.specs.Tree as t
use Rattle.c_variables.specs.declared.context.Context.{Context}
use Rattle.typed_unit.specs.Stmt as s
use Rattle.acsl_notes.specs.Notes.{Note}
use Rattle.c_typed_stmts.specs.Judgement as j
use Rattle.c_typed_stmts.specs.Judgement.{IsTyped, AreTyped, AreLabelled}
use Rattle.c_typed_files.specs.Functions as body_of
use Rattle.c_typed_files.specs.Functions.{IsBody}
use Rattle.c_runs.specs.Program.{Stmts, loop, stop, more}
use Rattle.plain_programs.specs.Told.{one, then_, whole, initials, initial_of, clauses_at, placed, all_placed, behind, loop_with}
use Rattle.plain_files.specs.Blocks.{JumpsStand, AllJumpsStand}
use Rattle.plain_normal.specs.Jumps.{Jumps, AllJump}

module _ (loops breaks : Bool) where
  both_jump : (xs ys : Stmts) → AllJump loops breaks xs → AllJump loops breaks ys → AllJump loops breaks (then_ xs ys)
  both_jump stop ys h k = k
  both_jump (more x xs) ys h k = (h.0, both_jump xs ys h.1 k)

  whole_jumps : (xs : Stmts) → AllJump loops breaks xs → Jumps loops breaks (whole xs)
  whole_jumps stop h = tt
  whole_jumps (more x stop) h = h.0
  whole_jumps (more x (more y ys)) h = h

  initial_jumps : (n l : ℕ) (o : Option t.Value) → AllJump loops breaks (initial_of n l o)
  initial_jumps n l None = tt
  initial_jumps n l (Some e) = (tt, tt)

  initials_jump : (rs : List s.Declared) → AllJump loops breaks (initials rs)
  initials_jump [] = tt
  initials_jump (r ∷ rs) = both_jump (initial_of r.local r.line r.init) (initials rs) (initial_jumps r.local r.line r.init) (initials_jump rs)

mutual
  stmt_jumps : {c : Context} {x : p.Stmt} {y : s.Stmt} {b : Context} → IsTyped c x y b → (loops breaks : Bool) → JumpsStand loops breaks x → (ns : List Note) (n : ℕ) → AllJump loops breaks (placed y ns n).stmts
  stmt_jumps (j.empty c line) l k h ns n = tt
  stmt_jumps (j.expr c line a v is) l k h ns n = (tt, tt)
  stmt_jumps (j.block c b line xs ys are) l k h ns n = (stmts_jump are l k h ns n, tt)
  stmt_jumps (j.locals c b line ds rs are) l k h ns n = initials_jump l k rs
  stmt_jumps (j.if_only c b line test v x y is so) l k h ns n = ((whole_jumps l k (placed y ns n).stmts (stmt_jumps so l k h ns n), tt), tt)
  stmt_jumps (j.if_else c next b line test v x x' y y' is so so') l k h ns n =
      let first = placed y ns n in (
        (
          whole_jumps l k first.stmts (stmt_jumps so l k h.0 ns n),
          whole_jumps l k (placed y' first.notes first.declared).stmts (stmt_jumps so' l k h.1 first.notes first.declared),
        ),
        tt,
      )
  stmt_jumps (j.while_loop c b line annot test v x y is so) l k h ns n = (whole_jumps true true (placed y (behind ns) n).stmts (stmt_jumps so true true h (behind ns) n), tt)
  stmt_jumps (j.do_loop c b line annot test v x y so is) l k h ns n = (whole_jumps true true (placed y (behind ns) n).stmts (stmt_jumps so true true h (behind ns) n), tt)
  stmt_jumps (j.for_loop c next b line annot first body test step y z v w so is is' so') l k h ns n =
      let before = placed y ns n in
      let body_there = placed z (behind before.notes) before.declared in
      let own = loop_with before.declared (clauses_at before.notes) in (
        both_jump l k before.stmts (one (loop own v (whole body_there.stmts) w None)) (stmt_jumps so l k h.0 ns n)
            (whole_jumps true true body_there.stmts (stmt_jumps so' true true h.1 (behind before.notes) before.declared), tt),
        tt,
      )
  stmt_jumps (j.switch c b line a v xs ys is are) l k h ns n = (labelled_jump are l h ns n, tt)
  stmt_jumps (j.break c line) l k h ns n = (h, tt)
  stmt_jumps (j.continue c line) l k h ns n = (h, tt)
  stmt_jumps (j.return_of c line a v is) l k h ns n = (tt, tt)
  stmt_jumps (j.assert c line q) l k h ns n = (tt, tt)

  stmts_jump : {c : Context} {xs : p.Stmts} {ys : s.Stmts} {b : Context} → AreTyped c xs ys b → (loops breaks : Bool) → AllJumpsStand loops breaks xs → (ns : List Note) (n : ℕ)
      → AllJump loops breaks (all_placed ys ns n).stmts
  stmts_jump (j.no_stmt c) l k h ns n = tt
  stmts_jump (j.one_stmt c next b x y xs ys is are) l k h ns n =
      let first = placed y ns n in
      both_jump l k first.stmts (all_placed ys first.notes first.declared).stmts (stmt_jumps is l k h.0 ns n) (stmts_jump are l k h.1 first.notes first.declared)

  labelled_jump : {k : Option Kind} {zs : List ℤ} {c : Context} {xs : p.Stmts} {ys : s.Stmts} {b : Context} → AreLabelled k zs c xs ys b → (loops : Bool) → AllJumpsStand loops true xs
      → (ns : List Note) (n : ℕ) → AllJump loops true (all_placed ys ns n).stmts
  labelled_jump (j.no_item k zs c) l h ns n = tt
  labelled_jump (j.label k zs c b line a z xs ys is new are) l h ns n = (tt, labelled_jump are l h.1 ns n)
  labelled_jump (j.default k zs c b line xs ys are) l h ns n = (tt, labelled_jump are l h.1 ns n)
  labelled_jump (j.one_item k zs c next b x y xs ys is are) l h ns n =
      let first = placed y ns n in
      both_jump l true first.stmts (all_placed ys first.notes first.declared).stmts (stmt_jumps is l true h.0 ns n) (labelled_jump are l h.1 first.notes first.declared)

-- the outermost block of a body is that of the parameters
pub body_jumps : {c : Context} {x : p.Stmt} {y : s.Stmt} {b : Context} → IsBody c x y b → (loops breaks : Bool) → JumpsStand loops breaks x → (ns : List Note) (n : ℕ) → AllJump loops breaks (placed y ns n).stmts
body_jumps (body_of.block c b line xs ys are) l k h ns n = (stmts_jump are l k h ns n, tt)
body_jumps (body_of.other c b x y is) l k h ns n = stmt_jumps is l k h ns n

-- Statements with others in them, by their parts.
use Rattle.std.proofs.Common.{◌≡◌, ℕ, ◌+◌, ◌<◌, ◌≤◌, List, [], ◌∷◌, ◌++◌, length, drop, get_or, refl, sym, ap, ◌∙◌, subst}
use Rattle.std.proofs.lemmas.List.{at_drop_more, at_drop_all}
use Rattle.typed_prog.specs.Tree as t
use Rattle.typed_unit.specs.Stmt as s
use Rattle.typed_unit.specs.declared.stmt.Stmt.{Stmt as Typed}
use Rattle.typed_unit.specs.View.{view_stmt as view_typed, view_stmts as view_all_typed}
use Rattle.acsl_notes.specs.Notes.{Note}
use Rattle.c_runs.specs.Program as run
use Rattle.c_runs.specs.Program.{Stmts, stop}
use Rattle.c_programs.specs.Clauses.{loop_with}
use Rattle.c_programs.specs.Bodies.{one, then_, whole, variables_in, clauses_at, behind, Placed, as_it_is, placed, all_placed}
use Rattle.program_trees.specs.declared.stmts.Stmt.{Stmt}
use Rattle.program_trees.specs.View.{view_stmt, view_stmts}
use Rattle.placed_bodies.specs.declared.left.Left.{Left}
use Rattle.placed_bodies.specs.Into.{notes_left, PutInto, MadeWhole, block_of, switch_of, choice_of, loop_of}
use Rattle.placed_bodies.proofs.Putting.{then-stop, then-assoc, pushed}

pub put_none : (xs : List Stmt) (l : Left) → PutInto xs xs (as_it_is stop (notes_left l) l.declared) l
put_none xs l = record { stmts = sym (then-stop (view_stmts xs)); notes = refl; declared = refl }

pub ruleset placing_laws = (put_none)

-- ---- one behind another

-- what is put so far, and what those to come will be, make the whole
pub record Following (old now : List Stmt) (all : Placed) (xs : s.Stmts) (l : Left) : Type 0 where
  pub stmts : then_ (view_stmts now) (all_placed xs (notes_left l) l.declared).stmts ≡ then_ (view_stmts old) all.stmts
  pub notes : (all_placed xs (notes_left l) l.declared).notes ≡ all.notes
  pub declared : (all_placed xs (notes_left l) l.declared).declared ≡ all.declared

follows : (old now next : List Stmt) (all : Placed) (x : s.Stmt) (xs : s.Stmts) (l m : Left) → PutInto now next (placed x (notes_left l) l.declared) m → Following old now all (s.more x xs) l
    → Following old next all xs m
follows old now next all x xs l m put so_far =
    let p = placed x (notes_left l) l.declared in
    let e : all_placed xs (notes_left m) m.declared ≡ all_placed xs p.notes p.declared =
    ap (λ ns. all_placed xs ns m.declared) put.notes ∙ ap (all_placed xs p.notes) put.declared in
    record {
      stmts =
          ap (λ us. then_ us (all_placed xs (notes_left m) m.declared).stmts) put.stmts ∙ ap (λ q. then_ (then_ (view_stmts now) p.stmts) q.stmts) e
          ∙ then-assoc (view_stmts now) p.stmts (all_placed xs p.notes p.declared).stmts ∙ so_far.stmts;
      notes = ap (λ q. q.notes) e ∙ so_far.notes;
      declared = ap (λ q. q.declared) e ∙ so_far.declared;
    }

pub following_turn : (old now next : List Stmt) (all : Placed) (xs : List Typed) (i : ℕ) (x : Typed) (l m : Left) → i < length xs → x ≡ get_or xs i x
    → PutInto now next (placed (view_typed x) (notes_left l) l.declared) m → Following old now all (view_all_typed (drop i xs)) l → Following old next all (view_all_typed (drop (i + 1) xs)) m
following_turn old now next all xs i x l m in_list is put so_far =
    let rest = view_all_typed (drop (i + 1) xs) in
    let e : view_all_typed (drop i xs) ≡ s.more (view_typed x) rest = at_drop_more view_all_typed xs i x in_list ∙ ap (λ z. s.more (view_typed z) rest) (sym is) in
    let P : s.Stmts → Type 0 = λ us. Following old now all us l in
    follows old now next all (view_typed x) rest l m put (subst P e so_far)

pub following_done : (old now : List Stmt) (all : Placed) (xs : List Typed) (i : ℕ) (l : Left) → length xs ≤ i → Following old now all (view_all_typed (drop i xs)) l → PutInto old now all l
following_done old now all xs i l past so_far =
    let P : s.Stmts → Type 0 = λ us. Following old now all us l in
    let r = subst P (at_drop_all view_all_typed xs i past) so_far in
    record { stmts = sym (then-stop (view_stmts now)) ∙ r.stmts; notes = r.notes; declared = r.declared }

pub following_start : (old : List Stmt) (xs : List Typed) (l : Left) → Following old old (all_placed (view_all_typed xs) (notes_left l) l.declared) (view_all_typed xs) l
following_start old xs l = record { stmts = refl; notes = refl; declared = refl }

pub ruleset following_laws = (following_turn, following_done, following_start)

-- ---- parts

pub whole_made : (x : Stmt) (made : List Stmt) (p : Placed) (l : Left) → PutInto [] made p l → view_stmt x ≡ whole (view_stmts made) → MadeWhole x p l
whole_made x made p l put is = record { stmt = is ∙ ap whole put.stmts; notes = put.notes; declared = put.declared }

pub block_placed : (old new made : List Stmt) (body : s.Stmts) (ns : List Note) (n : ℕ) (l : Left) → PutInto [] made (all_placed body ns n) l
    → view_stmts new ≡ then_ (view_stmts old) (one (run.block (variables_in body) (view_stmts made))) → PutInto old new (block_of body ns n) l
block_placed old new made body ns n l put is =
    record { stmts = is ∙ ap (λ us. then_ (view_stmts old) (one (run.block (variables_in body) us))) put.stmts; notes = put.notes; declared = put.declared }

pub switch_placed : (old new made : List Stmt) (x : Stmt) (e : t.Value) (body : s.Stmts) (ns : List Note) (n : ℕ) (l : Left) → PutInto [] made (all_placed body ns n) l → new ≡ old ++ x ∷ []
    → view_stmt x ≡ run.switch e (view_stmts made) → PutInto old new (switch_of e body ns n) l
switch_placed old new made x e body ns n l put grown is =
    record { stmts = pushed old new x (run.switch e (view_stmts made)) grown is ∙ ap (λ us. then_ (view_stmts old) (one (run.switch e us))) put.stmts; notes = put.notes; declared = put.declared }

pub choice_placed : (old new : List Stmt) (x a b : Stmt) (e : t.Value) (first second : s.Stmt) (ns : List Note) (n : ℕ) (l m : Left) → MadeWhole a (placed first ns n) l
    → MadeWhole b (placed second (notes_left l) l.declared) m → new ≡ old ++ x ∷ [] → view_stmt x ≡ run.choose e (view_stmt a) (view_stmt b) → PutInto old new (choice_of e first second ns n) m
choice_placed old new x a b e first second ns n l m one_made other_made grown is =
    let p = placed first ns n in
    let same : placed second (notes_left l) l.declared ≡ placed second p.notes p.declared =
    ap (λ us. placed second us l.declared) one_made.notes ∙ ap (placed second p.notes) one_made.declared in
    record {
      stmts =
          pushed old new x (run.choose e (view_stmt a) (view_stmt b)) grown is
          ∙ ap (λ u. then_ (view_stmts old) (one (run.choose e u (view_stmt b)))) one_made.stmt
          ∙ ap (λ u. then_ (view_stmts old) (one (run.choose e (whole p.stmts) u))) (other_made.stmt ∙ ap (λ q. whole q.stmts) same);
      notes = other_made.notes ∙ ap (λ q. q.notes) same;
      declared = other_made.declared ∙ ap (λ q. q.declared) same;
    }

pub loop_placed : (old new : List Stmt) (a : Stmt) (turns : s.Turns) (body : s.Stmt) (l after m : Left) → notes_left after ≡ behind (notes_left l) → after.declared ≡ l.declared
    → MadeWhole a (placed body (notes_left after) after.declared) m
    → view_stmts new ≡ then_ (view_stmts old) (one (run.loop (loop_with l.declared (clauses_at (notes_left l))) turns.before (view_stmt a) turns.step turns.behind))
    → PutInto old new (loop_of turns body (notes_left l) l.declared) m
loop_placed old new a turns body l after m its count made is =
    let same : placed body (notes_left after) after.declared ≡ placed body (behind (notes_left l)) l.declared =
    ap (λ us. placed body us after.declared) its ∙ ap (placed body (behind (notes_left l))) count in
    record {
      stmts = is ∙ ap (λ u. then_ (view_stmts old) (one (run.loop (loop_with l.declared (clauses_at (notes_left l))) turns.before u turns.step turns.behind))) (made.stmt ∙ ap (λ q. whole q.stmts) same);
      notes = made.notes ∙ ap (λ q. q.notes) same;
      declared = made.declared ∙ ap (λ q. q.declared) same;
    }

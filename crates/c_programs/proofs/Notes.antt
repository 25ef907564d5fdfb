-- By induction on the statement whose annotations are typed.
use Rattle.std.proofs.Common.{◌≡◌, ℕ, ◌+◌, List, [], ◌∷◌, ◌++◌, map, Option, Some, None, Ok, Err, refl, sym, ap, subst, ◌∙◌, append_assoc, append-nil, slice_get, IsSome}
use Rattle.std.proofs.lemmas.List.{map-append}
use Rattle.c_answers.specs.Answers.{Answer, after}
use Rattle.c_scopes.specs.declared.symbols.Object.{Object}
use Rattle.typed_unit.specs.Stmt as s
use Rattle.typed_prog.specs.Tree as t
use Rattle.c_syntax.specs.Pred.{Pred}
use Rattle.c_syntax.specs.Contract.{LoopAnnot}
use Rattle.acsl_trees.specs.Tree.{Tree}
use Rattle.acsl_expand.specs.Expansion.{Definition}
use Rattle.acsl_clauses.specs.Typed.{TypedClause}
use Rattle.acsl_clauses.specs.Clauses.{loop_typed, assertion_typed}
use Rattle.acsl_notes.specs.Notes.{Note, of_loop, assertion, Enclosing, Noted, opened, closed, with_object, with_locals, with_note, around_at, with_loop, noted, all_noted}
use Rattle.acsl_annotated.specs.Annotated.{note_expanded}
use Rattle.c_runs.specs.Program.{Stmts, block, choose, switch}
use Rattle.c_programs.specs.Bodies.{one, then_, whole, variables_in, declared_behind, Placed, as_it_is, placed_as, placed, all_placed}
use Rattle.c_programs.specs.Placing as b
use Rattle.c_programs.specs.Placing.{Becomes, AllBecome}
use Rattle.c_programs.specs.Laws.{AreObjects, Declares, AllDeclare, IsPlaced, NotesArePlaced}

-- ---- answers

abbrev pub Holds : {X : Type 0} → (X → Type 0) → Answer X → Type 0
Holds P (Ok x) = P x
Holds P (Err r) = Unit {0}

pub after_holds : {X Y : Type 0} (P : X → Type 0) (Q : Y → Type 0) (o : Answer X) (f : X → Answer Y) → Holds P o → ((x : X) → P x → Holds Q (f x)) → Holds Q (after o f)
after_holds P Q (Ok x) f is so = so x is
after_holds P Q (Err r) f is so = tt

pub holds_more : {X : Type 0} (P Q : X → Type 0) (o : Answer X) → ((x : X) → P x → Q x) → Holds P o → Holds Q o
holds_more P Q (Ok x) so is = so x is
holds_more P Q (Err r) so is = tt

-- what is answered is what was answered
pub this : {X : Type 0} (o : Answer X) → Holds (λ x. o ≡ Ok x) o
this (Ok x) = refl
this (Err r) = tt

-- ---- what takes annotations

abbrev Takes : List Definition → (go : List Note → ℕ → Placed) → (before after : Noted) → (Stmts → Type 0) → Type 0
Takes ds go k j Is =
    (added : List Note) × (j.notes ≡ k.notes ++ added) × ((behind : List Note) → IsPlaced Is j.declared behind (go (map (note_expanded ds) added ++ behind) k.declared))

-- nothing is taken
none_taken : (ds : List Definition) (go : List Note → ℕ → Placed) (k : Noted) (Is : Stmts → Type 0) (xs : Stmts) → ((ns : List Note) (n : ℕ) → go ns n ≡ as_it_is xs ns n) → Is xs → Takes ds go k k Is
none_taken ds go k Is xs same is = (
  [],
  sym (append-nil k.notes),
  λ behind.
      let P : Placed → Type 0 = IsPlaced Is k.declared behind in subst P (sym (same behind k.declared)) (record { left = refl; count = refl; is = is }),
)

-- around what was taken
around_taken : (ds : List Definition) (go : List Note → ℕ → Placed) (k j : Noted) (Is Are : Stmts → Type 0) (f : Stmts → Stmts) → ((xs : Stmts) → Is xs → Are (f xs)) → Takes ds go k j Is
    → Takes ds (λ ns n. let p = go ns n in placed_as (f p.stmts) p) k j Are
around_taken ds go k j Is Are f so t =
    (t.0, t.1, λ behind. let r = t.2 behind in record { left = r.left; count = r.count; is = so _ r.is })

module _ (ds : List Definition) (go on : List Note → ℕ → Placed) (k j l : Noted) (Is Are All : Stmts → Type 0) (f : Stmts → Stmts → Stmts) (so : (xs ys : Stmts) → Is xs → Are ys → All (f xs ys)) where
  behind_by : (bs behind : List Note) (p : Placed) → IsPlaced Is j.declared (map (note_expanded ds) bs ++ behind) p
      → IsPlaced Are l.declared behind (on (map (note_expanded ds) bs ++ behind) j.declared) → IsPlaced All l.declared behind (let q = on p.notes p.declared in placed_as (f p.stmts q.stmts) q)
  behind_by bs behind p first second =
      let P : List Note → Type 0 = λ ns. IsPlaced Are l.declared behind (on ns p.declared) in
      let Q : ℕ → Type 0 = λ n. IsPlaced Are l.declared behind (on (map (note_expanded ds) bs ++ behind) n) in
      let moved = subst P (sym first.left) (subst Q (sym first.count) second) in
      record { left = moved.left; count = moved.count; is = so _ _ first.is moved.is }

  -- one behind the other
  both_taken : Takes ds go k j Is → Takes ds on j l Are → Takes ds (λ ns n. let p = go ns n in let q = on p.notes p.declared in placed_as (f p.stmts q.stmts) q) k l All
  both_taken t u = (
    t.0 ++ u.0,
    u.1 ∙ ap (λ ns. ns ++ u.0) t.1 ∙ append_assoc k.notes t.0 u.0,
    λ behind.
        let e : map (note_expanded ds) (t.0 ++ u.0) ++ behind ≡ map (note_expanded ds) t.0 ++ (map (note_expanded ds) u.0 ++ behind) =
        ap (λ ns. ns ++ behind) (map-append (note_expanded ds) t.0 u.0) ∙ append_assoc (map (note_expanded ds) t.0) (map (note_expanded ds) u.0) behind in
        let P : List Note → Type 0 = λ ns. IsPlaced All l.declared behind (let p = go ns k.declared in let q = on p.notes p.declared in placed_as (f p.stmts q.stmts) q) in
        subst P (sym e) (behind_by u.0 behind (go (map (note_expanded ds) t.0 ++ (map (note_expanded ds) u.0 ++ behind)) k.declared) (t.2 (map (note_expanded ds) u.0 ++ behind)) (u.2 behind)),
  )

-- ---- declarations

object_there : (k : Noted) (i : ℕ) (o : Option Object) → IsSome o → ((with_object k i o).notes ≡ k.notes) × ((with_object k i o).declared ≡ i + 1)
object_there k i (Some o) is = (refl, refl)
object_there k i None is = absurd cc

locals_notes : (os : List Object) (k : Noted) (vars : List s.Declared) → AreObjects os vars → (with_locals os k vars).notes ≡ k.notes
locals_notes os k [] are = refl
locals_notes os k (d ∷ vars) are =
    let u = with_object k d.local (slice_get os d.local) in
    locals_notes os u vars are.1 ∙ (object_there k d.local (slice_get os d.local) are.0).0

locals_declared : (os : List Object) (k : Noted) (vars : List s.Declared) → AreObjects os vars → declared_behind k.declared vars ≡ (with_locals os k vars).declared
locals_declared os k [] are = refl
locals_declared os k (d ∷ vars) are =
    let u = with_object k d.local (slice_get os d.local) in
    ap (λ n. declared_behind n vars) (sym (object_there k d.local (slice_get os d.local) are.0).1) ∙ locals_declared os u vars are.1

-- ---- statements

module _ (e : Enclosing) (ds : List Definition) where
  abbrev Taken : Option ℕ → Noted → s.Stmt → Noted → Type 0
  Taken i k x j = Takes ds (placed x) k j (Becomes e ds i k x j)

  abbrev AllTaken : Option ℕ → Noted → s.Stmts → Noted → Type 0
  AllTaken i k xs j = Takes ds (all_placed xs) k j (AllBecome e ds i k xs j)

  locals_taken : (i : Option ℕ) (k : Noted) (line : ℕ) (vars : List s.Declared) → AreObjects e.within.objects vars → Taken i k (s.locals line vars) (with_locals e.within.objects k vars)
  locals_taken i k line vars are = (
    [],
    locals_notes e.within.objects k vars are ∙ sym (append-nil k.notes),
    λ behind.
        record { left = refl; count = locals_declared e.within.objects k vars are; is = b.locals },
  )

  loop_taken : (i : Option ℕ) (k j : Noted) (line : ℕ) (annot : LoopAnnot) (turns : s.Turns) (body : s.Stmt) (cs : List TypedClause) → loop_typed (around_at e k.blocks (Some k.declared)) annot ≡ Ok cs
      → Taken (Some k.declared) (with_note (of_loop cs) k) body j → Taken i k (s.loop_of line annot turns body) j
  loop_taken i k j line annot turns body cs typed t = (
    of_loop cs ∷ t.0,
    t.1 ∙ append_assoc k.notes (of_loop cs ∷ []) t.0,
    λ behind.
        let r = t.2 behind in record { left = r.left; count = r.count; is = b.loop_of cs typed r.is },
  )

  -- the clauses of a loop are typed, and are its annotation
  abbrev LoopNoted : Noted → LoopAnnot → Noted → Type 0
  LoopNoted k annot j = (cs : List TypedClause) × (loop_typed (around_at e k.blocks (Some k.declared)) annot ≡ Ok cs) × (with_note (of_loop cs) k ≡ j)

  loop_noted : (k : Noted) (annot : LoopAnnot) → Holds (LoopNoted k annot) (with_loop e k annot)
  loop_noted k annot =
      after_holds (λ cs. loop_typed (around_at e k.blocks (Some k.declared)) annot ≡ Ok cs) (LoopNoted k annot) (loop_typed (around_at e k.blocks (Some k.declared)) annot)
      (λ cs. Ok (with_note (of_loop cs) k)) (this _) (λ cs typed. (cs, typed, refl))

  loop_by : (i : Option ℕ) (k j l : Noted) (line : ℕ) (annot : LoopAnnot) (turns : s.Turns) (body : s.Stmt) → LoopNoted k annot j → Taken (Some k.declared) j body l
      → Taken i k (s.loop_of line annot turns body) l
  loop_by i k j l line annot turns body u t =
      let P : Noted → Type 0 = λ m. Taken (Some k.declared) m body l in loop_taken i k l line annot turns body u.0 u.1 (subst P (sym u.2) t)

  choice_taken : (i : Option ℕ) (k j l : Noted) (line : ℕ) (test : t.Value) (a c : s.Stmt) → Taken i k a j → Taken i j c l → Taken i k (s.if_else line test a c) l
  choice_taken i k j l line test a c =
      both_taken ds (placed a) (placed c) k j l (Becomes e ds i k a j) (Becomes e ds i j c l) (Becomes e ds i k (s.if_else line test a c) l)
      (λ xs ys. one (choose test (whole xs) (whole ys))) (λ xs ys is so. b.if_else is so)

  assert_taken : (i : Option ℕ) (k : Noted) (line : ℕ) (p : Pred) (q : Tree) → assertion_typed (around_at e k.blocks i) p ≡ Ok q → Taken i k (s.assert line p) (with_note (assertion q) k)
  assert_taken i k line p q typed = (assertion q ∷ [], refl, λ behind. record { left = refl; count = refl; is = b.asserted q typed })

  mutual
    taken : (i : Option ℕ) (k : Noted) (x : s.Stmt) → Declares e.within.objects x → Holds (Taken i k x) (noted e i k x)
    taken i k (s.empty line) are = none_taken ds _ k _ _ (λ ns n. refl) b.empty
    taken i k (s.expr line v) are = none_taken ds _ k _ _ (λ ns n. refl) b.expr
    taken i k (s.block line body) are =
        after_holds (AllTaken i (opened k) body) _ (all_noted e i (opened k) body) _ (all_taken i (opened k) body are) (λ j t.
        around_taken ds (all_placed body) k (closed j) (AllBecome e ds i (opened k) body j) _ (λ xs. one (block (variables_in body) xs)) (λ xs is. b.block_of is) t)
    taken i k (s.locals line vars) are = locals_taken i k line vars are
    taken i k (s.if_else line test a c) are =
        after_holds (Taken i k a) (Taken i k (s.if_else line test a c)) (noted e i k a) (λ j. noted e i j c) (taken i k a are.0) (λ j t.
        holds_more (Taken i j c) (Taken i k (s.if_else line test a c)) (noted e i j c) (λ l u. choice_taken i k j l line test a c t u) (taken i j c are.1))
    taken i k (s.loop_of line annot turns body) are =
        after_holds (LoopNoted k annot) (Taken i k (s.loop_of line annot turns body)) (with_loop e k annot) (λ j. noted e (Some k.declared) j body) (loop_noted k annot) (λ j u.
        holds_more (Taken (Some k.declared) j body) (Taken i k (s.loop_of line annot turns body)) (noted e (Some k.declared) j body) (λ l t. loop_by i k j l line annot turns body u t)
        (taken (Some k.declared) j body are))
    taken i k (s.switch line v body) are =
        after_holds (AllTaken i (opened k) body) _ (all_noted e i (opened k) body) _ (all_taken i (opened k) body are) (λ j t.
        around_taken ds (all_placed body) k (closed j) (AllBecome e ds i (opened k) body j) _ (λ xs. one (switch v xs)) (λ xs is. b.switch_of is) t)
    taken i k (s.case_of line z) are = none_taken ds _ k _ _ (λ ns n. refl) b.case_number
    taken i k (s.default line) are = none_taken ds _ k _ _ (λ ns n. refl) b.default_of
    taken i k (s.break line) are = none_taken ds _ k _ _ (λ ns n. refl) b.break_of
    taken i k (s.continue line) are = none_taken ds _ k _ _ (λ ns n. refl) b.continue_of
    taken i k (s.return_of line v) are = none_taken ds _ k _ _ (λ ns n. refl) b.returned
    taken i k (s.assert line p) are =
        after_holds (λ q. assertion_typed (around_at e k.blocks i) p ≡ Ok q) _ (assertion_typed (around_at e k.blocks i) p) _ (this _) (λ q typed. assert_taken i k line p q typed)

    all_taken : (i : Option ℕ) (k : Noted) (xs : s.Stmts) → AllDeclare e.within.objects xs → Holds (AllTaken i k xs) (all_noted e i k xs)
    all_taken i k s.stop are = none_taken ds _ k _ _ (λ ns n. refl) b.none
    all_taken i k (s.more x xs) are =
        after_holds (Taken i k x) (AllTaken i k (s.more x xs)) (noted e i k x) (λ j. all_noted e i j xs) (taken i k x are.0) (λ j t.
        holds_more (AllTaken i j xs) (AllTaken i k (s.more x xs)) (all_noted e i j xs)
        (λ l u. both_taken ds (placed x) (all_placed xs) k j l (Becomes e ds i k x j) (AllBecome e ds i j xs l) (AllBecome e ds i k (s.more x xs) l) then_ (λ ys zs is so. b.some is so) t u)
        (all_taken i j xs are.1))

  placed_law : (i : Option ℕ) (k j : Noted) (x : s.Stmt) (o : Answer Noted) → Holds (Taken i k x) o → o ≡ Ok j → Taken i k x j
  placed_law i k j x (Ok l) t is = let P : Noted → Type 0 = Taken i k x in let e : l ≡ j = cc in subst P e t
  placed_law i k j x (Err r) t is = absurd (cc)

pub notes_are_placed : NotesArePlaced
notes_are_placed e ds i k j x are is = placed_law e ds i k j x (noted e i k x) (taken e ds i k x are) is

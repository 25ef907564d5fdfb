-- Going through a text marks what is free in it: an induction on statements, for anything that is watched of the marks.
use Rattle.std.proofs.Common.{◌≡◌, ◌≢◌, ℕ, Bool, true, false, not, cond, ◌||◌, List, [], ◌∷◌, ◌++◌, length, Option, Some, refl, sym, ap, ◌∙◌, true≢false}
use Rattle.std.specs.Prelude.{slice_set}
use Rattle.std.specs.Str.{bytes_eq}
use Rattle.std.proofs.lemmas.Slice.Eq.{bytes_eq-Decides}
use Rattle.name_table.specs.Names.{Names as Table}
use Rattle.name_table.specs.Nesting.{meaning_in, around}
use Rattle.c_syntax.specs.Expr as e
use Rattle.c_syntax.specs.Stmt as s
use Rattle.c_syntax.specs.Contract as c
use Rattle.c_taken.specs.Addressed.{Names, addressed, option_addressed, type_addressed, outside, pred_addressed, loop_addressed}
use Rattle.c_taken.specs.declared.marks.Marks.{Marks}
use Rattle.c_taken.specs.Marking.{inside, left, declared_here, mark, marked}
use Rattle.c_taken.specs.Walks.{var_walked, vars_walked, tests_marked, walked, all_walked}
use Rattle.c_taken.specs.Free.{free_in_vars, free_in, free_in_all}
use Rattle.c_taken.specs.Laws.{VarsMeet, Meets, AllMeet}
use Rattle.c_taken.proofs.Marking.{mark_is, mark_scopes, marked_scopes, marked-append, others_mean, same_inside, around_inside, around_declared}

-- ---- scopes after a walk

-- only the innermost scope has changed
pub vars_around : (vs : List e.VarDecl) (m : Marks) → around (vars_walked vs m).scopes ≡ around m.scopes
unfolding var_walked
vars_around [] m = refl
vars_around (v ∷ vs) m =
    vars_around vs (var_walked v m) ∙ ap around (marked_scopes (option_addressed v.init) (declared_here v.name (marked (type_addressed v.ty) m)))
    ∙ around_declared v.name (marked (type_addressed v.ty) m) ∙ ap around (marked_scopes (type_addressed v.ty) m)

pub tests_scopes : (annot : c.LoopAnnot) (test next : Option e.Expr) (m : Marks) → (tests_marked annot test next m).scopes ≡ m.scopes
tests_scopes annot test next m =
    marked_scopes (option_addressed next) (marked (option_addressed test) (marked (loop_addressed annot) m)) ∙ marked_scopes (option_addressed test) (marked (loop_addressed annot) m)
    ∙ marked_scopes (loop_addressed annot) m

-- a scope that began and ended leaves the scopes as they were
pub ended : (m u : Marks) → around u.scopes ≡ around (inside m).scopes → (left u).scopes ≡ m.scopes
ended m u h = h ∙ around_inside m

mutual
  pub walked_around : (a : s.Stmt) (m : Marks) → around (walked a m).scopes ≡ around m.scopes
  walked_around (s.empty line) m = refl
  walked_around (s.expr line a) m = ap around (marked_scopes (addressed a) m)
  walked_around (s.block line body) m = ap around (ended m (all_walked body (inside m)) (all_around body (inside m)))
  walked_around (s.locals line vars) m = vars_around vars m
  walked_around (s.if_only line test a) m = walked_around a (marked (addressed test) m) ∙ ap around (marked_scopes (addressed test) m)
  walked_around (s.if_else line test a b) m =
      walked_around b (walked a (marked (addressed test) m)) ∙ walked_around a (marked (addressed test) m) ∙ ap around (marked_scopes (addressed test) m)
  walked_around (s.while_of line annot test a) m =
      walked_around a (marked (addressed test) (marked (loop_addressed annot) m)) ∙ ap around (marked_scopes (addressed test) (marked (loop_addressed annot) m) ∙ marked_scopes (loop_addressed annot) m)
  walked_around (s.do_of line annot a test) m =
      ap around (marked_scopes (addressed test) (walked a (marked (loop_addressed annot) m))) ∙ walked_around a (marked (loop_addressed annot) m) ∙ ap around (marked_scopes (loop_addressed annot) m)
  walked_around (s.for_of line annot first test next a) m =
      let w = walked first (inside m) in
      let inner : around (walked a (tests_marked annot test next w)).scopes ≡ around (inside m).scopes =
      walked_around a (tests_marked annot test next w) ∙ ap around (tests_scopes annot test next w) ∙ walked_around first (inside m) in
      ap around (ended m (walked a (tests_marked annot test next w)) inner)
  walked_around (s.switch line a body) m =
      let w = marked (addressed a) m in
      ap around (ended w (all_walked body (inside w)) (all_around body (inside w)) ∙ marked_scopes (addressed a) m)
  walked_around (s.case_of line value) m = ap around (marked_scopes (addressed value) m)
  walked_around (s.default line) m = refl
  walked_around (s.break line) m = refl
  walked_around (s.continue line) m = refl
  walked_around (s.return_of line value) m = ap around (marked_scopes (option_addressed value) m)
  walked_around (s.assert line a) m = ap around (marked_scopes (pred_addressed a) m)

  pub all_around : (body : s.Stmts) (m : Marks) → around (all_walked body m).scopes ≡ around m.scopes
  all_around s.stop m = refl
  all_around (s.more a rest) m = all_around rest (walked a m) ∙ walked_around a m

-- ---- what is watched

-- A declared name means a number whose flag isn't watched.
pub record Unwatched {V : Type 0} (at : Marks → V) (x : List ℕ) (m : Marks) : Type 0 where
  pub number : ℕ
  pub means : meaning_in (declared_here x m).scopes x ≡ Some number
  pub unseen : (u : Marks) → at (record u { taken = slice_set u.taken number true }) ≡ at u

-- Something of the marks, while something is kept: it doesn't depend on the scopes, and follows from what it was and what a marked name means.
pub record Watched {V : Type 0} (at : Marks → V) (Kept : Marks → Type 0) (P : List ℕ → Marks → Type 0) : Type 0 where
  pub alike : (m k : Marks) (x : List ℕ) → meaning_in m.scopes x ≡ meaning_in k.scopes x → at m ≡ at k → at (mark x m) ≡ at (mark x k)
  pub scoped : (m : Marks) (ss : List (Table ℕ)) → at (record m { scopes = ss }) ≡ at m
  pub same : (x : List ℕ) (m : Marks) → Kept m → at (declared_here x m) ≡ at m
  pub new : (x : List ℕ) (m : Marks) → Kept m → P x m → Unwatched at x m
  pub kept_marked : (x : List ℕ) (m : Marks) → Kept m → Kept (mark x m)
  pub kept_declared : (x : List ℕ) (m : Marks) → Kept m → Kept (declared_here x m)
  pub kept_scoped : (m : Marks) (ss : List (Table ℕ)) → Kept m → Kept (record m { scopes = ss })

module _ {V : Type 0} (at : Marks → V) (Kept : Marks → Type 0) (P : List ℕ → Marks → Type 0) (w : Watched at Kept P) where
  -- ---- names that are marked

  pub kept_all : (xs : Names) (m : Marks) → Kept m → Kept (marked xs m)
  kept_all [] m h = h
  kept_all (x ∷ xs) m h = kept_all xs (mark x m) (w.kept_marked x m h)

  pub alike_all : (xs : Names) (m k : Marks) → ((x : List ℕ) → meaning_in m.scopes x ≡ meaning_in k.scopes x) → at m ≡ at k → at (marked xs m) ≡ at (marked xs k)
  alike_all [] m k names h = h
  alike_all (x ∷ xs) m k names h =
      alike_all xs (mark x m) (mark x k) (λ y. ap (λ ss. meaning_in ss y) (mark_scopes x m) ∙ names y ∙ sym (ap (λ ss. meaning_in ss y) (mark_scopes x k))) (w.alike m k x (names x) h)

  -- a name that means the unwatched number is as if it weren't marked
  hides_all : (x : List ℕ) (n : ℕ) → ((u : Marks) → at (record u { taken = slice_set u.taken n true }) ≡ at u) → (ys : Names) (u v : Marks)
      → meaning_in u.scopes x ≡ Some n → ((y : List ℕ) → y ≢ x → meaning_in u.scopes y ≡ meaning_in v.scopes y) → at u ≡ at v
      → at (marked ys u) ≡ at (marked (outside (x ∷ []) ys) v)
  hides_all x n unseen [] u v means others h = h
  hides_all x n unseen (y ∷ ys) u v means others h = by (bytes_eq y x) refl (hides_all x n unseen ys)
    where
      here : (z : List ℕ) → meaning_in (mark y u).scopes z ≡ meaning_in u.scopes z
      here z = ap (λ ss. meaning_in ss z) (mark_scopes y u)

      hidden : y ≡ x → at (mark y u) ≡ at v
      hidden q = ap at (mark_is y u (Some n) (ap (meaning_in u.scopes) q ∙ means)) ∙ unseen u ∙ h

      by : (b : Bool) → bytes_eq y x ≡ b
          → ((u v : Marks) → meaning_in u.scopes x ≡ Some n → ((y : List ℕ) → y ≢ x → meaning_in u.scopes y ≡ meaning_in v.scopes y) → at u ≡ at v
          → at (marked ys u) ≡ at (marked (outside (x ∷ []) ys) v))
          → at (marked ys (mark y u)) ≡ at (marked (cond (not (b || false)) (y ∷ outside (x ∷ []) ys) (outside (x ∷ []) ys)) v)
      by true q rest = rest (mark y u) v (here x ∙ means) (λ z ne. here z ∙ others z ne) (hidden ((bytes_eq-Decides y x).0 q))
      by false q rest =
          let ne : y ≢ x = λ r. true≢false (sym ((bytes_eq-Decides y x).1 r) ∙ q) in
          rest (mark y u) (mark y v) (here x ∙ means) (λ z ne. here z ∙ others z ne ∙ sym (ap (λ ss. meaning_in ss z) (mark_scopes y v))) (w.alike u v y (others y ne) h)

  -- ---- declarations

  declared_free : (x : List ℕ) (ys : Names) (m : Marks) → Kept m → P x m → at (marked ys (declared_here x m)) ≡ at (marked (outside (x ∷ []) ys) m)
  declared_free x ys m kept holds =
      let new = w.new x m kept holds in
      hides_all x new.number new.unseen ys (declared_here x m) m new.means (λ y ne. others_mean m.scopes x (length m.taken) y ne) (w.same x m kept)

  kept_var : (v : e.VarDecl) (m : Marks) → Kept m → Kept (var_walked v m)
  unfolding var_walked
  kept_var v m kept =
      kept_all (option_addressed v.init) (declared_here v.name (marked (type_addressed v.ty) m)) (w.kept_declared v.name (marked (type_addressed v.ty) m) (kept_all (type_addressed v.ty) m kept))

  pub kept_vars : (vs : List e.VarDecl) (m : Marks) → Kept m → Kept (vars_walked vs m)
  kept_vars [] m kept = kept
  kept_vars (v ∷ vs) m kept = kept_vars vs (var_walked v m) (kept_var v m kept)

  var_free : (v : e.VarDecl) (rest : Names) (m : Marks) → Kept m → P v.name (marked (type_addressed v.ty) m)
      → at (marked rest (var_walked v m)) ≡ at (marked (type_addressed v.ty ++ outside (v.name ∷ []) (option_addressed v.init ++ rest)) m)
  unfolding var_walked
  var_free v rest m kept holds =
      let k = marked (type_addressed v.ty) m in
      ap at (sym (marked-append (option_addressed v.init) rest (declared_here v.name k)))
      ∙ declared_free v.name (option_addressed v.init ++ rest) k (kept_all (type_addressed v.ty) m kept) holds
      ∙ ap at (sym (marked-append (type_addressed v.ty) (outside (v.name ∷ []) (option_addressed v.init ++ rest)) m))

  pub vars_free : (vs : List e.VarDecl) (rest : Names) (m : Marks) → Kept m → VarsMeet P vs m → at (marked rest (vars_walked vs m)) ≡ at (marked (free_in_vars vs rest) m)
  vars_free [] rest m kept holds = refl
  vars_free (v ∷ vs) rest m kept holds =
      vars_free vs rest (var_walked v m) (kept_var v m kept) holds.1 ∙ var_free v (free_in_vars vs rest) m kept holds.0

  -- ---- statements

  kept_tests : (annot : c.LoopAnnot) (test next : Option e.Expr) (m : Marks) → Kept m → Kept (tests_marked annot test next m)
  kept_tests annot test next m kept =
      kept_all (option_addressed next) (marked (option_addressed test) (marked (loop_addressed annot) m))
      (kept_all (option_addressed test) (marked (loop_addressed annot) m) (kept_all (loop_addressed annot) m kept))

  kept_inside : (m : Marks) → Kept m → Kept (inside m)
  kept_inside m kept = w.kept_scoped m (inside m).scopes kept

  kept_left : (m : Marks) → Kept m → Kept (left m)
  kept_left m kept = w.kept_scoped m (around m.scopes) kept

  mutual
    pub kept_walked : (a : s.Stmt) (m : Marks) → Kept m → Kept (walked a m)
    kept_walked (s.empty line) m kept = kept
    kept_walked (s.expr line a) m kept = kept_all (addressed a) m kept
    kept_walked (s.block line body) m kept = kept_left (all_walked body (inside m)) (kept_all_walked body (inside m) (kept_inside m kept))
    kept_walked (s.locals line vars) m kept = kept_vars vars m kept
    kept_walked (s.if_only line test a) m kept = kept_walked a (marked (addressed test) m) (kept_all (addressed test) m kept)
    kept_walked (s.if_else line test a b) m kept =
        kept_walked b (walked a (marked (addressed test) m)) (kept_walked a (marked (addressed test) m) (kept_all (addressed test) m kept))
    kept_walked (s.while_of line annot test a) m kept =
        kept_walked a (marked (addressed test) (marked (loop_addressed annot) m)) (kept_all (addressed test) (marked (loop_addressed annot) m) (kept_all (loop_addressed annot) m kept))
    kept_walked (s.do_of line annot a test) m kept =
        kept_all (addressed test) (walked a (marked (loop_addressed annot) m)) (kept_walked a (marked (loop_addressed annot) m) (kept_all (loop_addressed annot) m kept))
    kept_walked (s.for_of line annot first test next a) m kept =
        let u = walked first (inside m) in
        kept_left (walked a (tests_marked annot test next u))
        (kept_walked a (tests_marked annot test next u) (kept_tests annot test next u (kept_walked first (inside m) (kept_inside m kept))))
    kept_walked (s.switch line a body) m kept =
        let u = marked (addressed a) m in
        kept_left (all_walked body (inside u)) (kept_all_walked body (inside u) (kept_inside u (kept_all (addressed a) m kept)))
    kept_walked (s.case_of line value) m kept = kept_all (addressed value) m kept
    kept_walked (s.default line) m kept = kept
    kept_walked (s.break line) m kept = kept
    kept_walked (s.continue line) m kept = kept
    kept_walked (s.return_of line value) m kept = kept_all (option_addressed value) m kept
    kept_walked (s.assert line a) m kept = kept_all (pred_addressed a) m kept

    pub kept_all_walked : (body : s.Stmts) (m : Marks) → Kept m → Kept (all_walked body m)
    kept_all_walked s.stop m kept = kept
    kept_all_walked (s.more a rest) m kept = kept_all_walked rest (walked a m) (kept_walked a m kept)

  -- what a scope marks outside of it
  pub left_free : (m u : Marks) (names rest : Names) → around u.scopes ≡ around (inside m).scopes → at u ≡ at (marked names (inside m)) → at (marked rest (left u)) ≡ at (marked (names ++ rest) m)
  left_free m u names rest scopes is =
      alike_all rest (left u) (marked names m) (λ x. ap (λ ss. meaning_in ss x) (ended m u scopes ∙ sym (marked_scopes names m)))
      (w.scoped u (around u.scopes) ∙ is ∙ alike_all names (inside m) m (same_inside m) (w.scoped m (inside m).scopes))
      ∙ ap at (sym (marked-append names rest m))

  tests_free : (annot : c.LoopAnnot) (test next : Option e.Expr) (rest : Names) (m : Marks)
      → marked rest (tests_marked annot test next m) ≡ marked (loop_addressed annot ++ (option_addressed test ++ (option_addressed next ++ rest))) m
  tests_free annot test next rest m =
      sym (marked-append (loop_addressed annot) (option_addressed test ++ (option_addressed next ++ rest)) m
      ∙ marked-append (option_addressed test) (option_addressed next ++ rest) (marked (loop_addressed annot) m)
      ∙ marked-append (option_addressed next) rest (marked (option_addressed test) (marked (loop_addressed annot) m)))

  mutual
    pub walked_free : (a : s.Stmt) (rest : Names) (m : Marks) → Kept m → Meets P a m → at (marked rest (walked a m)) ≡ at (marked (free_in a rest) m)
    walked_free (s.empty line) rest m kept holds = refl
    walked_free (s.expr line a) rest m kept holds = ap at (sym (marked-append (addressed a) rest m))
    walked_free (s.block line body) rest m kept holds =
        left_free m (all_walked body (inside m)) (free_in_all body []) rest (all_around body (inside m)) (all_free body [] (inside m) (kept_inside m kept) holds)
    walked_free (s.locals line vars) rest m kept holds = vars_free vars rest m kept holds
    walked_free (s.if_only line test a) rest m kept holds =
        walked_free a rest (marked (addressed test) m) (kept_all (addressed test) m kept) holds ∙ ap at (sym (marked-append (addressed test) (free_in a rest) m))
    walked_free (s.if_else line test a b) rest m kept holds =
        let u = marked (addressed test) m in
        let inner : Kept u = kept_all (addressed test) m kept in
        walked_free b rest (walked a u) (kept_walked a u inner) holds.1 ∙ walked_free a (free_in b rest) u inner holds.0
        ∙ ap at (sym (marked-append (addressed test) (free_in a (free_in b rest)) m))
    walked_free (s.while_of line annot test a) rest m kept holds =
        let u = marked (loop_addressed annot) m in
        walked_free a rest (marked (addressed test) u) (kept_all (addressed test) u (kept_all (loop_addressed annot) m kept)) holds
        ∙ ap at (sym (marked-append (loop_addressed annot) (addressed test ++ free_in a rest) m ∙ marked-append (addressed test) (free_in a rest) u))
    walked_free (s.do_of line annot a test) rest m kept holds =
        let u = marked (loop_addressed annot) m in
        ap at (sym (marked-append (addressed test) rest (walked a u))) ∙ walked_free a (addressed test ++ rest) u (kept_all (loop_addressed annot) m kept) holds
        ∙ ap at (sym (marked-append (loop_addressed annot) (free_in a (addressed test ++ rest)) m))
    walked_free (s.for_of line annot first test next a) rest m kept holds =
        let u = walked first (inside m) in
        let t = tests_marked annot test next u in
        let later : Names = loop_addressed annot ++ (option_addressed test ++ (option_addressed next ++ free_in a [])) in
        let inner : Kept u = kept_walked first (inside m) (kept_inside m kept) in
        let is : at (walked a t) ≡ at (marked (free_in first later) (inside m)) =
        walked_free a [] t (kept_tests annot test next u inner) holds.1 ∙ ap at (tests_free annot test next (free_in a []) u)
        ∙ walked_free first later (inside m) (kept_inside m kept) holds.0 in
        left_free m (walked a t) (free_in first later) rest (walked_around a t ∙ ap around (tests_scopes annot test next u) ∙ walked_around first (inside m)) is
    walked_free (s.switch line a body) rest m kept holds =
        let u = marked (addressed a) m in
        left_free u (all_walked body (inside u)) (free_in_all body []) rest (all_around body (inside u)) (all_free body [] (inside u) (kept_inside u (kept_all (addressed a) m kept)) holds)
        ∙ ap at (sym (marked-append (addressed a) (free_in_all body [] ++ rest) m))
    walked_free (s.case_of line value) rest m kept holds = ap at (sym (marked-append (addressed value) rest m))
    walked_free (s.default line) rest m kept holds = refl
    walked_free (s.break line) rest m kept holds = refl
    walked_free (s.continue line) rest m kept holds = refl
    walked_free (s.return_of line value) rest m kept holds = ap at (sym (marked-append (option_addressed value) rest m))
    walked_free (s.assert line a) rest m kept holds = ap at (sym (marked-append (pred_addressed a) rest m))

    pub all_free : (body : s.Stmts) (rest : Names) (m : Marks) → Kept m → AllMeet P body m → at (marked rest (all_walked body m)) ≡ at (marked (free_in_all body rest) m)
    all_free s.stop rest m kept holds = refl
    all_free (s.more a others) rest m kept holds =
        all_free others rest (walked a m) (kept_walked a m kept) holds.1 ∙ walked_free a (free_in_all others rest) m kept holds.0

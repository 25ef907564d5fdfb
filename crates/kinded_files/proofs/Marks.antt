-- Marks of names behind `&` follow what typing declares, and stay.
use Rattle.std.proofs.Common.{◌≡◌, ℕ, ℤ, zero, suc, ◌<◌, Bool, true, false, if◌then◌else◌, is_none, List, [], ◌∷◌, length, Option, Some, None, slice_get, refl, sym, ap, subst, ◌∙◌, inl, inr, arith, length-append}
use Rattle.std.proofs.Math.ListN.{set}
use Rattle.wp_base.specs.declared.kinds.Kind.{Kind}
use Rattle.c_syntax.specs.Contract.{LoopAnnot}
use Rattle.c_syntax.specs.Expr as e
use Rattle.c_syntax.specs.Stmt as spelled
use Rattle.name_table.specs.Names.{Names as Table, meaning_of, is_free, declared}
use Rattle.name_table.specs.Nesting.{meaning_in, innermost, declared_in, around, entered as entered_in}
use Rattle.c_scopes.specs.Declarations.{more_if, is_free_here}
use Rattle.c_scopes.specs.declared.symbols.Object.{Object}
use Rattle.c_scopes.specs.declared.symbols.Resolved.{Resolved}
use Rattle.c_taken.specs.Addressed.{Names, addressed, option_addressed, type_addressed, pred_addressed, loop_addressed}
use Rattle.c_taken.specs.Marking.{inside, left as left_marks, one_more, declared_here, mark_by, mark, marked}
use Rattle.c_taken.specs.Walks.{var_walked, vars_walked, head_marked, tests_marked, walked, all_walked}
use Rattle.c_taken.proofs.Marking.{mark_is, mark_scopes, marked_scopes, mark_flags, marked_flags, set_there}
use Rattle.c_variables.specs.declared.context.Context.{Context}
use Rattle.c_variables.specs.Variables.{object_with}
use Rattle.c_stmts.specs.Locals.{with_variable, count_of, initialising}
use Rattle.c_stmts.specs.Statements.{entered, left}
use Rattle.typed_unit.specs.Stmt as unit
use Rattle.c_typed_stmts.specs.Judgement as j
use Rattle.c_typed_stmts.specs.Judgement.{IsLocal, AreLocals, IsTyped, AreTyped, AreLabelled}
use Rattle.c_typed_files.specs.Functions as g
use Rattle.c_typed_files.specs.Functions.{AreParams}
use Rattle.c_addressed.specs.Addressed.{In}
use Rattle.plain_files.proofs.Names.{some_there, kept, new_means}

-- ---- what is marked at a place of a text

abbrev Domain : {A B : Type 0} → (A → B) → Type 0
Domain {A = A} f = A

abbrev pub Marks : Type 0
Marks = Domain inside

-- ---- marks stay

pub record Upto (m k : Marks) : Type 0 where
  pub flags : (n : ℕ) → slice_get m.taken n ≡ Some true → slice_get k.taken n ≡ Some true
  pub outer : (x : List ℕ) → is_free m.outer x ≡ false → is_free k.outer x ≡ false

pub upto_self : (m : Marks) → Upto m m
upto_self m = record { flags = λ n h. h; outer = λ x h. h }

pub upto_then : (a b c : Marks) → Upto a b → Upto b c → Upto a c
upto_then a b c h k = record { flags = λ n e. k.flags n (h.flags n e); outer = λ x e. k.outer x (h.outer x e) }

set_keeps : (flags : List Bool) (k n : ℕ) → slice_get flags n ≡ Some true → slice_get (set flags k true) n ≡ Some true
set_keeps [] k n h = absurd cc
set_keeps (f ∷ flags) zero zero h = refl
set_keeps (f ∷ flags) zero (suc n) h = h
set_keeps (f ∷ flags) (suc k) zero h = h
set_keeps (f ∷ flags) (suc k) (suc n) h = set_keeps flags k n h

taken_more : (ns : Table Bool) (y x : List ℕ) → is_free ns x ≡ false → is_free (declared ns y true) x ≡ false
taken_more ns y x h = let r = some_there (meaning_of ns x) h in ap is_none (kept ns y true x r.0 r.1)

taken_here : (ns : Table Bool) (x : List ℕ) → is_free (declared ns x true) x ≡ false
taken_here ns x = by (is_free ns x) refl where
  by : (b : Bool) → is_free ns x ≡ b → is_free (declared ns x true) x ≡ false
  by true h = ap is_none (new_means ns x true h)
  by false h = taken_more ns x x h

mark_by_upto : (o : Option ℕ) (x : List ℕ) (m : Marks) → Upto m (mark_by o x m)
mark_by_upto (Some k) x m = record { flags = λ n h. set_keeps m.taken k n h; outer = λ y h. h }
mark_by_upto None x m = record { flags = λ n h. h; outer = λ y h. taken_more m.outer x y h }

mark_upto : (x : List ℕ) (m : Marks) → Upto m (mark x m)
mark_upto x m = subst (Upto m) (sym (mark_is x m (meaning_in m.scopes x) refl)) (mark_by_upto (meaning_in m.scopes x) x m)

pub marked_upto : (ns : Names) (m : Marks) → Upto m (marked ns m)
marked_upto [] m = upto_self m
marked_upto (x ∷ xs) m = upto_then m (mark x m) (marked xs (mark x m)) (mark_upto x m) (marked_upto xs (mark x m))

more_keeps : (b : Bool) (flags : List Bool) (n : ℕ) → slice_get flags n ≡ Some true → slice_get (one_more b flags) n ≡ Some true
more_keeps false flags n h = h
more_keeps true [] n h = absurd cc
more_keeps true (f ∷ flags) zero h = h
more_keeps true (f ∷ flags) (suc n) h = more_keeps true flags n h

declared_upto : (x : List ℕ) (m : Marks) → Upto m (declared_here x m)
declared_upto x m = record { flags = λ n h. more_keeps (is_free (innermost m.scopes) x) m.taken n h; outer = λ y h. h }

var_upto : (v : e.VarDecl) (m : Marks) → Upto m (var_walked v m)
unfolding var_walked
var_upto v m =
    let first = marked (type_addressed v.ty) m in
    let second = declared_here v.name first in
    upto_then m first _ (marked_upto (type_addressed v.ty) m) (upto_then first second _ (declared_upto v.name first) (marked_upto (option_addressed v.init) second))

pub vars_upto : (vs : List e.VarDecl) (m : Marks) → Upto m (vars_walked vs m)
vars_upto [] m = upto_self m
vars_upto (v ∷ vs) m = upto_then m (var_walked v m) (vars_walked vs (var_walked v m)) (var_upto v m) (vars_upto vs (var_walked v m))

tests_upto : (annot : LoopAnnot) (test next : Option e.Expr) (m : Marks) → Upto m (tests_marked annot test next m)
tests_upto annot test next m =
    let first = marked (loop_addressed annot) m in
    let second = marked (option_addressed test) first in
    upto_then m first _ (marked_upto (loop_addressed annot) m) (upto_then first second _ (marked_upto (option_addressed test) first) (marked_upto (option_addressed next) second))

head_upto : (annot : LoopAnnot) (test : e.Expr) (m : Marks) → Upto m (head_marked annot test m)
head_upto annot test m =
    let first = marked (loop_addressed annot) m in upto_then m first _ (marked_upto (loop_addressed annot) m) (marked_upto (addressed test) first)

-- a scope begins and ends
in_scope : (m k : Marks) → Upto (inside m) k → Upto m (left_marks k)
in_scope m k h = record { flags = h.flags; outer = h.outer }

mutual
  pub stmt_upto : (x : spelled.Stmt) (m : Marks) → Upto m (walked x m)
  stmt_upto (spelled.empty line) m = upto_self m
  stmt_upto (spelled.expr line a) m = marked_upto (addressed a) m
  stmt_upto (spelled.block line body) m = in_scope m (all_walked body (inside m)) (stmts_upto body (inside m))
  stmt_upto (spelled.locals line vars) m = vars_upto vars m
  stmt_upto (spelled.if_only line test x) m = let k = marked (addressed test) m in upto_then m k (walked x k) (marked_upto (addressed test) m) (stmt_upto x k)
  stmt_upto (spelled.if_else line test x y) m =
      let k = marked (addressed test) m in
      upto_then m k (walked y (walked x k)) (marked_upto (addressed test) m) (upto_then k (walked x k) (walked y (walked x k)) (stmt_upto x k) (stmt_upto y (walked x k)))
  stmt_upto (spelled.while_of line annot test x) m =
      let k = head_marked annot test m in upto_then m k (walked x k) (head_upto annot test m) (stmt_upto x k)
  stmt_upto (spelled.do_of line annot x test) m =
      let k = marked (loop_addressed annot) m in
      upto_then m k _ (marked_upto (loop_addressed annot) m) (upto_then k (walked x k) _ (stmt_upto x k) (marked_upto (addressed test) (walked x k)))
  stmt_upto (spelled.for_of line annot first test next x) m =
      let a = walked first (inside m) in
      let b = tests_marked annot test next a in
      in_scope m (walked x b) (upto_then (inside m) a _ (stmt_upto first (inside m)) (upto_then a b (walked x b) (tests_upto annot test next a) (stmt_upto x b)))
  stmt_upto (spelled.switch line a body) m =
      let k = marked (addressed a) m in
      upto_then m k _ (marked_upto (addressed a) m) (in_scope k (all_walked body (inside k)) (stmts_upto body (inside k)))
  stmt_upto (spelled.case_of line a) m = marked_upto (addressed a) m
  stmt_upto (spelled.default line) m = upto_self m
  stmt_upto (spelled.break line) m = upto_self m
  stmt_upto (spelled.continue line) m = upto_self m
  stmt_upto (spelled.return_of line a) m = marked_upto (option_addressed a) m
  stmt_upto (spelled.assert line a) m = marked_upto (pred_addressed a) m

  pub stmts_upto : (xs : spelled.Stmts) (m : Marks) → Upto m (all_walked xs m)
  stmts_upto spelled.stop m = upto_self m
  stmts_upto (spelled.more x xs) m = upto_then m (walked x m) (all_walked xs (walked x m)) (stmt_upto x m) (stmts_upto xs (walked x m))

-- ---- a name that is marked

flag_there : (flags : List Bool) (n : ℕ) → n < length flags → (b : Bool) × (slice_get flags n ≡ Some b)
flag_there [] n h = absurd (omega (arith, h))
flag_there (f ∷ flags) zero h = (f, refl)
flag_there (f ∷ flags) (suc n) h = flag_there flags n (omega (arith, h))

-- the flag of a local
pub in_marked : (ns : Names) (m : Marks) (y : List ℕ) → In y ns → (k : ℕ) → meaning_in m.scopes y ≡ Some k → k < length m.taken → slice_get (marked ns m).taken k ≡ Some true
in_marked [] m y i k h below = absurd i
in_marked (x ∷ xs) m y (inl same) k h below =
    let there = flag_there m.taken k below in
    let made = mark_is x m (Some k) (ap (meaning_in m.scopes) (sym same) ∙ h) in
    (marked_upto xs (mark x m)).flags k (subst (λ (q : Marks). slice_get q.taken k ≡ Some true) (sym made) (set_there m.taken k there.0 there.1))
in_marked (x ∷ xs) m y (inr i) k h below =
    in_marked xs (mark x m) y i k (ap (λ ss. meaning_in ss y) (mark_scopes x m) ∙ h) (let same = mark_flags x m in omega (arith, same, below))

-- or the file's
pub out_marked : (ns : Names) (m : Marks) (y : List ℕ) → In y ns → meaning_in m.scopes y ≡ None → is_free (marked ns m).outer y ≡ false
out_marked [] m y i h = absurd i
out_marked (x ∷ xs) m y (inl same) h =
    let made = mark_is x m None (ap (meaning_in m.scopes) (sym same) ∙ h) in
    (marked_upto xs (mark x m)).outer y (subst (λ (q : Marks). is_free q.outer y ≡ false) (sym made) (subst (λ z. is_free (declared m.outer x true) z ≡ false) (sym same) (taken_here m.outer x)))
out_marked (x ∷ xs) m y (inr i) h = out_marked xs (mark x m) y i (ap (λ ss. meaning_in ss y) (mark_scopes x m) ∙ h)

-- ---- marks follow what is declared

-- the same scopes, and a flag for each local
pub record Follows (c : Context) (m : Marks) : Type 0 where
  pub scopes : m.scopes ≡ c.scope.local.blocks
  pub count : length m.taken ≡ count_of c

pub follows_marked : (c : Context) (ns : Names) (m : Marks) → Follows c m → Follows c (marked ns m)
follows_marked c ns m h = record { scopes = marked_scopes ns m ∙ h.scopes; count = marked_flags ns m ∙ h.count }

lengths_more : (b b' : Bool) (flags : List Bool) (os : List Object) (o : Object) → b ≡ b' → length flags ≡ length os → length (one_more b flags) ≡ length (more_if b' os o)
lengths_more true true flags os o e h = omega (arith, h, length-append flags (false ∷ []), length-append os (o ∷ []))
lengths_more true false flags os o e h = absurd cc
lengths_more false true flags os o e h = absurd cc
lengths_more false false flags os o e h = h

pub follows_declared : (c : Context) (d : e.VarDecl) (t : Resolved) (m : Marks) → Follows c m → Follows (with_variable c d t) (declared_here d.name m)
follows_declared c d t m h = record {
  scopes = ap (λ ss. declared_in ss d.name (length m.taken)) h.scopes ∙ ap (λ n. declared_in c.scope.local.blocks d.name n) h.count;
  count = lengths_more (is_free (innermost m.scopes) d.name) (is_free_here c.scope.local d.name) m.taken c.scope.local.objects (object_with d t)
      (ap (λ ss. is_free (innermost ss) d.name) h.scopes) h.count;
}

pub follows_initialising : (c : Context) (which : Option ℕ) (m : Marks) → Follows c m → Follows (initialising c which) m
follows_initialising c which m h = record { scopes = h.scopes; count = h.count }

pub follows_entered : (c : Context) (m : Marks) → Follows c m → Follows (entered c) (inside m)
follows_entered c m h = record { scopes = ap entered_in h.scopes; count = h.count }

pub follows_left : (c : Context) (m : Marks) → Follows c m → Follows (left c) (left_marks m)
follows_left c m h = record { scopes = ap around h.scopes; count = h.count }

follows_var : (c : Context) (d : e.VarDecl) (t : Resolved) (m : Marks) → Follows c m → Follows (with_variable c d t) (var_walked d m)
unfolding var_walked
follows_var c d t m h =
    follows_marked (with_variable c d t) (option_addressed d.init) (declared_here d.name (marked (type_addressed d.ty) m))
    (follows_declared c d t (marked (type_addressed d.ty) m) (follows_marked c (type_addressed d.ty) m h))

pub local_follows : {c : Context} {d : e.VarDecl} {r : unit.Declared} {b : Context} → IsLocal c d r b → (m : Marks) → Follows c m → Follows b (var_walked d m)
local_follows {c = c} {d = d} is m h =
    subst (λ k. Follows k (var_walked d m)) (sym is.declares) (follows_initialising (with_variable c d is.is) None (var_walked d m) (follows_var c d is.is m h))

pub locals_follow : {c : Context} {ds : List e.VarDecl} {rs : List unit.Declared} {b : Context} → AreLocals c ds rs b → (m : Marks) → Follows c m → Follows b (vars_walked ds m)
locals_follow (j.no_local c) m h = h
locals_follow (j.one_local c next behind d r ds rs is are) m h = locals_follow are (var_walked d m) (local_follows is m h)

pub params_follow : {c : Context} {ds : List e.VarDecl} {b : Context} → AreParams c ds b → (m : Marks) → Follows c m → Follows b (vars_walked ds m)
params_follow (g.no_param c) m h = h
params_follow (g.one_param c next b d ds is are) m h =
    params_follow are (var_walked d m) (subst (λ k. Follows k (var_walked d m)) (sym is.declares) (follows_var c d is.is m h))

pub tests_follow : (c : Context) (annot : LoopAnnot) (test step : Option e.Expr) (m : Marks) → Follows c m → Follows c (tests_marked annot test step m)
tests_follow c annot test step m h =
    let first = marked (loop_addressed annot) m in
    let second = marked (option_addressed test) first in
    follows_marked c (option_addressed step) second (follows_marked c (option_addressed test) first (follows_marked c (loop_addressed annot) m h))

mutual
  pub stmt_follows : {c : Context} {x : spelled.Stmt} {y : unit.Stmt} {b : Context} → IsTyped c x y b → (m : Marks) → Follows c m → Follows b (walked x m)
  stmt_follows (j.empty c line) m h = h
  stmt_follows (j.expr c line a v is) m h = follows_marked c (addressed a) m h
  stmt_follows (j.block c b line xs ys are) m h = follows_left b (all_walked xs (inside m)) (stmts_follow are (inside m) (follows_entered c m h))
  stmt_follows (j.locals c b line ds rs are) m h = locals_follow are m h
  stmt_follows (j.if_only c b line test v x y is so) m h = stmt_follows so (marked (addressed test) m) (follows_marked c (addressed test) m h)
  stmt_follows (j.if_else c next b line test v x x' y y' is so so') m h =
      let k = marked (addressed test) m in stmt_follows so' (walked x k) (stmt_follows so k (follows_marked c (addressed test) m h))
  stmt_follows (j.while_loop c b line annot test v x y is so) m h =
      stmt_follows so (head_marked annot test m) (follows_marked c (addressed test) (marked (loop_addressed annot) m) (follows_marked c (loop_addressed annot) m h))
  stmt_follows (j.do_loop c b line annot test v x y so is) m h =
      let k = marked (loop_addressed annot) m in follows_marked b (addressed test) (walked x k) (stmt_follows so k (follows_marked c (loop_addressed annot) m h))
  stmt_follows (j.for_loop c next b line annot first body test step y z v w so is is' so') m h =
      let a = walked first (inside m) in
      let at_next = stmt_follows so (inside m) (follows_entered c m h) in
      follows_left b (walked body (tests_marked annot test step a)) (stmt_follows so' (tests_marked annot test step a) (tests_follow next annot test step a at_next))
  stmt_follows (j.switch c b line a v xs ys is are) m h =
      let k = marked (addressed a) m in follows_left b (all_walked xs (inside k)) (labelled_follow are (inside k) (follows_entered c k (follows_marked c (addressed a) m h)))
  stmt_follows (j.break c line) m h = h
  stmt_follows (j.continue c line) m h = h
  stmt_follows (j.return_of c line a v is) m h = follows_marked c (option_addressed a) m h
  stmt_follows (j.assert c line q) m h = follows_marked c (pred_addressed q) m h

  pub stmts_follow : {c : Context} {xs : spelled.Stmts} {ys : unit.Stmts} {b : Context} → AreTyped c xs ys b → (m : Marks) → Follows c m → Follows b (all_walked xs m)
  stmts_follow (j.no_stmt c) m h = h
  stmts_follow (j.one_stmt c next b x y xs ys is are) m h = stmts_follow are (walked x m) (stmt_follows is m h)

  pub labelled_follow : {k : Option Kind} {zs : List ℤ} {c : Context} {xs : spelled.Stmts} {ys : unit.Stmts} {b : Context} → AreLabelled k zs c xs ys b → (m : Marks) → Follows c m
      → Follows b (all_walked xs m)
  labelled_follow (j.no_item k zs c) m h = h
  labelled_follow (j.label k zs c b line a z xs ys is new are) m h = labelled_follow are (marked (addressed a) m) (follows_marked c (addressed a) m h)
  labelled_follow (j.default k zs c b line xs ys are) m h = labelled_follow are m h
  labelled_follow (j.one_item k zs c next b x y xs ys is are) m h = labelled_follow are (walked x m) (stmt_follows is m h)

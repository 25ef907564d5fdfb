-- Marked are the names that are free.
use Rattle.std.proofs.Common.{◌≡◌, ◌≢◌, ℕ, ◌+◌, ◌<◌, Bool, true, false, not, ◌&&◌, ◌||◌, List, [], ◌∷◌, ◌++◌, length, Option, Some, None, slice_get, refl, sym, ap, ◌∙◌, append-nil, true≢false, arith, length-append}
use Rattle.std.specs.Prelude.{slice_set}
use Rattle.std.specs.Option.{is_none}
use Rattle.std.specs.Str.{bytes_eq}
use Rattle.std.proofs.lemmas.Slice.Eq.{bytes_eq-Decides}
use Rattle.name_table.specs.Names.{Names as Table, is_free, declared}
use Rattle.name_table.specs.Nesting.{meaning_in, innermost, around}
use Rattle.name_table.proofs.Declaring.{declares}
use Rattle.name_table.proofs.Hiding.{hides}
use Rattle.c_syntax.specs.Expr as e
use Rattle.c_syntax.specs.Stmt as s
use Rattle.c_syntax.specs.Decl as d
use Rattle.c_taken.specs.Addressed.{Names, addressed, option_addressed, type_addressed, is_among, pred_addressed, loop_addressed, contract_addressed, vars_addressed, var_addressed, logic_addressed}
use Rattle.c_taken.specs.declared.marks.Marks.{Marks}
use Rattle.c_taken.specs.Marking.{no_marks, inside, one_more, declared_here, mark_by, mark, marked}
use Rattle.c_taken.specs.Walks.{var_walked, vars_walked, tests_marked, walked, all_walked, block_of, body_by, body_walked, function_walked, decl_walked, decls_walked, taken_names}
use Rattle.c_taken.specs.Free.{free_in_vars, free_in, free_in_all, free_in_body_by, free_in_body, free_in_function, free_in_decl, free_in_decls}
use Rattle.c_taken.specs.Laws.{VarsMeet, Meets, AllMeet, IsNew, NumbersAreBelow, OuterNamesAreFree, FlagsAreFreeNames, MarksStayInScope}
use Rattle.c_taken.proofs.Marking.{mark_is, mark_scopes, marked_scopes, marked-append, mark_flags, marked_flags, declared_flags, set_other, set_there, set_alike, more_at, new_at, means_something, others_mean}
use Rattle.c_taken.proofs.Watching.{Unwatched, Watched, ended, vars_around, walked_around, all_around, tests_scopes, kept_all, kept_vars, kept_walked, alike_all, vars_free, walked_free, all_free, left_free}

-- ---- the names of the file scope, watched

abbrev outer_of : Marks → Table Bool
outer_of m = m.outer

abbrev always : Marks → Type 0
always m = Unit {0}

abbrev anything : List ℕ → Marks → Type 0
anything x m = Unit {0}

outer_alike : (o p : Option ℕ) (m k : Marks) (x : List ℕ) → o ≡ p → m.outer ≡ k.outer → (mark_by o x m).outer ≡ (mark_by p x k).outer
outer_alike (Some n) (Some j) m k x e h = h
outer_alike None None m k x e h = ap (λ t. declared t x true) h
outer_alike (Some n) None m k x e h = absurd cc
outer_alike None (Some n) m k x e h = absurd cc

outer_new : (x : List ℕ) (m : Marks) → Unwatched outer_of x m
outer_new x m = let found = means_something m.scopes x (length m.taken) in record { number = found.0; means = found.1; unseen = λ u. refl }

mark_alike : (m k : Marks) (x : List ℕ) → meaning_in m.scopes x ≡ meaning_in k.scopes x → m.outer ≡ k.outer → (mark x m).outer ≡ (mark x k).outer
unfolding mark
mark_alike m k x names h = outer_alike (meaning_in m.scopes x) (meaning_in k.scopes x) m k x names h

outer_watched : Watched outer_of always anything
outer_watched = record {
  alike = mark_alike;
  scoped = λ m ss. refl;
  same = λ x m kept. refl;
  new = λ x m kept holds. outer_new x m;
  kept_marked = λ x m kept. tt;
  kept_declared = λ x m kept. tt;
  kept_scoped = λ m ss kept. tt;
}

meets_vars : (vs : List e.VarDecl) (m : Marks) → VarsMeet anything vs m
meets_vars [] m = tt
meets_vars (v ∷ vs) m = (tt, meets_vars vs (var_walked v m))

mutual
  meets_any : (a : s.Stmt) (m : Marks) → Meets anything a m
  meets_any (s.empty line) m = tt
  meets_any (s.expr line a) m = tt
  meets_any (s.block line body) m = all_meet body (inside m)
  meets_any (s.locals line vars) m = meets_vars vars m
  meets_any (s.if_only line test a) m = meets_any a (marked (addressed test) m)
  meets_any (s.if_else line test a b) m = (meets_any a (marked (addressed test) m), meets_any b (walked a (marked (addressed test) m)))
  meets_any (s.while_of line annot test a) m = meets_any a (marked (addressed test) (marked (loop_addressed annot) m))
  meets_any (s.do_of line annot a test) m = meets_any a (marked (loop_addressed annot) m)
  meets_any (s.for_of line annot first test next a) m = (meets_any first (inside m), meets_any a (tests_marked annot test next (walked first (inside m))))
  meets_any (s.switch line a body) m = all_meet body (inside (marked (addressed a) m))
  meets_any (s.case_of line value) m = tt
  meets_any (s.default line) m = tt
  meets_any (s.break line) m = tt
  meets_any (s.continue line) m = tt
  meets_any (s.return_of line value) m = tt
  meets_any (s.assert line a) m = tt

  all_meet : (body : s.Stmts) (m : Marks) → AllMeet anything body m
  all_meet s.stop m = tt
  all_meet (s.more a rest) m = (meets_any a m, all_meet rest (walked a m))

-- ---- functions and files

block_around : (o : Option s.Stmts) (a : s.Stmt) (m : Marks) → around (body_by o a m).scopes ≡ around m.scopes
block_around None a m = walked_around a m
block_around (Some body) a m = all_around body m

body_around : (b : Option s.Stmt) (m : Marks) → around (body_walked b m).scopes ≡ around m.scopes
body_around None m = refl
body_around (Some a) m = block_around (block_of a) a m

block_free : (o : Option s.Stmts) (a : s.Stmt) (m : Marks) → (body_by o a m).outer ≡ (marked (free_in_body_by o a) m).outer
block_free None a m = walked_free outer_of always anything outer_watched a [] m tt (meets_any a m)
block_free (Some body) a m = all_free outer_of always anything outer_watched body [] m tt (all_meet body m)

body_free : (b : Option s.Stmt) (m : Marks) → (body_walked b m).outer ≡ (marked (free_in_body b) m).outer
body_free None m = refl
body_free (Some a) m = block_free (block_of a) a m

function_scopes : (f : d.Function) (m : Marks) → (function_walked f m).scopes ≡ m.scopes
unfolding function_walked
function_scopes f m =
    let k = marked (type_addressed f.result) m in
    let p = vars_walked f.params (inside k) in
    ended k (body_walked f.body (marked (contract_addressed f.contract) p))
    (body_around f.body (marked (contract_addressed f.contract) p) ∙ ap around (marked_scopes (contract_addressed f.contract) p) ∙ vars_around f.params (inside k))
    ∙ marked_scopes (type_addressed f.result) m

function_free : (f : d.Function) (m : Marks) → (function_walked f m).outer ≡ (marked (free_in_function f) m).outer
unfolding function_walked
function_free f m =
    let k = marked (type_addressed f.result) m in
    let p = vars_walked f.params (inside k) in
    let u = body_walked f.body (marked (contract_addressed f.contract) p) in
    let names : Names = contract_addressed f.contract ++ free_in_body f.body in
    let is : u.outer ≡ (marked (free_in_vars f.params names) (inside k)).outer =
    body_free f.body (marked (contract_addressed f.contract) p) ∙ ap outer_of (sym (marked-append (contract_addressed f.contract) (free_in_body f.body) p))
    ∙ vars_free outer_of always anything outer_watched f.params names (inside k) tt (meets_vars f.params (inside k)) in
    left_free outer_of always anything outer_watched k u (free_in_vars f.params names) []
    (body_around f.body (marked (contract_addressed f.contract) p) ∙ ap around (marked_scopes (contract_addressed f.contract) p) ∙ vars_around f.params (inside k)) is
    ∙ ap (λ ns. (marked ns k).outer) (append-nil (free_in_vars f.params names))
    ∙ ap outer_of (sym (marked-append (type_addressed f.result) (free_in_vars f.params names) m))

decl_scopes : (x : d.Decl) (m : Marks) → (decl_walked x m).scopes ≡ m.scopes
decl_scopes (d.struct_decl x) m = marked_scopes (vars_addressed x.fields) m
decl_scopes (d.enum_decl x) m = marked_scopes (vars_addressed x.items) m
decl_scopes (d.typedef_decl v) m = marked_scopes (var_addressed v) m
decl_scopes (d.globals vs) m = marked_scopes (vars_addressed vs) m
decl_scopes (d.function f) m = function_scopes f m
decl_scopes (d.logic_decl x) m = marked_scopes (logic_addressed x) m

decl_free : (x : d.Decl) (m : Marks) → (decl_walked x m).outer ≡ (marked (free_in_decl x) m).outer
decl_free (d.struct_decl x) m = refl
decl_free (d.enum_decl x) m = refl
decl_free (d.typedef_decl v) m = refl
decl_free (d.globals vs) m = refl
decl_free (d.function f) m = function_free f m
decl_free (d.logic_decl x) m = refl

decls_free : (xs : List d.Decl) (m : Marks) → (decls_walked xs m).outer ≡ (marked (free_in_decls xs) m).outer
decls_free [] m = refl
decls_free (x ∷ xs) m =
    decls_free xs (decl_walked x m)
    ∙ alike_all outer_of always anything outer_watched (free_in_decls xs) (decl_walked x m) (marked (free_in_decl x) m)
    (λ y. ap (λ ss. meaning_in ss y) (decl_scopes x m ∙ sym (marked_scopes (free_in_decl x) m))) (decl_free x m)
    ∙ ap outer_of (sym (marked-append (free_in_decl x) (free_in_decls xs) m))

-- ---- a table of names

free_once : (t : Table Bool) (y x : List ℕ) → is_free (declared t y true) x ≡ (is_free t x && not (bytes_eq x y))
free_once t y x = by (bytes_eq x y) refl
  where
    and_true : (b : Bool) → (b && true) ≡ b
    and_true true = refl
    and_true false = refl

    and_false : (b : Bool) → (b && false) ≡ false
    and_false true = refl
    and_false false = refl

    there : (b : Bool) → is_free t y ≡ b → is_free (declared t y true) y ≡ false
    there true h = ap is_none ((declares t y true).new h)
    there false h = ap (λ t. is_free t y) ((declares t y true).old h) ∙ h

    by : (b : Bool) → bytes_eq x y ≡ b → is_free (declared t y true) x ≡ (is_free t x && not b)
    by true q = let same : x ≡ y = (bytes_eq-Decides x y).0 q in ap (is_free (declared t y true)) same ∙ there (is_free t y) refl ∙ sym (and_false (is_free t x))
    by false q =
        let ne : x ≢ y = λ r. true≢false (sym ((bytes_eq-Decides x y).1 r) ∙ q) in
        ap is_none ((declares t y true).others x ne) ∙ sym (and_true (is_free t x))

noted : (ys : Names) (m : Marks) (x : List ℕ) → ((y : List ℕ) → meaning_in m.scopes y ≡ None) → is_free (marked ys m).outer x ≡ (is_free m.outer x && not (is_among ys x))
noted [] m x none = and_true (is_free m.outer x)
  where
    and_true : (b : Bool) → b ≡ (b && true)
    and_true true = refl
    and_true false = refl
noted (y ∷ ys) m x none =
    noted ys (mark y m) x (λ z. ap (λ ss. meaning_in ss z) (mark_scopes y m) ∙ none z)
    ∙ ap (λ b. b && not (is_among ys x)) (ap (λ t. is_free t x) (marks y m (none y)) ∙ free_once m.outer y x) ∙ both (is_free m.outer x) (bytes_eq x y) (is_among ys x)
  where
    marks : (y : List ℕ) (m : Marks) → meaning_in m.scopes y ≡ None → (mark y m).outer ≡ declared m.outer y true
    marks y m h = ap outer_of (mark_is y m None h)

    both : (a b c : Bool) → ((a && not b) && not c) ≡ (a && not (b || c))
    both true true c = refl
    both true false c = refl
    both false b c = refl

pub outer_names_are_free : OuterNamesAreFree
unfolding taken_names
outer_names_are_free decls x = ap (λ t. is_free t x) (decls_free decls no_marks) ∙ noted (free_in_decls decls) no_marks x (λ y. refl)

-- ---- one flag, watched

abbrev flag_of : ℕ → Marks → Option Bool
flag_of n m = slice_get m.taken n

abbrev within : ℕ → Marks → Type 0
within n m = n < length m.taken

flag_alike : (n : ℕ) (o p : Option ℕ) (m k : Marks) (x : List ℕ) → o ≡ p → flag_of n m ≡ flag_of n k → flag_of n (mark_by o x m) ≡ flag_of n (mark_by p x k)
flag_alike n (Some i) (Some j) m k x e h =
    let same : i ≡ j = cc in
    set_alike m.taken k.taken n i h ∙ ap (λ i. slice_get (slice_set k.taken i true) n) same
flag_alike n None None m k x e h = h
flag_alike n (Some i) None m k x e h = absurd cc
flag_alike n None (Some j) m k x e h = absurd cc

flag_mark_alike : (n : ℕ) (m k : Marks) (x : List ℕ) → meaning_in m.scopes x ≡ meaning_in k.scopes x → flag_of n m ≡ flag_of n k → flag_of n (mark x m) ≡ flag_of n (mark x k)
unfolding mark
flag_mark_alike n m k x names h = flag_alike n (meaning_in m.scopes x) (meaning_in k.scopes x) m k x names h

flag_new : (n : ℕ) (x : List ℕ) (m : Marks) → n < length m.taken → IsNew x m → Unwatched (flag_of n) x m
flag_new n x m kept free = record {
  number = length m.taken;
  means = (hides m.scopes x (length m.taken)).new free;
  unseen = λ u. set_other u.taken n (length m.taken) (λ e. omega arith);
}

flag_watched : (n : ℕ) → Watched (flag_of n) (within n) IsNew
flag_watched n = record {
  alike = flag_mark_alike n;
  scoped = λ m ss. refl;
  same = λ x m kept. more_at m.taken (is_free (innermost m.scopes) x) n kept;
  new = flag_new n;
  kept_marked = λ x m kept. omega (arith, mark_flags x m);
  kept_declared = λ x m kept. omega (arith, declared_flags x m);
  kept_scoped = λ m ss kept. kept;
}

-- ---- the flag of a local

-- a flag is set where a name is marked that means its number
flag_by : (ys : Names) (u : Marks) (x : List ℕ) (n : ℕ) (b : Bool) → meaning_in u.scopes x ≡ Some n → ((y : List ℕ) → y ≢ x → meaning_in u.scopes y ≢ Some n)
    → flag_of n u ≡ Some b → flag_of n (marked ys u) ≡ Some (b || is_among ys x)
flag_by [] u x n b means others h = h ∙ ap (λ b. Some b) (or_none b)
  where
    or_none : (b : Bool) → b ≡ (b || false)
    or_none true = refl
    or_none false = refl
flag_by (y ∷ ys) u x n b means others h = by (bytes_eq x y) refl (flag_by ys)
  where
    here : (z : List ℕ) → meaning_in (mark y u).scopes z ≡ meaning_in u.scopes z
    here z = ap (λ ss. meaning_in ss z) (mark_scopes y u)

    or_true : (b c : Bool) → (true || c) ≡ (b || (true || c))
    or_true true c = refl
    or_true false c = refl

    hit : x ≡ y → flag_of n (mark y u) ≡ Some true
    hit q = ap (flag_of n) (mark_is y u (Some n) (ap (meaning_in u.scopes) (sym q) ∙ means)) ∙ set_there u.taken n b h

    missed : (o : Option ℕ) → (o ≡ Some n → ⊥) → flag_of n (mark_by o y u) ≡ Some b
    missed None ne = h
    missed (Some k) ne = set_other u.taken n k (λ q. ne (ap (λ k. Some k) q)) ∙ h

    miss : x ≢ y → flag_of n (mark y u) ≡ Some b
    miss ne = ap (flag_of n) (mark_is y u (meaning_in u.scopes y) refl) ∙ missed (meaning_in u.scopes y) (others y (λ q. ne (sym q)))

    by : (c : Bool) → bytes_eq x y ≡ c
        → ((u : Marks) (x : List ℕ) (n : ℕ) (b : Bool) → meaning_in u.scopes x ≡ Some n → ((y : List ℕ) → y ≢ x → meaning_in u.scopes y ≢ Some n)
        → flag_of n u ≡ Some b → flag_of n (marked ys u) ≡ Some (b || is_among ys x))
        → flag_of n (marked ys (mark y u)) ≡ Some (b || (c || is_among ys x))
    by true q rest =
        rest (mark y u) x n true (here x ∙ means) (λ z ne r. others z ne (sym (here z) ∙ r)) (hit ((bytes_eq-Decides x y).0 q)) ∙ ap (λ c. Some c) (or_true b (is_among ys x))
    by false q rest = rest (mark y u) x n b (here x ∙ means) (λ z ne r. others z ne (sym (here z) ∙ r)) (miss (λ r. true≢false (sym ((bytes_eq-Decides x y).1 r) ∙ q)))

-- a local was declared
module _ (m : Marks) (x : List ℕ) (free : IsNew x m) where
  new_flags : (declared_here x m).taken ≡ m.taken ++ false ∷ []
  new_flags = ap (λ b. one_more b m.taken) free

  new_flag : flag_of (length m.taken) (declared_here x m) ≡ Some false
  new_flag = ap (λ flags. slice_get flags (length m.taken)) new_flags ∙ new_at m.taken

  new_length : length (declared_here x m).taken ≡ length m.taken + 1
  new_length = ap length new_flags ∙ length-append m.taken (false ∷ [])

var_flags : (v : e.VarDecl) (m : Marks) → IsNew v.name (marked (type_addressed v.ty) m) → length (var_walked v m).taken ≡ length m.taken + 1
unfolding var_walked
var_flags v m free =
    let k = marked (type_addressed v.ty) m in
    marked_flags (option_addressed v.init) (declared_here v.name k) ∙ new_length k v.name free ∙ ap (λ n. n + 1) (marked_flags (type_addressed v.ty) m)

-- what is marked once a local is declared, its initialiser first
local_flag : (m : Marks) (v : e.VarDecl) (names : Names) → NumbersAreBelow m → IsNew v.name (marked (type_addressed v.ty) m)
    → flag_of (length m.taken) (marked names (var_walked v m)) ≡ Some (is_among (option_addressed v.init ++ names) v.name)
unfolding var_walked
local_flag m v names below free =
    let k = marked (type_addressed v.ty) m in
    let flags : length k.taken ≡ length m.taken = marked_flags (type_addressed v.ty) m in
    let scopes : k.scopes ≡ m.scopes = marked_scopes (type_addressed v.ty) m in
    ap (flag_of (length m.taken)) (sym (marked-append (option_addressed v.init) names (declared_here v.name k)))
    ∙ flag_by (option_addressed v.init ++ names) (declared_here v.name k) v.name (length m.taken) false
    ((hides k.scopes v.name (length k.taken)).new free ∙ ap (λ n. Some n) flags)
    (λ y ne q.
    let low : length m.taken < length m.taken =
    below y (length m.taken) (sym (ap (λ ss. meaning_in ss y) scopes) ∙ sym (others_mean k.scopes v.name (length k.taken) y ne) ∙ q) in
    omega arith)
    (ap (λ n. flag_of n (declared_here v.name k)) (sym flags) ∙ new_flag k v.name free)

pub flags_are_free_names : FlagsAreFreeNames
flags_are_free_names m v vs noted body below meets meet =
    let n = length m.taken in
    let first = var_walked v m in
    let others = vars_walked vs first in
    let rest : Names = free_in_all body [] in
    let kept : within n first = omega (arith, var_flags v m meets.0) in
    let later : within n (marked noted others) =
    kept_all (flag_of n) (within n) IsNew (flag_watched n) noted others (kept_vars (flag_of n) (within n) IsNew (flag_watched n) vs first kept) in
    all_free (flag_of n) (within n) IsNew (flag_watched n) body [] (marked noted others) later meet
    ∙ ap (flag_of n) (sym (marked-append noted rest others))
    ∙ vars_free (flag_of n) (within n) IsNew (flag_watched n) vs (noted ++ rest) first kept meets.1
    ∙ local_flag m v (free_in_vars vs (noted ++ rest)) below meets.0

-- ---- numbers in scope

below_marked : (xs : Names) (m : Marks) → NumbersAreBelow m → NumbersAreBelow (marked xs m)
below_marked xs m below x n h =
    let less : n < length m.taken = below x n (sym (ap (λ ss. meaning_in ss x) (marked_scopes xs m)) ∙ h) in
    omega (arith, marked_flags xs m)

below_declared : (y : List ℕ) (m : Marks) → IsNew y m → NumbersAreBelow m → NumbersAreBelow (declared_here y m)
below_declared y m free below x n h = by (bytes_eq x y) refl
  where
    by : (b : Bool) → bytes_eq x y ≡ b → n < length (declared_here y m).taken
    by true q =
        let same : x ≡ y = (bytes_eq-Decides x y).0 q in
        let is : Some (length m.taken) ≡ Some n = sym ((hides m.scopes y (length m.taken)).new free) ∙ ap (meaning_in (declared_here y m).scopes) (sym same) ∙ h in
        let at : length m.taken ≡ n = cc in
        omega (arith, new_length m y free)
    by false q =
        let ne : x ≢ y = λ r. true≢false (sym ((bytes_eq-Decides x y).1 r) ∙ q) in
        let less : n < length m.taken = below x n (sym (others_mean m.scopes y (length m.taken) x ne) ∙ h) in
        omega (arith, new_length m y free)

below_vars : (vs : List e.VarDecl) (m : Marks) → VarsMeet IsNew vs m → NumbersAreBelow m → NumbersAreBelow (vars_walked vs m)
unfolding var_walked
below_vars [] m meets below = below
below_vars (v ∷ vs) m meets below =
    let k = marked (type_addressed v.ty) m in
    below_vars vs (var_walked v m) meets.1
    (below_marked (option_addressed v.init) (declared_here v.name k) (below_declared v.name k meets.0 (below_marked (type_addressed v.ty) m below)))

-- where the scopes are as they were
below_same : (a : s.Stmt) (m : Marks) → (walked a m).scopes ≡ m.scopes → NumbersAreBelow m → NumbersAreBelow (walked a m)
below_same a m same below x n h =
    kept_walked (flag_of n) (within n) IsNew (flag_watched n) a m (below x n (sym (ap (λ ss. meaning_in ss x) same) ∙ h))

below_walked : (a : s.Stmt) (m : Marks) → Meets IsNew a m → NumbersAreBelow m → NumbersAreBelow (walked a m)
below_walked (s.empty line) m meets below = below
below_walked (s.expr line a) m meets below = below_marked (addressed a) m below
below_walked (s.block line body) m meets below = below_same (s.block line body) m (ended m (all_walked body (inside m)) (all_around body (inside m))) below
below_walked (s.locals line vars) m meets below = below_vars vars m meets below
below_walked (s.if_only line test a) m meets below = below_walked a (marked (addressed test) m) meets (below_marked (addressed test) m below)
below_walked (s.if_else line test a b) m meets below =
    below_walked b (walked a (marked (addressed test) m)) meets.1 (below_walked a (marked (addressed test) m) meets.0 (below_marked (addressed test) m below))
below_walked (s.while_of line annot test a) m meets below =
    below_walked a (marked (addressed test) (marked (loop_addressed annot) m)) meets (below_marked (addressed test) (marked (loop_addressed annot) m) (below_marked (loop_addressed annot) m below))
below_walked (s.do_of line annot a test) m meets below =
    below_marked (addressed test) (walked a (marked (loop_addressed annot) m)) (below_walked a (marked (loop_addressed annot) m) meets (below_marked (loop_addressed annot) m below))
below_walked (s.for_of line annot first test next a) m meets below =
    let w = walked first (inside m) in
    below_same (s.for_of line annot first test next a) m
    (ended m (walked a (tests_marked annot test next w)) (walked_around a (tests_marked annot test next w) ∙ ap around (tests_scopes annot test next w) ∙ walked_around first (inside m))) below
below_walked (s.switch line a body) m meets below =
    let w = marked (addressed a) m in
    below_same (s.switch line a body) m (ended w (all_walked body (inside w)) (all_around body (inside w)) ∙ marked_scopes (addressed a) m) below
below_walked (s.case_of line value) m meets below = below_marked (addressed value) m below
below_walked (s.default line) m meets below = below
below_walked (s.break line) m meets below = below
below_walked (s.continue line) m meets below = below
below_walked (s.return_of line value) m meets below = below_marked (option_addressed value) m below
below_walked (s.assert line a) m meets below = below_marked (pred_addressed a) m below

-- ---- out of scope

-- marks of names that don't mean a number leave its flag
flag_stays : (ys : Names) (u : Marks) (n : ℕ) → ((y : List ℕ) → meaning_in u.scopes y ≢ Some n) → flag_of n (marked ys u) ≡ flag_of n u
flag_stays [] u n none = refl
flag_stays (y ∷ ys) u n none =
    flag_stays ys (mark y u) n (λ z q. none z (sym (ap (λ ss. meaning_in ss z) (mark_scopes y u)) ∙ q)) ∙ one y u none
  where
    by : (o : Option ℕ) (y : List ℕ) (u : Marks) → (o ≡ Some n → ⊥) → flag_of n (mark_by o y u) ≡ flag_of n u
    by None y u ne = refl
    by (Some k) y u ne = set_other u.taken n k (λ q. ne (ap (λ k. Some k) q))

    one : (y : List ℕ) (u : Marks) → ((y : List ℕ) → meaning_in u.scopes y ≢ Some n) → flag_of n (mark y u) ≡ flag_of n u
    one y u none = ap (flag_of n) (mark_is y u (meaning_in u.scopes y) refl) ∙ by (meaning_in u.scopes y) y u (none y)

pub marks_stay_in_scope : MarksStayInScope
marks_stay_in_scope a m = record {
  below = below_walked a m;
  stays = λ meets n kept none. walked_free (flag_of n) (within n) IsNew (flag_watched n) a [] m kept meets ∙ flag_stays (free_in a []) m n none;
}

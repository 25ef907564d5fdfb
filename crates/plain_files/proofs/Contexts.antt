-- What a typed statement declares: numbers behind those before it, and names in its own block alone.
use Rattle.std.proofs.Common.{◌≡◌, ℕ, ℤ, suc, ◌+◌, ◌<◌, ◌≤◌, Bool, true, false, List, [], ◌∷◌, map, length, Option, Some, None, refl, sym, ap, ◌∙◌, subst, arith, length-append, inl, inr}
use Rattle.std.specs.Prelude.{◌⊎◌, ◌==◌, if◌then◌else◌}
use Rattle.std.proofs.lemmas.Bool.{false≢true}
use Rattle.wp_base.specs.declared.kinds.Kind.{Kind}
use Rattle.c_syntax.specs.Expr as e
use Rattle.c_syntax.specs.Stmt as p
use Rattle.typed_prog.specs.declared.operators.Variable.TheVariants as variable
use Rattle.name_table.specs.Names.{Names, meaning_of}
use Rattle.name_table.specs.Nesting.{meaning_in, around}
use Rattle.c_scopes.specs.declared.symbols.Object.{Object}
use Rattle.c_scopes.specs.declared.symbols.Symbol.{Symbol}
use Rattle.c_scopes.specs.declared.symbols.Symbol.TheVariants as symbol
use Rattle.c_scopes.specs.declared.symbols.Resolved.{Resolved}
use Rattle.c_scopes.specs.declared.file.File.{File}
use Rattle.c_scopes.specs.Declarations.{more_if, is_free_here, local_symbol, in_block}
use Rattle.c_variables.specs.declared.context.Context.{Context}
use Rattle.c_variables.specs.Contexts.{around_of}
use Rattle.c_variables.specs.Variables.{object_with}
use Rattle.c_stmts.specs.Locals.{with_variable, count_of, initialising}
use Rattle.c_stmts.specs.Statements.{entered}
use Rattle.typed_unit.specs.Stmt as s
use Rattle.acsl_notes.specs.Notes.{Note}
use Rattle.c_typed_stmts.specs.Judgement as j
use Rattle.c_typed_stmts.specs.Judgement.{IsLocal, AreLocals, IsTyped, AreTyped, AreLabelled}
use Rattle.plain_programs.specs.Told.{number_of, declared_by, variables_in, declared_behind, placed, all_placed, behind}
use Rattle.plain_programs.proofs.Growing.{stmt_grows}
use Rattle.plain_files.specs.Blocks.{is_declaration, Nests, AllNest, NoneDeclares}
use Rattle.plain_files.proofs.Names.{around_more, around_declared, declared_in_means, entered_means}
use Rattle.plain_files.proofs.Scoping.{In, Between, no_more, one_behind}
use Rattle.plain_files.proofs.Spelling.{Finds}

-- ---- how many locals there are

one_more : (b : Bool) (os : List Object) (o : Object) → b ≡ true → length (more_if b os o) ≡ suc (length os)
one_more true os o h = omega (arith, length-append os (o ∷ []))
one_more false os o h = absurd (false≢true h)

pub count_with : (c : Context) (d : e.VarDecl) (t : Resolved) → is_free_here c.scope.local d.name ≡ true → count_of (with_variable c d t) ≡ suc (count_of c)
count_with c d t h = one_more (is_free_here c.scope.local d.name) c.scope.local.objects (object_with d t) h

pub local_count : {c : Context} {d : e.VarDecl} {r : s.Declared} {b : Context} → IsLocal c d r b → count_of b ≡ suc (count_of c)
local_count {c = c} {d = d} h = ap count_of h.declares ∙ count_with c d h.is h.new

locals_between : {c : Context} {ds : List e.VarDecl} {rs : List s.Declared} {b : Context} → AreLocals c ds rs b → Between (count_of c) (map number_of rs) (count_of b)
locals_between (j.no_local c) = omega arith
locals_between (j.one_local c next b d r ds rs h are) =
    (omega (arith, h.number), subst (λ k. Between k (map number_of rs) (count_of b)) (local_count h ∙ ap suc (sym h.number)) (locals_between are))

mutual
  -- what a statement declares in its own block, among all that is declared in it
  pub stmt_between : {c : Context} {x : p.Stmt} {y : s.Stmt} {b : Context} → IsTyped c x y b → Between (count_of c) (declared_by y) (count_of b)
  stmt_between (j.empty c line) = omega arith
  stmt_between (j.expr c line a v is) = omega arith
  stmt_between (j.block c b line xs ys are) = no_more (count_of (entered c)) (count_of b) (variables_in ys) (stmts_between are)
  stmt_between (j.locals c b line ds rs are) = locals_between are
  stmt_between (j.if_only c b line test v x y is so) = no_more (count_of c) (count_of b) (declared_by y) (stmt_between so)
  stmt_between (j.if_else c next b line test v x x' y y' is so so') =
      omega (arith, no_more (count_of c) (count_of next) (declared_by y) (stmt_between so), no_more (count_of next) (count_of b) (declared_by y') (stmt_between so'))
  stmt_between (j.while_loop c b line annot test v x y is so) = no_more (count_of c) (count_of b) (declared_by y) (stmt_between so)
  stmt_between (j.do_loop c b line annot test v x y so is) = no_more (count_of c) (count_of b) (declared_by y) (stmt_between so)
  stmt_between (j.for_loop c next b line annot first body test step y z v w so is is' so') =
      omega (arith, no_more (count_of (entered c)) (count_of next) (declared_by y) (stmt_between so), no_more (count_of next) (count_of b) (declared_by z) (stmt_between so'))
  stmt_between (j.switch c b line a v xs ys is are) = no_more (count_of (entered c)) (count_of b) (variables_in ys) (labelled_between are)
  stmt_between (j.break c line) = omega arith
  stmt_between (j.continue c line) = omega arith
  stmt_between (j.return_of c line a v is) = omega arith
  stmt_between (j.assert c line q) = omega arith

  pub stmts_between : {c : Context} {xs : p.Stmts} {ys : s.Stmts} {b : Context} → AreTyped c xs ys b → Between (count_of c) (variables_in ys) (count_of b)
  stmts_between (j.no_stmt c) = omega arith
  stmts_between (j.one_stmt c next b x y xs ys is are) = one_behind (count_of c) (count_of next) (count_of b) (declared_by y) (variables_in ys) (stmt_between is) (stmts_between are)

  pub labelled_between : {k : Option Kind} {zs : List ℤ} {c : Context} {xs : p.Stmts} {ys : s.Stmts} {b : Context} → AreLabelled k zs c xs ys b
      → Between (count_of c) (variables_in ys) (count_of b)
  labelled_between (j.no_item k zs c) = omega arith
  labelled_between (j.label k zs c b line a z xs ys is new are) = labelled_between are
  labelled_between (j.default k zs c b line xs ys are) = labelled_between are
  labelled_between (j.one_item k zs c next b x y xs ys is are) =
      one_behind (count_of c) (count_of next) (count_of b) (declared_by y) (variables_in ys) (stmt_between is) (labelled_between are)

pub stmt_more : {c : Context} {x : p.Stmt} {y : s.Stmt} {b : Context} → IsTyped c x y b → count_of c ≤ count_of b
stmt_more {c = c} {y = y} {b = b} h = no_more (count_of c) (count_of b) (declared_by y) (stmt_between h)

pub stmts_more : {c : Context} {xs : p.Stmts} {ys : s.Stmts} {b : Context} → AreTyped c xs ys b → count_of c ≤ count_of b
stmts_more {c = c} {ys = ys} {b = b} h = no_more (count_of c) (count_of b) (variables_in ys) (stmts_between h)

pub labelled_more : {k : Option Kind} {zs : List ℤ} {c : Context} {xs : p.Stmts} {ys : s.Stmts} {b : Context} → AreLabelled k zs c xs ys b → count_of c ≤ count_of b
labelled_more {c = c} {ys = ys} {b = b} h = no_more (count_of c) (count_of b) (variables_in ys) (labelled_between h)

-- ---- the same number is counted where statements are placed

locals_counted : {c : Context} {ds : List e.VarDecl} {rs : List s.Declared} {b : Context} → AreLocals c ds rs b → (n : ℕ) → n ≡ count_of c → declared_behind n rs ≡ count_of b
locals_counted (j.no_local c) n h = h
locals_counted (j.one_local c next b d r ds rs is are) n h =
    locals_counted are (r.local + 1) (let e : r.local + 1 ≡ suc r.local = omega arith in e ∙ ap suc is.number ∙ sym (local_count is))

mutual
  pub counted : {c : Context} {x : p.Stmt} {y : s.Stmt} {b : Context} → IsTyped c x y b → (ns : List Note) (n : ℕ) → n ≡ count_of c → (placed y ns n).declared ≡ count_of b
  counted (j.empty c line) ns n h = h
  counted (j.expr c line a v is) ns n h = h
  counted (j.block c b line xs ys are) ns n h = all_counted are ns n h
  counted (j.locals c b line ds rs are) ns n h = locals_counted are n h
  counted (j.if_only c b line test v x y is so) ns n h = counted so ns n h
  counted (j.if_else c next b line test v x x' y y' is so so') ns n h = counted so' (placed y ns n).notes (placed y ns n).declared (counted so ns n h)
  counted (j.while_loop c b line annot test v x y is so) ns n h = counted so (behind ns) n h
  counted (j.do_loop c b line annot test v x y so is) ns n h = counted so (behind ns) n h
  counted (j.for_loop c next b line annot first body test step y z v w so is is' so') ns n h =
      counted so' (behind (placed y ns n).notes) (placed y ns n).declared (counted so ns n h)
  counted (j.switch c b line a v xs ys is are) ns n h = labels_counted are ns n h
  counted (j.break c line) ns n h = h
  counted (j.continue c line) ns n h = h
  counted (j.return_of c line a v is) ns n h = h
  counted (j.assert c line q) ns n h = h

  pub all_counted : {c : Context} {xs : p.Stmts} {ys : s.Stmts} {b : Context} → AreTyped c xs ys b → (ns : List Note) (n : ℕ) → n ≡ count_of c → (all_placed ys ns n).declared ≡ count_of b
  all_counted (j.no_stmt c) ns n h = h
  all_counted (j.one_stmt c next b x y xs ys is are) ns n h = all_counted are (placed y ns n).notes (placed y ns n).declared (counted is ns n h)

  pub labels_counted : {k : Option Kind} {zs : List ℤ} {c : Context} {xs : p.Stmts} {ys : s.Stmts} {b : Context} → AreLabelled k zs c xs ys b → (ns : List Note) (n : ℕ) → n ≡ count_of c
      → (all_placed ys ns n).declared ≡ count_of b
  labels_counted (j.no_item k zs c) ns n h = h
  labels_counted (j.label k zs c b line a z xs ys is new are) ns n h = labels_counted are ns n h
  labels_counted (j.default k zs c b line xs ys are) ns n h = labels_counted are ns n h
  labels_counted (j.one_item k zs c next b x y xs ys is are) ns n h = labels_counted are (placed y ns n).notes (placed y ns n).declared (counted is ns n h)

-- ---- blocks

abbrev pub Blocks : Context → List (Names ℕ)
Blocks c = c.scope.local.blocks

locals_around : {c : Context} {ds : List e.VarDecl} {rs : List s.Declared} {b : Context} → AreLocals c ds rs b → around (Blocks b) ≡ around (Blocks c)
locals_around (j.no_local c) = refl
locals_around (j.one_local c next b d r ds rs h are) =
    locals_around are ∙ ap (λ (k : Context). around (Blocks k)) h.declares ∙ around_declared (Blocks c) d.name (count_of c)

mutual
  -- a statement that is no declaration leaves the names as they are
  pub stmt_blocks : {c : Context} {x : p.Stmt} {y : s.Stmt} {b : Context} → IsTyped c x y b → Nests x → is_declaration x ≡ false → Blocks b ≡ Blocks c
  stmt_blocks (j.empty c line) nests none = refl
  stmt_blocks (j.expr c line a v is) nests none = refl
  stmt_blocks (j.block c b line xs ys are) nests none = stmts_around are nests ∙ around_more (Blocks c) []
  stmt_blocks (j.locals c b line ds rs are) nests none = absurd (false≢true (sym none))
  stmt_blocks (j.if_only c b line test v x y is so) nests none = stmt_blocks so nests.1 nests.0
  stmt_blocks (j.if_else c next b line test v x x' y y' is so so') nests none = stmt_blocks so' nests.3 nests.2 ∙ stmt_blocks so nests.1 nests.0
  stmt_blocks (j.while_loop c b line annot test v x y is so) nests none = stmt_blocks so nests.1 nests.0
  stmt_blocks (j.do_loop c b line annot test v x y so is) nests none = stmt_blocks so nests.1 nests.0
  stmt_blocks (j.for_loop c next b line annot first body test step y z v w so is is' so') nests none =
      ap around (stmt_blocks so' nests.2 nests.1) ∙ stmt_around so nests.0 ∙ around_more (Blocks c) []
  stmt_blocks (j.switch c b line a v xs ys is are) nests none = ap around (labelled_blocks are nests) ∙ around_more (Blocks c) []
  stmt_blocks (j.break c line) nests none = refl
  stmt_blocks (j.continue c line) nests none = refl
  stmt_blocks (j.return_of c line a v is) nests none = refl
  stmt_blocks (j.assert c line q) nests none = refl

  -- and each one those around its block
  pub stmt_around : {c : Context} {x : p.Stmt} {y : s.Stmt} {b : Context} → IsTyped c x y b → Nests x → around (Blocks b) ≡ around (Blocks c)
  stmt_around (j.empty c line) nests = refl
  stmt_around (j.expr c line a v is) nests = refl
  stmt_around (j.block c b line xs ys are) nests = ap around (stmts_around are nests ∙ around_more (Blocks c) [])
  stmt_around (j.locals c b line ds rs are) nests = locals_around are
  stmt_around (j.if_only c b line test v x y is so) nests = stmt_around so nests.1
  stmt_around (j.if_else c next b line test v x x' y y' is so so') nests = stmt_around so' nests.3 ∙ stmt_around so nests.1
  stmt_around (j.while_loop c b line annot test v x y is so) nests = stmt_around so nests.1
  stmt_around (j.do_loop c b line annot test v x y so is) nests = stmt_around so nests.1
  stmt_around (j.for_loop c next b line annot first body test step y z v w so is is' so') nests =
      ap around (ap around (stmt_blocks so' nests.2 nests.1) ∙ stmt_around so nests.0 ∙ around_more (Blocks c) [])
  stmt_around (j.switch c b line a v xs ys is are) nests = ap around (ap around (labelled_blocks are nests) ∙ around_more (Blocks c) [])
  stmt_around (j.break c line) nests = refl
  stmt_around (j.continue c line) nests = refl
  stmt_around (j.return_of c line a v is) nests = refl
  stmt_around (j.assert c line q) nests = refl

  pub stmts_around : {c : Context} {xs : p.Stmts} {ys : s.Stmts} {b : Context} → AreTyped c xs ys b → AllNest xs → around (Blocks b) ≡ around (Blocks c)
  stmts_around (j.no_stmt c) nests = refl
  stmts_around (j.one_stmt c next b x y xs ys is are) nests = stmts_around are nests.1 ∙ stmt_around is nests.0

  pub labelled_blocks : {k : Option Kind} {zs : List ℤ} {c : Context} {xs : p.Stmts} {ys : s.Stmts} {b : Context} → AreLabelled k zs c xs ys b → NoneDeclares xs → Blocks b ≡ Blocks c
  labelled_blocks (j.no_item k zs c) nests = refl
  labelled_blocks (j.label k zs c b line a z xs ys is new are) nests = labelled_blocks are nests.2
  labelled_blocks (j.default k zs c b line xs ys are) nests = labelled_blocks are nests.2
  labelled_blocks (j.one_item k zs c next b x y xs ys is are) nests = labelled_blocks are nests.2 ∙ stmt_blocks is nests.1 nests.0

-- ---- names

-- No name of the file stands for a local.
abbrev pub NoLocals : Names Symbol → Type 0
NoLocals ns = (x : List ℕ) (n : ℕ) → meaning_of ns x ≡ Some (symbol.Object (variable.Local n)) → ⊥

-- names of locals stand for variables that are in scope, and are declared
pub record InScope (c : Context) (g : ℕ → Bool) : Type 0 where
  pub named : (x : List ℕ) (n : ℕ) → meaning_in (Blocks c) x ≡ Some n → (g n ≡ true) × (n < count_of c)
  pub of_file : NoLocals c.scope.file.names

pub scope_same : (c b : Context) (g : ℕ → Bool) → InScope c g → Blocks b ≡ Blocks c → count_of c ≤ count_of b → b.scope.file ≡ c.scope.file → InScope b g
scope_same c b g h same more file = record {
  named = λ x n e. let r = h.named x n (ap (λ bs. meaning_in bs x) (sym same) ∙ e) in (r.0, omega (arith, r.1, more));
  of_file = λ x n e. h.of_file x n (ap (λ (f : File). meaning_of f.names x) (sym file) ∙ e);
}

pub scope_entered : (c : Context) (g g' : ℕ → Bool) → InScope c g → ((z : ℕ) → g z ≡ true → g' z ≡ true) → InScope (entered c) g'
scope_entered c g g' h more = record {
  named = λ x n e. let r = h.named x n (sym (entered_means (Blocks c) x) ∙ e) in (more n r.0, r.1);
  of_file = h.of_file;
}

pub scope_with : (c : Context) (d : e.VarDecl) (t : Resolved) (g : ℕ → Bool) → InScope c g → is_free_here c.scope.local d.name ≡ true → g (count_of c) ≡ true → InScope (with_variable c d t) g
scope_with c d t g h new own = record {
  named = λ x n e. by x n (declared_in_means (Blocks c) d.name (count_of c) x n e);
  of_file = h.of_file;
} where
  by : (x : List ℕ) (n : ℕ) → (meaning_in (Blocks c) x ≡ Some n) ⊎ (count_of c ≡ n) → (g n ≡ true) × (n < count_of (with_variable c d t))
  by x n (inl e) = let r = h.named x n e in (r.0, omega (arith, r.1, count_with c d t new))
  by x n (inr e) = (ap g (sym e) ∙ own, omega (arith, e, count_with c d t new))

locals_scope : {c : Context} {ds : List e.VarDecl} {rs : List s.Declared} {b : Context} → AreLocals c ds rs b → (g : ℕ → Bool) → InScope c g → ((z : ℕ) → In z (map number_of rs) → g z ≡ true) → InScope b g
locals_scope (j.no_local c) g h own = h
locals_scope (j.one_local c next b d r ds rs is are) g h own =
    let own_here : g (count_of c) ≡ true = ap g (sym is.number) ∙ own r.local (inl refl) in
    locals_scope are g (subst (λ k. InScope k g) (sym is.declares) (to_initialising (with_variable c d is.is) g (scope_with c d is.is g h is.new own_here))) (λ z i. own z (inr i)) where
      to_initialising : (k : Context) (g : ℕ → Bool) → InScope k g → InScope (initialising k None) g
      to_initialising k g h = record { named = h.named; of_file = h.of_file }

-- what is in scope behind a statement
pub stmt_scope : {c : Context} {x : p.Stmt} {y : s.Stmt} {b : Context} → IsTyped c x y b → Nests x → (g : ℕ → Bool) → InScope c g → ((z : ℕ) → In z (declared_by y) → g z ≡ true) → InScope b g
stmt_scope (j.empty c line) nests g h own = h
stmt_scope (j.expr c line a v is) nests g h own = h
stmt_scope {b = k} (j.block c b line xs ys are) nests g h own =
    scope_same c k g h (stmt_blocks (j.block c b line xs ys are) nests refl) (stmts_more are) (stmt_grows (j.block c b line xs ys are)).file
stmt_scope (j.locals c b line ds rs are) nests g h own = locals_scope are g h own
stmt_scope {b = k} (j.if_only c b line test v x y is so) nests g h own =
    scope_same c k g h (stmt_blocks (j.if_only c b line test v x y is so) nests refl) (stmt_more so) (stmt_grows so).file
stmt_scope {b = k} (j.if_else c next b line test v x x' y y' is so so') nests g h own =
    let it = j.if_else c next b line test v x x' y y' is so so' in scope_same c k g h (stmt_blocks it nests refl) (stmt_more it) (stmt_grows it).file
stmt_scope {b = k} (j.while_loop c b line annot test v x y is so) nests g h own =
    let it = j.while_loop c b line annot test v x y is so in scope_same c k g h (stmt_blocks it nests refl) (stmt_more it) (stmt_grows it).file
stmt_scope {b = k} (j.do_loop c b line annot test v x y so is) nests g h own =
    let it = j.do_loop c b line annot test v x y so is in scope_same c k g h (stmt_blocks it nests refl) (stmt_more it) (stmt_grows it).file
stmt_scope {b = k} (j.for_loop c next b line annot first body test step y z v w so is is' so') nests g h own =
    let it = j.for_loop c next b line annot first body test step y z v w so is is' so' in scope_same c k g h (stmt_blocks it nests refl) (stmt_more it) (stmt_grows it).file
stmt_scope {b = k} (j.switch c b line a v xs ys is are) nests g h own =
    let it = j.switch c b line a v xs ys is are in scope_same c k g h (stmt_blocks it nests refl) (stmt_more it) (stmt_grows it).file
stmt_scope (j.break c line) nests g h own = h
stmt_scope (j.continue c line) nests g h own = h
stmt_scope (j.return_of c line a v is) nests g h own = h
stmt_scope (j.assert c line q) nests g h own = h

-- ---- what is found

pub finds : (c : Context) (g : ℕ → Bool) (hidden : Option ℕ) → InScope c g → Finds (around_of (initialising c hidden)) g
finds c g hidden h x n e = by (meaning_in (Blocks c) x) refl e where
  local_is : (i : Option ℕ) (k : ℕ) → local_symbol i k ≡ Some (symbol.Object (variable.Local n)) → k ≡ n
  local_is None k e = cc
  local_is (Some m) k e = on (m == k) e where
    on : (b : Bool) → (if b then None else Some (symbol.Object (variable.Local k))) ≡ Some (symbol.Object (variable.Local n)) → k ≡ n
    on true e = cc
    on false e = cc

  by : (o : Option ℕ) → meaning_in (Blocks c) x ≡ o → in_block hidden o (meaning_of c.scope.file.names x) ≡ Some (symbol.Object (variable.Local n)) → g n ≡ true
  by None is e = absurd (h.of_file x n e)
  by (Some k) is e = ap g (sym (local_is hidden k e)) ∙ (h.named x k is).0

-- The variables whose addresses are taken in a body are marked in its text.
use Rattle.std.proofs.Common.{◌≡◌, ℕ, ℤ, Bool, true, false, if◌then◌else◌, List, [], ◌∷◌, Option, Some, None, slice_get, refl, sym, ap, subst, ◌∙◌, arith}
use Rattle.std.specs.Prelude.{◌==◌}
use Rattle.wp_base.specs.declared.kinds.Kind.{Kind}
use Rattle.c_syntax.specs.Contract.{LoopAnnot}
use Rattle.c_syntax.specs.Expr as e
use Rattle.c_syntax.specs.Stmt as spelled
use Rattle.typed_prog.specs.declared.types.CoreType.{CoreType}
use Rattle.typed_prog.specs.declared.operators.Op.{Op}
use Rattle.typed_prog.specs.declared.operators.Op.TheVariants as op
use Rattle.typed_prog.specs.declared.operators.Path.{Path}
use Rattle.typed_prog.specs.declared.operators.Root.{Root}
use Rattle.typed_prog.specs.declared.operators.Root.TheVariants as root
use Rattle.typed_prog.specs.declared.operators.Step.{Step}
use Rattle.typed_prog.specs.declared.operators.Variable.{Variable}
use Rattle.typed_prog.specs.declared.operators.Variable.TheVariants as variable
use Rattle.typed_prog.specs.Tree as t
use Rattle.name_table.specs.Names.{Names as Table, meaning_of, is_free}
use Rattle.name_table.specs.Nesting.{meaning_in}
use Rattle.c_scopes.specs.declared.symbols.Symbol.{Symbol}
use Rattle.c_scopes.specs.declared.symbols.Symbol.TheVariants as symbol
use Rattle.c_scopes.specs.declared.file.File.{File}
use Rattle.c_scopes.specs.Declarations.{local_symbol, in_block}
use Rattle.c_taken.specs.Addressed.{Names, addressed, option_addressed, type_addressed, loop_addressed}
use Rattle.c_taken.specs.Marking.{inside, left as left_marks, declared_here, marked}
use Rattle.c_taken.specs.Walks.{var_walked, vars_walked, head_marked, tests_marked, walked, all_walked, block_of, body_by}
use Rattle.c_variables.specs.declared.context.Context.{Context}
use Rattle.c_variables.specs.Contexts.{around_of}
use Rattle.c_stmts.specs.Locals.{with_variable, initialising}
use Rattle.c_stmts.specs.Statements.{entered}
use Rattle.typed_unit.specs.Stmt as unit
use Rattle.c_typed_stmts.specs.Full.{IsFull, IsTest, IsAssigned, IfThere}
use Rattle.c_typed_stmts.specs.Judgement as j
use Rattle.c_typed_stmts.specs.Judgement.{IsLocal, AreLocals, IsReturned, IsTyped, AreTyped, AreLabelled}
use Rattle.c_typed_files.specs.Functions as g
use Rattle.c_typed_files.specs.Functions.{IsBody}
use Rattle.c_addressed.specs.Addressed.{OpTakes, NodeTakes, ValueTakes, AllTake, In, NamedBy, Named}
use Rattle.plain_programs.proofs.Growing.{stmt_grows}
use Rattle.plain_files.specs.Blocks.{Nests, AllNest, NoneDeclares}
use Rattle.plain_files.proofs.Contexts.{Blocks, InScope, scope_entered, scope_with, stmt_scope}
use Rattle.kinded_files.proofs.Nodes.{IfIn, InitsIn, EachIn, AllIn}
use Rattle.kinded_files.proofs.Marks.{Marks, Upto, upto_then, marked_upto, vars_upto, stmt_upto, stmts_upto, in_marked, out_marked, Follows, follows_marked, follows_declared, follows_initialising, follows_entered, local_follows, stmt_follows, tests_follow}

-- ---- bodies

-- the outermost block of a body is that of the parameters, and anything else is no block
abbrev pub Proper : {c : Context} {x : spelled.Stmt} {y : unit.Stmt} {b : Context} → IsBody c x y b → Type 0
Proper (g.block c b line xs ys are) = Unit {0}
Proper (g.other c b x y is) = block_of x ≡ None

-- ---- addresses of the same ways

module _ (N M : Path → Type 0) (f : (path : Path) → N path → M path) where
  op_map : (o : Op) → OpTakes N o → OpTakes M o
  op_map (op.Address path accessed) h = f path h
  op_map (op.Read path) h = tt
  op_map (op.Decay path accessed) h = tt
  op_map op.Negate h = tt
  op_map op.Complement h = tt
  op_map op.Not h = tt
  op_map (op.Arithmetic o) h = tt
  op_map (op.Compare how) h = tt
  op_map (op.ComparePointers how) h = tt
  op_map (op.Offset minus index_first size accessed) h = tt
  op_map (op.Difference size) h = tt
  op_map op.Convert h = tt
  op_map op.Requalify h = tt
  op_map op.Cast h = tt

  mutual
    pub takes_map : (v : t.Value) → ValueTakes N v → ValueTakes M v
    takes_map (t.typed node type line) h = node_map node h

    node_map : (node : t.ValueNode) → NodeTakes N node → NodeTakes M node
    node_map (t.constant z) h = tt
    node_map t.null h = tt
    node_map (t.temporary n) h = tt
    node_map (t.apply o es) h = (op_map o h.0, all_map es h.1)
    node_map (t.logic how a b) h = (takes_map a h.0, takes_map b h.1)
    node_map (t.choose test a b) h = (takes_map test h.0, takes_map a h.1, takes_map b h.2)
    node_map (t.effect does es) h = all_map es h

    all_map : (es : t.Values) → AllTake N es → AllTake M es
    all_map t.stop h = tt
    all_map (t.more v vs) h = (takes_map v h.0, all_map vs h.1)

-- ---- marked variables

abbrev pub everywhere : ℕ → Bool
everywhere x = true

-- what stands at a place of the text
pub record At (names : Table Symbol) (c : Context) (m : Marks) : Type 0 where
  pub follows : Follows c m
  pub scope : InScope c everywhere
  pub named : c.scope.file.names ≡ names

module _ (names : Table Symbol) (last : Marks) where
  -- a whole variable is marked: a local by its flag, one of the file by its name
  abbrev pub MarkedBy : Root → List Step → Type 0
  MarkedBy (root.Variable (variable.Local n)) [] = slice_get last.taken n ≡ Some true
  MarkedBy (root.Variable (variable.Global n)) [] = (y : List ℕ) × (meaning_of names y ≡ Some (symbol.Object (variable.Global n))) × (is_free last.outer y ≡ false)
  MarkedBy (root.Variable (variable.Local n)) (s ∷ ss) = Unit {0}
  MarkedBy (root.Variable (variable.Global n)) (s ∷ ss) = Unit {0}
  MarkedBy (root.Pointed n) ss = Unit {0}

  abbrev pub IsMarked : Path → Type 0
  IsMarked path = MarkedBy path.root path.steps

  abbrev pub AreMarked : t.Value → Type 0
  AreMarked v = ValueTakes IsMarked v

  abbrev Here : Context → Marks → Type 0
  Here c m = At names c m

  -- ---- one expression

  module _ (c : Context) (m : Marks) (here : Here c m) (ns : Names) (far : Upto (marked ns m) last) where
    local_marked : (y : List ℕ) → In y ns → (k : ℕ) → meaning_in (Blocks c) y ≡ Some k → MarkedBy (root.Variable (variable.Local k)) []
    local_marked y i k means =
        let below = (here.scope.named y k means).1 in
        let count = here.follows.count in
        far.flags k (in_marked ns m y i k (ap (λ ss. meaning_in ss y) here.follows.scopes ∙ means) (omega (arith, below, count)))

    local_is : (which : Option ℕ) (k : ℕ) (x : Variable) → local_symbol which k ≡ Some (symbol.Object x) → variable.Local k ≡ x
    local_is None k x h = cc
    local_is (Some n) k x h = on (n == k) h where
      on : (b : Bool) → (if b then None else Some (symbol.Object (variable.Local k))) ≡ Some (symbol.Object x) → variable.Local k ≡ x
      on true h = absurd cc
      on false h = cc

    of_file : (y : List ℕ) → In y ns → meaning_in (Blocks c) y ≡ None → (x : Variable) → meaning_of c.scope.file.names y ≡ Some (symbol.Object x) → MarkedBy (root.Variable x) []
    of_file y i none (variable.Local n) h = absurd (here.scope.of_file y n h)
    of_file y i none (variable.Global n) h =
        (y, ap (λ ns. meaning_of ns y) (sym here.named) ∙ h, far.outer y (out_marked ns m y i (ap (λ ss. meaning_in ss y) here.follows.scopes ∙ none)))

    found_marked : (y : List ℕ) → In y ns → (o : Option ℕ) → meaning_in (Blocks c) y ≡ o → (x : Variable) → in_block c.scope.local.initialising o (meaning_of c.scope.file.names y) ≡ Some (symbol.Object x)
        → MarkedBy (root.Variable x) []
    found_marked y i None none x h = of_file y i none x h
    found_marked y i (Some k) means x h = subst (λ z. MarkedBy (root.Variable z) []) (local_is c.scope.local.initialising k x h) (local_marked y i k means)

    by : (r : Root) (ss : List Step) → NamedBy (around_of c) (λ y. In y ns) r ss → MarkedBy r ss
    by (root.Variable x) [] h = found_marked h.0 h.2 (meaning_in (Blocks c) h.0) refl x h.1
    by (root.Variable (variable.Local n)) (s ∷ ss) h = tt
    by (root.Variable (variable.Global n)) (s ∷ ss) h = tt
    by (root.Pointed n) ss h = tt

  full_marked : (c : Context) (m : Marks) → Here c m → (a : e.Expr) (v : t.Value) → IsFull c a v → Upto (marked (addressed a) m) last → AreMarked v
  full_marked c m here a v full far =
      takes_map (λ path. Named (around_of c) (λ y. In y (addressed a)) path) IsMarked (λ path h. by c m here (addressed a) far path.root path.steps h) v full.addresses

  test_marked : (c : Context) (m : Marks) → Here c m → (a : Option e.Expr) (v : Option t.Value) → IfThere (IsTest c) a v → Upto (marked (option_addressed a) m) last → IfIn AreMarked v
  test_marked c m here None None is far = tt
  test_marked c m here (Some a) (Some v) is far = full_marked c m here a v is.full far
  test_marked c m here None (Some v) is far = elim is [ ]
  test_marked c m here (Some a) None is far = elim is [ ]

  step_marked : (c : Context) (m : Marks) → Here c m → (a : Option e.Expr) (v : Option t.Value) → IfThere (IsFull c) a v → Upto (marked (option_addressed a) m) last → IfIn AreMarked v
  step_marked c m here None None is far = tt
  step_marked c m here (Some a) (Some v) is far = full_marked c m here a v is far
  step_marked c m here None (Some v) is far = elim is [ ]
  step_marked c m here (Some a) None is far = elim is [ ]

  returned_marked : (c : Context) (m : Marks) → Here c m → {a : Option e.Expr} {v : Option t.Value} → IsReturned c a v → Upto (marked (option_addressed a) m) last → IfIn AreMarked v
  returned_marked c m here (j.without void) far = tt
  returned_marked c m here (j.with_value a v not_void is) far = full_marked c m here a v is.full far

  -- ---- places of the text

  at_marked : (c : Context) (ns : Names) (m : Marks) → Here c m → Here c (marked ns m)
  at_marked c ns m h = record { follows = follows_marked c ns m h.follows; scope = h.scope; named = h.named }

  at_entered : (c : Context) (m : Marks) → Here c m → Here (entered c) (inside m)
  at_entered c m h = record { follows = follows_entered c m h.follows; scope = scope_entered c everywhere everywhere h.scope (λ z k. k); named = h.named }

  at_stmt : {c : Context} {x : spelled.Stmt} {y : unit.Stmt} {b : Context} → IsTyped c x y b → Nests x → (m : Marks) → Here c m → Here b (walked x m)
  at_stmt is nests m h = record {
    follows = stmt_follows is m h.follows;
    scope = stmt_scope is nests everywhere h.scope (λ z i. refl);
    named = ap (λ (f : File). f.names) (stmt_grows is).file ∙ h.named;
  }

  at_tests : (c : Context) (annot : LoopAnnot) (test step : Option e.Expr) (m : Marks) → Here c m → Here c (tests_marked annot test step m)
  at_tests c annot test step m h = record { follows = tests_follow c annot test step m h.follows; scope = h.scope; named = h.named }

  at_head : (c : Context) (annot : LoopAnnot) (test : e.Expr) (m : Marks) → Here c m → Here c (head_marked annot test m)
  at_head c annot test m h = at_marked c (addressed test) (marked (loop_addressed annot) m) (at_marked c (loop_addressed annot) m h)

  -- a scope that ended keeps its marks
  still : (m : Marks) → Upto (left_marks m) last → Upto m last
  still m h = record { flags = h.flags; outer = h.outer }

  -- ---- declarations

  variable_at : (c : Context) (d : e.VarDecl) (b : Context) (r : unit.Declared) (h : IsLocal c d r b) (m : Marks) → Here c m
      → Here (initialising (with_variable c d h.is) (Some r.local)) (declared_here d.name (marked (type_addressed d.ty) m))
  variable_at c d b r h m here =
      let k = marked (type_addressed d.ty) m in
      let within = scope_with c d h.is everywhere here.scope h.new refl in
      record {
        follows = follows_initialising (with_variable c d h.is) (Some r.local) (declared_here d.name k) (follows_declared c d h.is k (follows_marked c (type_addressed d.ty) m here.follows));
        scope = record { named = within.named; of_file = within.of_file };
        named = here.named;
      }

  initial_marked : (c : Context) (type : CoreType) (m : Marks) → Here c m → (a : Option e.Expr) (v : Option t.Value) → IfThere (IsAssigned c type) a v
      → Upto (marked (option_addressed a) m) last → IfIn AreMarked v
  initial_marked c type m here None None is far = tt
  initial_marked c type m here (Some a) (Some v) is far = full_marked c m here a v is.full far
  initial_marked c type m here None (Some v) is far = elim is [ ]
  initial_marked c type m here (Some a) None is far = elim is [ ]

  local_marked_is : (c : Context) (d : e.VarDecl) (b : Context) (r : unit.Declared) → IsLocal c d r b → (m : Marks) → Here c m → Upto (var_walked d m) last → IfIn AreMarked r.init
  unfolding var_walked
  local_marked_is c d b r h m here far =
      initial_marked (initialising (with_variable c d h.is) (Some r.local)) h.is.ty (declared_here d.name (marked (type_addressed d.ty) m)) (variable_at c d b r h m here) d.init r.init h.init far

  local_at : (c : Context) (d : e.VarDecl) (b : Context) (r : unit.Declared) → IsLocal c d r b → (m : Marks) → Here c m → Here b (var_walked d m)
  local_at c d b r h m here =
      let within = scope_with c d h.is everywhere here.scope h.new refl in
      record {
        follows = local_follows h m here.follows;
        scope = subst (λ k. InScope k everywhere) (sym h.declares) (record { named = within.named; of_file = within.of_file });
        named = ap (λ (k : Context). k.scope.file.names) h.declares ∙ here.named;
      }

  locals_marked : {c : Context} {ds : List e.VarDecl} {rs : List unit.Declared} {b : Context} → AreLocals c ds rs b → (m : Marks) → Here c m → Upto (vars_walked ds m) last → InitsIn AreMarked rs
  locals_marked (j.no_local c) m here far = tt
  locals_marked (j.one_local c next b d r ds rs is are) m here far =
      let k = var_walked d m in
      (local_marked_is c d next r is m here (upto_then k (vars_walked ds k) last (vars_upto ds k) far), locals_marked are k (local_at c d next r is m here) far)

  -- ---- statements

  mutual
    stmt_marked : {c : Context} {x : spelled.Stmt} {y : unit.Stmt} {b : Context} → IsTyped c x y b → Nests x → (m : Marks) → Here c m → Upto (walked x m) last → EachIn AreMarked y
    stmt_marked (j.empty c line) nests m here far = tt
    stmt_marked (j.expr c line a v is) nests m here far = full_marked c m here a v is far
    stmt_marked (j.block c b line xs ys are) nests m here far = stmts_marked are nests (inside m) (at_entered c m here) (still (all_walked xs (inside m)) far)
    stmt_marked (j.locals c b line ds rs are) nests m here far = locals_marked are m here far
    stmt_marked (j.if_only c b line test v x y is so) nests m here far =
        let k = marked (addressed test) m in
        (full_marked c m here test v is.full (upto_then k (walked x k) last (stmt_upto x k) far), stmt_marked so nests.1 k (at_marked c (addressed test) m here) far, tt)
    stmt_marked (j.if_else c next b line test v x x' y y' is so so') nests m here far =
        let k = marked (addressed test) m in
        let l = walked x k in
        let later = upto_then l (walked x' l) last (stmt_upto x' l) far in
        let at_test = at_marked c (addressed test) m here in
        (full_marked c m here test v is.full (upto_then k l last (stmt_upto x k) later), stmt_marked so nests.1 k at_test later, stmt_marked so' nests.3 l (at_stmt so nests.1 k at_test) far)
    stmt_marked (j.while_loop c b line annot test v x y is so) nests m here far =
        let k = head_marked annot test m in
        let first = marked (loop_addressed annot) m in (
          full_marked c first (at_marked c (loop_addressed annot) m here) test v is.full (upto_then k (walked x k) last (stmt_upto x k) far),
          tt,
          tt,
          stmt_marked so nests.1 k (at_head c annot test m here) far,
        )
    stmt_marked (j.do_loop c b line annot test v x y so is) nests m here far =
        let k = marked (loop_addressed annot) m in
        let l = walked x k in
        let at_body = at_marked c (loop_addressed annot) m here in (
          tt,
          tt,
          full_marked b l (at_stmt so nests.1 k at_body) test v is.full far,
          stmt_marked so nests.1 k at_body (upto_then l (marked (addressed test) l) last (marked_upto (addressed test) l) far),
        )
    stmt_marked (j.for_loop c next b line annot first body test step y z v w so is is' so') nests m here far =
        let a = walked first (inside m) in
        let p = marked (loop_addressed annot) a in
        let q = marked (option_addressed test) p in
        let r = marked (option_addressed step) q in
        let inner = at_entered c m here in
        let at_next = at_stmt so nests.0 (inside m) inner in
        let at_p = at_marked next (loop_addressed annot) a at_next in
        let at_q = at_marked next (option_addressed test) p at_p in
        let from_r = upto_then r (walked body r) last (stmt_upto body r) (still (walked body r) far) in
        let from_q = upto_then q r last (marked_upto (option_addressed step) q) from_r in
        let from_p = upto_then p q last (marked_upto (option_addressed test) p) from_q in
        let from_a = upto_then a p last (marked_upto (loop_addressed annot) a) from_p in (
          stmt_marked so nests.0 (inside m) inner from_a,
          (
            (
              test_marked next p at_p test v is from_q,
              step_marked next q at_q step w is' from_r,
              tt,
              stmt_marked so' nests.2 r (at_marked next (option_addressed step) q at_q) (still (walked body r) far),
            ),
            tt,
          ),
        )
    stmt_marked (j.switch c b line a v xs ys is are) nests m here far =
        let k = marked (addressed a) m in
        let l = all_walked xs (inside k) in
        let later = still l far in (
          full_marked c m here a v is.full (record { flags = λ n h. later.flags n ((stmts_upto xs (inside k)).flags n h); outer = λ y h. later.outer y ((stmts_upto xs (inside k)).outer y h) }),
          labelled_marked are nests (inside k) (at_entered c k (at_marked c (addressed a) m here)) later,
        )
    stmt_marked (j.break c line) nests m here far = tt
    stmt_marked (j.continue c line) nests m here far = tt
    stmt_marked (j.return_of c line a v is) nests m here far = returned_marked c m here is far
    stmt_marked (j.assert c line q) nests m here far = tt

    stmts_marked : {c : Context} {xs : spelled.Stmts} {ys : unit.Stmts} {b : Context} → AreTyped c xs ys b → AllNest xs → (m : Marks) → Here c m → Upto (all_walked xs m) last → AllIn AreMarked ys
    stmts_marked (j.no_stmt c) nests m here far = tt
    stmts_marked (j.one_stmt c next b x y xs ys is are) nests m here far =
        let k = walked x m in
        (stmt_marked is nests.0 m here (upto_then k (all_walked xs k) last (stmts_upto xs k) far), stmts_marked are nests.1 k (at_stmt is nests.0 m here) far)

    labelled_marked : {k : Option Kind} {zs : List ℤ} {c : Context} {xs : spelled.Stmts} {ys : unit.Stmts} {b : Context} → AreLabelled k zs c xs ys b → NoneDeclares xs → (m : Marks) → Here c m
        → Upto (all_walked xs m) last → AllIn AreMarked ys
    labelled_marked (j.no_item k zs c) nests m here far = tt
    labelled_marked (j.label k zs c b line a z xs ys is new are) nests m here far = (tt, labelled_marked are nests.2 (marked (addressed a) m) (at_marked c (addressed a) m here) far)
    labelled_marked (j.default k zs c b line xs ys are) nests m here far = (tt, labelled_marked are nests.2 m here far)
    labelled_marked (j.one_item k zs c next b x y xs ys is are) nests m here far =
        let l = walked x m in
        (stmt_marked is nests.1 m here (upto_then l (all_walked xs l) last (stmts_upto xs l) far), labelled_marked are nests.2 l (at_stmt is nests.1 m here) far)

  -- ---- bodies

  pub body_marked : {c : Context} {x : spelled.Stmt} {y : unit.Stmt} {b : Context} → (is : IsBody c x y b) → Proper is → Nests x → (m : Marks) → Here c m → Upto (body_by (block_of x) x m) last
      → EachIn AreMarked y
  body_marked (g.block c b line xs ys are) proper nests m here far = stmts_marked are nests m here far
  body_marked (g.other c b x y is) proper nests m here far = stmt_marked is nests m here (subst (λ o. Upto (body_by o x m) last) proper far)

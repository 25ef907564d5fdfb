-- Typed statements without pointers are, in the program, statements over plain integers.
use Rattle.std.proofs.Common.{◌≡◌, ℕ, ℤ, Bool, true, false, not, ◌&&◌, ◌||◌, if◌then◌else◌, List, [], ◌∷◌, length, Option, Some, None, slice_get, refl, sym, ap, ◌∙◌, subst}
use Rattle.std.specs.Prelude.{nat_le, nat_lt}
use Rattle.std.specs.List.{list_all}
use Rattle.std.proofs.lemmas.Bool.{false≢true, and_parts, leb-true, ltb-true}
use Rattle.wp_base.specs.declared.kinds.Kind.{Kind}
use Rattle.c_kinds.specs.declared.models.Machdep.{Machdep}
use Rattle.c_syntax.specs.Expr as e
use Rattle.c_syntax.specs.Stmt as p
use Rattle.typed_prog.specs.declared.types.CoreType.{CoreType}
use Rattle.typed_prog.specs.Types.{kind_of as type_kind, is_void}
use Rattle.typed_prog.specs.Tree as t
use Rattle.c_scopes.specs.Declarations.{more_if}
use Rattle.c_variables.specs.declared.context.Context.{Context}
use Rattle.c_variables.specs.Contexts.{around_of, plain_in}
use Rattle.c_variables.specs.Variables.{object_with}
use Rattle.c_stmts.specs.Locals.{with_variable, initialising}
use Rattle.c_stmts.specs.Statements.{entered, left, turns_with}
use Rattle.typed_unit.specs.Stmt as s
use Rattle.c_typed_stmts.specs.Full.{IsFull, IsTest, IsAssigned, IfThere}
use Rattle.c_typed_stmts.specs.Judgement as j
use Rattle.c_typed_stmts.specs.Judgement.{IsLocal, AreLocals, IsReturned, IsTyped, AreTyped, AreLabelled}
use Rattle.acsl_notes.specs.Notes.{Note}
use Rattle.c_runs.specs.Program.{Loop, Stmt, block, choose, loop, return_of, Stmts, stop, more}
use Rattle.c_runs.specs.Objects.{cell_of}
use Rattle.c_programs.specs.Bodies.{one, then_, whole, initials, initial_of, variables_in, clauses_at, placed, all_placed, behind}
use Rattle.c_programs.specs.Clauses.{loop_with}
use Rattle.c_programs.specs.Files.{result_of}
use Rattle.plain_runs.specs.Fitting.{with_name, with_names}
use Rattle.plain_normal.specs.Plain.{LabelsFit, IsWanted, IfWanted, up_to, AreNew, StmtIsPlain, StmtsArePlain}
use Rattle.plain_normal.proofs.Making.{Place}
use Rattle.plain_test.specs.Plain.{is_number_of, label_fits, labels_fit, is_integer_type, is_value_type, is_plain_node, is_plain_value, if_plain, is_plain_declared, is_plain_stmt, are_plain_stmts}
use Rattle.plain_programs.specs.Values.{stands, Meets}
use Rattle.plain_programs.specs.Files.{IsTypedBody, of_block, of_other}
use Rattle.plain_programs.specs.Standing.{are_new, if_stands, stmt_stands, stmts_stand, TypedStatementsArePlain}
use Rattle.plain_programs.proofs.Sequenced.{sequenced_are_single}
use Rattle.plain_programs.proofs.TypedValues.{number_holds, integer_is, value_is}
use Rattle.plain_programs.proofs.Growing.{Grows, last_one, stmt_grows, stmts_grow, labelled_grow, locals_grow, meets_before}

-- ---- tests

not_true : (b : Bool) → not b ≡ true → b ≡ false
not_true true h = absurd (false≢true h)
not_true false h = refl

both : (a b : Bool) → a ≡ true → b ≡ true → (a && b) ≡ true
both true b h k = k
both false b h k = h

pub on_flag : (b : Bool) (P : Type 0) → (b ≡ true → P) → (b ≡ false → P) → P
on_flag true P f g = f refl
on_flag false P f g = g refl

value_integer : (m : Machdep) (v : t.Value) → is_plain_value m v ≡ true → is_void (t.type_of v) ≡ false → is_integer_type (t.type_of v) ≡ true
value_integer m (t.typed node type l) h void = by (is_integer_type type) (and_parts (is_value_type type) (is_plain_node m type node) h).0 where
  by : (b : Bool) → (b || is_void type) ≡ true → b ≡ true
  by true e = refl
  by false e = absurd (false≢true (sym void ∙ e))

-- ---- lists of statements

module _ (q : Place) where
  abbrev Count : ℕ
  Count = length q.variables

  abbrev PlainAll : (f g : ℕ → Bool) (low : ℕ) → Stmts → Type 0
  PlainAll f g low ss = StmtsArePlain q.facts q.variables q.functions q.result f g low ss

  abbrev PlainOne : (f g : ℕ → Bool) (low : ℕ) → Stmt → Type 0
  PlainOne f g low s = StmtIsPlain q.facts q.variables q.functions q.result f g low s

  abbrev AllStand : (f g : ℕ → Bool) (low : ℕ) → Stmts → Type 0
  AllStand f g low ss = stmts_stand Count f g low ss ≡ true

  then_plain : (f g : ℕ → Bool) (low : ℕ) (xs ys : Stmts) → PlainAll f g low xs → PlainAll f g low ys → PlainAll f g low (then_ xs ys)
  then_plain f g low stop ys h k = k
  then_plain f g low (more x xs) ys h k = (h.0, then_plain f g low xs ys h.1 k)

  then_stand : (f g : ℕ → Bool) (low : ℕ) (xs ys : Stmts) → AllStand f g low (then_ xs ys) → AllStand f g low xs × AllStand f g low ys
  then_stand f g low stop ys h = (refl, h)
  then_stand f g low (more x xs) ys h =
      let parts = and_parts (stmt_stands Count f g low x) (stmts_stand Count f g low (then_ xs ys)) h in
      let rest = then_stand f g low xs ys parts.1 in
      (both (stmt_stands Count f g low x) (stmts_stand Count f g low xs) parts.0 rest.0, rest.1)

  whole_plain : (f g : ℕ → Bool) (low : ℕ) (xs : Stmts) → PlainAll f g low xs → PlainOne f g low (whole xs)
  whole_plain f g low stop h = (tt, tt)
  whole_plain f g low (more x stop) h = h.0
  whole_plain f g low (more x (more y ys)) h = (tt, h)

  whole_stands : (f g : ℕ → Bool) (low : ℕ) (xs : Stmts) → stmt_stands Count f g low (whole xs) ≡ true → AllStand f g low xs
  whole_stands f g low stop h = refl
  whole_stands f g low (more x stop) h = both (stmt_stands Count f g low x) true h refl
  whole_stands f g low (more x (more y ys)) h = h

  -- ---- scopes

  new_are : (f : ℕ → Bool) (low : ℕ) (ys : List ℕ) → are_new Count f low ys ≡ true → AreNew q.facts q.variables q.functions f low ys
  new_are f low [] h = tt
  new_are f low (y ∷ ys) h =
      let first = and_parts (not (f y)) (nat_le low y && (nat_lt y Count && are_new Count (with_name y f) low ys)) h in
      let second = and_parts (nat_le low y) (nat_lt y Count && are_new Count (with_name y f) low ys) first.1 in
      let third = and_parts (nat_lt y Count) (are_new Count (with_name y f) low ys) second.1 in
      (not_true (f y) first.0, leb-true low y second.0, ltb-true y Count third.0, new_are (with_name y f) low ys third.1)

  -- ---- expressions

  -- what is declared there is in the program
  pub record Known (c : Context) : Type 0 where
    pub meets : Meets (around_of c) q.facts q.variables q.functions
    pub result : q.result ≡ result_of c.result

  pub known_before : (c b : Context) → Grows c b → Known b → Known c
  known_before c b h k = record { meets = meets_before c b h q.facts q.variables q.functions k.meets; result = k.result ∙ ap result_of h.result }

  abbrev Wanted : (ℕ → Bool) → t.Value → Type 0
  Wanted f v = IsWanted q.facts q.variables q.functions f v

  wanted : (c : Context) → Known c → (f : ℕ → Bool) (a : e.Expr) (v : t.Value) → IsFull c a v → is_plain_value q.facts.model v ≡ true → stands f v ≡ true → Wanted f v
  wanted c k f a v full plain so = (value_is q (around_of c) k.meets f v full.fits plain so, sequenced_are_single (plain_in c) v full.in_order)

  if_wanted : (c : Context) → Known c → (f : ℕ → Bool) (a : Option e.Expr) (v : Option t.Value) → IfThere (IsTest c) a v → if_plain q.facts.model v ≡ true → if_stands Count f v ≡ true
      → IfWanted q.facts q.variables q.functions f v
  if_wanted c k f None None is plain so = tt
  if_wanted c k f (Some a) (Some v) is plain so = wanted c k f a v is.full plain so
  if_wanted c k f None (Some v) is plain so = elim is [ ]
  if_wanted c k f (Some a) None is plain so = elim is [ ]

  if_done : (c : Context) → Known c → (f : ℕ → Bool) (a : Option e.Expr) (v : Option t.Value) → IfThere (IsFull c) a v → if_plain q.facts.model v ≡ true → if_stands Count f v ≡ true
      → IfWanted q.facts q.variables q.functions f v
  if_done c k f None None is plain so = tt
  if_done c k f (Some a) (Some v) is plain so = wanted c k f a v is plain so
  if_done c k f None (Some v) is plain so = elim is [ ]
  if_done c k f (Some a) None is plain so = elim is [ ]

  -- ---- declarations

  new_object : (c : Context) (d : e.VarDecl) (b : Context) (r : s.Declared) (h : IsLocal c d r b) → slice_get (with_variable c d h.is).scope.local.objects r.local ≡ Some (object_with d h.is)
  new_object c d b r h =
      ap (slice_get (with_variable c d h.is).scope.local.objects) h.number
      ∙ ap (λ z. slice_get (more_if z c.scope.local.objects (object_with d h.is)) (length c.scope.local.objects)) h.new ∙ last_one c.scope.local.objects (object_with d h.is)

  initial_plain : (c : Context) (d : e.VarDecl) (b : Context) (r : s.Declared) (h : IsLocal c d r b) → Known (with_variable c d h.is) → (f g : ℕ → Bool) (low : ℕ) (a : Option e.Expr) (v : Option t.Value)
      → IfThere (IsAssigned (initialising (with_variable c d h.is) (Some r.local)) h.is.ty) a v → if_plain q.facts.model v ≡ true → AllStand f g low (initial_of r.local r.line v) → PlainAll f g low (initial_of r.local r.line v)
  initial_plain c d b r h k f g low None None is plain so = tt
  initial_plain c d b r h k f g low None (Some v) is plain so = elim is [ ]
  initial_plain c d b r h k f g low (Some a) None is plain so = elim is [ ]
  initial_plain c d b r h k f g low (Some a) (Some v) is plain so =
      let x = k.meets.locals r.local (object_with d h.is) (new_object c d b r h) in
      let first = and_parts (g r.local && (nat_le low r.local && stands g v)) true so in
      let second = and_parts (g r.local) (nat_le low r.local && stands g v) first.0 in
      let third = and_parts (nat_le low r.local) (stands g v) second.1 in (
        record {
          variable = x.variable;
          found = x.found;
          type = is.same ∙ x.kind;
          in_its_scope = second.0;
          own = leb-true low r.local third.0;
          wanted = wanted (initialising (with_variable c d h.is) (Some r.local)) (known_before (initialising (with_variable c d h.is) (Some r.local)) (with_variable c d h.is) (record { file = refl; result = refl; objects = λ n o m. m }) k) g a v is.full plain third.1;
        },
        tt,
      )

  locals_plain : {c : Context} {ds : List e.VarDecl} {rs : List s.Declared} {b : Context} → AreLocals c ds rs b → Known b → list_all (is_plain_declared q.facts.model) rs ≡ true → (f g : ℕ → Bool) (low : ℕ)
      → AllStand f g low (initials rs) → PlainAll f g low (initials rs)
  locals_plain (j.no_local c) k plain f g low so = tt
  locals_plain (j.one_local c next behind d r ds rs h are) k plain f g low so =
      let at_next = known_before next behind (locals_grow are) k in
      let at_variable = known_before (with_variable c d h.is) (initialising (with_variable c d h.is) None) (record { file = refl; result = refl; objects = λ n o m. m }) (subst Known h.declares at_next) in
      let plains = and_parts (if_plain q.facts.model r.init) (list_all (is_plain_declared q.facts.model) rs) plain in
      let parts = then_stand f g low (initial_of r.local r.line r.init) (initials rs) so in
      then_plain f g low (initial_of r.local r.line r.init) (initials rs)
      (initial_plain c d next r h at_variable f g low d.init r.init h.init plains.0 parts.0) (locals_plain are k plains.1 f g low parts.1)

  -- ---- results

  returned_plain : (c : Context) → Known c → (f g : ℕ → Bool) (low : ℕ) {a : Option e.Expr} {v : Option t.Value} → IsReturned c a v → if_plain q.facts.model v ≡ true → if_stands Count g v ≡ true
      → PlainOne f g low (return_of v)
  returned_plain c k f g low (j.without void) plain so = k.result ∙ ap (λ b. if b then None else Some (cell_of c.result)) void
  returned_plain c k f g low (j.with_value a v not_void is) plain so =
      let number = integer_is (t.type_of v) (value_integer q.facts.model v plain (ap is_void is.same ∙ not_void)) in (
        number.0,
        k.result ∙ ap (λ b. if b then None else Some (cell_of c.result)) not_void ∙ ap (λ u. Some (cell_of u)) (sym is.same ∙ number.1),
        number.1,
        wanted c k g a v is.full plain so,
      )

  -- ---- statements

  if_plain_arms : (c : Context) (f g : ℕ → Bool) (low : ℕ) (test : e.Expr) (v : t.Value) (xs ys : Stmts) → Known c → IsTest c test v → is_plain_value q.facts.model v ≡ true
      → AllStand f g low (one (choose v (whole xs) (whole ys))) → (AllStand f g low xs → PlainAll f g low xs) → (AllStand f g low ys → PlainAll f g low ys) → PlainAll f g low (one (choose v (whole xs) (whole ys)))
  if_plain_arms c f g low test v xs ys k is plain so first second =
      let alone = and_parts (stands g v && (stmt_stands Count f g low (whole xs) && stmt_stands Count f g low (whole ys))) true so in
      let parts = and_parts (stands g v) (stmt_stands Count f g low (whole xs) && stmt_stands Count f g low (whole ys)) alone.0 in
      let arms = and_parts (stmt_stands Count f g low (whole xs)) (stmt_stands Count f g low (whole ys)) parts.1 in (
        (
          wanted c k g test v is.full plain parts.0,
          whole_plain f g low xs (first (whole_stands f g low xs arms.0)),
          whole_plain f g low ys (second (whole_stands f g low ys arms.1)),
        ),
        tt,
      )

  -- what a loop evaluates, and its body
  loop_plain : (f g : ℕ → Bool) (low : ℕ) (l : Loop) (before step behind : Option t.Value) (xs : Stmts) → AllStand f g low (one (loop l before (whole xs) step behind))
      → (if_stands Count (up_to l.declared g) before ≡ true → IfWanted q.facts q.variables q.functions (up_to l.declared g) before)
      → (AllStand f (up_to l.declared g) l.declared xs → PlainAll f (up_to l.declared g) l.declared xs)
      → (if_stands Count (up_to l.declared g) step ≡ true → IfWanted q.facts q.variables q.functions (up_to l.declared g) step)
      → (if_stands Count (up_to l.declared g) behind ≡ true → IfWanted q.facts q.variables q.functions (up_to l.declared g) behind) → PlainAll f g low (one (loop l before (whole xs) step behind))
  loop_plain f g low l before step behind xs so first body third last =
      let g' = up_to l.declared g in
      let p5 = if_stands Count g' behind in
      let p4 = if_stands Count g' step in
      let p3 = stmt_stands Count f g' l.declared (whole xs) in
      let p2 = if_stands Count g' before in
      let p1 = nat_le low l.declared in
      let h0 = and_parts (p1 && (p2 && (p3 && (p4 && p5)))) true so in
      let h1 = and_parts p1 (p2 && (p3 && (p4 && p5))) h0.0 in
      let h2 = and_parts p2 (p3 && (p4 && p5)) h1.1 in
      let h3 = and_parts p3 (p4 && p5) h2.1 in
      let h4 = and_parts p4 p5 h3.1 in
      ((leb-true low l.declared h1.0, first h2.0, whole_plain f g' l.declared xs (body (whole_stands f g' l.declared xs h3.0)), third h4.0, last h4.1), tt)

  -- a block, whose variables are in scope in it
  block_plain : (f g : ℕ → Bool) (low : ℕ) (ys : List ℕ) (xs : Stmts) → AllStand f g low (one (block ys xs))
      → (AllStand (with_names ys f) (with_names ys g) low xs → PlainAll (with_names ys f) (with_names ys g) low xs) → PlainAll f g low (one (block ys xs))
  block_plain f g low ys xs so inside =
      let alone = and_parts (are_new Count f low ys && stmts_stand Count (with_names ys f) (with_names ys g) low xs) true so in
      let parts = and_parts (are_new Count f low ys) (stmts_stand Count (with_names ys f) (with_names ys g) low xs) alone.0 in
      ((new_are f low ys parts.0, inside parts.1), tt)

  -- where a block is left, all is declared that was declared in it
  known_inside : (b : Context) → Known (left b) → Known b
  known_inside b k = known_before b (left b) (record { file = refl; result = refl; objects = λ n o h. h }) k

  known_entered : (c : Context) → Known (entered c) → Known c
  known_entered c k = known_before c (entered c) (record { file = refl; result = refl; objects = λ n o h. h }) k

  -- ---- labels

  abbrev Labelled : CoreType → Stmts → Type 0
  Labelled type ss = LabelsFit q.facts q.variables q.functions type ss

  both_labelled : (type : CoreType) (xs ys : Stmts) → Labelled type xs → Labelled type ys → Labelled type (then_ xs ys)
  both_labelled type stop ys h k = k
  both_labelled type (more x xs) ys h k = (h.0, both_labelled type xs ys h.1 k)

  initials_unlabelled : (type : CoreType) (rs : List s.Declared) → Labelled type (initials rs)
  initials_unlabelled type [] = tt
  initials_unlabelled type (r ∷ rs) = both_labelled type (initial_of r.local r.line r.init) (initials rs) (by r.init) (initials_unlabelled type rs) where
    by : (o : Option t.Value) → Labelled type (initial_of r.local r.line o)
    by None = tt
    by (Some e) = (tt, tt)

  -- labels stand in a `switch` itself alone
  unlabelled : {c : Context} {x : p.Stmt} {y : s.Stmt} {b : Context} → IsTyped c x y b → (type : CoreType) (ns : List Note) (n : ℕ) → Labelled type (placed y ns n).stmts
  unlabelled (j.empty c line) type ns n = tt
  unlabelled (j.expr c line a v is) type ns n = (tt, tt)
  unlabelled (j.block c b line xs ys are) type ns n = (tt, tt)
  unlabelled (j.locals c b line ds rs are) type ns n = initials_unlabelled type rs
  unlabelled (j.if_only c b line test v x y is so) type ns n = (tt, tt)
  unlabelled (j.if_else c next b line test v x x' y y' is so so') type ns n = (tt, tt)
  unlabelled (j.while_loop c b line annot test v x y is so) type ns n = (tt, tt)
  unlabelled (j.do_loop c b line annot test v x y so is) type ns n = (tt, tt)
  unlabelled (j.for_loop c next b line annot first body test step y z v w so is is' so') type ns n = (tt, tt)
  unlabelled (j.switch c b line a v xs ys is are) type ns n = (tt, tt)
  unlabelled (j.break c line) type ns n = (tt, tt)
  unlabelled (j.continue c line) type ns n = (tt, tt)
  unlabelled (j.return_of c line a v is) type ns n = (tt, tt)
  unlabelled (j.assert c line a) type ns n = (tt, tt)

  labels_are : {i : Option Kind} {zs : List ℤ} {c : Context} {xs : p.Stmts} {ys : s.Stmts} {b : Context} → AreLabelled i zs c xs ys b → (type : CoreType)
      → labels_fit q.facts.model (type_kind type) ys ≡ true → (ns : List Note) (n : ℕ) → Labelled type (all_placed ys ns n).stmts
  labels_are (j.no_item i zs c) type h ns n = tt
  labels_are (j.label i zs c b line a z xs ys is new are) type h ns n =
      let parts = and_parts (is_number_of q.facts.model (type_kind type) z) (labels_fit q.facts.model (type_kind type) ys) h in
      (number_holds q.facts.model (type_kind type) z parts.0, labels_are are type parts.1 ns n)
  labels_are (j.default i zs c b line xs ys are) type h ns n = (tt, labels_are are type h ns n)
  labels_are (j.one_item i zs c next b x y xs ys typed are) type h ns n =
      let first = placed y ns n in
      let parts = and_parts (label_fits q.facts.model (type_kind type) y) (labels_fit q.facts.model (type_kind type) ys) h in
      both_labelled type first.stmts (all_placed ys first.notes first.declared).stmts (unlabelled typed type ns n) (labels_are are type parts.1 first.notes first.declared)

  mutual
    stmt_plain : {c : Context} {x : p.Stmt} {y : s.Stmt} {b : Context} → IsTyped c x y b → Known b → is_plain_stmt q.facts.model y ≡ true → (f g : ℕ → Bool) (low : ℕ) → (ns : List Note) (n : ℕ)
        → AllStand f g low (placed y ns n).stmts → PlainAll f g low (placed y ns n).stmts
    stmt_plain (j.empty c line) k plain f g low ns n so = tt
    stmt_plain (j.expr c line a v is) k plain f g low ns n so = (wanted c k g a v is plain (and_parts (stands g v) true so).0, tt)
    stmt_plain (j.block c b line xs ys are) k plain f g low ns n so =
        block_plain f g low (variables_in ys) (all_placed ys ns n).stmts so (λ so'. stmts_plain are (known_inside b k) plain (with_names (variables_in ys) f) (with_names (variables_in ys) g) low ns n so')
    stmt_plain (j.locals c b line ds rs are) k plain f g low ns n so = locals_plain are k plain f g low so
    stmt_plain (j.if_only c b line test v x y is typed) k plain f g low ns n so =
        let parts = and_parts (is_plain_value q.facts.model v) (is_plain_stmt q.facts.model y && true) plain in
        let arms = and_parts (is_plain_stmt q.facts.model y) true parts.1 in
        if_plain_arms c f g low test v (placed y ns n).stmts stop (known_before c b (stmt_grows typed) k) is parts.0 so (λ h. stmt_plain typed k arms.0 f g low ns n h) (λ h. tt)
    stmt_plain (j.if_else c next b line test v x x' y y' is typed typed') k plain f g low ns n so =
        let parts = and_parts (is_plain_value q.facts.model v) (is_plain_stmt q.facts.model y && is_plain_stmt q.facts.model y') plain in
        let arms = and_parts (is_plain_stmt q.facts.model y) (is_plain_stmt q.facts.model y') parts.1 in
        let at_next = known_before next b (stmt_grows typed') k in
        let first = placed y ns n in
        if_plain_arms c f g low test v first.stmts (placed y' first.notes first.declared).stmts (known_before c next (stmt_grows typed) at_next) is parts.0 so
        (λ h. stmt_plain typed at_next arms.0 f g low ns n h) (λ h. stmt_plain typed' k arms.1 f g low first.notes first.declared h)
    stmt_plain (j.while_loop c b line annot test v x y is typed) k plain f g low ns n so =
        let parts = and_parts (is_plain_value q.facts.model v && true) (is_plain_stmt q.facts.model y) plain in
        let at_c = known_before c b (stmt_grows typed) k in
        loop_plain f g low (loop_with n (clauses_at ns)) (Some v) None None (placed y (behind ns) n).stmts so (λ h. wanted c at_c (up_to n g) test v is.full (and_parts (is_plain_value q.facts.model v) true parts.0).0 h)
        (λ h. stmt_plain typed k parts.1 f (up_to n g) n (behind ns) n h) (λ h. tt) (λ h. tt)
    stmt_plain (j.do_loop c b line annot test v x y typed is) k plain f g low ns n so =
        let parts = and_parts (is_plain_value q.facts.model v) (is_plain_stmt q.facts.model y) plain in
        loop_plain f g low (loop_with n (clauses_at ns)) None None (Some v) (placed y (behind ns) n).stmts so (λ h. tt)
        (λ h. stmt_plain typed k parts.1 f (up_to n g) n (behind ns) n h) (λ h. tt) (λ h. wanted b k (up_to n g) test v is.full parts.0 h)
    stmt_plain (j.for_loop c next b line annot first body test step y z v w typed is is' typed') k plain f g low ns n so =
        let plains = and_parts (is_plain_stmt q.facts.model y) (((if_plain q.facts.model v && (if_plain q.facts.model w && true)) && is_plain_stmt q.facts.model z) && true) plain in
        let inner = (and_parts ((if_plain q.facts.model v && (if_plain q.facts.model w && true)) && is_plain_stmt q.facts.model z) true plains.1).0 in
        let of_loop = and_parts (if_plain q.facts.model v && (if_plain q.facts.model w && true)) (is_plain_stmt q.facts.model z) inner in
        let of_test = and_parts (if_plain q.facts.model v) (if_plain q.facts.model w && true) of_loop.0 in
        let of_step = and_parts (if_plain q.facts.model w) true of_test.1 in
        let inside = known_inside b k in
        let at_next = known_before next b (stmt_grows typed') inside in
        let again = s.loop_of line annot (turns_with v None w) z in
        let ys = variables_in (s.more y (s.more again s.stop)) in
        let first_placed = placed y ns n in
        let l = loop_with first_placed.declared (clauses_at first_placed.notes) in
        let xs = (placed z (behind first_placed.notes) first_placed.declared).stmts in
        block_plain f g low ys (then_ first_placed.stmts (one (loop l v (whole xs) w None))) so (λ so'.
        let f' = with_names ys f in
        let g' = with_names ys g in
        let parts = then_stand f' g' low first_placed.stmts (one (loop l v (whole xs) w None)) so' in
        then_plain f' g' low first_placed.stmts (one (loop l v (whole xs) w None)) (stmt_plain typed at_next plains.0 f' g' low ns n parts.0)
        (loop_plain f' g' low l v w None xs parts.1 (λ h. if_wanted next at_next (up_to l.declared g') test v is of_test.0 h)
        (λ h. stmt_plain typed' inside of_loop.1 f' (up_to l.declared g') l.declared (behind first_placed.notes) first_placed.declared h)
        (λ h. if_done next at_next (up_to l.declared g') step w is' of_step.0 h) (λ h. tt)))
    stmt_plain (j.switch c b line a v xs ys is are) k plain f g low ns n so =
        let m = q.facts.model in
        let type = t.type_of v in
        let parts = and_parts (is_plain_value m v) (labels_fit m (type_kind type) ys && are_plain_stmts m ys) plain in
        let inner = and_parts (labels_fit m (type_kind type) ys) (are_plain_stmts m ys) parts.1 in
        let inside = known_inside b k in
        let at_c = known_entered c (known_before (entered c) b (labelled_grow are) inside) in
        let alone = and_parts (stands g v && stmts_stand Count f g low (all_placed ys ns n).stmts) true so in
        let so_parts = and_parts (stands g v) (stmts_stand Count f g low (all_placed ys ns n).stmts) alone.0 in
        ((wanted c at_c g a v is.full parts.0 so_parts.0, labels_are are type inner.0 ns n, labelled_plain are inside inner.1 f g low ns n so_parts.1), tt)
    stmt_plain (j.break c line) k plain f g low ns n so = (tt, tt)
    stmt_plain (j.continue c line) k plain f g low ns n so = (tt, tt)
    stmt_plain (j.return_of c line a v is) k plain f g low ns n so = (returned_plain c k f g low is plain (and_parts (if_stands Count g v) true so).0, tt)
    stmt_plain (j.assert c line a) k plain f g low ns n so = (tt, tt)

    pub stmts_plain : {c : Context} {xs : p.Stmts} {ys : s.Stmts} {b : Context} → AreTyped c xs ys b → Known b → are_plain_stmts q.facts.model ys ≡ true → (f g : ℕ → Bool) (low : ℕ) → (ns : List Note) (n : ℕ)
        → AllStand f g low (all_placed ys ns n).stmts → PlainAll f g low (all_placed ys ns n).stmts
    stmts_plain (j.no_stmt c) k plain f g low ns n so = tt
    stmts_plain (j.one_stmt c next b x y xs ys typed are) k plain f g low ns n so =
        let plains = and_parts (is_plain_stmt q.facts.model y) (are_plain_stmts q.facts.model ys) plain in
        let first = placed y ns n in
        let rest = all_placed ys first.notes first.declared in
        let parts = then_stand f g low first.stmts rest.stmts so in
        then_plain f g low first.stmts rest.stmts (stmt_plain typed (known_before next b (stmts_grow are) k) plains.0 f g low ns n parts.0)
        (stmts_plain are k plains.1 f g low first.notes first.declared parts.1)

    labelled_plain : {i : Option Kind} {zs : List ℤ} {c : Context} {xs : p.Stmts} {ys : s.Stmts} {b : Context} → AreLabelled i zs c xs ys b → Known b → are_plain_stmts q.facts.model ys ≡ true → (f g : ℕ → Bool) (low : ℕ) → (ns : List Note) (n : ℕ) → AllStand f g low (all_placed ys ns n).stmts → PlainAll f g low (all_placed ys ns n).stmts
    labelled_plain (j.no_item i zs c) k plain f g low ns n so = tt
    labelled_plain (j.label i zs c b line a z xs ys is new are) k plain f g low ns n so = (tt, labelled_plain are k plain f g low ns n so)
    labelled_plain (j.default i zs c b line xs ys are) k plain f g low ns n so = (tt, labelled_plain are k plain f g low ns n so)
    labelled_plain (j.one_item i zs c next b x y xs ys typed are) k plain f g low ns n so =
        let plains = and_parts (is_plain_stmt q.facts.model y) (are_plain_stmts q.facts.model ys) plain in
        let first = placed y ns n in
        let rest = all_placed ys first.notes first.declared in
        let parts = then_stand f g low first.stmts rest.stmts so in
        then_plain f g low first.stmts rest.stmts (stmt_plain typed (known_before next b (labelled_grow are) k) plains.0 f g low ns n parts.0)
        (labelled_plain are k plains.1 f g low first.notes first.declared parts.1)

-- the outermost block of a body is that of its parameters
pub body_plain : (q : Place) {c : Context} {y : s.Stmt} {b : Context} → IsTypedBody c y b → Known q b → is_plain_stmt q.facts.model y ≡ true → (f g : ℕ → Bool) (low : ℕ) → (ns : List Note) (n : ℕ)
    → stmts_stand (length q.variables) f g low (placed y ns n).stmts ≡ true → StmtsArePlain q.facts q.variables q.functions q.result f g low (placed y ns n).stmts
body_plain q (of_block c b line xs ys are) k plain f g low ns n so =
    block_plain q f g low (variables_in ys) (all_placed ys ns n).stmts so (λ so'. stmts_plain q are k plain (with_names (variables_in ys) f) (with_names (variables_in ys) g) low ns n so')
body_plain q (of_other c b x y typed) k plain f g low ns n so = stmt_plain q typed k plain f g low ns n so

pub typed_statements_are_plain : TypedStatementsArePlain
typed_statements_are_plain p xs functions result f g low globals integers c x y b typed meets same plain ns n so =
    stmt_plain (record { facts = p; globals = globals; variables = xs; integers = integers; result = result; functions = functions }) typed (record { meets = meets; result = same }) plain f g low ns n so

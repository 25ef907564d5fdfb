-- Typed statements whose values stand have, in the program, the kinds that are asked of one with blocks and pointers.
use Rattle.std.proofs.Common.{◌≡◌, ℕ, ℤ, zero, suc, ◌<◌, Bool, true, false, not, ◌&&◌, if◌then◌else◌, List, [], ◌∷◌, length, Option, Some, None, Ok, Err, slice_get, refl, sym, ap, ◌∙◌, subst, inl, inr, arith}
use Rattle.std.specs.Prelude.{nat_le, nat_lt}
use Rattle.std.specs.Option.{unwrap_or}
use Rattle.std.proofs.lemmas.Bool.{false≢true, and_parts, leb-true, ltb-true}
use Rattle.wp_base.specs.declared.kinds.CellKind.{CellKind}
use Rattle.wp_base.specs.declared.kinds.Kind.{Kind}
use Rattle.wp_base.specs.declared.kinds.Kind.TheVariants as kind
use Rattle.wp_base.specs.Blocks.{repeated}
use Rattle.c_kinds.specs.Models.{holds, convert}
use Rattle.c_kinds.proofs.Converting.{conversions_keep}
use Rattle.c_syntax.specs.Expr as e
use Rattle.c_syntax.specs.Stmt as spelled
use Rattle.typed_prog.specs.declared.operators.Variable as code
use Rattle.typed_prog.specs.declared.operators.Variable.TheVariants as variable
use Rattle.typed_prog.specs.declared.types.CoreType.{CoreType}
use Rattle.typed_prog.specs.Types.{kind_of as type_kind, element_of, is_pointer, is_void}
use Rattle.typed_prog.specs.Tree as t
use Rattle.c_answers.specs.Answers.{Answer, after}
use Rattle.c_scopes.specs.declared.symbols.Object.{Object}
use Rattle.c_scopes.specs.declared.symbols.Structure.{Structure}
use Rattle.c_scopes.specs.Declarations.{more_if, object_of}
use Rattle.c_exprs.specs.Typing.{Around}
use Rattle.c_contexts.specs.Contexts.{constant_number, case_number}
use Rattle.c_variables.specs.declared.context.Context.{Context}
use Rattle.c_variables.specs.Contexts.{around_of, plain_in}
use Rattle.c_variables.specs.Variables.{object_with}
use Rattle.c_well_typed.specs.Operators.{IsScalar}
use Rattle.c_well_typed.specs.Scalars.{HasObjects, IsScalarOrVoid, IsDeclaredInOrder}
use Rattle.c_well_typed.proofs.Scalars.{values_are_scalars}
use Rattle.c_stmts.specs.Locals.{with_variable, initialising}
use Rattle.c_stmts.specs.Statements.{entered, left, turns_with}
use Rattle.typed_unit.specs.Stmt as unit
use Rattle.c_typed_stmts.specs.Full.{IsFull, IsTest, IsAssigned, IfThere}
use Rattle.c_typed_stmts.specs.Judgement as j
use Rattle.c_typed_stmts.specs.Judgement.{IsLocal, AreLocals, IsReturned, IsTyped, AreTyped, AreLabelled}
use Rattle.acsl_notes.specs.Notes.{Note}
use Rattle.c_runs.specs.Program.{Loop, Variable, Function, Facts, Stmt, block, choose, loop, return_of, Stmts, stop, more}
use Rattle.c_runs.specs.Objects.{cell_of}
use Rattle.c_runs.specs.Scopes.{scalar_of}
use Rattle.c_programs.specs.Bodies.{one, then_, whole, initials, initial_of, variables_in, clauses_at, placed, all_placed, behind}
use Rattle.c_programs.specs.Clauses.{loop_with}
use Rattle.goal_segments.specs.Told.{with_name, with_names}
use Rattle.plain_normal.specs.Plain.{up_to}
use Rattle.plain_programs.specs.Standing.{are_new, if_stands, stmt_stands, stmts_stand}
use Rattle.plain_programs.specs.Values.{stands}
use Rattle.plain_programs.specs.Files.{IsTypedBody, of_block, of_other}
use Rattle.plain_programs.proofs.Growing.{last_one}
use Rattle.plain_programs.proofs.Sequenced.{sequenced_are_single}
use Rattle.value_terms.specs.Typed.{kind_given}
use Rattle.typed_values.specs.Declared.{Holds}
use Rattle.typed_values.proofs.Cells.{field_has}
use Rattle.typed_values.proofs.Types.{scalar_one, scalar_cells, cell_is, has_objects}
use Rattle.typed_runs.specs.Fitting.{Shape, InScope, Declares, Takes}
use Rattle.typed_normal.specs.Spelled.{spelled_scope, IsWanted, IfWanted, LabelsFit, StmtIsKinded, StmtsAreKinded}
use Rattle.kinded_programs.specs.Nodes.{IfValue, EachValue}
use Rattle.kinded_programs.specs.Values.{Stands, AreThere}
use Rattle.kinded_programs.specs.Standing.{StmtsStand, IsIn, TypedStatementsAreKinded}
use Rattle.kinded_programs.proofs.TypedValues.{value_is, scalar_valued, valued_scalar}
use Rattle.kinded_programs.proofs.Growing.{stmt_keeps, is_in_before, before_stmt, before_stmts, before_labelled, before_locals}

-- ---- tests and lists

not_true : (b : Bool) → not b ≡ true → b ≡ false
not_true true h = absurd (false≢true h)
not_true false h = refl

both : (a b : Bool) → a ≡ true → b ≡ true → (a && b) ≡ true
both true b h k = k
both false b h k = h

there_at : {X : Type 0} (xs : List X) (n : ℕ) → n < length xs → (x : X) × (slice_get xs n ≡ Some x)
there_at [] n h = absurd (omega (arith, h))
there_at (x ∷ xs) zero h = (x, refl)
there_at (x ∷ xs) (suc n) h = there_at xs n (omega (arith, h))

same_cells : (x y : List CellKind) → Some x ≡ Some y → x ≡ y
same_cells x y h = cc

-- ---- labels are numbers of the kind of what is switched over

abbrev given : {X : Type 0} → X → Answer X
given x = Ok x

ok_is : {X : Type 0} (x y : X) → given x ≡ given y → x ≡ y
ok_is x y h = cc

gives : {X Y : Type 0} (o : Answer X) (f : X → Answer Y) (y : Y) → after o f ≡ Ok y → (x : X) × (o ≡ Ok x) × (f x ≡ Ok y)
gives (Ok x) f y h = (x, refl, h)
gives (Err r) f y h = cc

label_holds : (c : Around) (k : Kind) (a : e.Expr) (z : ℤ) → case_number c k a ≡ Ok z → holds c.model k z ≡ true
unfolding case_number
label_holds c k a z h =
    let r = gives (constant_number c a) (λ y. Ok (convert c.model k y)) z h in
    ap (λ y. holds c.model k y) (sym (ok_is (convert c.model k r.0) z r.2)) ∙ (conversions_keep c.model k r.0).held

module _ (p : Facts) (s : Shape) (functions : ℕ → Option (Function Stmts)) where
  abbrev Count : ℕ
  Count = length s.variables

  abbrev KindedAll : (f g : InScope) (low : ℕ) → Stmts → Type 0
  KindedAll f g low ss = StmtsAreKinded p s functions f g low ss

  abbrev KindedOne : (f g : InScope) (low : ℕ) → Stmt → Type 0
  KindedOne f g low a = StmtIsKinded p s functions f g low a

  abbrev AllStand : (f g : InScope) (low : ℕ) → Stmts → Type 0
  AllStand f g low ss = stmts_stand Count f g low ss ≡ true

  abbrev Values : InScope → Stmts → Type 0
  Values g ss = StmtsStand p s g ss

  abbrev Value : InScope → Stmt → Type 0
  Value g a = EachValue (λ f v. Stands p s f v) g a

  abbrev If : InScope → Option t.Value → Type 0
  If g v = IfValue (λ f v. Stands p s f v) g v

  abbrev In : Context → Type 0
  In c = IsIn p s functions c

  -- ---- lists of statements

  then_kinded : (f g : InScope) (low : ℕ) (xs ys : Stmts) → KindedAll f g low xs → KindedAll f g low ys → KindedAll f g low (then_ xs ys)
  then_kinded f g low stop ys h k = k
  then_kinded f g low (more x xs) ys h k = (h.0, then_kinded f g low xs ys h.1 k)

  then_stand : (f g : InScope) (low : ℕ) (xs ys : Stmts) → AllStand f g low (then_ xs ys) → AllStand f g low xs × AllStand f g low ys
  then_stand f g low stop ys h = (refl, h)
  then_stand f g low (more x xs) ys h =
      let parts = and_parts (stmt_stands Count f g low x) (stmts_stand Count f g low (then_ xs ys)) h in
      let rest = then_stand f g low xs ys parts.1 in
      (both (stmt_stands Count f g low x) (stmts_stand Count f g low xs) parts.0 rest.0, rest.1)

  then_values : (g : InScope) (xs ys : Stmts) → Values g (then_ xs ys) → Values g xs × Values g ys
  then_values g stop ys h = (tt, h)
  then_values g (more x xs) ys h = let rest = then_values g xs ys h.1 in ((h.0, rest.0), rest.1)

  whole_kinded : (f g : InScope) (low : ℕ) (xs : Stmts) → KindedAll f g low xs → KindedOne f g low (whole xs)
  whole_kinded f g low stop h = (tt, tt)
  whole_kinded f g low (more x stop) h = h.0
  whole_kinded f g low (more x (more y ys)) h = (tt, h)

  whole_stands : (f g : InScope) (low : ℕ) (xs : Stmts) → stmt_stands Count f g low (whole xs) ≡ true → AllStand f g low xs
  whole_stands f g low stop h = refl
  whole_stands f g low (more x stop) h = both (stmt_stands Count f g low x) true h refl
  whole_stands f g low (more x (more y ys)) h = h

  whole_values : (g : InScope) (xs : Stmts) → Value g (whole xs) → Values g xs
  whole_values g stop h = tt
  whole_values g (more x stop) h = (h, tt)
  whole_values g (more x (more y ys)) h = h

  -- ---- scopes

  declares : (f : InScope) (low : ℕ) (ys : List ℕ) → are_new Count f low ys ≡ true → Declares p s f low ys
  declares f low [] h = tt
  declares f low (y ∷ ys) h =
      let first = and_parts (not (f y)) (nat_le low y && (nat_lt y Count && are_new Count (with_name y f) low ys)) h in
      let second = and_parts (nat_le low y) (nat_lt y Count && are_new Count (with_name y f) low ys) first.1 in
      let third = and_parts (nat_lt y Count) (are_new Count (with_name y f) low ys) second.1 in
      (not_true (f y) first.0, leb-true low y second.0, there_at s.variables y (ltb-true y Count third.0), declares (with_name y f) low ys third.1)

  -- ---- what is declared is in order

  abbrev nowhere : InScope
  nowhere x = false

  in_order : (c : Around) → AreThere p s functions c → IsDeclaredInOrder c
  in_order c there = record {
    variables = objects;
    fields = λ tag number x m h has.
        let laid = (there.meets nowhere).structs tag x h in
        let part = field_has c.scope.file.structs x.fields laid.parts number m laid.fields has in
        has_objects c.scope.file.structs m.ty part.part.cells part.layout.elements;
    results = λ n g h. (there.called n g h).returns;
  } where
    objects : (x : code.Variable) (o : Object) → object_of c.scope x ≡ Some o → HasObjects o.ty
    objects (variable.Global n) o h = let held = (there.meets nowhere).globals n o h in has_objects c.scope.file.structs o.ty held.variable.layout.cells held.layout.elements
    objects (variable.Local n) o h = let held = (there.meets nowhere).locals n o h in has_objects c.scope.file.structs o.ty held.variable.layout.cells held.layout.elements

  -- ---- expressions

  abbrev Wanted : InScope → t.Value → Type 0
  Wanted f v = IsWanted p s functions f v

  wanted : (c : Context) → In c → (f : InScope) (a : e.Expr) (v : t.Value) → IsFull c a v → Stands p s f v → Wanted f v
  wanted c k f a v full so = ((value_is p s functions f (around_of c) k.there v full.fits so).kinded, sequenced_are_single (plain_in c) v full.in_order)

  if_wanted : (c : Context) → In c → (f : InScope) (a : Option e.Expr) (v : Option t.Value) → IfThere (IsTest c) a v → If f v → IfWanted p s functions f v
  if_wanted c k f None None is so = tt
  if_wanted c k f (Some a) (Some v) is so = wanted c k f a v is.full so
  if_wanted c k f None (Some v) is so = elim is [ ]
  if_wanted c k f (Some a) None is so = elim is [ ]

  if_done : (c : Context) → In c → (f : InScope) (a : Option e.Expr) (v : Option t.Value) → IfThere (IsFull c) a v → If f v → IfWanted p s functions f v
  if_done c k f None None is so = tt
  if_done c k f (Some a) (Some v) is so = wanted c k f a v is so
  if_done c k f None (Some v) is so = elim is [ ]
  if_done c k f (Some a) None is so = elim is [ ]

  -- a value of a type that isn't `void` is a scalar
  scalar_is : (c : Context) → In c → (a : e.Expr) (v : t.Value) → IsFull c a v → IsScalarOrVoid (t.type_of v)
  scalar_is c k a v full = values_are_scalars (around_of c) (in_order (around_of c) k.there) v full.fits

  -- ---- declarations

  new_object : (c : Context) (d : e.VarDecl) (b : Context) (r : unit.Declared) (h : IsLocal c d r b) → slice_get (with_variable c d h.is).scope.local.objects r.local ≡ Some (object_with d h.is)
  new_object c d b r h =
      ap (slice_get (with_variable c d h.is).scope.local.objects) h.number
      ∙ ap (λ z. slice_get (more_if z c.scope.local.objects (object_with d h.is)) (length c.scope.local.objects)) h.new ∙ last_one c.scope.local.objects (object_with d h.is)

  -- no object is `void`
  object_scalar : (type : CoreType) → HasObjects type → IsScalarOrVoid type → IsScalar type
  object_scalar type objects (inl h) = h
  object_scalar type objects (inr h) = absurd (false≢true (sym objects ∙ ap (λ u. is_void (element_of u)) h))

  takes : (ss : List Structure) (g : InScope) (low x : ℕ) (o : Object) → Holds ss (spelled_scope p s g) s.variables x o → IsScalar o.ty → g x ≡ true → nat_le low x ≡ true
      → Takes p s g low x (kind_given o.ty)
  takes ss g low x o held scalar scoped le =
      let cells : held.variable.layout.cells ≡ kind_given o.ty ∷ [] = same_cells _ _ (sym held.layout.elements ∙ scalar_cells ss o.ty scalar) in
      let one : held.variable.layout.count ≡ 1 = held.layout.count ∙ ap (λ n. unwrap_or n 1) (scalar_one o.ty scalar) in
      record {
        variable = held.variable;
        found = held.found;
        scoped = scoped;
        inside = leb-true low x le;
        kind = ap scalar_of cells;
        one_cell = λ block. ap (λ m. repeated m held.variable.layout.cells) one ∙ ap (λ ys. repeated 1 ys) cells;
      }

  initial_kinded : (c : Context) (d : e.VarDecl) (b : Context) (r : unit.Declared) (h : IsLocal c d r b) → In (with_variable c d h.is) → (f g : InScope) (low : ℕ) (a : Option e.Expr) (v : Option t.Value)
      → IfThere (IsAssigned (initialising (with_variable c d h.is) (Some r.local)) h.is.ty) a v → AllStand f g low (initial_of r.local r.line v) → Values g (initial_of r.local r.line v)
      → KindedAll f g low (initial_of r.local r.line v)
  initial_kinded c d b r h k f g low None None is so vs = tt
  initial_kinded c d b r h k f g low None (Some v) is so vs = elim is [ ]
  initial_kinded c d b r h k f g low (Some a) None is so vs = elim is [ ]
  initial_kinded c d b r h k f g low (Some a) (Some v) is so vs =
      let here = with_variable c d h.is in
      let at = initialising here (Some r.local) in
      let known = is_in_before p s functions at here (record { file = refl; result = refl; objects = λ n o m. m }) (record { model = refl; sizes = refl; globals = refl }) k in
      let held = (k.there.meets g).locals r.local (object_with d h.is) (new_object c d b r h) in
      let first = and_parts (g r.local && (nat_le low r.local && stands g v)) true so in
      let second = and_parts (g r.local) (nat_le low r.local && stands g v) first.0 in
      let third = and_parts (nat_le low r.local) (stands g v) second.1 in
      let objects = has_objects c.scope.file.structs h.is.ty held.variable.layout.cells held.layout.elements in
      let scalar = object_scalar h.is.ty objects (subst IsScalarOrVoid is.same (scalar_is at known a v is.full)) in (
        record {
          takes = subst (λ u. Takes p s g low r.local (kind_given u)) (sym is.same) (takes c.scope.file.structs g low r.local (object_with d h.is) held scalar second.0 third.0);
          valued = ap is_void is.same ∙ scalar_valued h.is.ty scalar;
          wanted = wanted at known g a v is.full vs.0;
        },
        tt,
      )

  locals_kinded : {c : Context} {ds : List e.VarDecl} {rs : List unit.Declared} {b : Context} → AreLocals c ds rs b → In b → (f g : InScope) (low : ℕ) → AllStand f g low (initials rs) → Values g (initials rs)
      → KindedAll f g low (initials rs)
  locals_kinded (j.no_local c) k f g low so vs = tt
  locals_kinded (j.one_local c next behind d r ds rs h are) k f g low so vs =
      let at_next = before_locals p s functions are k in
      let at_variable = is_in_before p s functions (with_variable c d h.is) (initialising (with_variable c d h.is) None) (record { file = refl; result = refl; objects = λ n o m. m })
      (record { model = refl; sizes = refl; globals = refl }) (subst In h.declares at_next) in
      let parts = then_stand f g low (initial_of r.local r.line r.init) (initials rs) so in
      let values = then_values g (initial_of r.local r.line r.init) (initials rs) vs in
      then_kinded f g low (initial_of r.local r.line r.init) (initials rs)
      (initial_kinded c d next r h at_variable f g low d.init r.init h.init parts.0 values.0) (locals_kinded are k f g low parts.1 values.1)

  -- ---- results

  returned_kinded : (c : Context) → In c → (f g : InScope) (low : ℕ) {a : Option e.Expr} {v : Option t.Value} → IsReturned c a v → If g v → KindedOne f g low (return_of v)
  returned_kinded c k f g low (j.without void) so = k.result ∙ ap (λ b. if b then None else Some (cell_of c.result)) void
  returned_kinded c k f g low (j.with_value a v not_void is) so =
      let scalar = valued_scalar (t.type_of v) (scalar_is c k a v is.full) (ap is_void is.same ∙ not_void) in (
        k.result ∙ ap (λ b. if b then None else Some (cell_of c.result)) not_void ∙ ap (λ u. Some (cell_of u)) (sym is.same) ∙ ap Some (cell_is (t.type_of v) scalar),
        wanted c k g a v is.full so,
      )

  -- ---- statements

  arms_kinded : (c : Context) (f g : InScope) (low : ℕ) (test : e.Expr) (v : t.Value) (xs ys : Stmts) → In c → IsTest c test v → AllStand f g low (one (choose v (whole xs) (whole ys)))
      → Values g (one (choose v (whole xs) (whole ys))) → (AllStand f g low xs → Values g xs → KindedAll f g low xs) → (AllStand f g low ys → Values g ys → KindedAll f g low ys)
      → KindedAll f g low (one (choose v (whole xs) (whole ys)))
  arms_kinded c f g low test v xs ys k is so vs first second =
      let alone = and_parts (stands g v && (stmt_stands Count f g low (whole xs) && stmt_stands Count f g low (whole ys))) true so in
      let parts = and_parts (stands g v) (stmt_stands Count f g low (whole xs) && stmt_stands Count f g low (whole ys)) alone.0 in
      let arms = and_parts (stmt_stands Count f g low (whole xs)) (stmt_stands Count f g low (whole ys)) parts.1 in (
        (
          wanted c k g test v is.full vs.0.0,
          whole_kinded f g low xs (first (whole_stands f g low xs arms.0) (whole_values g xs vs.0.1)),
          whole_kinded f g low ys (second (whole_stands f g low ys arms.1) (whole_values g ys vs.0.2)),
        ),
        tt,
      )

  -- what a loop evaluates, and its body
  loop_kinded : (f g : InScope) (low : ℕ) (l : Loop) (before step behind : Option t.Value) (xs : Stmts) → AllStand f g low (one (loop l before (whole xs) step behind))
      → Values g (one (loop l before (whole xs) step behind)) → (If (up_to l.declared g) before → IfWanted p s functions (up_to l.declared g) before)
      → (AllStand f (up_to l.declared g) l.declared xs → Values (up_to l.declared g) xs → KindedAll f (up_to l.declared g) l.declared xs)
      → (If (up_to l.declared g) step → IfWanted p s functions (up_to l.declared g) step) → (If (up_to l.declared g) behind → IfWanted p s functions (up_to l.declared g) behind)
      → KindedAll f g low (one (loop l before (whole xs) step behind))
  loop_kinded f g low l before step behind xs so vs first body third last =
      let g' = up_to l.declared g in
      let p5 = if_stands Count g' behind in
      let p4 = if_stands Count g' step in
      let p3 = stmt_stands Count f g' l.declared (whole xs) in
      let p2 = if_stands Count g' before in
      let p1 = nat_le low l.declared in
      let h0 = and_parts (p1 && (p2 && (p3 && (p4 && p5)))) true so in
      let h1 = and_parts p1 (p2 && (p3 && (p4 && p5))) h0.0 in
      let h2 = and_parts p2 (p3 && (p4 && p5)) h1.1 in
      let h3 = and_parts p3 (p4 && p5) h2.1 in
      ((leb-true low l.declared h1.0, first vs.0.0, whole_kinded f g' l.declared xs (body (whole_stands f g' l.declared xs h3.0) (whole_values g' xs vs.0.1)), third vs.0.2, last vs.0.3), tt)

  -- a block, whose variables are in scope in it
  block_kinded : (f g : InScope) (low : ℕ) (ys : List ℕ) (xs : Stmts) → AllStand f g low (one (block ys xs)) → Values g (one (block ys xs))
      → (AllStand (with_names ys f) (with_names ys g) low xs → Values (with_names ys g) xs → KindedAll (with_names ys f) (with_names ys g) low xs) → KindedAll f g low (one (block ys xs))
  block_kinded f g low ys xs so vs inside =
      let alone = and_parts (are_new Count f low ys && stmts_stand Count (with_names ys f) (with_names ys g) low xs) true so in
      let parts = and_parts (are_new Count f low ys) (stmts_stand Count (with_names ys f) (with_names ys g) low xs) alone.0 in
      ((declares f low ys parts.0, inside parts.1 vs.0), tt)

  -- where a block is left, all is declared that was declared in it
  in_inside : (b : Context) → In (left b) → In b
  in_inside b k = is_in_before p s functions b (left b) (record { file = refl; result = refl; objects = λ n o h. h }) (record { model = refl; sizes = refl; globals = refl }) k

  in_entered : (c : Context) → In (entered c) → In c
  in_entered c k = is_in_before p s functions c (entered c) (record { file = refl; result = refl; objects = λ n o h. h }) (record { model = refl; sizes = refl; globals = refl }) k

  -- ---- labels

  abbrev Labelled : CoreType → Stmts → Type 0
  Labelled type ss = LabelsFit p s functions type ss

  both_labelled : (type : CoreType) (xs ys : Stmts) → Labelled type xs → Labelled type ys → Labelled type (then_ xs ys)
  both_labelled type stop ys h k = k
  both_labelled type (more x xs) ys h k = (h.0, both_labelled type xs ys h.1 k)

  initials_unlabelled : (type : CoreType) (rs : List unit.Declared) → Labelled type (initials rs)
  initials_unlabelled type [] = tt
  initials_unlabelled type (r ∷ rs) = both_labelled type (initial_of r.local r.line r.init) (initials rs) (by r.init) (initials_unlabelled type rs) where
    by : (o : Option t.Value) → Labelled type (initial_of r.local r.line o)
    by None = tt
    by (Some e) = (tt, tt)

  -- labels stand in a `switch` itself alone
  unlabelled : {c : Context} {x : spelled.Stmt} {y : unit.Stmt} {b : Context} → IsTyped c x y b → (type : CoreType) (ns : List Note) (n : ℕ) → Labelled type (placed y ns n).stmts
  unlabelled (j.empty c line) type ns n = tt
  unlabelled (j.expr c line a v is) type ns n = (tt, tt)
  unlabelled (j.block c b line xs ys are) type ns n = (tt, tt)
  unlabelled (j.locals c b line ds rs are) type ns n = initials_unlabelled type rs
  unlabelled (j.if_only c b line test v x y is so) type ns n = (tt, tt)
  unlabelled (j.if_else c next b line test v x x' y y' is so so') type ns n = (tt, tt)
  unlabelled (j.while_loop c b line annot test v x y is so) type ns n = (tt, tt)
  unlabelled (j.do_loop c b line annot test v x y so is) type ns n = (tt, tt)
  unlabelled (j.for_loop c next b line annot first body test step y z v w so is is' so') type ns n = (tt, tt)
  unlabelled (j.switch c b line a v xs ys is are) type ns n = (tt, tt)
  unlabelled (j.break c line) type ns n = (tt, tt)
  unlabelled (j.continue c line) type ns n = (tt, tt)
  unlabelled (j.return_of c line a v is) type ns n = (tt, tt)
  unlabelled (j.assert c line a) type ns n = (tt, tt)

  labels_are : {i : Option Kind} {zs : List ℤ} {c : Context} {xs : spelled.Stmts} {ys : unit.Stmts} {b : Context} → AreLabelled i zs c xs ys b → (type : CoreType) → type_kind type ≡ i
      → p.model ≡ c.model → (ns : List Note) (n : ℕ) → Labelled type (all_placed ys ns n).stmts
  labels_are (j.no_item i zs c) type same model ns n = tt
  labels_are (j.label k zs c b line a z xs ys is new are) type same model ns n = (
    ap (λ l. holds p.model (unwrap_or l kind.Int) z) same ∙ ap (λ m. holds m k z) model ∙ label_holds (around_of c) k a z is,
    labels_are are type same model ns n,
  )
  labels_are (j.default i zs c b line xs ys are) type same model ns n = (tt, labels_are are type same model ns n)
  labels_are (j.one_item i zs c next b x y xs ys typed are) type same model ns n =
      let first = placed y ns n in
      both_labelled type first.stmts (all_placed ys first.notes first.declared).stmts (unlabelled typed type ns n)
      (labels_are are type same (model ∙ sym (stmt_keeps typed).model) first.notes first.declared)

  -- ---- by induction

  mutual
    stmt_kinded : {c : Context} {x : spelled.Stmt} {y : unit.Stmt} {b : Context} → IsTyped c x y b → In b → (f g : InScope) (low : ℕ) → (ns : List Note) (n : ℕ) → AllStand f g low (placed y ns n).stmts
        → Values g (placed y ns n).stmts → KindedAll f g low (placed y ns n).stmts
    stmt_kinded (j.empty c line) k f g low ns n so vs = tt
    stmt_kinded (j.expr c line a v is) k f g low ns n so vs = (wanted c k g a v is vs.0, tt)
    stmt_kinded (j.block c b line xs ys are) k f g low ns n so vs =
        block_kinded f g low (variables_in ys) (all_placed ys ns n).stmts so vs
        (λ so' vs'. stmts_kinded are (in_inside b k) (with_names (variables_in ys) f) (with_names (variables_in ys) g) low ns n so' vs')
    stmt_kinded (j.locals c b line ds rs are) k f g low ns n so vs = locals_kinded are k f g low so vs
    stmt_kinded (j.if_only c b line test v x y is typed) k f g low ns n so vs =
        arms_kinded c f g low test v (placed y ns n).stmts stop (before_stmt p s functions typed k) is so vs (λ h hs. stmt_kinded typed k f g low ns n h hs) (λ h hs. tt)
    stmt_kinded (j.if_else c next b line test v x x' y y' is typed typed') k f g low ns n so vs =
        let at_next = before_stmt p s functions typed' k in
        let first = placed y ns n in
        arms_kinded c f g low test v first.stmts (placed y' first.notes first.declared).stmts (before_stmt p s functions typed at_next) is so vs
        (λ h hs. stmt_kinded typed at_next f g low ns n h hs) (λ h hs. stmt_kinded typed' k f g low first.notes first.declared h hs)
    stmt_kinded (j.while_loop c b line annot test v x y is typed) k f g low ns n so vs =
        let at_c = before_stmt p s functions typed k in
        loop_kinded f g low (loop_with n (clauses_at ns)) (Some v) None None (placed y (behind ns) n).stmts so vs (λ h. wanted c at_c (up_to n g) test v is.full h)
        (λ h hs. stmt_kinded typed k f (up_to n g) n (behind ns) n h hs) (λ h. tt) (λ h. tt)
    stmt_kinded (j.do_loop c b line annot test v x y typed is) k f g low ns n so vs =
        loop_kinded f g low (loop_with n (clauses_at ns)) None None (Some v) (placed y (behind ns) n).stmts so vs (λ h. tt)
        (λ h hs. stmt_kinded typed k f (up_to n g) n (behind ns) n h hs) (λ h. tt) (λ h. wanted b k (up_to n g) test v is.full h)
    stmt_kinded (j.for_loop c next b line annot first body test step y z v w typed is is' typed') k f g low ns n so vs =
        let inside = in_inside b k in
        let at_next = before_stmt p s functions typed' inside in
        let again = unit.loop_of line annot (turns_with v None w) z in
        let ys = variables_in (unit.more y (unit.more again unit.stop)) in
        let first_placed = placed y ns n in
        let l = loop_with first_placed.declared (clauses_at first_placed.notes) in
        let xs = (placed z (behind first_placed.notes) first_placed.declared).stmts in
        block_kinded f g low ys (then_ first_placed.stmts (one (loop l v (whole xs) w None))) so vs (λ so' vs'.
        let f' = with_names ys f in
        let g' = with_names ys g in
        let parts = then_stand f' g' low first_placed.stmts (one (loop l v (whole xs) w None)) so' in
        let values = then_values g' first_placed.stmts (one (loop l v (whole xs) w None)) vs' in
        then_kinded f' g' low first_placed.stmts (one (loop l v (whole xs) w None)) (stmt_kinded typed at_next f' g' low ns n parts.0 values.0)
        (loop_kinded f' g' low l v w None xs parts.1 values.1 (λ h. if_wanted next at_next (up_to l.declared g') test v is h)
        (λ h hs. stmt_kinded typed' inside f' (up_to l.declared g') l.declared (behind first_placed.notes) first_placed.declared h hs)
        (λ h. if_done next at_next (up_to l.declared g') step w is' h) (λ h. tt)))
    stmt_kinded (j.switch c b line a v xs ys is are) k f g low ns n so vs =
        let type = t.type_of v in
        let inside = in_inside b k in
        let at_entered = before_labelled p s functions are inside in
        let at_c = in_entered c at_entered in
        let alone = and_parts (stands g v && stmts_stand Count f g low (all_placed ys ns n).stmts) true so in
        let so_parts = and_parts (stands g v) (stmts_stand Count f g low (all_placed ys ns n).stmts) alone.0 in
        ((wanted c at_c g a v is.full vs.0.0, ap is_pointer is.promoted, labels_are are type refl (at_c.there.meets nowhere).model ns n, labelled_kinded are inside f g low ns n so_parts.1 vs.0.1), tt)
    stmt_kinded (j.break c line) k f g low ns n so vs = (tt, tt)
    stmt_kinded (j.continue c line) k f g low ns n so vs = (tt, tt)
    stmt_kinded (j.return_of c line a v is) k f g low ns n so vs = (returned_kinded c k f g low is vs.0, tt)
    stmt_kinded (j.assert c line a) k f g low ns n so vs = (tt, tt)

    pub stmts_kinded : {c : Context} {xs : spelled.Stmts} {ys : unit.Stmts} {b : Context} → AreTyped c xs ys b → In b → (f g : InScope) (low : ℕ) → (ns : List Note) (n : ℕ)
        → AllStand f g low (all_placed ys ns n).stmts → Values g (all_placed ys ns n).stmts → KindedAll f g low (all_placed ys ns n).stmts
    stmts_kinded (j.no_stmt c) k f g low ns n so vs = tt
    stmts_kinded (j.one_stmt c next b x y xs ys typed are) k f g low ns n so vs =
        let first = placed y ns n in
        let rest = all_placed ys first.notes first.declared in
        let parts = then_stand f g low first.stmts rest.stmts so in
        let values = then_values g first.stmts rest.stmts vs in
        then_kinded f g low first.stmts rest.stmts (stmt_kinded typed (before_stmts p s functions are k) f g low ns n parts.0 values.0)
        (stmts_kinded are k f g low first.notes first.declared parts.1 values.1)

    labelled_kinded : {i : Option Kind} {zs : List ℤ} {c : Context} {xs : spelled.Stmts} {ys : unit.Stmts} {b : Context} → AreLabelled i zs c xs ys b → In b → (f g : InScope) (low : ℕ) → (ns : List Note) (n : ℕ)
        → AllStand f g low (all_placed ys ns n).stmts → Values g (all_placed ys ns n).stmts → KindedAll f g low (all_placed ys ns n).stmts
    labelled_kinded (j.no_item i zs c) k f g low ns n so vs = tt
    labelled_kinded (j.label i zs c b line a z xs ys is new are) k f g low ns n so vs = (tt, labelled_kinded are k f g low ns n so vs.1)
    labelled_kinded (j.default i zs c b line xs ys are) k f g low ns n so vs = (tt, labelled_kinded are k f g low ns n so vs.1)
    labelled_kinded (j.one_item i zs c next b x y xs ys typed are) k f g low ns n so vs =
        let first = placed y ns n in
        let rest = all_placed ys first.notes first.declared in
        let parts = then_stand f g low first.stmts rest.stmts so in
        let values = then_values g first.stmts rest.stmts vs in
        then_kinded f g low first.stmts rest.stmts (stmt_kinded typed (before_labelled p s functions are k) f g low ns n parts.0 values.0)
        (labelled_kinded are k f g low first.notes first.declared parts.1 values.1)

  -- the outermost block of a body is that of its parameters
  pub body_kinded : {c : Context} {y : unit.Stmt} {b : Context} → IsTypedBody c y b → In b → (f g : InScope) (low : ℕ) → (ns : List Note) (n : ℕ) → AllStand f g low (placed y ns n).stmts
      → Values g (placed y ns n).stmts → KindedAll f g low (placed y ns n).stmts
  body_kinded (of_block c b line xs ys are) k f g low ns n so vs =
      block_kinded f g low (variables_in ys) (all_placed ys ns n).stmts so vs
      (λ so' vs'. stmts_kinded are k (with_names (variables_in ys) f) (with_names (variables_in ys) g) low ns n so' vs')
  body_kinded (of_other c b x y typed) k f g low ns n so vs = stmt_kinded typed k f g low ns n so vs

pub typed_statements_are_kinded : TypedStatementsAreKinded
typed_statements_are_kinded p s functions f g low c x y b typed k ns n so vs = stmt_kinded p s functions typed k f g low ns n so vs

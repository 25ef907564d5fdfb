-- Bodies of a typed file, with annotations, in their program.
use Rattle.std.proofs.Common.{◌≡◌, ℕ, ℤ, zero, suc, ◌≤◌, ◌<◌, Bool, true, false, not, if◌then◌else◌, List, [], ◌∷◌, length, Some, refl, sym, ap, ◌∙◌, subst, slice_get, slice_index_or, arith}
use Rattle.std.specs.Prelude.{◌==◌}
use Rattle.std.specs.List.{list_all}
use Rattle.std.proofs.lemmas.Bool.{false≢true}
use Rattle.wp_base.specs.Blocks.{cells_of}
use Rattle.c_kinds.specs.Models.{holds}
use Rattle.typed_prog.specs.declared.types.CoreType.{CoreType}
use Rattle.typed_prog.specs.declared.operators.Op.{Op}
use Rattle.typed_prog.specs.declared.operators.Op.TheVariants as op
use Rattle.typed_prog.specs.declared.operators.Path.{Path}
use Rattle.typed_prog.specs.declared.operators.Root.{Root}
use Rattle.typed_prog.specs.declared.operators.Root.TheVariants as root
use Rattle.typed_prog.specs.declared.operators.Step.{Step}
use Rattle.typed_prog.specs.declared.operators.Variable.TheVariants as variable
use Rattle.typed_prog.specs.Tree as tree
use Rattle.c_syntax.specs.Expr as e
use Rattle.c_syntax.specs.Stmt as p
use Rattle.name_table.specs.Names.{Names}
use Rattle.c_scopes.specs.declared.symbols.Signature.{Signature}
use Rattle.c_variables.specs.declared.context.Context.{Context}
use Rattle.c_variables.specs.Contexts.{around_of}
use Rattle.c_stmts.specs.Locals.{count_of}
use Rattle.typed_unit.specs.Stmt as unit
use Rattle.typed_unit.specs.Unit as u
use Rattle.c_typed_stmts.specs.Full.{IsFull}
use Rattle.c_addressed.specs.Addressed.{ValueTakes}
use Rattle.c_typed_files.specs.Functions as rules
use Rattle.c_typed_files.specs.Functions.{IsBody}
use Rattle.acsl_typing.specs.Annotations.{Annotations}
use Rattle.acsl_notes.specs.Notes.{Note}
use Rattle.c_runs.specs.Program.{Stmts, Variable, Function}
use Rattle.c_runs.specs.Objects.{is_plain_in}
use Rattle.c_runs.specs.Values.{kind_at}
use Rattle.plain_programs.specs.Told.{Text, values_of, variables_from, clauses_for, notes_of, text_of, function_with, result_of, placed, program_of}
use Rattle.plain_programs.specs.Standing.{stmts_stand}
use Rattle.plain_programs.specs.Files.{IsTypedBody, of_block, of_other, BodiesStand}
use Rattle.plain_programs.proofs.Variables.{is_found, written_is}
use Rattle.plain_runs.specs.Fitting.{is_param}
use Rattle.plain_files.proofs.Names.{some_is, no_some}
use Rattle.plain_files.proofs.Standing.{body_stands}
use Rattle.plain_files.proofs.Headers.{OfTypes}
use Rattle.plain_files.proofs.Contexts.{InScope as Scoping, finds}
use Rattle.plain_files.proofs.Bodies.{FileIs}
use Rattle.plain_files.proofs.Texts.{Fit, text_is, function_there}
use Rattle.plain_files.proofs.Variables.{as_many}
use Rattle.value_terms.specs.Typed.{kind_given}
use Rattle.typed_values.specs.Kinds.{TargetIsKnown}
use Rattle.typed_values.specs.Declared.{Meets}
use Rattle.typed_values.specs.Values.{is_in_block}
use Rattle.typed_values.specs.Programs.{StandsIn}
use Rattle.typed_values.specs.Files.{stmt_nulls, IsOfFile}
use Rattle.typed_values.proofs.Files.{files_know_their_cells}
use Rattle.typed_values.proofs.Programs.{programs_meet_their_files}
use Rattle.run_blocks.specs.Ends.{is_short}
use Rattle.typed_runs.specs.Fitting.{Shape, InScope, kind_of}
use Rattle.typed_normal.specs.Spelled.{spelled_scope}
use Rattle.kinded_programs.specs.Nodes.{EachNode, AllValues}
use Rattle.kinded_programs.specs.Values.{OpIsFine, NodeStands, Stands, Defines}
use Rattle.kinded_programs.specs.Standing.{IsIn, StmtsStand}
use Rattle.kinded_programs.specs.Files.{shape_in, IsTypedIn, BodiesAreTyped, ValuesStand}
use Rattle.kinded_files.specs.Holding.{body_holds, constants_hold}
use Rattle.kinded_files.proofs.Nodes.{each_two, all_two, each_placed}
use Rattle.kinded_files.proofs.Holding.{all_at, NullIs, NullsAre, nulls_are, IsHeld, AreHeld, stmt_held}
use Rattle.kinded_files.proofs.Scoped.{IsScoped, Scoped, value_scoped}
use Rattle.kinded_files.proofs.Scoping.{body_is}
use Rattle.kinded_files.proofs.Layouts.{more_layout}
use Rattle.kinded_files.proofs.Variables.{layout_there, plain_there, kind_there, cell_there, all_short}
use Rattle.kinded_files.proofs.Homes.{HomeBy, IsHome, TakesAt, takes_nodes}
use Rattle.kinded_files.proofs.Bodies.{IsBodyIn, InFile}

-- ---- lists

there_too : {X Y : Type 0} (xs : List X) (ys : List Y) → length xs ≡ length ys → (i : ℕ) (x : X) → slice_get xs i ≡ Some x → (y : Y) × (slice_get ys i ≡ Some y)
there_too [] ys e i x h = absurd (no_some x h)
there_too (a ∷ xs) [] e i x h = absurd (omega (arith, e))
there_too (a ∷ xs) (b ∷ ys) e zero x h = (b, refl)
there_too (a ∷ xs) (b ∷ ys) e (suc i) x h = there_too xs ys (omega (arith, e)) i x h

no_fewer : {X : Type 0} (xs ys : List X) → ((i : ℕ) (x : X) → slice_get xs i ≡ Some x → slice_get ys i ≡ Some x) → length xs ≤ length ys
no_fewer [] ys h = omega arith
no_fewer (x ∷ xs) [] h = absurd (no_some x (h 0 x refl))
no_fewer (x ∷ xs) (y ∷ ys) h = let rest = no_fewer xs ys (λ i z e. h (suc i) z e) in omega (arith, rest)

there_at : {X : Type 0} (xs : List X) (n : ℕ) → n < length xs → (x : X) × (slice_get xs n ≡ Some x)
there_at [] n h = absurd (omega (arith, h))
there_at (x ∷ xs) zero h = (x, refl)
there_at (x ∷ xs) (suc n) h = there_at xs n (omega (arith, h))

-- the body of a text is one of the file
body_there : (n : ℕ) (bs : List u.Body) (nss : List (List Note)) (x : Text) → text_of n bs nss ≡ Some x → (i : ℕ) × (slice_get bs i ≡ Some x.body)
body_there n [] nss x h = absurd (no_some x h)
body_there n (b ∷ bs) [] x h = absurd (no_some x h)
body_there n (b ∷ bs) (ns ∷ nss) x h = by (b.function == n) h (body_there n bs nss x) where
  by : (z : Bool) → (if z then Some (record { body = b; notes = ns }) else text_of n bs nss) ≡ Some x → (text_of n bs nss ≡ Some x → (i : ℕ) × (slice_get bs i ≡ Some x.body))
      → (i : ℕ) × (slice_get (b ∷ bs) i ≡ Some x.body)
  by true k rest = (0, ap (λ (y : Text). Some y.body) (some_is (record { body = b; notes = ns }) x k))
  by false k rest = let r = rest k in (suc r.0, r.1)

typed_body : {c : Context} {x : p.Stmt} {y : unit.Stmt} {b : Context} → IsBody c x y b → IsTypedBody c y b
typed_body (rules.block c b line xs ys are) = of_block c b line xs ys are
typed_body (rules.other c b x y is) = of_other c b x y is

module _ (t : u.Typed) (a : Annotations) (taken : Names Bool) (here : InFile t.model taken t) (is : FileIs t) (fit : Fit t.parts a.items) where
  abbrev function_at : (n : ℕ) → Signature → Text → Function Stmts
  function_at n g x = function_with t.file.structs g (clauses_for n t.parts a.items) x

  abbrev Flags : (f : Function Stmts) → Shape
  Flags f = shape_in t f

  -- what is known of a body
  pub record Known (n : ℕ) (g : Signature) (x : Text) : Type 0 where
    pub body : IsBodyIn t.model taken t.file x.body
    pub signature : body.signature ≡ g
    pub at : ℕ
    pub there : slice_get t.bodies at ≡ Some x.body

  known : (n : ℕ) (g : Signature) (x : Text) → slice_get t.file.functions n ≡ Some g → text_of n t.bodies (notes_of t.parts a.items) ≡ Some x → Known n g x
  known n g x declared written =
      let b = text_is (IsBodyIn t.model taken t.file) n t.bodies (notes_of t.parts a.items) x written here.bodies in
      let at = body_there n t.bodies (notes_of t.parts a.items) x written in
      record {
        body = b.0;
        signature = some_is b.0.signature g (sym b.0.found ∙ ap (slice_get t.file.functions) b.1 ∙ declared);
        at = at.0;
        there = at.1;
      }

  types_of : (n : ℕ) (g : Signature) (x : Text) (k : Known n g x) → OfTypes g.params k.body.before.scope.local.objects
  types_of n g x k = subst (λ (s : Signature). OfTypes s.params k.body.before.scope.local.objects) k.signature k.body.params

  -- a function has as many variables as parameters at least
  enough : (n : ℕ) (g : Signature) (x : Text) → Known n g x → length g.params ≤ length x.body.locals
  enough n g x k =
      let fewer = no_fewer k.body.before.scope.local.objects x.body.locals (λ i o e. k.body.stays i o e) in
      omega (arith, (types_of n g x k).count, fewer)

  abbrev variables_at : (g : Signature) (x : Text) → List Variable
  variables_at g x = variables_from t.file.structs x.body.plain (values_of (length g.params) x.body) 0 x.body.locals

  enough_variables : (n : ℕ) (g : Signature) (x : Text) → Known n g x → length g.params ≤ length (variables_at g x)
  enough_variables n g x k =
      subst (λ m. length g.params ≤ m) (sym (as_many t.file.structs x.body.plain (values_of (length g.params) x.body) 0 x.body.locals)) (enough n g x k)

  -- ---- functions that are called

  param_kinds : (n : ℕ) (g : Signature) (x : Text) → Known n g x → (i : ℕ) (type : CoreType) (v : Variable) → slice_get g.params i ≡ Some type → slice_get (variables_at g x) i ≡ Some v
      → kind_given type ≡ kind_of v
  param_kinds n g x k i type v h found =
      let types = types_of n g x k in
      let o = there_too g.params k.body.before.scope.local.objects types.count i type h in
      let layout = layout_there t.file.structs x.body.plain (values_of (length g.params) x.body) 0 i x.body.locals o.0 v (k.body.stays i o.0 o.1) found in
      ap kind_given (types.types i type o.0 h o.1) ∙ kind_there t.file.structs o.0 v layout (k.body.scalars i o.0 o.1)

  of_file : (f : Function Stmts) (g : InScope) → IsOfFile t (spelled_scope (program_of t a).facts (Flags f) g)
  of_file f g = record { blocks = refl; kinds = λ k. refl }

  defines : (f : Function Stmts) (n : ℕ) (g : Signature) → slice_get t.file.functions n ≡ Some g → Defines (program_of t a).facts (Flags f) (program_of t a).functions n g
  defines f n g h =
      let there = function_there t a is fit n g h in
      let k = known n g there.text h there.written in
      record {
        function = function_at n g there.text;
        found = there.found;
        count = refl;
        enough = enough_variables n g there.text k;
        kinds = param_kinds n g there.text k;
        result = refl;
        returns = here.results n g h;
        target = λ s. (files_know_their_cells t (spelled_scope (program_of t a).facts (Flags f) s) (of_file f s)).results n g h;
      }

  -- ---- what is declared in a body

  stands_in : (n : ℕ) (g : Signature) (x : Text) (k : Known n g x) → StandsIn t x.body (around_of k.body.after)
  stands_in n g x k = record {
    model = sym k.body.model;
    structs = k.body.structs;
    globals = k.body.file.globals;
    locals = λ i o h. ap (λ os. slice_get os i) (sym k.body.locals) ∙ h;
    plain_globals = here.plain;
    plain_locals = λ i o h plain.
        k.body.laid.locals i o (ap (λ os. slice_get os i) k.body.locals ∙ h) (ap (λ ps. slice_index_or ps i false) k.body.flags ∙ plain);
  }

  meets_here : (n : ℕ) (g : Signature) (x : Text) (k : Known n g x) (s : InScope)
      → Meets (around_of k.body.after) (program_of t a).facts (variables_at g x) (spelled_scope (program_of t a).facts (Flags (function_at n g x)) s)
  unfolding program_of
  meets_here n g x k s =
      programs_meet_their_files t a k.at x.body k.there (around_of k.body.after) k.body.laid.layouts (stands_in n g x k)
      (spelled_scope (program_of t a).facts (Flags (function_at n g x)) s) (of_file (function_at n g x) s) (values_of (length g.params) x.body)

  is_in : (n : ℕ) (g : Signature) (x : Text) (k : Known n g x) → IsIn (program_of t a).facts (Flags (function_at n g x)) (program_of t a).functions k.body.after
  is_in n g x k = record {
    there = record { meets = meets_here n g x k; called = λ i s h. defines (function_at n g x) i s (k.body.file.functions i s h) };
    result = ap (λ (s : Signature). result_of s.result) (sym k.signature) ∙ ap result_of k.body.of_result;
  }

  cells_of_params : (n : ℕ) (g : Signature) (x : Text) (k : Known n g x) (i : ℕ) (v : Variable) → i < length g.params → slice_get (variables_at g x) i ≡ Some v → cells_of v.layout ≡ kind_of v ∷ []
  cells_of_params n g x k i v below found =
      let count = (types_of n g x k).count in
      let o = there_at k.body.before.scope.local.objects i (omega (arith, below, count)) in
      let layout = layout_there t.file.structs x.body.plain (values_of (length g.params) x.body) 0 i x.body.locals o.0 v (k.body.stays i o.0 o.1) found in
      cell_there t.file.structs o.0 v layout (k.body.scalars i o.0 o.1)

  short_here : (n : ℕ) (g : Signature) (x : Text) (k : Known n g x) → list_all (is_short (program_of t a).facts) (variables_at g x) ≡ true
  short_here n g x k =
      all_short (program_of t a).facts t.file.structs x.body.plain (values_of (length g.params) x.body) 0 x.body.locals (λ i o h.
      let r = k.body.short i o (ap (λ os. slice_get os i) k.body.locals ∙ h) in
      (r.0, more_layout k.body.after.scope.file.structs t.file.structs k.body.structs r.1, r.2))

  pub bodies_typed : BodiesAreTyped t a
  bodies_typed n f found =
      let g = found.signature in
      let x = found.text in
      let k = known n g x found.declared found.written in
      subst (λ (h : Function Stmts). IsTypedIn t (program_of t a) x.body h) (sym found.same)
      (record {
        before = k.body.before;
        after = k.body.after;
        typed = typed_body k.body.typed;
        is_in = is_in n g x k;
        params = enough_variables n g x k;
        one_cell = λ i v below there block. cells_of_params n g x k i v below there;
        short = short_here n g x k;
      })

  -- ---- scopes

  pub scopes_stand : BodiesStand (program_of t a)
  scopes_stand n f h =
      let found = is_found t a n f h in
      let g = found.signature in
      let x = found.text in
      let k = known n g x found.declared found.written in
      let count : count_of k.body.before ≡ length g.params = sym (types_of n g x k).count in
      let all : length (variables_at g x) ≡ length x.body.locals = as_many t.file.structs x.body.plain (values_of (length g.params) x.body) 0 x.body.locals in
      let behind : count_of k.body.after ≡ length x.body.locals = ap length k.body.locals in
      let stands = body_stands (length (variables_at g x)) k.body.typed k.body.nests k.body.block k.body.scope (omega (arith, all, behind)) x.notes (length g.params) (sym count) in
      subst (λ (q : Function Stmts). stmts_stand (length q.variables) (is_param q.params) (is_param q.params) 0 q.body ≡ true) (sym found.same)
      (subst (λ m. stmts_stand (length (variables_at g x)) (is_param m) (is_param m) 0 (function_at n g x).body ≡ true) count stands)

  -- ---- values

  module _ (n : ℕ) (g : Signature) (x : Text) (k : Known n g x) (held : body_holds t.model x.body ≡ true) where
    abbrev own : Shape
    own = Flags (function_at n g x)

    abbrev IsKnown : CoreType → Type 0
    IsKnown type = (s : InScope) → TargetIsKnown (spelled_scope (program_of t a).facts own s) type

    abbrev body_stmts : Stmts
    body_stmts = (placed x.body.stmt x.notes (length g.params)).stmts

    -- variables are named in scope, and ways stay inside
    scoped_here : AllValues (λ s v. Scoped (program_of t a).facts own s v) (is_param (length g.params)) body_stmts
    scoped_here =
        let count : count_of k.body.before ≡ length g.params = sym (types_of n g x k).count in
        subst (λ m. AllValues (λ s v. Scoped (program_of t a).facts own s v) (is_param m) body_stmts) count
        (body_is (λ s v. Scoped (program_of t a).facts own s v) full k.body.typed k.body.nests k.body.block (is_param (count_of k.body.before)) k.body.scope x.notes (length g.params) (sym count)) where
          full : (c : Context) (s : ℕ → Bool) → Scoping c s → (b : e.Expr) (v : tree.Value) → IsFull c b v → Scoped (program_of t a).facts own s v
          full c s in_scope b v is = value_scoped (program_of t a).facts own s (around_of c) (finds c s c.scope.local.initialising in_scope) v b is.spells

    -- null pointers have known types
    nulls_here : AllValues (λ s v. NullsAre IsKnown v) (is_param (length g.params)) body_stmts
    nulls_here =
        each_placed (NullsAre IsKnown) x.body.stmt
        (nulls_are IsKnown x.body.stmt (all_at IsKnown (stmt_nulls x.body.stmt) (λ i type h.
        λ s. ((files_know_their_cells t (spelled_scope (program_of t a).facts own s) (of_file (function_at n g x) s)).bodies k.at x.body k.there).nulls i type h)))
        (is_param (length g.params)) x.notes (length g.params)

    held_here : AllValues (λ s v. AreHeld t.model v) (is_param (length g.params)) body_stmts
    held_here =
        each_placed (AreHeld t.model) x.body.stmt (stmt_held t.model x.body.stmt held) (is_param (length g.params)) x.notes (length g.params)

    -- pointers may lead to variables whose addresses are taken
    abbrev Home : Path → Type 0
    Home path = IsHome t.file.names taken x.body.plain path

    homes_here : AllValues (λ s v. ValueTakes Home v) (is_param (length g.params)) body_stmts
    homes_here = each_placed (λ v. ValueTakes Home v) x.body.stmt k.body.addresses (is_param (length g.params)) x.notes (length g.params)

    -- ---- all of it

    in_block : (b c : Bool) → (b ≡ true → c ≡ true) → c ≡ false → not b ≡ true
    in_block true c h k = absurd (false≢true (sym k ∙ h refl))
    in_block false c h k = refl

    home_is : (r : Root) (ss : List Step) → HomeBy t.file.names taken x.body.plain r ss → ss ≡ [] → is_in_block (program_of t a).facts own.variables r ≡ true
    unfolding program_of
    home_is (root.Variable (variable.Local y)) [] h none =
        in_block (is_plain_in (slice_get (variables_at g x) y)) (slice_index_or x.body.plain y false)
        (plain_there t.file.structs x.body.plain (values_of (length g.params) x.body) 0 y y x.body.locals (omega arith)) h
    home_is (root.Variable (variable.Global y)) [] h none =
        in_block (is_plain_in (slice_get (program_of t a).facts.globals y)) (slice_index_or t.plain y false) (plain_there t.file.structs t.plain _ 0 y y t.file.globals (omega arith))
        (here.untaken h.0 y h.1 h.2)
    home_is (root.Variable (variable.Local y)) (s ∷ ss) h none = absurd cc
    home_is (root.Variable (variable.Global y)) (s ∷ ss) h none = absurd cc
    home_is (root.Pointed y) ss h none = refl

    op_is : (s : InScope) (o : Op) (type : CoreType) (es : tree.Values) → IsScoped (program_of t a).facts own s type (tree.apply o es) → TakesAt Home type (tree.apply o es)
        → OpIsFine (program_of t a).facts own s o
    op_is s (op.Read path) type es h b = h
    op_is s (op.Address path accessed) type es h b = (h, home_is path.root path.steps b)
    op_is s (op.Decay path accessed) type es h b = h
    op_is s op.Negate type es h b = tt
    op_is s op.Complement type es h b = tt
    op_is s op.Not type es h b = tt
    op_is s (op.Arithmetic o) type es h b = tt
    op_is s (op.Compare how) type es h b = tt
    op_is s (op.ComparePointers how) type es h b = tt
    op_is s (op.Offset minus index_first size accessed) type es h b = tt
    op_is s (op.Difference size) type es h b = tt
    op_is s op.Convert type es h b = tt
    op_is s op.Requalify type es h b = tt
    op_is s op.Cast type es h b = tt

    abbrev TwoAre : CoreType → tree.ValueNode → Type 0
    TwoAre type node = NullIs IsKnown type node × IsHeld t.model type node

    abbrev ThreeAre : CoreType → tree.ValueNode → Type 0
    ThreeAre type node = TakesAt Home type node × TwoAre type node

    constant_is : (z : ℤ) (type : CoreType) → holds t.model (kind_at type) z ≡ true → holds (program_of t a).facts.model (kind_at type) z ≡ true
    unfolding program_of
    constant_is z type h = h

    node_is : (s : InScope) (type : CoreType) (node : tree.ValueNode) → IsScoped (program_of t a).facts own s type node → ThreeAre type node → NodeStands (program_of t a).facts own s type node
    node_is s type (tree.constant z) h b = constant_is z type b.1.1
    node_is s type tree.null h b = b.1.0 s
    node_is s type (tree.temporary m) h b = tt
    node_is s type (tree.apply o es) h b = op_is s o type es h b.0
    node_is s type (tree.logic how v w) h b = tt
    node_is s type (tree.choose test v w) h b = tt
    node_is s type (tree.effect does es) h b = h

    two_here : AllValues (λ s v. EachNode TwoAre v) (is_param (length g.params)) body_stmts
    two_here =
        all_two (λ s v. NullsAre IsKnown v) (λ s v. AreHeld t.model v) (λ s v. EachNode TwoAre v)
        (λ s v h b. each_two (NullIs IsKnown) (IsHeld t.model) TwoAre (λ type node c d. (c, d)) v h b) (is_param (length g.params)) body_stmts nulls_here held_here

    three_here : AllValues (λ s v. EachNode ThreeAre v) (is_param (length g.params)) body_stmts
    three_here =
        all_two (λ s v. ValueTakes Home v) (λ s v. EachNode TwoAre v) (λ s v. EachNode ThreeAre v)
        (λ s v h b. each_two (TakesAt Home) TwoAre ThreeAre (λ type node c d. (c, d)) v (takes_nodes Home v h) b) (is_param (length g.params)) body_stmts homes_here two_here

    pub values_here : StmtsStand (program_of t a).facts own (is_param (length g.params)) body_stmts
    values_here =
        all_two (λ s v. Scoped (program_of t a).facts own s v) (λ s v. EachNode ThreeAre v) (λ s v. Stands (program_of t a).facts own s v)
        (λ s v h b. each_two (IsScoped (program_of t a).facts own s) ThreeAre (NodeStands (program_of t a).facts own s) (node_is s) v h b) (is_param (length g.params)) body_stmts
        scoped_here three_here

  pub values_stand : constants_hold t ≡ true → ValuesStand t a
  unfolding constants_hold
  values_stand all n f h =
      let found = is_found t a n f h in
      let g = found.signature in
      let x = found.text in
      let k = known n g x found.declared found.written in
      let held = written_is (body_holds t.model) n t.bodies (notes_of t.parts a.items) x found.written all in
      subst (λ (q : Function Stmts). StmtsStand (program_of t a).facts (Flags q) (is_param q.params) q.body) (sym found.same) (values_here n g x k held)

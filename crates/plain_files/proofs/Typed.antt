-- Bodies of a typed file, with annotations, in their program.
use Rattle.std.proofs.Common.{◌≡◌, ℕ, zero, suc, ◌≤◌, true, false, is_some, List, [], ◌∷◌, map, length, Some, refl, sym, ap, ◌∙◌, subst, slice_get, arith}
use Rattle.std.proofs.lemmas.Bool.{and_parts}
use Rattle.typed_prog.specs.declared.types.CoreType.{CoreType}
use Rattle.typed_prog.specs.Types.{of_kind}
use Rattle.c_scopes.specs.declared.symbols.Object.{Object}
use Rattle.c_scopes.specs.declared.symbols.Signature.{Signature}
use Rattle.c_syntax.specs.Stmt as p
use Rattle.c_variables.specs.declared.context.Context.{Context}
use Rattle.c_variables.specs.Contexts.{around_of}
use Rattle.c_stmts.specs.Locals.{count_of}
use Rattle.typed_unit.specs.Stmt as s
use Rattle.typed_unit.specs.Unit as u
use Rattle.c_typed_files.specs.Functions as rules
use Rattle.c_typed_files.specs.Functions.{IsBody}
use Rattle.acsl_typing.specs.Annotations.{Annotations}
use Rattle.c_runs.specs.Program.{Stmts, Variable, Function}
use Rattle.plain_programs.specs.Told.{Text, values_of, variables_from, clauses_for, notes_of, text_of, function_with, result_of, program_of}
use Rattle.plain_states.specs.Scopes.{kind_of}
use Rattle.plain_runs.specs.Fitting.{is_param}
use Rattle.plain_test.specs.Plain.{are_plain_objects, is_plain_stmt, is_plain_body, is_plain_file}
use Rattle.plain_programs.specs.Values.{Holds, Defines, Meets}
use Rattle.plain_programs.specs.Standing.{stmts_stand}
use Rattle.plain_programs.specs.Files.{IsTypedBody, of_block, of_other, BodiesAreTyped, BodiesStand}
use Rattle.plain_programs.proofs.Variables.{plain_parts, is_found, written_is}
use Rattle.plain_normal.specs.Jumps.{AllJump, BodiesJump}
use Rattle.plain_files.proofs.Names.{some_is, no_some}
use Rattle.plain_files.proofs.Standing.{body_stands}
use Rattle.plain_files.proofs.Headers.{OfTypes}
use Rattle.plain_files.proofs.Jumping.{body_jumps}
use Rattle.plain_files.proofs.Bodies.{IsBodyOf, FileIs}
use Rattle.plain_files.proofs.Texts.{Fit, text_is, function_there}
use Rattle.plain_files.proofs.Variables.{as_many, variable_there}

-- ---- lists

there_too : {X Y : Type 0} (xs : List X) (ys : List Y) → length xs ≡ length ys → (i : ℕ) (x : X) → slice_get xs i ≡ Some x → (y : Y) × (slice_get ys i ≡ Some y)
there_too [] ys e i x h = absurd (no_some x h)
there_too (a ∷ xs) [] e i x h = absurd (omega (arith, e))
there_too (a ∷ xs) (b ∷ ys) e zero x h = (b, refl)
there_too (a ∷ xs) (b ∷ ys) e (suc i) x h = there_too xs ys (omega (arith, e)) i x h

no_fewer : {X : Type 0} (xs ys : List X) → ((i : ℕ) (x : X) → slice_get xs i ≡ Some x → slice_get ys i ≡ Some x) → length xs ≤ length ys
no_fewer [] ys h = omega arith
no_fewer (x ∷ xs) [] h = absurd (no_some x (h 0 x refl))
no_fewer (x ∷ xs) (y ∷ ys) h = let rest = no_fewer xs ys (λ i z e. h (suc i) z e) in omega (arith, rest)

typed_body : {c : Context} {x : p.Stmt} {y : s.Stmt} {b : Context} → IsBody c x y b → IsTypedBody c y b
typed_body (rules.block c b line xs ys are) = of_block c b line xs ys are
typed_body (rules.other c b x y is) = of_other c b x y is

module _ (t : u.Typed) (a : Annotations) (plain : is_plain_file t ≡ true) (is : FileIs t) (fit : Fit t.parts a.items) where
  abbrev function_at : (n : ℕ) → Signature → Text → Function Stmts
  function_at n g x = function_with t.file.structs g (clauses_for n t.parts a.items) x

  -- what is known of a body
  record Known (n : ℕ) (g : Signature) (x : Text) : Type 0 where
    pub body : IsBodyOf t.file x.body
    pub signature : body.signature ≡ g
    pub objects : are_plain_objects x.body.plain 0 x.body.locals ≡ true

  known : (n : ℕ) (g : Signature) (x : Text) → slice_get t.file.functions n ≡ Some g → text_of n t.bodies (notes_of t.parts a.items) ≡ Some x → Known n g x
  known n g x declared written =
      let b = text_is (IsBodyOf t.file) n t.bodies (notes_of t.parts a.items) x written is.bodies in
      let body = written_is (is_plain_body t.model) n t.bodies (notes_of t.parts a.items) x written (plain_parts t plain).bodies in
      record {
        body = b.0;
        signature = some_is b.0.signature g (sym b.0.found ∙ ap (slice_get t.file.functions) b.1 ∙ declared);
        objects = (and_parts (are_plain_objects x.body.plain 0 x.body.locals) (is_plain_stmt t.model x.body.stmt) body).0;
      }

  types_of : (n : ℕ) (g : Signature) (x : Text) (k : Known n g x) → OfTypes g.params k.body.before.scope.local.objects
  types_of n g x k = subst (λ (s : Signature). OfTypes s.params k.body.before.scope.local.objects) k.signature k.body.params

  -- a function has as many variables as parameters at least
  enough : (n : ℕ) (g : Signature) (x : Text) → Known n g x → length g.params ≤ length x.body.locals
  enough n g x k =
      let fewer = no_fewer k.body.before.scope.local.objects x.body.locals (λ i o e. k.body.stays i o e) in
      omega (arith, (types_of n g x k).count, fewer)

  abbrev variables_at : (g : Signature) (x : Text) → List Variable
  variables_at g x = variables_from t.file.structs x.body.plain (values_of (length g.params) x.body) 0 x.body.locals

  param_kinds : (n : ℕ) (g : Signature) (x : Text) → Known n g x → (i : ℕ) (type : CoreType) (v : Variable) → slice_get g.params i ≡ Some type → slice_get (variables_at g x) i ≡ Some v → type ≡ of_kind (kind_of v)
  param_kinds n g x k i type v h e =
      let types = types_of n g x k in
      let o = there_too g.params k.body.before.scope.local.objects types.count i type h in
      let r = variable_there t.file.structs x.body.plain (values_of (length g.params) x.body) 0 x.body.locals k.objects i o.0 (k.body.stays i o.0 o.1) in
      types.types i type o.0 h o.1 ∙ r.kind ∙ ap (λ (w : Variable). of_kind (kind_of w)) (some_is r.variable v (sym r.found ∙ e))

  defines : (n : ℕ) (g : Signature) → slice_get t.file.functions n ≡ Some g → Defines (program_of t a).functions n g
  defines n g h =
      let there = function_there t a is fit n g h in
      let k = known n g there.text h there.written in
      let count = as_many t.file.structs there.text.body.plain (values_of (length g.params) there.text.body) 0 there.text.body.locals in
      record {
        function = function_at n g there.text;
        found = there.found;
        count = refl;
        enough = subst (λ m. length g.params ≤ m) (sym count) (enough n g there.text k);
        kinds = param_kinds n g there.text k;
        result = refl;
      }

  globals_there : (n : ℕ) (o : Object) → slice_get t.file.globals n ≡ Some o → Holds (program_of t a).facts.globals n o.ty
  unfolding program_of
  globals_there n o h = variable_there t.file.structs t.plain (map is_some t.inits) 0 t.file.globals (plain_parts t plain).globals n o h

  meets_here : (n : ℕ) (g : Signature) (x : Text) (k : Known n g x) → Meets (around_of k.body.after) (program_of t a).facts (variables_at g x) (program_of t a).functions
  meets_here n g x k = record {
    globals = λ i o h. globals_there i o (k.body.file.globals i o h);
    locals = λ i o h. variable_there t.file.structs x.body.plain (values_of (length g.params) x.body) 0 x.body.locals k.objects i o (ap (λ os. slice_get os i) (sym k.body.locals) ∙ h);
    called = λ i s h. defines i s (k.body.file.functions i s h);
  }

  pub bodies_typed : BodiesAreTyped t a
  bodies_typed n f found =
      let g = found.signature in
      let x = found.text in
      let k = known n g x found.declared found.written in
      record {
        before = k.body.before;
        after = k.body.after;
        typed = typed_body k.body.typed;
        meets = subst (λ vs. Meets (around_of k.body.after) (program_of t a).facts vs (program_of t a).functions) (sym (ap (λ (h : Function Stmts). h.variables) found.same)) (meets_here n g x k);
        result = ap (λ (s : Signature). result_of s.result) (sym k.signature) ∙ ap result_of k.body.of_result;
        params = enough n g x k;
      }

  pub bodies_stand : BodiesStand (program_of t a)
  bodies_stand n f e =
      let found = is_found t a n f e in
      let g = found.signature in
      let x = found.text in
      let k = known n g x found.declared found.written in
      let count : count_of k.body.before ≡ length g.params = sym (types_of n g x k).count in
      let all : length (variables_at g x) ≡ length x.body.locals = as_many t.file.structs x.body.plain (values_of (length g.params) x.body) 0 x.body.locals in
      let behind : count_of k.body.after ≡ length x.body.locals = ap length k.body.locals in
      let stands = body_stands (length (variables_at g x)) k.body.typed k.body.nests k.body.block k.body.scope (omega (arith, all, behind)) x.notes (length g.params) (sym count) in
      subst (λ (h : Function Stmts). stmts_stand (length h.variables) (is_param h.params) (is_param h.params) 0 h.body ≡ true) (sym found.same)
      (subst (λ m. stmts_stand (length (variables_at g x)) (is_param m) (is_param m) 0 (function_at n g x).body ≡ true) count stands)

  pub bodies_jump : BodiesJump (program_of t a)
  bodies_jump n f e =
      let found = is_found t a n f e in
      let g = found.signature in
      let x = found.text in
      let k = known n g x found.declared found.written in
      subst (λ (h : Function Stmts). AllJump false false h.body) (sym found.same) (body_jumps k.body.typed false false k.body.jumps x.notes (length g.params))

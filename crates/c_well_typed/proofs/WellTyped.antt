-- What is typed fits, by induction on the expression as spelled.
use Rattle.std.proofs.Common.{◌≡◌, ℕ, ℤ, ◌==◌, Bool, true, false, ◌||◌, if◌then◌else◌, List, [], ◌∷◌, length, position, bytes_eq, Option, Some, None, Ok, refl, subst, slice_get, arith}
use Rattle.std.proofs.lemmas.Bool.{eqb-true}
use Rattle.wp_base.specs.declared.kinds.Kind.{Kind}
use Rattle.wp_base.specs.declared.kinds.Kind.TheVariants as kind
use Rattle.c_kinds.specs.declared.models.Machdep.{Machdep}
use Rattle.c_machine.specs.declared.rules.Constant.{Constant}
use Rattle.c_machine.specs.Literals.{token_constant}
use Rattle.c_syntax.specs.declared.token.TokenKind.{TokenKind}
use Rattle.c_syntax.specs.declared.expr.UnOp.{UnOp}
use Rattle.c_syntax.specs.declared.expr.UnOp.TheVariants as un
use Rattle.c_syntax.specs.declared.expr.BinOp.{BinOp}
use Rattle.c_syntax.specs.Expr as e
use Rattle.c_syntax.specs.Lines.{line_of}
use Rattle.c_answers.specs.Answers.{Answer, after, wrong}
use Rattle.typed_prog.specs.declared.types.CoreType.{CoreType}
use Rattle.typed_prog.specs.declared.operators.Variable.{Variable}
use Rattle.typed_prog.specs.Types.{struct_of}
use Rattle.typed_prog.specs.Tree as t
use Rattle.c_operands.specs.Operands.{Operand, valued}
use Rattle.c_places.specs.declared.objects.Field.{Field}
use Rattle.c_places.specs.Objects.{dereferenced}
use Rattle.c_scopes.specs.declared.symbols.Symbol.{Symbol}
use Rattle.c_scopes.specs.declared.symbols.Symbol.TheVariants as symbol
use Rattle.c_scopes.specs.declared.symbols.Object.{Object}
use Rattle.c_scopes.specs.declared.symbols.Resolved.{Resolved}
use Rattle.c_scopes.specs.declared.symbols.Signature.{Signature}
use Rattle.c_scopes.specs.declared.symbols.Structure.{Structure}
use Rattle.c_scopes.specs.declared.symbols.Field.{Field as Member}
use Rattle.c_scopes.specs.Declarations.{find, object_of}
use Rattle.c_scopes.specs.Meanings.{named, type_of, is_void_pointer}
use Rattle.c_exprs.specs.Leaves.{literal_by, literal_of, literal, declared, name_by, name, field_with, field_by as member_by, field_in, field_named, cast_type_by, bytes_by, size_by, size_of}
use Rattle.c_exprs.specs.Typing.{Around, unary, assign, field_by, field, cast_to_type, passed, call_made, count_of, call_at, call_by, typed, typed_for, typed_all}
use Rattle.c_well_typed.specs.Paths.{object, IsField}
use Rattle.c_well_typed.specs.WellTyped.{types_of, ValuesFit, OperandFits, TypedExpressionsFit}
use Rattle.c_well_typed.proofs.Fitting.{Holds, after_holds, after_any, Made, RvalueFits, FitsAs, number_fits, valued_fits, assignable_fits}
use Rattle.c_well_typed.proofs.Integers.{minus_made, complement_made, plus_made, not_made}
use Rattle.c_well_typed.proofs.Pointers.{binary_made, conditional_made}
use Rattle.c_well_typed.proofs.Objects.{dereferenced_made, address_made, indexed_made, AreDeclared, member_made}
use Rattle.c_well_typed.proofs.Changes.{assigned_made, compound_made, stepped_made, cast_made}

-- ---- constants and names

literal_by_made : (c : Around) (line : ℕ) (k : Kind) (z : Option ℤ) → Made c (literal_by line k z)
literal_by_made c line k None = tt
literal_by_made c line k (Some z) = (number_fits c k z line).0

literal_of_made : (c : Around) (line : ℕ) (n : Option Constant) → Made c (literal_of line n)
literal_of_made c line None = tt
literal_of_made c line (Some n) = literal_by_made c line n.kind n.value

literal_made : (c : Around) (m : Machdep) (line : ℕ) (token : TokenKind) → Made c (literal m line token)
unfolding literal
literal_made c m line token = literal_of_made c line (token_constant m token)

declared_made : (c : Around) (line : ℕ) (x : Variable) (o : Option Object) → object_of c.scope x ≡ o → Made c (declared line x o)
declared_made c line x None h = tt
declared_made c line x (Some o) h = (tt, record { first = object o.ty o.is_const; begins = record { declared = o; found = h; same = refl }; leads = refl })

name_by_made : (c : Around) (line : ℕ) (s : Option Symbol) → Made c (name_by c.scope line s)
name_by_made c line None = tt
name_by_made c line (Some (symbol.Object x)) = declared_made c line x _ refl
name_by_made c line (Some (symbol.Enumerator z)) = (number_fits c kind.Int z line).0
name_by_made c line (Some (symbol.Function n)) = tt
name_by_made c line (Some (symbol.Typedef n)) = tt

name_made : (c : Around) (line : ℕ) (x : List ℕ) → Made c (name c.scope line x)
unfolding name
name_made c line x = name_by_made c line (find c.scope x)

size_by_made : (c : Around) (m : Machdep) (line : ℕ) (z : Option ℤ) → Made c (size_by m line z)
size_by_made c m line None = tt
size_by_made c m line (Some z) = (number_fits c _ z line).0

size_of_made : (c : Around) (m : Machdep) (line : ℕ) (type : e.CType) → Made c (size_of m c.scope line type)
unfolding size_of
size_of_made c m line type =
    after_any (OperandFits c) (named c.scope.file line type) _ (λ r.
    after_any (OperandFits c) (type_of line r) _ (λ r. size_by_made c m line (bytes_by m r.ty r.ty.count)))

-- ---- fields

field_with_is : (c : Around) (tag i : ℕ) (s : Structure) (m : Option Member) (offset : Option ℕ) (f : Field) (from : Resolved) → struct_of from.ty ≡ Some tag
    → slice_get c.scope.file.structs tag ≡ Some s → slice_get s.fields i ≡ m → slice_get s.layout.fields i ≡ offset → field_with i m offset ≡ Some f
    → IsField c f.number f.offset from (object f.ty (from.is_const || f.is_const))
field_with_is c tag i s None offset f from et es em eo h = absurd cc
field_with_is c tag i s (Some m) None f from et es em eo h = absurd cc
field_with_is c tag i s (Some m) (Some offset) f from et es em eo h =
    let found : Field = record { number = i; offset = offset; ty = m.ty; is_const = m.is_const } in let same : found ≡ f = cc in
    subst (λ f. IsField c f.number f.offset from (object f.ty (from.is_const || f.is_const))) same
    (record { tag = tag; is_struct = et; structure = s; declared = es; member = m; has = em; stands = eo; same = refl })

member_by_is : (c : Around) (tag : ℕ) (s : Structure) (i : Option ℕ) (f : Field) (from : Resolved) → struct_of from.ty ≡ Some tag
    → slice_get c.scope.file.structs tag ≡ Some s → member_by s i ≡ Some f → IsField c f.number f.offset from (object f.ty (from.is_const || f.is_const))
member_by_is c tag s None f from et es h = absurd cc
member_by_is c tag s (Some i) f from et es h = field_with_is c tag i s _ _ f from et es refl refl h

field_in_is : (c : Around) (tag : ℕ) (x : List ℕ) (s : Option Structure) (f : Field) (from : Resolved) → struct_of from.ty ≡ Some tag
    → slice_get c.scope.file.structs tag ≡ s → field_in x s ≡ Some f → IsField c f.number f.offset from (object f.ty (from.is_const || f.is_const))
field_in_is c tag x None f from et es h = absurd cc
field_in_is c tag x (Some s) f from et es h = member_by_is c tag s (position (λ f. bytes_eq x f.name) s.fields) f from et es h

are_declared : (c : Around) (x : List ℕ) → AreDeclared c (field_named c.scope x)
are_declared c x tag f from et h = field_in_is c tag x _ f from et refl h

field_by_made : (c : Around) (line : ℕ) (f : List ℕ) (arrow : Bool) (x : Operand) → OperandFits c x → Made c (field_by c.scope line f arrow x)
field_by_made c line f false x fits = member_made c line _ x (are_declared c f) fits
field_by_made c line f true x fits =
    after_holds (OperandFits c) (OperandFits c) (dereferenced line x) _ (dereferenced_made c line x fits) (λ y fy. member_made c line _ y (are_declared c f) fy)

field_made : (c : Around) (line : ℕ) (f : List ℕ) (arrow : Bool) (x : Operand) → OperandFits c x → Made c (field c.scope line f arrow x)
unfolding field
field_made c line f arrow x fits = field_by_made c line f arrow x fits

-- ---- operators

unary_made : (c : Around) (line : ℕ) (o : UnOp) (x : Operand) → OperandFits c x → Made c (unary c.model line o x)
unfolding unary
unary_made c line un.AddressOf x fits = address_made c line x fits
unary_made c line un.Deref x fits = dereferenced_made c line x fits
unary_made c line un.Plus x fits = plus_made c c.model line x fits
unary_made c line un.Minus x fits = minus_made c c.model line x fits
unary_made c line un.BitNot x fits = complement_made c c.model line x fits
unary_made c line un.Not x fits = not_made c c.model line x fits

assign_made : (c : Around) (line : ℕ) (o : Option BinOp) (x y : Operand) → OperandFits c x → OperandFits c y → Made c (assign c.model c.sizes line o x y)
unfolding assign
assign_made c line None x y fx fy = assigned_made c c.model line x y fx fy
assign_made c line (Some o) x y fx fy = compound_made c line o x y fx fy

cast_to_type_made : (c : Around) (line : ℕ) (type : e.CType) (r : Option Resolved) (x : Operand) → OperandFits c x
    → Made c (cast_to_type c.model c.scope line type r x)
cast_to_type_made c line type r x fits =
    after_any (OperandFits c) (is_void_pointer c.scope.file line type) _ (λ p.
    after_any (OperandFits c) (cast_type_by line p r) _ (λ to. cast_made c c.model line to x fits))

-- ---- calls

passed_fits : (c : Around) (m : Machdep) (line : ℕ) (type : CoreType) (x : Operand) → OperandFits c x → Holds (FitsAs c type) (passed m line type x)
unfolding passed
passed_fits c m line type x fits =
    after_holds (RvalueFits c) (FitsAs c type) (valued line x) _ (valued_fits c line x fits) (λ v fv. assignable_fits c m line type v.value fv)

-- the arguments fit, and have the types of the parameters
abbrev ArgumentsFit : Around → List CoreType → List t.Value → Type 0
ArgumentsFit c types vs = ValuesFit c (t.values_of vs) × (types_of (t.values_of vs) ≡ types)

call_if : (c : Around) (line n : ℕ) (f : Signature) (given : Answer (List t.Value)) (alone : Answer (Unit {0})) (b : Bool)
    → (b ≡ true → Holds (ArgumentsFit c f.params) given)
    → slice_get c.scope.file.functions n ≡ Some f → Made c (if b then after given (λ vs. Ok (call_made line n f.result vs)) else after alone (λ _. wrong line))
call_if c line n f given alone true more found =
    after_holds (ArgumentsFit c f.params) (OperandFits c) given _ (more refl) (λ vs fits.
    (fits.0, record { function = f; declared = found; arguments = fits.1; result = refl }))
call_if c line n f given alone false more found = after_any (OperandFits c) alone _ (λ u. tt)

call_at_made : (c : Around) (line n count : ℕ) (given : List CoreType → Answer (List t.Value)) (alone : Answer (Unit {0})) (f : Option Signature)
    → ((types : List CoreType) → length types ≡ count → Holds (ArgumentsFit c types) (given types)) → slice_get c.scope.file.functions n ≡ f
    → Made c (call_at line n count given alone f)
call_at_made c line n count given alone None more found = after_any (OperandFits c) alone _ (λ u. tt)
call_at_made c line n count given alone (Some f) more found =
    call_if c line n f (given f.params) alone (length f.params == count) (λ same. more f.params (eqb-true (length f.params) count same)) found

call_by_made : (c : Around) (line count : ℕ) (given : List CoreType → Answer (List t.Value)) (alone : Answer (Unit {0})) (s : Option Symbol)
    → ((types : List CoreType) → length types ≡ count → Holds (ArgumentsFit c types) (given types)) → Made c (call_by c.scope line count given alone s)
call_by_made c line count given alone None more = tt
call_by_made c line count given alone (Some (symbol.Function n)) more = call_at_made c line n count given alone _ more refl
call_by_made c line count given alone (Some (symbol.Object x)) more = after_any (OperandFits c) alone _ (λ u. tt)
call_by_made c line count given alone (Some (symbol.Enumerator z)) more = after_any (OperandFits c) alone _ (λ u. tt)
call_by_made c line count given alone (Some (symbol.Typedef n)) more = after_any (OperandFits c) alone _ (λ u. tt)

one_and_rest : (c : Around) (type : CoreType) (types : List CoreType) (v : Answer t.Value) (vs : Answer (List t.Value)) → Holds (FitsAs c type) v
    → Holds (ArgumentsFit c types) vs
    → Holds (ArgumentsFit c (type ∷ types)) (after v (λ v. after vs (λ vs. Ok (v ∷ vs))))
one_and_rest c type types v vs fv fvs =
    after_holds (FitsAs c type) (ArgumentsFit c (type ∷ types)) v _ fv (λ w fw. after_holds (ArgumentsFit c types) (ArgumentsFit c (type ∷ types)) vs _ fvs
    (λ ws fws. ((fw.0, fws.0), λ i. fw.1 i ∷ fws.1 i)))

-- ---- expressions

mutual
  typed_made : (c : Around) (a : e.Expr) → Made c (typed c a)
  typed_made c (e.number line token) = literal_made c c.model line token.kind
  typed_made c (e.char line z) = (number_fits c kind.Int z line).0
  typed_made c (e.name line x) = name_made c line x
  typed_made c (e.unary line o a) = after_holds (OperandFits c) (OperandFits c) (typed c a) _ (typed_made c a) (λ x fx. unary_made c line o x fx)
  typed_made c (e.binary line o a b) =
      after_holds (OperandFits c) (OperandFits c) (typed c a) _ (typed_made c a) (λ x fx.
      after_holds (OperandFits c) (OperandFits c) (typed c b) _ (typed_made c b) (λ y fy. binary_made c line o x y fx fy))
  typed_made c (e.cond line test a b) =
      after_holds (OperandFits c) (OperandFits c) (typed c test) _ (typed_made c test) (λ x fx.
      after_holds (OperandFits c) (OperandFits c) (typed c a) _ (typed_made c a) (λ y fy.
      after_holds (OperandFits c) (OperandFits c) (typed c b) _ (typed_made c b) (λ z fz. conditional_made c line x y z fx fy fz)))
  typed_made c (e.assign line o a b) =
      after_holds (OperandFits c) (OperandFits c) (typed c a) _ (typed_made c a) (λ x fx.
      after_holds (OperandFits c) (OperandFits c) (typed c b) _ (typed_made c b) (λ y fy. assign_made c line o x y fx fy))
  typed_made c (e.step line up prefix a) =
      after_holds (OperandFits c) (OperandFits c) (typed c a) _ (typed_made c a) (λ x fx. stepped_made c line up prefix x fx)
  typed_made c (e.call line f args) =
      call_by_made c line (count_of args) (λ params. typed_for c params args) (typed_all c args)
      (find c.scope f) (λ types same. arguments_made c types args same)
  typed_made c (e.index line a b) =
      after_holds (OperandFits c) (OperandFits c) (typed c a) _ (typed_made c a) (λ x fx.
      after_holds (OperandFits c) (OperandFits c) (typed c b) _ (typed_made c b) (λ y fy. indexed_made c line x y fx fy))
  typed_made c (e.field line a f arrow) = after_holds (OperandFits c) (OperandFits c) (typed c a) _ (typed_made c a) (λ x fx. field_made c line f arrow x fx)
  typed_made c (e.cast line type a) =
      after_any (OperandFits c) (named c.scope.file line type) _ (λ r.
      after_holds (OperandFits c) (OperandFits c) (typed c a) _ (typed_made c a) (λ x fx. cast_to_type_made c line type r x fx))
  typed_made c (e.sizeof line type) = size_of_made c c.model line type

  arguments_made : (c : Around) (types : List CoreType) (args : e.Exprs) → length types ≡ count_of args → Holds (ArgumentsFit c types) (typed_for c types args)
  arguments_made c (type ∷ types) (e.more a rest) same =
      one_and_rest c type types (after (typed c a) (passed c.model (line_of a) type)) (typed_for c types rest)
      (after_holds (OperandFits c) (FitsAs c type) (typed c a) _ (typed_made c a) (λ x fx. passed_fits c c.model (line_of a) type x fx))
      (arguments_made c types rest (omega (arith, same)))
  arguments_made c (type ∷ types) e.stop same = absurd (omega (arith, same))
  arguments_made c [] e.stop same = (tt, refl)
  arguments_made c [] (e.more a rest) same = absurd (omega (arith, same))

given_fits : (c : Around) (o : Answer Operand) (x : Operand) → Made c o → o ≡ Ok x → OperandFits c x
given_fits c o x fits h = subst (Made c) h fits

pub typed_expressions_fit : TypedExpressionsFit
typed_expressions_fit c a x h = given_fits c (typed c a) x (typed_made c a) h

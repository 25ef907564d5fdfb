-- In a typed expression the variables whose addresses are taken are those behind `&`.
use Rattle.std.proofs.Common.{◌≡◌, ℕ, ℤ, ◌==◌, Bool, true, false, if◌then◌else◌, List, [], ◌∷◌, ◌++◌, length, Option, Some, None, Ok, Err, refl, subst, inl, inr}
use Rattle.std.specs.Prelude.{slice_get}
use Rattle.std.specs.Option.{option_to_list}
use Rattle.wp_base.specs.declared.kinds.Kind.{Kind}
use Rattle.wp_base.specs.declared.kinds.Kind.TheVariants as kind
use Rattle.c_syntax.specs.declared.expr.UnOp.{UnOp}
use Rattle.c_syntax.specs.declared.expr.UnOp.TheVariants as un
use Rattle.c_syntax.specs.declared.expr.BinOp.{BinOp}
use Rattle.c_syntax.specs.declared.token.TokenKind.{TokenKind}
use Rattle.c_syntax.specs.Expr as e
use Rattle.c_syntax.specs.Lines.{line_of}
use Rattle.c_kinds.specs.Models.{size_kind}
use Rattle.c_machine.specs.declared.rules.Constant.{Constant}
use Rattle.c_machine.specs.Literals.{token_constant}
use Rattle.typed_prog.specs.declared.types.CoreType.{CoreType}
use Rattle.typed_prog.specs.declared.operators.Path.{Path}
use Rattle.typed_prog.specs.declared.operators.Root.{Root}
use Rattle.typed_prog.specs.declared.operators.Root.TheVariants as root
use Rattle.typed_prog.specs.declared.operators.Step.{Step}
use Rattle.typed_prog.specs.declared.operators.Variable.{Variable}
use Rattle.typed_prog.specs.Tree as t
use Rattle.c_answers.specs.Answers.{Answer, wrong, after}
use Rattle.c_operands.specs.Operands.{Operand, object, value, valued}
use Rattle.c_operands.specs.Conversions.{number}
use Rattle.c_scopes.specs.declared.symbols.Object.{Object}
use Rattle.c_scopes.specs.declared.symbols.Resolved.{Resolved}
use Rattle.c_scopes.specs.declared.symbols.Signature.{Signature}
use Rattle.c_scopes.specs.declared.symbols.Symbol.{Symbol}
use Rattle.c_scopes.specs.declared.symbols.Symbol.TheVariants as symbol
use Rattle.c_scopes.specs.Declarations.{find, object_of}
use Rattle.c_scopes.specs.Meanings.{named, type_of, is_void_pointer}
use Rattle.c_exprs.specs.Leaves.{literal_by, literal_of, literal, declared, name_by, name, field_named, cast_type_by, size_by, size_of_type, size_of, bytes_by}
use Rattle.c_exprs.specs.Typing.{Around, unary, assign, member_named, field, cast_to_type, passed, call_made, count_of, call_at, call_by, typed, typed_for, typed_all}
use Rattle.c_places.specs.Objects.{dereferenced, address}
use Rattle.c_taken.specs.Addressed.{Names, behind, name_of, addressed, all_addressed, type_addressed}
use Rattle.c_addressed.specs.Addressed.{AllTake, In, NamedBy, Named, OperandTakesOnly, AddressesAreNamed}
use Rattle.c_addressed.proofs.Values.{Holds, after_holds, after_any, Takes, Rvalues, OperandTakes, Made, number_takes, valued_takes, assignable_takes}
use Rattle.c_addressed.proofs.Operators.{minus_takes, complement_takes, unary_plus_takes, not_takes, binary_takes, conditional_takes}
use Rattle.c_addressed.proofs.Places.{IsPart, NotWhole, Part, dereferenced_takes, address_takes, indexed_takes, member_takes, assigned_takes, compound_takes, stepped_takes, cast_takes}

-- ---- names

-- this is so of each name
abbrev AllSo : (P : List ℕ → Type 0) → Names → Type 0
AllSo P [] = Unit {0}
AllSo P (x ∷ xs) = P x × AllSo P xs

parts_so : (P : List ℕ → Type 0) (xs ys : Names) → AllSo P (xs ++ ys) → AllSo P xs × AllSo P ys
parts_so P [] ys h = (tt, h)
parts_so P (x ∷ xs) ys h = let rest = parts_so P xs ys h.1 in ((h.0, rest.0), rest.1)

each_in : (ns ms : Names) → ((y : List ℕ) → In y ms → In y ns) → AllSo (λ y. In y ns) ms
each_in ns [] h = tt
each_in ns (m ∷ ms) h = (h m (inl refl), each_in ns ms (λ y i. h y (inr i)))

-- a way that is a whole variable is the name of that
abbrev IsNameBy : Around → e.Expr → Root → List Step → Type 0
IsNameBy c a (root.Variable x) [] = (line : ℕ) × (y : List ℕ) × (a ≡ e.name line y) × (find c.scope y ≡ Some (symbol.Object x))
IsNameBy c a (root.Variable x) (s ∷ ss) = Unit {0}
IsNameBy c a (root.Pointed n) ss = Unit {0}

abbrev IsName : Around → e.Expr → Operand → Type 0
IsName c a (object p is_const) = IsNameBy c a p.path.root p.path.steps
IsName c a (value v is_constant) = Unit {0}

part_name_by : (c : Around) (a : e.Expr) (r : Root) (ss : List Step) → IsPart r ss → IsNameBy c a r ss
part_name_by c a (root.Variable x) [] h = elim h [ ]
part_name_by c a (root.Variable x) (s ∷ ss) h = tt
part_name_by c a (root.Pointed n) ss h = tt

part_name : (c : Around) (a : e.Expr) (x : Operand) → NotWhole x → IsName c a x
part_name c a (object p is_const) h = part_name_by c a p.path.root p.path.steps h
part_name c a (value v is_constant) h = tt

module _ (c : Around) (P : List ℕ → Type 0) where
  abbrev N : Path → Type 0
  N path = Named c P path

  abbrev Is : e.Expr → Operand → Type 0
  Is a x = OperandTakes N x × IsName c a x

  abbrev Typed : e.Expr → Answer Operand → Type 0
  Typed a o = Holds (Is a) o

  parts : (a : e.Expr) (o : Answer Operand) → Holds (Part N) o → Typed a o
  parts a (Ok x) h = (h.0, part_name c a x h.1)
  parts a (Err r) h = tt

  -- a value is no variable
  made : (a : e.Expr) (o : Answer Operand) → Made N o → Typed a o
  made a (Ok (object p is_const)) h = elim h [ ]
  made a (Ok (value v k)) h = (h, tt)
  made a (Err r) h = tt

  -- ---- leaves

  number_is : (a : e.Expr) (k : Kind) (z : ℤ) (line : ℕ) → Is a (value (number k z line) true)
  number_is a k z line = (number_takes N k z line, tt)

  literal_is : (a : e.Expr) (line : ℕ) (token : TokenKind) → Typed a (literal c.model line token)
  unfolding literal
  literal_is a line token = by (token_constant c.model token) where
    value_by : (k : Kind) (v : Option ℤ) → Typed a (literal_by line k v)
    value_by k (Some z) = number_is a k z line
    value_by k None = tt

    by : (k : Option Constant) → Typed a (literal_of line k)
    by (Some k) = value_by k.kind k.value
    by None = tt

  name_is : (line : ℕ) (x : List ℕ) → Typed (e.name line x) (name c.scope line x)
  unfolding name
  name_is line x = by (find c.scope x) refl where
    declared_is : (v : Variable) → find c.scope x ≡ Some (symbol.Object v) → (o : Option Object) → Typed (e.name line x) (declared line v o)
    declared_is v is (Some o) = (tt, (line, x, refl, is))
    declared_is v is None = tt

    by : (s : Option Symbol) → find c.scope x ≡ s → Typed (e.name line x) (name_by c.scope line s)
    by None is = tt
    by (Some (symbol.Object v)) is = declared_is v is (object_of c.scope v)
    by (Some (symbol.Enumerator z)) is = number_is (e.name line x) kind.Int z line
    by (Some (symbol.Function n)) is = tt
    by (Some (symbol.Typedef n)) is = tt

  size_is : (a : e.Expr) (line : ℕ) (type : e.CType) → Typed a (size_of c.model c.scope line type)
  unfolding size_of
  size_is a line type =
      after_any (Is a) (named c.scope.file line type) _ (λ t. after_any (Is a) (type_of line t) (size_of_type c.model line) (λ r. by (bytes_by c.model r.ty r.ty.count))) where
        by : (z : Option ℤ) → Typed a (size_by c.model line z)
        by (Some z) = number_is a (size_kind c.model) z line
        by None = tt

  -- ---- operators

  -- a value has no address
  no_address : (line : ℕ) (v : t.Value) (k : Bool) → Made N (address line (value v k))
  unfolding address
  no_address line v k = tt

  address_is : (a : e.Expr) (line : ℕ) (x : Operand) → Is a x → AllSo P (addressed (e.unary line un.AddressOf a)) → Typed (e.unary line un.AddressOf a) (address line x)
  address_is a line (value v k) h so = made (e.unary line un.AddressOf a) (address line (value v k)) (no_address line v k)
  address_is a line (object p is_const) h so =
      parts (e.unary line un.AddressOf a) (address line (object p is_const)) (address_takes N line p is_const (by p.path.root p.path.steps h.1) h.0) where
        first : (y : List ℕ) (l : ℕ) → a ≡ e.name l y → P y
        first y l is = (subst (λ b. AllSo P (addressed (e.unary line un.AddressOf b))) is so).0

        by : (r : Root) (ss : List Step) → IsNameBy c a r ss → NamedBy c P r ss
        by (root.Variable v) [] k = (k.1, k.3, first k.1 k.0 k.2)
        by (root.Variable v) (s ∷ ss) k = tt
        by (root.Pointed n) ss k = tt

  unary_is : (a : e.Expr) (line : ℕ) (o : UnOp) (x : Operand) → Is a x → AllSo P (addressed (e.unary line o a)) → Typed (e.unary line o a) (unary c.model line o x)
  unfolding unary
  unary_is a line un.AddressOf x h so = address_is a line x h so
  unary_is a line un.Deref x h so = parts (e.unary line un.Deref a) (dereferenced line x) (dereferenced_takes N line x h.0)
  unary_is a line un.Plus x h so = made (e.unary line un.Plus a) _ (unary_plus_takes N c.model line x h.0)
  unary_is a line un.Minus x h so = made (e.unary line un.Minus a) _ (minus_takes N c.model line x h.0)
  unary_is a line un.BitNot x h so = made (e.unary line un.BitNot a) _ (complement_takes N c.model line x h.0)
  unary_is a line un.Not x h so = made (e.unary line un.Not a) _ (not_takes N c.model line x h.0)

  assign_is : (a : e.Expr) (line : ℕ) (o : Option BinOp) (x y : Operand) → OperandTakes N x → OperandTakes N y → Typed a (assign c.model c.sizes line o x y)
  unfolding assign
  assign_is a line None x y h g = made a _ (assigned_takes N c.model line x y h g)
  assign_is a line (Some o) x y h g = made a _ (compound_takes N c.model c.sizes line o x y h g)

  field_is : (a : e.Expr) (line : ℕ) (f : List ℕ) (arrow : Bool) (x : Operand) → OperandTakes N x → Typed a (field c.scope line f arrow x)
  unfolding field
  field_is a line f false x h = parts a (member_named c.scope line f x) (member_takes N line (field_named c.scope f) x h)
  field_is a line f true x h =
      after_holds (Part N) (Is a) (dereferenced line x) (member_named c.scope line f) (dereferenced_takes N line x h) (λ y k.
      parts a (member_named c.scope line f y) (member_takes N line (field_named c.scope f) y k.0))

  cast_is : (a : e.Expr) (line : ℕ) (type : e.CType) (meant : Option Resolved) (x : Operand) → OperandTakes N x → Typed a (cast_to_type c.model c.scope line type meant x)
  cast_is a line type meant x h =
      after_any (Is a) (is_void_pointer c.scope.file line type) _ (λ p. after_any (Is a) (cast_type_by line p meant) _ (λ to. made a _ (cast_takes N c.model line to x h)))

  -- ---- calls

  abbrev Args : List t.Value → Type 0
  Args vs = AllTake N (t.values_of vs)

  passed_is : (line : ℕ) (type : CoreType) (x : Operand) → OperandTakes N x → Holds (Takes N) (passed c.model line type x)
  unfolding passed
  passed_is line type x h =
      after_holds (Rvalues N) (Takes N) (valued line x) _ (valued_takes N line x h) (λ v k. assignable_takes N c.model line type v.value k)

  alone_is : (a : e.Expr) (line : ℕ) (alone : Answer (Unit {0})) → Typed a (after alone (λ u. wrong line))
  alone_is a line (Ok u) = tt
  alone_is a line (Err r) = tt

  call_is : (a : e.Expr) (line n count : ℕ) (for_params : List CoreType → Answer (List t.Value)) (alone : Answer (Unit {0})) → ((types : List CoreType) → Holds Args (for_params types))
      → (f : Option Signature) → Typed a (call_at line n count for_params alone f)
  call_is a line n count for_params alone h None = alone_is a line alone
  call_is a line n count for_params alone h (Some f) = by (length f.params == count) where
    by : (b : Bool) → Typed a (if b then after (for_params f.params) (λ vs. Ok (call_made line n f.result vs)) else after alone (λ _. wrong line))
    by true = after_holds Args (Is a) (for_params f.params) _ (h f.params) (λ vs k. (k, tt))
    by false = alone_is a line alone

  call_by_is : (a : e.Expr) (line count : ℕ) (for_params : List CoreType → Answer (List t.Value)) (alone : Answer (Unit {0})) → ((types : List CoreType) → Holds Args (for_params types))
      → (s : Option Symbol) → Typed a (call_by c.scope line count for_params alone s)
  call_by_is a line count for_params alone h None = tt
  call_by_is a line count for_params alone h (Some (symbol.Function n)) = call_is a line n count for_params alone h (slice_get c.scope.file.functions n)
  call_by_is a line count for_params alone h (Some (symbol.Object v)) = alone_is a line alone
  call_by_is a line count for_params alone h (Some (symbol.Enumerator z)) = alone_is a line alone
  call_by_is a line count for_params alone h (Some (symbol.Typedef n)) = alone_is a line alone

  one_more : (o : Answer t.Value) (rest : Answer (List t.Value)) → Holds (Takes N) o → Holds Args rest → Holds Args (after o (λ v. after rest (λ vs. Ok (v ∷ vs))))
  one_more (Ok v) (Ok vs) h k = (h, k)
  one_more (Ok v) (Err r) h k = tt
  one_more (Err r) rest h k = tt

  -- ---- expressions

  mutual
    pub typed_is : (a : e.Expr) → AllSo P (addressed a) → Typed a (typed c a)
    typed_is (e.number line token) so = literal_is (e.number line token) line token.kind
    typed_is (e.char line z) so = number_is (e.char line z) kind.Int z line
    typed_is (e.name line x) so = name_is line x
    typed_is (e.unary line o a) so =
        let inside = parts_so P (option_to_list (behind o (name_of a))) (addressed a) so in
        after_holds (Is a) (Is (e.unary line o a)) (typed c a) _ (typed_is a inside.1) (λ x h. unary_is a line o x h so)
    typed_is (e.binary line o a b) so =
        let inside = parts_so P (addressed b) (addressed a) so in
        after_holds (Is a) (Is (e.binary line o a b)) (typed c a) _ (typed_is a inside.1) (λ x h.
        after_holds (Is b) (Is (e.binary line o a b)) (typed c b) _ (typed_is b inside.0) (λ y g. made (e.binary line o a b) _ (binary_takes N c.model c.sizes line o x y h.0 g.0)))
    typed_is (e.cond line test a b) so =
        let first = parts_so P (addressed b ++ addressed a) (addressed test) so in
        let arms = parts_so P (addressed b) (addressed a) first.0 in
        let whole = e.cond line test a b in
        after_holds (Is test) (Is whole) (typed c test) _ (typed_is test first.1) (λ z k.
        after_holds (Is a) (Is whole) (typed c a) _ (typed_is a arms.1) (λ x h.
        after_holds (Is b) (Is whole) (typed c b) _ (typed_is b arms.0) (λ y g. made whole _ (conditional_takes N c.model line z x y k.0 h.0 g.0))))
    typed_is (e.assign line o a b) so =
        let inside = parts_so P (addressed b) (addressed a) so in
        after_holds (Is a) (Is (e.assign line o a b)) (typed c a) _ (typed_is a inside.1) (λ x h.
        after_holds (Is b) (Is (e.assign line o a b)) (typed c b) _ (typed_is b inside.0) (λ y g. assign_is (e.assign line o a b) line o x y h.0 g.0))
    typed_is (e.step line up prefix a) so =
        after_holds (Is a) (Is (e.step line up prefix a)) (typed c a) _ (typed_is a so) (λ x h. made (e.step line up prefix a) _ (stepped_takes N c.model c.sizes line up prefix x h.0))
    typed_is (e.call line f args) so =
        call_by_is (e.call line f args) line (count_of args) (λ params. typed_for c params args) (typed_all c args) (λ types. args_are types args so) (find c.scope f)
    typed_is (e.index line a b) so =
        let inside = parts_so P (addressed b) (addressed a) so in
        after_holds (Is a) (Is (e.index line a b)) (typed c a) _ (typed_is a inside.1) (λ x h.
        after_holds (Is b) (Is (e.index line a b)) (typed c b) _ (typed_is b inside.0) (λ y g. parts (e.index line a b) _ (indexed_takes N c.sizes line x y h.0 g.0)))
    typed_is (e.field line a f arrow) so =
        after_holds (Is a) (Is (e.field line a f arrow)) (typed c a) _ (typed_is a so) (λ x h. field_is (e.field line a f arrow) line f arrow x h.0)
    typed_is (e.cast line type a) so =
        let inside = parts_so P (type_addressed type) (addressed a) so in
        after_any (Is (e.cast line type a)) (named c.scope.file line type) _ (λ meant.
        after_holds (Is a) (Is (e.cast line type a)) (typed c a) _ (typed_is a inside.1) (λ x h. cast_is (e.cast line type a) line type meant x h.0))
    typed_is (e.sizeof line type) so = size_is (e.sizeof line type) line type

    args_are : (types : List CoreType) (args : e.Exprs) → AllSo P (all_addressed args) → Holds Args (typed_for c types args)
    args_are (type ∷ types) (e.more a rest) so =
        let inside = parts_so P (all_addressed rest) (addressed a) so in
        one_more (after (typed c a) (passed c.model (line_of a) type)) (typed_for c types rest)
        (after_holds (Is a) (Takes N) (typed c a) _ (typed_is a inside.1) (λ x h. passed_is (line_of a) type x h.0)) (args_are types rest inside.0)
    args_are (type ∷ types) e.stop so = tt
    args_are [] (e.more a rest) so = tt
    args_are [] e.stop so = tt

takes_only : (c : Around) (ns : Names) (a : e.Expr) (x : Operand) → Is c (λ y. In y ns) a x → OperandTakesOnly c ns x
takes_only c ns a (object p is_const) h = h.0
takes_only c ns a (value v is_constant) h = h.0

pub addresses_are_named : AddressesAreNamed
addresses_are_named c a x is =
    takes_only c (addressed a) a x (subst (Typed c (λ y. In y (addressed a)) a) is (typed_is c (λ y. In y (addressed a)) a (each_in (addressed a) (addressed a) (λ y i. i))))

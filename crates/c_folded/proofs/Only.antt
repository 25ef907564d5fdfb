-- Nothing else counts as a constant.
use Rattle.std.proofs.Common.{◌≡◌, ℕ, ℤ, Bool, true, false, if◌then◌else◌, Option, Some, None, Ok, Err, refl, sym, ap, subst, ◌∙◌}
use Rattle.std.specs.Option.{option_map}
use Rattle.wp_base.specs.declared.kinds.Kind.{Kind}
use Rattle.wp_base.specs.declared.kinds.Kind.TheVariants as kind
use Rattle.c_syntax.specs.declared.token.TokenKind.{TokenKind}
use Rattle.c_syntax.specs.declared.expr.UnOp.{UnOp}
use Rattle.c_syntax.specs.declared.expr.UnOp.TheVariants as un
use Rattle.c_syntax.specs.declared.expr.BinOp.{BinOp}
use Rattle.c_syntax.specs.Expr as e
use Rattle.c_kinds.specs.declared.models.Machdep.{Machdep}
use Rattle.c_kinds.specs.Models.{holds}
use Rattle.c_machine.specs.declared.rules.Constant.{Constant}
use Rattle.c_machine.specs.Literals as lit
use Rattle.c_machine.specs.Literals.{token_constant, char_constant}
use Rattle.c_machine.specs.Rules.{constant, unary_of, binary_of, chosen, cast_to}
use Rattle.c_machine.specs.Constants as consts
use Rattle.c_machine.specs.Constants.{constant_of, bytes_of, size_constant}
use Rattle.c_answers.specs.Answers.{Answer, after}
use Rattle.typed_prog.specs.Types.{kind_of, is_pointer}
use Rattle.c_operands.specs.Operands.{Operand, value}
use Rattle.c_scopes.specs.declared.symbols.Resolved.{Resolved}
use Rattle.c_scopes.specs.Declarations.{find}
use Rattle.c_scopes.specs.Meanings.{named, type_of}
use Rattle.c_exprs.specs.Leaves.{literal_by, literal_of, literal, scalar_bytes_by, bytes_by, size_by, size_of_type, size_of}
use Rattle.c_exprs.specs.Typing.{Around, typed}
use Rattle.c_spelled_back.specs.Constants.{Computes, NamesKind, IsConstantExpr}
use Rattle.c_spelled_back.specs.Spelled.{OperandSpells}
use Rattle.c_spelled_back.proofs.Expressions.{typed_expressions_are_spelled}
use Rattle.c_folded.specs.Folded.{IsFolded}
use Rattle.c_folded.specs.InScope.{scalar_as, type_by, type_in, name_by, in_numbers, EnumeratorsAreInts, IsInOrder, OnlyConstantsCount}
use Rattle.c_folded.proofs.InScope.{constants_in_scope_are_folded}
use Rattle.c_well_typed.proofs.Fitting.{Holds, after_holds, after_any}

-- the rules give a constant
abbrev Given : Option Constant → Type 0
Given o = (k : Constant) × (o ≡ Some k)

-- wherever the expression is typed
abbrev GivenWith : Around → e.Expr → Operand → Type 0
GivenWith c a o = Given (constant_of c.model (in_numbers c a))

always : {X : Type 0} (P : X → Type 0) (o : Answer X) → ((x : X) → P x) → Holds P o
always P (Ok x) has = has x
always P (Err r) has = tt

-- ---- leaves

literal_given : (m : Machdep) (line : ℕ) (token : TokenKind) (o : Option Constant) → token_constant m token ≡ o → Holds (λ x. Given (token_constant m token)) (literal_of line o)
literal_given m line token None is = tt
literal_given m line token (Some k) is = by_value k.value
  where
    by_value : (z : Option ℤ) → Holds (λ x. Given (token_constant m token)) (literal_by line k.kind z)
    by_value None = tt
    by_value (Some z) = (k, is)

number_given : (m : Machdep) (line : ℕ) (token : TokenKind) → Holds (λ x. Given (token_constant m token)) (literal m line token)
unfolding literal
number_given m line token = literal_given m line token (token_constant m token) refl

char_given : (m : Machdep) (z : ℤ) → holds m kind.Int z ≡ true → Given (char_constant m z)
unfolding lit.literal
char_given m z int = (constant kind.Int (Some z), ap (λ b. option_map (λ k. constant k (Some z)) (if b then Some kind.Int else None)) int)

-- ---- operators

unary_given : (m : Machdep) (o : UnOp) (c : Option Constant) → Computes o → Given c → Given (consts.unary m o c)
unfolding unary_of
unary_given m un.AddressOf c computes is = absurd computes
unary_given m un.Deref c computes is = absurd computes
unary_given m un.Plus c computes is = (_, ap (consts.unary m un.Plus) is.1)
unary_given m un.Minus c computes is = (_, ap (consts.unary m un.Minus) is.1)
unary_given m un.BitNot c computes is = (_, ap (consts.unary m un.BitNot) is.1)
unary_given m un.Not c computes is = (_, ap (consts.unary m un.Not) is.1)

binary_given : (m : Machdep) (o : BinOp) (c d : Option Constant) → Given c → Given d → Given (consts.binary m o c d)
binary_given m o c d is is' = (binary_of m o is.0 is'.0, λ i. consts.binary m o (is.1 i) (is'.1 i))

conditional_given : (m : Machdep) (b c d : Option Constant) → Given b → Given c → Given d → Given (consts.conditional m b c d)
conditional_given m b c d is is' is'' = (chosen m is.0 is'.0 is''.0, λ i. consts.conditional m (is.1 i) (is'.1 i) (is''.1 i))

cast_given : (c : Around) (line : ℕ) (type : e.CType) (d : Option Constant) → NamesKind c line type → Given d → Given (consts.cast c.model (consts.kind_of (type_in c line type)) d)
cast_given c line type d names is =
    let to : consts.kind_of (type_in c line type) ≡ Some names.1 =
    ap (λ o. consts.kind_of (type_by type o)) names.2 ∙ ap (λ j. consts.kind_of (scalar_as type j (is_pointer names.0.ty))) names.3 in
    (cast_to c.model names.1 is.0, λ i. consts.cast c.model (to i) (is.1 i))

-- ---- sizes

scalar_given : (m : Machdep) (line : ℕ) (type : e.CType) (r : Resolved) (j : Option Kind) (p : Bool) → Holds (λ x. Given (size_constant m (bytes_of m (scalar_as type j p)))) (size_by m line (scalar_bytes_by m j p))
scalar_given m line type r (Some k) p = (_, refl)
scalar_given m line type r None true = (_, refl)
scalar_given m line type r None false = tt

size_given : (c : Around) (line : ℕ) (type : e.CType) (o : Answer (Option Resolved)) → named c.scope.file line type ≡ o → ((r : Resolved) → o ≡ Ok (Some r) → r.ty.count ≡ None)
    → Holds (λ x. Given (size_constant c.model (bytes_of c.model (type_by type o)))) (after o (λ u. after (type_of line u) (size_of_type c.model line)))
size_given c line type (Err x) is plain = tt
size_given c line type (Ok None) is plain = tt
size_given c line type (Ok (Some r)) is plain =
    subst (λ n. Holds (λ x. Given (size_constant c.model (bytes_of c.model (scalar_as type (kind_of r.ty) (is_pointer r.ty))))) (size_by c.model line (bytes_by c.model r.ty n))) (sym (plain r refl))
    (scalar_given c.model line type r (kind_of r.ty) (is_pointer r.ty))

sizeof_given : (c : Around) (line : ℕ) (type : e.CType) → IsInOrder c (e.sizeof line type) → Holds (GivenWith c (e.sizeof line type)) (size_of c.model c.scope line type)
unfolding size_of
sizeof_given c line type plain = size_given c line type (named c.scope.file line type) refl plain

-- ---- expressions

given_with : (c : Around) (a : e.Expr) → EnumeratorsAreInts c → IsInOrder c a → IsConstantExpr c a → Holds (GivenWith c a) (typed c a)
given_with c (e.number line token) ints order is = number_given c.model line token.kind
given_with c (e.char line z) ints order is = char_given c.model z order
given_with c (e.name line x) ints order is =
    let there : Given (constant_of c.model (name_by line x (find c.scope x))) =
    subst (λ s. Given (constant_of c.model (name_by line x s))) (sym is.1) (char_given c.model is.0 (ints x is.0 is.1)) in
    always (GivenWith c (e.name line x)) (typed c (e.name line x)) (λ o. there)
given_with c (e.unary line o a) ints order is =
    after_holds (GivenWith c a) (GivenWith c (e.unary line o a)) (typed c a) _ (given_with c a ints order is.1)
    (λ x there. always (GivenWith c (e.unary line o a)) _ (λ y. unary_given c.model o (constant_of c.model (in_numbers c a)) is.0 there))
given_with c (e.binary line o a b) ints order is =
    after_holds (GivenWith c a) (GivenWith c (e.binary line o a b)) (typed c a) _ (given_with c a ints order.0 is.0) (λ x there.
    after_holds (GivenWith c b) (GivenWith c (e.binary line o a b)) (typed c b) _ (given_with c b ints order.1 is.1) (λ y there'.
    always (GivenWith c (e.binary line o a b)) _ (λ z. binary_given c.model o (constant_of c.model (in_numbers c a)) (constant_of c.model (in_numbers c b)) there there')))
given_with c (e.cond line test a b) ints order is =
    after_holds (GivenWith c test) (GivenWith c (e.cond line test a b)) (typed c test) _ (given_with c test ints order.0 is.0) (λ w there.
    after_holds (GivenWith c a) (GivenWith c (e.cond line test a b)) (typed c a) _ (given_with c a ints order.1 is.1) (λ x there'.
    after_holds (GivenWith c b) (GivenWith c (e.cond line test a b)) (typed c b) _ (given_with c b ints order.2 is.2) (λ y there''.
    always (GivenWith c (e.cond line test a b)) _ (λ z. conditional_given c.model (constant_of c.model (in_numbers c test)) (constant_of c.model (in_numbers c a)) (constant_of c.model (in_numbers c b)) there there' there''))))
given_with c (e.cast line type a) ints order is =
    after_any (GivenWith c (e.cast line type a)) (named c.scope.file line type) _ (λ r.
    after_holds (GivenWith c a) (GivenWith c (e.cast line type a)) (typed c a) _ (given_with c a ints order is.1)
    (λ x there. always (GivenWith c (e.cast line type a)) _ (λ y. cast_given c line type (constant_of c.model (in_numbers c a)) is.0 there)))
given_with c (e.sizeof line type) ints order is = sizeof_given c line type order
given_with c (e.assign line o a b) ints order is = absurd is
given_with c (e.step line up prefix a) ints order is = absurd is
given_with c (e.call line f args) ints order is = absurd is
given_with c (e.index line a b) ints order is = absurd is
given_with c (e.field line a f arrow) ints order is = absurd is

pub only_constants_count : OnlyConstantsCount
only_constants_count c a v ints order is =
    let spelled : OperandSpells c (value v true) a = typed_expressions_are_spelled c a (value v true) is in
    let there : Given (constant_of c.model (in_numbers c a)) = subst (Holds (GivenWith c a)) is (given_with c a ints order (spelled.1 refl)) in
    let folded : IsFolded c.model there.0 (value v true) = constants_in_scope_are_folded c a there.0 (value v true) there.1 is in
    record { constant = there.0; by_rules = there.1; is = folded.1 }

-- What an expression is typed as spells that expression.
use Rattle.std.proofs.Common.{◌≡◌, ℕ, suc, ◌==◌, Bool, true, false, if◌then◌else◌, List, [], ◌∷◌, length, Option, Some, None, Ok, Err, refl, subst, arith}
use Rattle.std.specs.Prelude.{slice_get}
use Rattle.std.proofs.lemmas.Bool.Decides.{nat_tests}
use Rattle.wp_base.specs.declared.kinds.Kind.TheVariants as kind
use Rattle.c_syntax.specs.declared.expr.UnOp.{UnOp}
use Rattle.c_syntax.specs.declared.expr.UnOp.TheVariants as un
use Rattle.c_syntax.specs.Expr as e
use Rattle.c_syntax.specs.Lines.{line_of}
use Rattle.typed_prog.specs.declared.types.CoreType.{CoreType}
use Rattle.typed_prog.specs.Tree as t
use Rattle.c_answers.specs.Answers.{Answer, wrong, after}
use Rattle.c_operands.specs.Operands.{Operand, valued}
use Rattle.c_scopes.specs.declared.symbols.Symbol.{Symbol}
use Rattle.c_scopes.specs.declared.symbols.Symbol.TheVariants as symbol
use Rattle.c_scopes.specs.declared.symbols.Signature.{Signature}
use Rattle.c_scopes.specs.Declarations.{find}
use Rattle.c_scopes.specs.Meanings.{named}
use Rattle.c_exprs.specs.Typing.{Around, unary, passed, call_made, count_of, call_at, call_by, typed, typed_for, typed_all}
use Rattle.c_spelled_back.specs.Constants.{itself}
use Rattle.c_spelled_back.specs.Spelled.{ValueSpells, ValuesSpell, OperandSpells, TypedExpressionsAreSpelled}
use Rattle.c_spelled_back.proofs.Parts.{Holds, after_holds, after_is, after_known, RvalueSpells, Made, never}
use Rattle.c_spelled_back.proofs.Values.{valued_spells, number_spells, ValueMade, assignable_spells}
use Rattle.c_spelled_back.proofs.Places.{dereferenced_made, address_made, indexed_made, field_made}
use Rattle.c_spelled_back.proofs.Operators.{minus_made, complement_made, unary_plus_made, not_made, binary_made, conditional_made}
use Rattle.c_spelled_back.proofs.Changes.{assign_made, stepped_made}
use Rattle.c_spelled_back.proofs.Leaves.{literal_made, name_made, cast_to_type_made, size_made}

after_made : (c : Around) (a x : e.Expr) (o : Answer Operand) (f : Operand → Answer Operand) → Made c a o
    → ((y : Operand) → OperandSpells c y a → Made c x (f y)) → Made c x (after o f)
after_made c a x o f made more = after_holds (λ y. OperandSpells c y a) (λ y. OperandSpells c y x) o f made more

unary_made : (c : Around) (a : e.Expr) (line : ℕ) (o : UnOp) (x : Operand) → OperandSpells c x a → Made c (e.unary line o a) (unary c.model line o x)
unfolding unary
unary_made c a line un.AddressOf x fits = address_made c a line x fits
unary_made c a line un.Deref x fits = dereferenced_made c a line x fits
unary_made c a line un.Plus x fits = unary_plus_made c a c.model line x fits
unary_made c a line un.Minus x fits = minus_made c a c.model line x fits
unary_made c a line un.BitNot x fits = complement_made c a c.model line x fits
unary_made c a line un.Not x fits = not_made c a c.model line x fits

-- ---- calls

abbrev ArgsMade : Around → e.Exprs → Answer (List t.Value) → Type 0
ArgsMade c args o = Holds (λ vs. ValuesSpell c (t.values_of vs) (e.list_of args)) o

passed_made : (c : Around) (a : e.Expr) (line : ℕ) (type : CoreType) (x : Operand) → OperandSpells c x a → ValueMade c a (passed c.model line type x)
unfolding passed
passed_made c a line type x fits =
    after_holds (RvalueSpells c a) (λ v. ValueSpells c v a) (valued line x) _ (valued_spells c a line x fits)
    (λ v fv. assignable_spells c a c.model line type v.value fv.0)

one_more : (c : Around) (a : e.Expr) (args : e.Exprs) (o : Answer t.Value) (rest : Answer (List t.Value)) → ValueMade c a o → ArgsMade c args rest
    → ArgsMade c (e.more a args) (after o (λ v. after rest (λ vs. Ok (v ∷ vs))))
one_more c a args (Ok v) (Ok vs) fit fits = (fit, fits)
one_more c a args (Ok v) (Err r) fit fits = tt
one_more c a args (Err r) rest fit fits = tt

tails : (m n : ℕ) → (suc m == suc n) ≡ true → (m == n) ≡ true
tails m n h = grind (arith, nat_tests, h)

alone_made : (c : Around) (x : e.Expr) (line : ℕ) (alone : Answer (Unit {0})) → Made c x (after alone (λ u. wrong line))
alone_made c x line (Ok u) = tt
alone_made c x line (Err r) = tt

-- the arguments for these parameters, where there are as many
abbrev ForParams : Around → e.Exprs → Type 0
ForParams c args = (types : List CoreType) → (length types == count_of args) ≡ true → ArgsMade c args (typed_for c types args)

call_if : (c : Around) (line n : ℕ) (y : List ℕ) (args : e.Exprs) (f : Signature) (alone : Answer (Unit {0})) (fit : Bool)
    → (length f.params == count_of args) ≡ fit → ForParams c args
    → find c.scope y ≡ Some (symbol.Function n)
    → Made c (e.call line y args) (if fit then after (typed_for c f.params args) (λ vs. Ok (call_made line n f.result vs)) else after alone (λ u. wrong line))
call_if c line n y args f alone true is made found =
    after_holds (λ vs. ValuesSpell c (t.values_of vs) (e.list_of args)) (λ o. OperandSpells c o (e.call line y args)) (typed_for c f.params args) _
    (made f.params is)
    (λ vs fits. ((_, itself _, refl, (y, args, found, fits, refl)), λ h. never h))
call_if c line n y args f alone false is made found = alone_made c _ line alone

call_at_made : (c : Around) (line n : ℕ) (y : List ℕ) (args : e.Exprs) (alone : Answer (Unit {0})) (f : Option Signature) → ForParams c args
    → find c.scope y ≡ Some (symbol.Function n)
    → Made c (e.call line y args) (call_at line n (count_of args) (λ params. typed_for c params args) alone f)
call_at_made c line n y args alone None made found = alone_made c _ line alone
call_at_made c line n y args alone (Some f) made found = call_if c line n y args f alone (length f.params == count_of args) refl made found

call_by_made : (c : Around) (line : ℕ) (y : List ℕ) (args : e.Exprs) (alone : Answer (Unit {0})) (s : Option Symbol) → ForParams c args → find c.scope y ≡ s
    → Made c (e.call line y args) (call_by c.scope line (count_of args) (λ params. typed_for c params args) alone s)
call_by_made c line y args alone None made found = tt
call_by_made c line y args alone (Some (symbol.Function n)) made found = call_at_made c line n y args alone (slice_get c.scope.file.functions n) made found
call_by_made c line y args alone (Some (symbol.Object v)) made found = alone_made c _ line alone
call_by_made c line y args alone (Some (symbol.Enumerator z)) made found = alone_made c _ line alone
call_by_made c line y args alone (Some (symbol.Typedef n)) made found = alone_made c _ line alone

-- ---- expressions

mutual
  typed_made : (c : Around) (x : e.Expr) → Made c x (typed c x)
  typed_made c (e.number line token) = literal_made c line token
  typed_made c (e.char line z) = number_spells c (e.char line z) kind.Int z line refl tt
  typed_made c (e.name line y) = name_made c line y
  typed_made c (e.unary line o a) = after_made c a _ (typed c a) _ (typed_made c a) (unary_made c a line o)
  typed_made c (e.binary line o a b) =
      after_made c a _ (typed c a) _ (typed_made c a)
      (λ x fx. after_made c b _ (typed c b) _ (typed_made c b) (λ y fy. binary_made c a b c.model c.sizes line o x y fx fy))
  typed_made c (e.cond line i a b) =
      after_made c i _ (typed c i) _ (typed_made c i)
      (λ z fz. after_made c a _ (typed c a) _ (typed_made c a) (λ x fx. after_made c b _ (typed c b) _ (typed_made c b)
      (λ y fy. conditional_made c i a b c.model line z x y fz fx fy)))
  typed_made c (e.assign line o a b) =
      after_made c a _ (typed c a) _ (typed_made c a)
      (λ x fx. after_made c b _ (typed c b) _ (typed_made c b) (λ y fy. assign_made c a b c.model c.sizes line o x y fx fy))
  typed_made c (e.step line up prefix a) = after_made c a _ (typed c a) _ (typed_made c a) (stepped_made c a c.model c.sizes line up prefix)
  typed_made c (e.call line f args) = call_by_made c line f args (typed_all c args) (find c.scope f) (λ types is. args_made c types args is) refl
  typed_made c (e.index line a b) =
      after_made c a _ (typed c a) _ (typed_made c a)
      (λ x fx. after_made c b _ (typed c b) _ (typed_made c b) (λ y fy. indexed_made c a b c.sizes line x y fx fy))
  typed_made c (e.field line a f arrow) =
      after_known (λ y. OperandSpells c y a) (λ y. OperandSpells c y (e.field line a f arrow)) (typed c a) _ (typed_made c a)
      (λ x given fits. field_made c a line f arrow x given fits)
  typed_made c (e.cast line type a) =
      after_is (λ o. OperandSpells c o (e.cast line type a)) (named c.scope.file line type) _ (λ meant is.
      after_made c a (e.cast line type a) (typed c a) _ (typed_made c a) (λ x fx. cast_to_type_made c line type a meant x is fx))
  typed_made c (e.sizeof line type) = size_made c line type

  args_made : (c : Around) (types : List CoreType) (args : e.Exprs) → (length types == count_of args) ≡ true → ArgsMade c args (typed_for c types args)
  args_made c (type ∷ types) (e.more a rest) is =
      one_more c a rest (after (typed c a) (passed c.model (line_of a) type)) (typed_for c types rest)
      (after_holds (λ y. OperandSpells c y a) (λ v. ValueSpells c v a) (typed c a) _ (typed_made c a) (passed_made c a (line_of a) type))
      (args_made c types rest (tails (length types) (count_of rest) is))
  args_made c (type ∷ types) e.stop is = absurd (grind (arith, nat_tests, is))
  args_made c [] (e.more a rest) is = absurd (grind (arith, nat_tests, is))
  args_made c [] e.stop is = tt

pub typed_expressions_are_spelled : TypedExpressionsAreSpelled
typed_expressions_are_spelled c x o is = subst (Made c x) is (typed_made c x)

-- The expressions of statements.
use Rattle.std.proofs.Common.{◌≡◌, ℕ, Bool, true, false, if◌then◌else◌, Option, Some, None, Ok, Err, refl, sym, ap, subst, ◌∙◌}
use Rattle.wp_base.specs.declared.answers.Rule.TheVariants as rule
use Rattle.wp_base.specs.declared.kinds.Kind.{Kind}
use Rattle.c_syntax.specs.Expr as e
use Rattle.c_syntax.specs.Lines.{line_of}
use Rattle.c_kinds.specs.Conversions.{promote}
use Rattle.c_answers.specs.Answers.{Answer, after, fault, wrong}
use Rattle.typed_prog.specs.declared.types.CoreType.{CoreType}
use Rattle.typed_prog.specs.declared.operators.Path.{Path}
use Rattle.typed_prog.specs.Tree as t
use Rattle.c_operands.specs.Operands.{Operand, object, value, Rvalue, valued}
use Rattle.c_operands.specs.Conversions.{assignable, converted, kind_of_value}
use Rattle.c_rules.specs.Operators.{is_scalar}
use Rattle.typed_prog.specs.Types.{of_kind}
use Rattle.c_spelled_back.specs.Constants.{IsConstantExpr}
use Rattle.c_exprs.specs.Typing.{Around, typed}
use Rattle.c_sequence.specs.Sequence.{Plain, sequenced}
use Rattle.c_taken.specs.Addressed.{addressed}
use Rattle.c_addressed.specs.Addressed.{In, Named, TakesOnly, OperandTakesOnly}
use Rattle.c_addressed.proofs.Values as addressed_in
use Rattle.c_addressed.proofs.Values.{OperandTakes, valued_takes, assignable_takes, converted_takes}
use Rattle.c_addressed.proofs.Expressions.{addresses_are_named}
use Rattle.c_contexts.specs.Contexts.{in_sequence, value_for, condition_of, condition, statement_of, statement, assigned_of, initialiser, returned, switched_by, switched_of, switched}
use Rattle.c_variables.specs.declared.context.Context.{Context}
use Rattle.c_variables.specs.Contexts.{around_of, plain_in}
use Rattle.c_well_typed.specs.Operators.{IsScalar}
use Rattle.c_well_typed.specs.WellTyped.{ValueFits}
use Rattle.c_well_typed.proofs.WellTyped.{typed_expressions_fit}
use Rattle.c_well_typed.proofs.Fitting.{Holds, after_holds, valued_fits, assignable_fits, converted_fits}
use Rattle.c_well_typed.proofs.Integers.{scalar_fits}
use Rattle.c_spelled_back.specs.Spelled.{ValueSpells}
use Rattle.c_spelled_back.proofs.Expressions.{typed_expressions_are_spelled}
use Rattle.c_spelled_back.proofs.Values.{valued_spells, assignable_spells, converted_spells}
use Rattle.c_typed_stmts.specs.Full.{IsFull, IsTest, IsAssigned, IsSwitched, IfThere}

pub both_hold : {X : Type 0} (P Q : X → Type 0) (o : Answer X) → Holds P o → Holds Q o → Holds (λ x. P x × Q x) o
both_hold P Q (Ok x) p q = (p, q)
both_hold P Q (Err r) p q = tt

-- what is answered, with the answer
pub after_this : {X Y : Type 0} (P : X → Type 0) (Q : Y → Type 0) (o : Answer X) (f : X → Answer Y) → Holds P o → ((x : X) → o ≡ Ok x → P x → Holds Q (f x)) → Holds Q (after o f)
after_this P Q (Ok x) f p more = more x refl p
after_this P Q (Err r) f p more = tt

pub this : {X : Type 0} (P : X → Type 0) (o : Answer X) (x : X) → Holds P o → o ≡ Ok x → P x
this P (Ok y) x p is = let same : y ≡ x = cc in subst P same p
this P (Err r) x p is = absurd cc

-- ---- values

-- what is so of the addresses in a value of this expression
abbrev Way : Around → e.Expr → Path → Type 0
Way c a path = Named c (λ y. In y (addressed a)) path

addresses_are : (c : Around) (a : e.Expr) (x : Operand) → OperandTakesOnly c (addressed a) x → OperandTakes (Way c a) x
addresses_are c a (object p is_const) h = h
addresses_are c a (value v is_constant) h = h

-- a value of this expression, with types in order
abbrev pub Fine : Around → e.Expr → t.Value → Type 0
Fine c a v = ValueFits c v × ValueSpells c v a × TakesOnly c (addressed a) v

abbrev FineRvalue : Around → e.Expr → Rvalue → Type 0
FineRvalue c a v = Fine c a v.value

fine_operand : (c : Around) (line : ℕ) (a : e.Expr) (x : Operand) → typed c a ≡ Ok x → Holds (FineRvalue c a) (valued line x)
fine_operand c line a x is =
    fine_all (valued line x) (valued_fits c line x (typed_expressions_fit c a x is)) (valued_spells c a line x (typed_expressions_are_spelled c a x is))
    (valued_takes (Way c a) line x (addresses_are c a x (addresses_are_named c a x is)))
  where
    fine_all : (o : Answer Rvalue) → Holds (λ v. ValueFits c v.value) o → Holds (λ v. ValueSpells c v.value a × (v.is_constant ≡ true → IsConstantExpr c a)) o
        → addressed_in.Holds (λ v. TakesOnly c (addressed a) v.value) o → Holds (FineRvalue c a) o
    fine_all (Ok v) f g h = (f, g.0, h)
    fine_all (Err r) f g h = tt

fine_value : (c : Around) (line : ℕ) (a : e.Expr) → Holds (FineRvalue c a) (value_for c line a)
fine_value c line a = by (typed c a) refl
  where
    by : (o : Answer Operand) → typed c a ≡ o → Holds (FineRvalue c a) (after o (valued line))
    by (Ok x) is = fine_operand c line a x is
    by (Err r) is = tt

-- ---- in every order

ordered : (c : Context) (a : e.Expr) (line : ℕ) (v : t.Value) → Fine (around_of c) a v → Holds (λ w. (w ≡ v) × IsFull c a w) (in_sequence (plain_in c) line v)
unfolding in_sequence
ordered c a line v fine = by (sequenced (plain_in c) v) refl
  where
    by : (b : Bool) → sequenced (plain_in c) v ≡ b → Holds (λ w. (w ≡ v) × IsFull c a w) (if b then Ok v else Err (fault rule.Unsequenced line))
    by true is = (refl, record { fits = fine.0; spells = fine.1; in_order = is; addresses = fine.2 })
    by false is = tt

-- ---- by what is wanted

pub tested : (c : Context) (a : e.Expr) → Holds (IsTest c a) (condition (around_of c) (plain_in c) a)
unfolding condition
tested c a =
    after_holds (FineRvalue (around_of c) a) (IsTest c a) (value_for (around_of c) (line_of a) a) (condition_of (plain_in c) (line_of a)) (fine_value (around_of c) (line_of a) a)
    (λ v fine. of_value v fine)
  where
    of_scalar : (v w : Rvalue) → Fine (around_of c) a w.value → IsScalar (t.type_of w.value) → Holds (IsTest c a) (in_sequence (plain_in c) (line_of a) w.value)
    of_scalar v w fine is = made (in_sequence (plain_in c) (line_of a) w.value) (ordered c a (line_of a) w.value fine)
      where
        made : (o : Answer t.Value) → Holds (λ u. (u ≡ w.value) × IsFull c a u) o → Holds (IsTest c a) o
        made (Ok u) h = record { full = h.1; scalar = subst (λ x. IsScalar (t.type_of x)) (sym h.0) is }
        made (Err r) h = tt

    of_value : (v : Rvalue) → Fine (around_of c) a v.value → Holds (IsTest c a) (condition_of (plain_in c) (line_of a) v)
    of_value v fine = by (is_scalar (t.type_of v.value)) refl
      where
        by : (b : Bool) → is_scalar (t.type_of v.value) ≡ b → Holds (IsTest c a) (after (if b then Ok v else wrong (line_of a)) (λ w. in_sequence (plain_in c) (line_of a) w.value))
        by true is = of_scalar v v fine is
        by false is = tt

pub done : (c : Context) (a : e.Expr) → Holds (IsFull c a) (statement (around_of c) (plain_in c) a)
unfolding statement
done c a =
    after_holds (FineRvalue (around_of c) a) (IsFull c a) (value_for (around_of c) (line_of a) a) (statement_of (plain_in c) (line_of a)) (fine_value (around_of c) (line_of a) a)
    (λ v fine. made (in_sequence (plain_in c) (line_of a) v.value) v.value (ordered c a (line_of a) v.value fine))
  where
    made : (o : Answer t.Value) (v : t.Value) → Holds (λ u. (u ≡ v) × IsFull c a u) o → Holds (IsFull c a) o
    made (Ok u) v h = h.1
    made (Err r) v h = tt

-- a value that is converted as by assignment
assigned : (c : Context) (a : e.Expr) (line at : ℕ) (type : CoreType) (v : Rvalue) → Fine (around_of c) a v.value → Holds (IsAssigned c type a) (assigned_of c.model (plain_in c) line at type v)
assigned c a line at type v fine =
    by (assignable c.model at type v.value) (assignable_fits (around_of c) c.model at type v.value fine.0) (assignable_spells (around_of c) a c.model at type v.value fine.1)
    (assignable_takes (Way (around_of c) a) c.model at type v.value fine.2)
  where
    made : (o : Answer t.Value) (w : t.Value) → t.type_of w ≡ type → Holds (λ u. (u ≡ w) × IsFull c a u) o → Holds (IsAssigned c type a) o
    made (Ok u) w same h = record { full = h.1; same = ap t.type_of h.0 ∙ same }
    made (Err r) w same h = tt

    by : (o : Answer t.Value) → Holds (λ w. ValueFits (around_of c) w × (t.type_of w ≡ type)) o → Holds (λ w. ValueSpells (around_of c) w a) o
        → addressed_in.Holds (λ w. TakesOnly (around_of c) (addressed a) w) o → Holds (IsAssigned c type a) (after o (in_sequence (plain_in c) line))
    by (Ok w) f g h = made (in_sequence (plain_in c) line w) w f.1 (ordered c a line w (f.0, g, h))
    by (Err r) f g h = tt

pub initialised_by : (c : Context) (type : CoreType) (a : e.Expr) → Holds (IsAssigned c type a) (initialiser (around_of c) (plain_in c) type a)
unfolding initialiser
initialised_by c type a =
    after_holds (FineRvalue (around_of c) a) (IsAssigned c type a) (value_for (around_of c) (line_of a) a) (assigned_of c.model (plain_in c) (line_of a) (line_of a) type)
    (fine_value (around_of c) (line_of a) a) (λ v fine. assigned c a (line_of a) (line_of a) type v fine)

pub returned_by : (c : Context) (at : ℕ) (type : CoreType) (a : e.Expr) → Holds (IsAssigned c type a) (returned (around_of c) (plain_in c) at type a)
unfolding returned
returned_by c at type a =
    after_holds (FineRvalue (around_of c) a) (IsAssigned c type a) (value_for (around_of c) at a) (assigned_of c.model (plain_in c) (line_of a) at type) (fine_value (around_of c) at a)
    (λ v fine. assigned c a (line_of a) at type v fine)

pub switched_over : (c : Context) (a : e.Expr) → Holds (IsSwitched c a) (switched (around_of c) (plain_in c) a)
unfolding switched
switched_over c a =
    after_holds (FineRvalue (around_of c) a) (IsSwitched c a) (value_for (around_of c) (line_of a) a) (switched_of c.model (plain_in c) (line_of a)) (fine_value (around_of c) (line_of a) a)
    (λ v fine. by v fine (kind_of_value v.value) refl)
  where
    made : (o : Answer t.Value) (w : t.Value) (k : Kind) → t.type_of w ≡ of_kind (promote k) → Holds (λ u. (u ≡ w) × IsFull c a u) o → Holds (IsSwitched c a) o
    made (Ok u) w k same h = record { full = h.1; of = k; promoted = ap t.type_of h.0 ∙ same }
    made (Err r) w k same h = tt

    by : (v : Rvalue) → Fine (around_of c) a v.value → (k : Option Kind) → kind_of_value v.value ≡ k → Holds (IsSwitched c a) (switched_by c.model (plain_in c) (line_of a) v k)
    by v fine (Some k) is =
        let w = converted c.model (promote k) v.value in
        let fits = converted_fits (around_of c) c.model (promote k) k v.value fine.0 is in
        made (in_sequence (plain_in c) (line_of a) w) w k fits.1 (ordered c a (line_of a) w (fits.0, converted_spells (around_of c) a c.model (promote k) v.value fine.1, converted_takes (Way (around_of c) a) c.model (promote k) v.value fine.2))
    by v fine None is = tt

-- The body of a logic function that calls itself is a choice whose test compares with a number.
use Rattle.std.proofs.Common.{◌≡◌, ℕ, ℤ, Bool, true, false, ◌&&◌, ◌||◌, if◌then◌else◌, List, Option, Some, None, Ok, refl, ap, sym, ◌∙◌, subst}
use Rattle.std.proofs.lemmas.Bool.{and_parts}
use Rattle.c_syntax.specs.declared.token.TokenKind.{TokenKind}
use Rattle.c_syntax.specs.declared.token.TokenKind.TheVariants as token
use Rattle.c_syntax.specs.declared.expr.BinOp.TheVariants as op
use Rattle.c_syntax.specs.Expr as e
use Rattle.c_syntax.specs.Term as t
use Rattle.c_syntax.specs.Lines.{term_line_of}
use Rattle.c_answers.specs.Answers.{after, wrong}
use Rattle.typed_prog.specs.declared.types.CoreType.{CoreType}
use Rattle.typed_prog.specs.declared.operators.Comparison.TheVariants as cmp
use Rattle.acsl_guards.specs.Guarding.{is_integer as is_integer_type}
use Rattle.acsl_guards.specs.Mentions.{is_name}
use Rattle.acsl_guards.specs.Recursive.{kind_value, number_of, binary_of, last_of, is_number as is_known_number, is_base_test, tests_last, is_recursive_form}
use Rattle.acsl_trees.specs.declared.heads.Content.{Content}
use Rattle.acsl_trees.specs.declared.heads.Content.TheVariants as content_of
use Rattle.acsl_trees.specs.declared.heads.Label.{Label}
use Rattle.acsl_trees.specs.declared.operands.Sort.{Sort}
use Rattle.acsl_trees.specs.declared.operands.Sort.TheVariants as sort
use Rattle.acsl_trees.specs.declared.operands.TermType.TheVariants as type
use Rattle.acsl_trees.specs.Tree.{Tree}
use Rattle.acsl_trees.specs.Operands.{Operand, operand}
use Rattle.acsl_rules.specs.Sorts.{content, is_unknown, is_integer, is_pointer, is_null, is_untyped_null, may_be_integer, alike}
use Rattle.acsl_rules.specs.Values.{valued, valued_by, object_value, read_by}
use Rattle.acsl_rules.specs.Operators.{compare_by, compared, are_numbers, ordered, order, binary_values, binary}
use Rattle.acsl_rules.specs.Choices.{with_null, joint, pointer_arms, arms, conditional_by, conditional_values, conditional}
use Rattle.acsl_rules.specs.Contexts.{typed_passed, passed_value, passed}
use Rattle.acsl_rules.specs.Laws.{Holds}
use Rattle.acsl_names.specs.declared.names.Bound.{Bound}
use Rattle.acsl_names.specs.declared.counting.Count.{Count}
use Rattle.acsl_names.specs.Names.{Around, going_down}
use Rattle.acsl_names.specs.Labels.{current}
use Rattle.acsl_names.specs.Counting.{with_node}
use Rattle.acsl_terms.specs.Leaves.{literal, number}
use Rattle.acsl_terms.specs.Terms.{typed}
use Rattle.acsl_definitions.specs.Definitions.{function_typed, value_typed}
use Rattle.c_runs.specs.Truth.{head_of, kid}
use Rattle.c_runs.specs.TruthLaws.{is_comparison, is_number, tests_number}
use Rattle.acsl_same_meaning.proofs.Answers.{after_holds, after_any, if_holds, closed_holds, Of}

-- ---- values are no objects

abbrev pub IsValueSort : Sort → Type 0
IsValueSort (sort.Object q label) = ⊥
IsValueSort (sort.Integer known) = Unit {0}
IsValueSort (sort.Pointer q null) = Unit {0}
IsValueSort sort.Unknown = Unit {0}

abbrev HasValue : Operand → Type 0
HasValue v = IsValueSort v.sort

read_is : (line : ℕ) (u : Tree) (q : CoreType) (label : Option Label) (c : Option Content) → Holds HasValue (read_by line u q label c)
read_is line u q label (Some (content_of.Integer k)) = tt
read_is line u q label (Some content_of.Pointer) = tt
read_is line u q label (Some (content_of.Struct n)) = tt
read_is line u q label None = tt

object_is : (line : ℕ) (u : Tree) (q : CoreType) (label : Option Label) (count : Option ℕ) → Holds HasValue (object_value line u q label count)
object_is line u q label (Some n) = tt
object_is line u q label None = read_is line u q label (content q)

valued_by_is : (line : ℕ) (u : Tree) (q : Sort) → Holds HasValue (valued_by line u q)
valued_by_is line u (sort.Object q label) = object_is line u q label q.count
valued_by_is line u (sort.Integer known) = tt
valued_by_is line u (sort.Pointer q null) = tt
valued_by_is line u sort.Unknown = tt

valued_is : (line : ℕ) (x : Operand) → Holds HasValue (valued line x)
unfolding valued
valued_is line x = valued_by_is line x.tree x.sort

-- a value is its own
same_value_by : (P : Operand → Type 0) (line : ℕ) (u : Tree) (q : Sort) → IsValueSort q → P (operand u q) → Holds P (valued_by line u q)
same_value_by P line u (sort.Object q label) is f = absurd is
same_value_by P line u (sort.Integer known) is f = f
same_value_by P line u (sort.Pointer q null) is f = f
same_value_by P line u sort.Unknown is f = f

same_value : (P : Operand → Type 0) (line : ℕ) (x : Operand) → HasValue x → P x → Holds P (valued line x)
unfolding valued
same_value P line x is f = same_value_by P line x.tree x.sort is f

-- ---- arms

abbrev AllValues : Option Sort → Type 0
AllValues (Some q) = IsValueSort q
AllValues None = Unit {0}

if_values : (b : Bool) (o p : Option Sort) → AllValues o → AllValues p → AllValues (if b then o else p)
if_values true o p f g = f
if_values false o p f g = g

with_null_is : (b : Bool) (q : Sort) → IsValueSort q → IsValueSort (with_null b q)
with_null_is b (sort.Object q label) is = is
with_null_is b (sort.Integer known) is = tt
with_null_is b (sort.Pointer q null) is = tt
with_null_is b sort.Unknown is = tt

arms_are : (q r : Sort) → IsValueSort q → IsValueSort r → AllValues (arms q r)
arms_are q r f g =
    if_values (is_unknown q || is_unknown r) (Some sort.Unknown) (if is_integer q && is_integer r then Some (sort.Integer None) else pointer_arms q r) tt
    (if_values (is_integer q && is_integer r) (Some (sort.Integer None)) (pointer_arms q r) tt
    (if_values (alike q r) (Some (joint q r)) (if is_pointer q && is_null r then Some q else if is_null q && is_pointer r then Some r else None)
    (with_null_is (is_untyped_null q && is_untyped_null r) q f)
    (if_values (is_pointer q && is_null r) (Some q) (if is_null q && is_pointer r then Some r else None) f
    (if_values (is_null q && is_pointer r) (Some r) None g tt))))

-- ---- the test

-- a comparison of integers, with a number behind it
pub record IsTest (x : Operand) : Type 0 where
  pub compares : is_comparison (head_of x.tree) ≡ true
  pub number : is_number (head_of (kid x.tree 1)) ≡ true
  pub sort : x.sort ≡ sort.Integer None

abbrev IsNumber : Operand → Type 0
IsNumber y = (z : ℤ) × (y ≡ number z)

literal_is : (line : ℕ) (q : TokenKind) → is_known_number (kind_value q) ≡ true → Holds IsNumber (literal line q)
literal_is line (token.Number z base suffix) e = (z, refl)
literal_is line _ e = absurd cc

number_is : (c : Around) (b : Bound) (n : Count) (a : t.Term) → is_known_number (number_of a) ≡ true → Holds (Of IsNumber) (typed c b current n a)
number_is c b n (t.number line token) e =
    closed_holds IsNumber n.limit (with_node line n).limit (with_node line n) (literal line token.kind) (literal_is line token.kind e)
number_is c b n _ e = absurd cc

never_alike : (q : Sort) (z : Option ℤ) → alike q (sort.Integer z) ≡ false
never_alike (sort.Object q label) z = refl
never_alike (sort.Integer known) z = refl
never_alike (sort.Pointer q null) z = refl
never_alike sort.Unknown z = refl

compared_is : (line : ℕ) (u : Tree) (z : ℤ) (n p : Bool) → p ≡ false → Holds IsTest (compared line cmp.AtMost u (number z).tree (compare_by n p))
compared_is line u z true p e = record { compares = refl; number = refl; sort = refl }
compared_is line u z false true e = absurd cc
compared_is line u z false false e = tt

order_is : (line : ℕ) (v : Operand) (z : ℤ) → Holds IsTest (order line cmp.AtMost v (number z))
unfolding order ordered
order_is line v z = compared_is line v.tree z (are_numbers v.sort (sort.Integer (Some z))) (alike v.sort (sort.Integer (Some z))) (never_alike v.sort (Some z))

binary_is : (sizes : List ℕ) (line : ℕ) (x y : Operand) → IsNumber y → Holds IsTest (binary sizes line op.AtMost x y)
unfolding binary
binary_is sizes line x y is =
    after_any IsTest (valued line x) _ (λ v. subst (λ y. Holds IsTest (after (valued line y) (binary_values sizes line op.AtMost v))) (sym is.1)
    (after_holds (λ w. w ≡ number is.0) IsTest (valued line (number is.0)) _ (same_value (λ w. w ≡ number is.0) line (number is.0) tt refl)
    (λ w same. subst (λ w. Holds IsTest (order line cmp.AtMost v w)) (sym same) (order_is line v is.0))))

test_is : (c : Around) (b : Bound) (n : Count) (x : List ℕ) (a : t.Term) → is_base_test x (binary_of a) ≡ true → Holds (Of IsTest) (typed c b current n a)
test_is c b n x (t.binary line op.AtMost p q) e =
    let f : (is_name x p ≡ true) × (is_known_number (number_of q) ≡ true) = and_parts (is_name x p) (is_known_number (number_of q)) e in
    after_any (Of IsTest) (typed c b current n p) _ (λ v. after_holds (Of IsNumber) (Of IsTest) (typed c b current (with_node line v.1) q) _
    (number_is c b (with_node line v.1) q f.1)
    (λ w fw. closed_holds IsTest v.1.limit (with_node line v.1).limit w.1 (binary c.sizes line op.AtMost v.0 w.0) (binary_is c.sizes line v.0 w.0 fw)))
test_is c b n x _ e = absurd cc

-- ---- the whole

pub record IsWhole (x : Operand) : Type 0 where
  pub tests : tests_number x.tree ≡ true
  pub value : IsValueSort x.sort

whole_by : (line : ℕ) (b v w : Operand) (o : Option Sort) → IsTest b → AllValues o → Holds IsWhole (conditional_by line b v w o)
whole_by line b v w (Some q) is f =
    subst (λ r. Holds IsWhole (conditional_by line (operand b.tree r) v w (Some q))) (sym is.sort)
    (record { tests = ap (λ z. z && is_number (head_of (kid b.tree 1))) is.compares ∙ is.number; value = f })
whole_by line b v w None is f = tt

test_value : (line : ℕ) (x : Operand) → IsTest x → Holds IsTest (valued line x)
test_value line x is = same_value IsTest line x (subst IsValueSort (sym is.sort) tt) is

choice_is : (line : ℕ) (x y z : Operand) → IsTest x → Holds IsWhole (conditional line x y z)
unfolding conditional
choice_is line x y z is =
    after_holds IsTest IsWhole (valued line x) _ (test_value line x is) (λ b fb.
    after_holds HasValue IsWhole (valued line y) _ (valued_is line y) (λ v fv.
    after_holds HasValue IsWhole (valued line z) (conditional_values line b v) (valued_is line z)
    (λ w fw. whole_by line b v w (arms v.sort w.sort) fb (arms_are v.sort w.sort fv fw))))

tested_by : (o : Option e.VarDecl) (test : t.Term) → tests_last o (Some test) ≡ true → (x : List ℕ) × (is_base_test x (binary_of test) ≡ true)
tested_by (Some n) test e = (n.name, (and_parts (is_integer_type n.ty) (is_base_test n.name (binary_of test)) e).1)
tested_by None test e = absurd cc

untested : (o : Option e.VarDecl) → tests_last o None ≡ true → ⊥
untested (Some n) e = cc
untested None e = cc

function_is : (c : Around) (ps : List e.VarDecl) (b : Bound) (n : Count) (a : t.Term) → is_recursive_form ps a ≡ true
    → Holds (Of IsWhole) (function_typed c ps b n a)
function_is c ps b n (t.cond line test a d) form =
    let f : (x : List ℕ) × (is_base_test x (binary_of test) ≡ true) = tested_by (last_of ps) test form in
    after_holds (Of IsTest) (Of IsWhole) (typed c b current n test) _ (test_is c b n f.0 test f.1) (λ x fx.
    after_any (Of IsWhole) (typed c b current (with_node line x.1) a) _ (λ y. after_any (Of IsWhole) (typed (going_down ps c) b current y.1 d) _
    (λ z. closed_holds IsWhole x.1.limit (with_node line x.1).limit z.1 (conditional line x.0 y.0 z.0) (choice_is line x.0 y.0 z.0 fx))))
function_is c ps b n _ form = absurd (untested (last_of ps) form)

abbrev pub Tests : Tree → Type 0
Tests u = tests_number u ≡ true

passed_is : (line : ℕ) (x : Operand) → IsWhole x → Holds Tests (passed line type.Integer x)
unfolding passed
passed_is line x is =
    after_holds IsWhole Tests (valued line x) (passed_value line type.Integer) (same_value IsWhole line x is.value is)
    (λ v f. if_holds Tests (is_unknown v.sort) (Ok v.tree) (typed_passed line type.Integer v) f.tests
    (if_holds Tests (may_be_integer v.sort) (Ok v.tree) (wrong line) f.tests tt))

pub value_is : (c : Around) (ps : List e.VarDecl) (b : Bound) (n : Count) (a : t.Term) → is_recursive_form ps a ≡ true
    → Holds (Of Tests) (value_typed c ps b n type.Integer a)
value_is c ps b n a form =
    after_holds (Of IsWhole) (Of Tests) (function_typed c ps b n a) _ (function_is c ps b n a form)
    (λ x fx. closed_holds Tests n.limit n.limit x.1 (passed (term_line_of a) type.Integer x.0) (passed_is (term_line_of a) x.0 fx))

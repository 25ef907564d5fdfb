-- The tests of the code are the definitions'.
use Rattle.std.proofs.Common.{◌≡◌, ℕ, suc, Bool, true, false, not, ◌&&◌, ◌||◌, ℤ, List, [], ◌∷◌, ◌++◌, Option, Some, None, refl, sym, ap, ◌∙◌}
use Rattle.std.specs.Option.{option_map, option_and_then}
use Rattle.std.specs.List.{slice_get}
use Rattle.std.proofs.lemmas.Option.{slice_get-map}
use Rattle.wp_base.specs.Kinds.{is_signed}
use Rattle.typed_prog.specs.declared.types.CoreType.{CoreType}
use Rattle.typed_prog.specs.declared.operators.Arithmetic.{Arithmetic}
use Rattle.typed_prog.specs.declared.operators.Arithmetic.TheVariants as ar
use Rattle.typed_prog.specs.declared.operators.Op.{Op}
use Rattle.typed_prog.specs.declared.operators.Op.TheVariants as op
use Rattle.typed_prog.specs.declared.operators.Path.{Path}
use Rattle.typed_prog.specs.declared.operators.Step.{Step}
use Rattle.typed_prog.specs.declared.operators.Step.TheVariants as step
use Rattle.typed_prog.specs.declared.tree.Value.{Value}
use Rattle.typed_prog.specs.Tree as t
use Rattle.typed_prog.specs.View.{view_value_node, view_values}
use Rattle.core_trees.specs.declared.variables.FunctionVariable.{FunctionVariable}
use Rattle.core_trees.specs.View.{view_variable, view_variables}
use Rattle.c_runs.specs.Program.{Variable}
use Rattle.c_runs.specs.Operators.{Undefined, is_order}
use Rattle.c_runs.specs.Objects.{plain_root, has_value, is_pointed}
use Rattle.c_runs.specs.Values.{kind_at}
use Rattle.c_runs.specs.Checks.{Check, is_empty, one_if, index_checks, read_checks_by, arithmetic_checks, op_checks, constant_of, second_constant, may_be_zero, may_be_minus_one}
use Rattle.value_facts.specs.MayFail.{is_indexed, read_may_fail, address_may_fail, arithmetic_may_fail, op_may_fail}

-- a check is there
abbrev some : List Check → Bool
some cs = not (is_empty cs)

one_is : (b : Bool) (u : Undefined) (l : ℕ) → some (one_if b u l) ≡ b
one_is true u l = refl
one_is false u l = refl

both_are : (cs ds : List Check) → some (cs ++ ds) ≡ (some cs || some ds)
both_are [] ds = refl
both_are (c ∷ cs) ds = refl

indexed_is : (n : ℕ) (ss : List Step) → some (index_checks n ss) ≡ is_indexed ss
indexed_is n [] = refl
indexed_is n (step.Element operand size count line ∷ ss) = refl
indexed_is n (step.Field number offset ∷ ss) = indexed_is (suc n) ss
indexed_is n (step.Moved operand size ∷ ss) = indexed_is (suc n) ss

two_are : (a b : Bool) (cs ds : List Check) → some cs ≡ a → some ds ≡ b → some (cs ++ ds) ≡ (a || b)
two_are a b cs ds h g = both_are cs ds ∙ ap (λ x. x || some ds) h ∙ ap (λ y. a || y) g

read_by : (o : Option ℕ) (xs : List Variable) (path : Path) → some (read_checks_by o xs path) ≡ read_may_fail (option_map (has_value xs) o) path
read_by (Some x) xs path = one_is (not (has_value xs x)) _ _
read_by None xs path = two_are (is_indexed path.steps) (is_pointed path.root) _ _ (indexed_is 0 path.steps) (one_is (is_pointed path.root) _ _)

arithmetic_is : (o : Arithmetic) (signed : Bool) (l : ℕ) (u : Option ℤ) → some (arithmetic_checks signed l o u) ≡ arithmetic_may_fail o signed u
arithmetic_is ar.Mul signed l u = one_is signed _ _
arithmetic_is ar.Div signed l u = two_are (may_be_zero u) (signed && may_be_minus_one u) _ _ (one_is (may_be_zero u) _ _) (one_is (signed && may_be_minus_one u) _ _)
arithmetic_is ar.Rem signed l u = two_are (may_be_zero u) (signed && may_be_minus_one u) _ _ (one_is (may_be_zero u) _ _) (one_is (signed && may_be_minus_one u) _ _)
arithmetic_is ar.Add signed l u = one_is signed _ _
arithmetic_is ar.Sub signed l u = one_is signed _ _
arithmetic_is ar.Shl signed l u = refl
arithmetic_is ar.Shr signed l u = refl
arithmetic_is ar.And signed l u = refl
arithmetic_is ar.Xor signed l u = refl
arithmetic_is ar.Or signed l u = refl

op_is : (o : Op) (xs : List Variable) (type : CoreType) (l : ℕ) (es : t.Values) → some (op_checks xs type l o es) ≡ op_may_fail o xs type es
op_is (op.Read path) xs type l es = read_by (plain_root xs path.root) xs path
op_is (op.Address path accessed) xs type l es = one_is (address_may_fail accessed path) _ _
op_is (op.Decay path accessed) xs type l es = one_is (address_may_fail accessed path) _ _
op_is op.Negate xs type l es = one_is (is_signed (kind_at type)) _ _
op_is op.Complement xs type l es = refl
op_is op.Not xs type l es = refl
op_is (op.Arithmetic o) xs type l es = arithmetic_is o (is_signed (kind_at type)) l (second_constant es)
op_is (op.Compare c) xs type l es = refl
op_is (op.ComparePointers c) xs type l es = one_is (is_order c) _ _
op_is (op.Offset minus index_first size accessed) xs type l es = one_is (not accessed) _ _
op_is (op.Difference size) xs type l es = refl
op_is op.Convert xs type l es = refl
op_is op.Requalify xs type l es = refl
op_is op.Cast xs type l es = refl

-- as the code asks for it
pub op_fails : (b : Bool) (o : Op) (xs : List Variable) (type : CoreType) (l : ℕ) (es : t.Values) → b ≡ op_may_fail o xs type es → b ≡ not (is_empty (op_checks xs type l o es))
op_fails b o xs type l es h = h ∙ sym (op_is o xs type l es)

pub variable_is : (variables : List FunctionVariable) (x : ℕ) → slice_get (view_variables variables) x ≡ option_map view_variable (slice_get variables x)
variable_is variables x = slice_get-map view_variable variables x

-- the number of the second operand
pub second_constant_is : (es : List Value) → second_constant (t.values_of (view_values es)) ≡ option_and_then (λ (e : Value). constant_of (view_value_node e.node)) (slice_get es 1)
second_constant_is [] = refl
second_constant_is (a ∷ []) = refl
second_constant_is (a ∷ b ∷ es) = refl

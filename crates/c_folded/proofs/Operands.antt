-- Constants among the values of operands, and their conversions.
use Rattle.std.proofs.Common.{◌≡◌, ℕ, ℤ, Bool, true, false, List, [], ◌∷◌, Option, Some, None, refl, sym, ap, subst, ◌∙◌, rules}
use Rattle.std.specs.Option.{option_and_then}
use denote.Enum.Bare.{same_true}
use Rattle.wp_base.specs.contracts.kinds.Kind.{the_type}
use Rattle.wp_base.specs.declared.kinds.Kind.{Kind}
use Rattle.c_kinds.specs.declared.models.Machdep.{Machdep}
use Rattle.c_kinds.specs.Models.{convert}
use Rattle.c_machine.specs.declared.rules.Constant.{Constant}
use Rattle.c_machine.specs.Rules.{constant, converted as value_converted}
use Rattle.typed_prog.specs.declared.types.Base.{Base}
use Rattle.typed_prog.specs.declared.types.Base.TheVariants as base
use Rattle.typed_prog.specs.declared.types.CoreType.{CoreType}
use Rattle.typed_prog.specs.Types.{kind_by, kind_of, is_pointer_by, is_pointer}
use Rattle.typed_prog.specs.Tree as t
use Rattle.c_operands.specs.Operands.{Operand, object, value, Rvalue, valued}
use Rattle.c_operands.specs.Conversions.{number, number_at, number_of, kind_of_value, folded, is_of_kind, same_kind, converted_by, converted}
use Rattle.c_rules.specs.Integers.{constant_by, constant_in}
use Rattle.c_folded.specs.Evaluated.{State, node_evaluated}
use Rattle.c_folded.specs.Folded.{IsConstant, IsFolded}
use Rattle.c_well_typed.proofs.Fitting.{Holds}

pub some_is : {X : Type 0} (x y : X) → Some x ≡ Some y → y ≡ x
some_is x y h = cc

-- the value of an operand that counts as an integer constant expression, and is this one
abbrev pub IsKnown : Machdep → Constant → Rvalue → Type 0
IsKnown m k v = (v.is_constant ≡ true) × IsConstant m k v.value

pub valued_known : (m : Machdep) (line : ℕ) (k : Constant) (x : Operand) → IsFolded m k x → Holds (IsKnown m k) (valued line x)
unfolding valued
valued_known m line k (object p is_const) is = absurd is
valued_known m line k (value v is_constant) is = is

pub known_is : (m : Machdep) (k : Constant) (v : Rvalue) → IsKnown m k v → constant_in v ≡ Some k
known_is m k v is = λ i. constant_by (is.0 i) (is.1.of_kind i) (is.1.number i)

pub number_known : (m : Machdep) (k : Kind) (z : ℤ) (line : ℕ) → IsConstant m (constant k (Some z)) (number k z line)
unfolding number
number_known m k z line = record { of_kind = refl; number = refl; evaluates = λ s. refl }

-- ---- conversions

converted_by_known : (m : Machdep) (j : Constant) (k : Kind) (v : t.Value) (z : Option ℤ) (same : Bool) → IsConstant m j v → number_of v ≡ z → same_kind j.kind k ≡ same
    → IsConstant m (constant k (value_converted m k j.value)) (converted_by m k v z same)
converted_by_known m j k v (Some z) same is found h =
    subst (λ w. IsConstant m (constant k (value_converted m k w)) (number k (convert m k z) (t.line_of v))) (sym found ∙ is.number) (number_known m k (convert m k z) (t.line_of v))
converted_by_known m j k v None true is found h =
    let none : None ≡ value_converted m k j.value = ap (value_converted m k) (sym found ∙ is.number) in
    record {
      of_kind = is.of_kind ∙ ap Some (same_true the_type (search rules) j.kind k h);
      number = found ∙ none;
      evaluates = λ s. is.evaluates s ∙ sym is.number ∙ found ∙ none;
    }
converted_by_known m j k v None false is found h =
    let none : None ≡ value_converted m k j.value = ap (value_converted m k) (sym found ∙ is.number) in
    record {
      of_kind = refl;
      number = none;
      evaluates = λ s. ap (option_and_then (λ z. Some (convert m k z))) (is.evaluates s ∙ sym is.number ∙ found) ∙ none;
    }

pub converted_known : (m : Machdep) (j : Constant) (k : Kind) (v : t.Value) → IsConstant m j v → IsConstant m (constant k (value_converted m k j.value)) (converted m k v)
unfolding converted
converted_known m j k v is = converted_by_known m j k v (number_of v) (is_of_kind k (kind_of_value v)) is refl (sym (ap (is_of_kind k) is.of_kind))

-- ---- what is folded

pub folded_known : (m : Machdep) (k : Kind) (line : ℕ) (node : t.ValueNode) (is_constant : Bool) (z : Option ℤ) → is_constant ≡ true → number_at node ≡ None
    → ((s : State) → node_evaluated m s node (Some k) ≡ z) → IsFolded m (constant k z) (folded k line node is_constant z)
unfolding folded
folded_known m k line node is_constant (Some z) is other same = (refl, number_known m k z line)
folded_known m k line node is_constant None is other same = (is, record { of_kind = refl; number = other; evaluates = same })

-- ---- types of integers

no_pointer : (b : Base) (stars : List Bool) (count : Option ℕ) (k : Kind) → kind_by b stars count ≡ Some k → is_pointer_by stars count ≡ false
no_pointer (base.Of j) [] None k h = refl
no_pointer (base.Of j) [] (Some n) k h = refl
no_pointer (base.Of j) (c ∷ cs) count k h = absurd cc
no_pointer base.Void stars count k h = absurd cc
no_pointer (base.Struct n) stars count k h = absurd cc

pub integer_no_pointer : (type : CoreType) (k : Kind) → kind_of type ≡ Some k → is_pointer type ≡ false
integer_no_pointer type k h = no_pointer type.base type.stars type.count k h

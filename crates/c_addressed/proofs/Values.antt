-- Values and conversions take the addresses that their operands take.
use Rattle.std.proofs.Common.{ℕ, ℤ, Bool, true, false, if◌then◌else◌, List, [], ◌∷◌, Option, Some, None, Ok, Err}
use Rattle.wp_base.specs.declared.kinds.Kind.{Kind}
use Rattle.c_kinds.specs.declared.models.Machdep.{Machdep}
use Rattle.typed_prog.specs.declared.types.Base.{Base}
use Rattle.typed_prog.specs.declared.types.Base.TheVariants as base
use Rattle.typed_prog.specs.declared.types.CoreType.{CoreType}
use Rattle.typed_prog.specs.declared.operators.Op.{Op}
use Rattle.typed_prog.specs.declared.operators.Op.TheVariants as op
use Rattle.typed_prog.specs.declared.operators.Path.{Path}
use Rattle.typed_prog.specs.Types.{kind_of, is_pointer, same_type}
use Rattle.typed_prog.specs.Tree as t
use Rattle.c_answers.specs.Answers.{Answer, after}
use Rattle.c_operands.specs.Operands.{Operand, object, value, Place, Rvalue, object_value, valued, followed, op_followed}
use Rattle.c_operands.specs.Conversions.{number, number_of, kind_of_value, folded, is_of_kind, converted_by, converted, is_null, is_with_const, pointer_by, pointer_for, integer_for, assignable_by, assignable}
use Rattle.c_rules.specs.Pointers.{requalified_by, requalified}
use Rattle.c_addressed.specs.Addressed.{OpTakes, NodeTakes, ValueTakes, AllTake}

-- ---- answers

abbrev pub Holds : {X : Type 0} → (X → Type 0) → Answer X → Type 0
Holds P (Ok x) = P x
Holds P (Err r) = Unit {0}

pub after_holds : {X Y : Type 0} (P : X → Type 0) (Q : Y → Type 0) (o : Answer X) (f : X → Answer Y) → Holds P o → ((x : X) → P x → Holds Q (f x)) → Holds Q (after o f)
after_holds P Q (Ok x) f h more = more x h
after_holds P Q (Err r) f h more = tt

pub after_any : {X Y : Type 0} (Q : Y → Type 0) (o : Answer X) (f : X → Answer Y) → ((x : X) → Holds Q (f x)) → Holds Q (after o f)
after_any Q (Ok x) f more = more x
after_any Q (Err r) f more = tt

-- `N`: what is so of the way in each address
module _ (N : Path → Type 0) where
  abbrev pub Takes : t.Value → Type 0
  Takes v = ValueTakes N v

  abbrev pub Rvalues : Rvalue → Type 0
  Rvalues v = ValueTakes N v.value

  abbrev pub PlaceTakes : Place → Type 0
  PlaceTakes p = AllTake N (t.values_of p.operands)

  abbrev pub OperandTakes : Operand → Type 0
  OperandTakes (object p is_const) = PlaceTakes p
  OperandTakes (value v is_constant) = Takes v

  -- what an operator makes is a value
  abbrev pub Result : Operand → Type 0
  Result (object p is_const) = ⊥
  Result (value v is_constant) = Takes v

  abbrev pub Made : Answer Operand → Type 0
  Made o = Holds Result o

  -- ---- constants and conversions

  pub number_takes : (k : Kind) (z : ℤ) (line : ℕ) → Takes (number k z line)
  unfolding number
  number_takes k z line = tt

  pub folded_takes : (k : Kind) (line : ℕ) (node : t.ValueNode) (is_constant : Bool) (known : Option ℤ) → NodeTakes N node → Result (folded k line node is_constant known)
  unfolding folded
  folded_takes k line node is_constant (Some z) h = number_takes k z line
  folded_takes k line node is_constant None h = h

  converted_by_takes : (m : Machdep) (k : Kind) (v : t.Value) (z : Option ℤ) (same : Bool) → Takes v → Takes (converted_by m k v z same)
  converted_by_takes m k v (Some z) same h = number_takes k _ (t.line_of v)
  converted_by_takes m k v None true h = h
  converted_by_takes m k v None false h = (tt, (h, tt))

  pub converted_takes : (m : Machdep) (k : Kind) (v : t.Value) → Takes v → Takes (converted m k v)
  unfolding converted
  converted_takes m k v h = converted_by_takes m k v (number_of v) (is_of_kind k (kind_of_value v)) h

  -- ---- the value of an operand

  object_value_takes : (line : ℕ) (p : Place) (is_const : Bool) (count : Option ℕ) (stars : List Bool) (b : Base) → PlaceTakes p → Holds Rvalues (object_value line p is_const count stars b)
  object_value_takes line p is_const (Some n) stars b h = (tt, h)
  object_value_takes line p is_const None [] (base.Struct n) h = tt
  object_value_takes line p is_const None [] base.Void h = (tt, h)
  object_value_takes line p is_const None [] (base.Of k) h = (tt, h)
  object_value_takes line p is_const None (star ∷ stars) b h = (tt, h)

  pub valued_takes : (line : ℕ) (x : Operand) → OperandTakes x → Holds Rvalues (valued line x)
  unfolding valued
  valued_takes line (object p is_const) h = object_value_takes line p is_const p.type.count p.type.stars p.type.base h
  valued_takes line (value v is_constant) h = h

  pub after_valued : (line : ℕ) (x : Operand) (f : Rvalue → Answer Operand) → OperandTakes x → ((v : Rvalue) → Rvalues v → Made (f v)) → Made (after (valued line x) f)
  after_valued line x f h more = after_holds Rvalues Result (valued line x) f (valued_takes line x h) more

  -- ---- a pointer that is followed

  op_followed_takes : (accessed : Bool) (o : Op) → OpTakes N o → OpTakes N (op_followed accessed o)
  op_followed_takes accessed (op.Address path was) h = h
  op_followed_takes accessed (op.Decay path was) h = tt
  op_followed_takes accessed (op.Offset minus index_first size was) h = tt
  op_followed_takes accessed (op.Read path) h = tt
  op_followed_takes accessed op.Negate h = tt
  op_followed_takes accessed op.Complement h = tt
  op_followed_takes accessed op.Not h = tt
  op_followed_takes accessed (op.Arithmetic o) h = tt
  op_followed_takes accessed (op.Compare how) h = tt
  op_followed_takes accessed (op.ComparePointers how) h = tt
  op_followed_takes accessed (op.Difference size) h = tt
  op_followed_takes accessed op.Convert h = tt
  op_followed_takes accessed op.Requalify h = tt
  op_followed_takes accessed op.Cast h = tt

  pub followed_takes : (accessed : Bool) (v : t.Value) → Takes v → Takes (followed accessed v)
  unfolding followed
  followed_takes accessed (t.typed (t.constant z) type line) h = h
  followed_takes accessed (t.typed t.null type line) h = h
  followed_takes accessed (t.typed (t.temporary n) type line) h = h
  followed_takes accessed (t.typed (t.apply o es) type line) h = (op_followed_takes accessed o h.0, h.1)
  followed_takes accessed (t.typed (t.logic how a b) type line) h = h
  followed_takes accessed (t.typed (t.choose test a b) type line) h = h
  followed_takes accessed (t.typed (t.effect does es) type line) h = h

  -- ---- conversion to the type of an object

  requalified_by_takes : (type : CoreType) (v : t.Value) (same : Bool) → Takes v → Takes (requalified_by type v same)
  requalified_by_takes type v true h = h
  requalified_by_takes type v false h = (tt, (h, tt))

  pub requalified_takes : (type : CoreType) (v : t.Value) → Takes v → Takes (requalified type v)
  requalified_takes type v h = requalified_by_takes type v (same_type (t.type_of v) type) h

  pointer_by_takes : (line : ℕ) (type : CoreType) (v : t.Value) (same with_const : Bool) → Takes v → Holds Takes (pointer_by line type v same with_const)
  pointer_by_takes line type v true with_const h = h
  pointer_by_takes line type v false true h = (tt, (h, tt))
  pointer_by_takes line type v false false h = tt

  pointer_for_takes : (line : ℕ) (type : CoreType) (v : t.Value) → Takes v → Holds Takes (pointer_for line type v)
  unfolding pointer_for
  pointer_for_takes line type v h = by (is_null v) where
    by : (b : Bool) → Holds Takes (if b then Ok (t.typed t.null type (t.line_of v)) else pointer_by line type v (same_type (t.type_of v) type) (is_with_const type (t.type_of v)))
    by true = tt
    by false = pointer_by_takes line type v (same_type (t.type_of v) type) (is_with_const type (t.type_of v)) h

  integer_for_takes : (m : Machdep) (line : ℕ) (k : Kind) (v : t.Value) (j : Option Kind) → Takes v → Holds Takes (integer_for m line k v j)
  integer_for_takes m line k v None h = tt
  integer_for_takes m line k v (Some j) h = converted_takes m k v h

  assignable_by_takes : (m : Machdep) (line : ℕ) (type : CoreType) (v : t.Value) (k : Option Kind) (p : Bool) → Takes v → Holds Takes (assignable_by m line type v k p)
  assignable_by_takes m line type v (Some k) p h = integer_for_takes m line k v (kind_of_value v) h
  assignable_by_takes m line type v None true h = pointer_for_takes line type v h
  assignable_by_takes m line type v None false h = tt

  pub assignable_takes : (m : Machdep) (line : ℕ) (type : CoreType) (v : t.Value) → Takes v → Holds Takes (assignable m line type v)
  unfolding assignable
  assignable_takes m line type v h = assignable_by_takes m line type v (kind_of type) (is_pointer type) h

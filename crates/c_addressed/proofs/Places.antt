-- Ways to objects, changes and casts take the addresses that their operands take; `&` takes that of its operand.
use Rattle.std.proofs.Common.{◌≡◌, ℕ, pos, Bool, true, false, if◌then◌else◌, List, [], ◌∷◌, ◌++◌, map, Option, Some, None, Ok, refl, subst}
use Rattle.wp_base.specs.declared.kinds.Kind.{Kind}
use Rattle.wp_base.specs.declared.kinds.Kind.TheVariants as kind
use Rattle.c_kinds.specs.declared.models.Machdep.{Machdep}
use Rattle.c_syntax.specs.declared.expr.BinOp.{BinOp}
use Rattle.typed_prog.specs.declared.types.CoreType.{CoreType}
use Rattle.typed_prog.specs.declared.operators.Arithmetic.{Arithmetic}
use Rattle.typed_prog.specs.declared.operators.UpdateForm.{UpdateForm}
use Rattle.typed_prog.specs.declared.operators.Path.{Path}
use Rattle.typed_prog.specs.declared.operators.Root.{Root}
use Rattle.typed_prog.specs.declared.operators.Root.TheVariants as root
use Rattle.typed_prog.specs.declared.operators.Step.{Step}
use Rattle.typed_prog.specs.Types.{kind_of, is_pointer, is_void, target_of}
use Rattle.typed_prog.specs.Tree as t
use Rattle.c_answers.specs.Answers.{wrong}
use Rattle.c_operands.specs.Operands.{Operand, object, value, Place, Rvalue, valued}
use Rattle.c_operands.specs.Conversions.{number, number_of, is_zero, kind_of_value, assignable}
use Rattle.c_rules.specs.Integers.{constant_in}
use Rattle.c_rules.specs.Pointers.{stride}
use Rattle.c_rules.specs.Operators.{is_scalar}
use Rattle.c_places.specs.declared.objects.Field.{Field}
use Rattle.c_places.specs.Objects.{followed_place, followed_by, dereferenced_value, dereferenced, is_bare, only_of, address_by, address_at, address_of_object, address, index_by, index_value, element, step_behind, root_behind, element_swapped, pointed_by, indexed_values_by, array_count, of_object, indexed_by, indexed, dotted_struct, member_by, member_in, member}
use Rattle.c_places.specs.Changes.{modifiable_by, modifiable, assigned, arithmetic_of, is_shift, operand_in, moves, pointer_update_by, updated_by, updated, compound_by, compound, step_operator, step_form, stepped}
use Rattle.c_places.specs.Casts.{known_by, to_kind_by, to_pointer_by, cast_by, cast_value, cast}
use Rattle.c_addressed.specs.Addressed.{AllTake}
use Rattle.c_addressed.proofs.Values.{Holds, after_holds, Takes, Rvalues, PlaceTakes, OperandTakes, Result, Made, number_takes, folded_takes, converted_takes, after_valued, valued_takes, followed_takes, assignable_takes}

-- the way isn't a whole variable
abbrev pub IsPart : Root → List Step → Type 0
IsPart (root.Variable x) [] = ⊥
IsPart (root.Variable x) (s ∷ ss) = Unit {0}
IsPart (root.Pointed n) ss = Unit {0}

abbrev pub NotWhole : Operand → Type 0
NotWhole (object p is_const) = IsPart p.path.root p.path.steps
NotWhole (value v is_constant) = Unit {0}

part_more : (r : Root) (ss : List Step) (s : Step) → IsPart r (ss ++ s ∷ [])
part_more (root.Variable x) [] s = tt
part_more (root.Variable x) (z ∷ ss) s = tt
part_more (root.Pointed n) ss s = tt

module _ (N : Path → Type 0) where
  abbrev V : Rvalue → Type 0
  V v = Rvalues N v

  -- an operand that is no whole variable
  abbrev pub Part : Operand → Type 0
  Part x = OperandTakes N x × NotWhole x

  more_takes : (vs : List t.Value) (v : t.Value) → AllTake N (t.values_of vs) → Takes N v → AllTake N (t.values_of (vs ++ v ∷ []))
  more_takes [] v h g = (g, tt)
  more_takes (w ∷ vs) v h g = (h.0, more_takes vs v h.1 g)

  -- ---- `*`

  followed_by_takes : (line : ℕ) (v : t.Value) (to : Option (CoreType × Bool)) → Takes N v → Holds Part (followed_by line v to)
  followed_by_takes line v None h = tt
  followed_by_takes line v (Some to) h = by (is_void to.0) where
    by : (b : Bool) → Holds Part (if b then wrong line else Ok (object (followed_place line v to.0) to.1))
    by true = tt
    by false = ((followed_takes N true v h, tt), tt)

  pub dereferenced_takes : (line : ℕ) (x : Operand) → OperandTakes N x → Holds Part (dereferenced line x)
  unfolding dereferenced
  dereferenced_takes line x h =
      after_holds V Part (valued line x) (dereferenced_value line) (valued_takes N line x h) (λ v k. followed_by_takes line v.value (target_of (t.type_of v.value)) k)

  -- ---- `&`

  only_takes : (vs : List t.Value) (v : t.Value) → only_of vs ≡ Some v → AllTake N (t.values_of vs) → Takes N v
  only_takes [] v h k = absurd cc
  only_takes (w ∷ []) v h k = let same : w ≡ v = cc in subst (Takes N) same k.0
  only_takes (w ∷ u ∷ vs) v h k = absurd cc

  address_by_takes : (line : ℕ) (p : Place) (is_const : Bool) (leading : Option t.Value) → N p.path → PlaceTakes N p → ((v : t.Value) → leading ≡ Some v → Takes N v)
      → Takes N (address_by line p is_const leading)
  address_by_takes line p is_const (Some v) is h only = followed_takes N false v (only v refl)
  address_by_takes line p is_const None is h only = (is, h)

  address_at_takes : (line : ℕ) (p : Place) (is_const : Bool) → N p.path → PlaceTakes N p → Takes N (address_at line p is_const)
  address_at_takes line p is_const is h = by (is_bare p.path) where
    by : (b : Bool) → Takes N (if b then address_by line p is_const (only_of p.operands) else address_by line p is_const None)
    by true = address_by_takes line p is_const (only_of p.operands) is h (λ v k. only_takes p.operands v k h)
    by false = (is, h)

  pub address_takes : (line : ℕ) (p : Place) (is_const : Bool) → N p.path → PlaceTakes N p → Holds Part (address line (object p is_const))
  unfolding address
  address_takes line p is_const is h = by p.type.count where
    by : (count : Option ℕ) → Holds Part (address_of_object line p is_const count)
    by (Some n) = tt
    by None = (address_at_takes line p is_const is h, tt)

  -- ---- `[ ]`

  index_takes : (line : ℕ) (x : Operand) → OperandTakes N x → Holds (Takes N) (index_value line x)
  unfolding index_value
  index_takes line x h = after_holds V (Takes N) (valued line x) _ (valued_takes N line x h) (λ v k. by v k (kind_of_value v.value)) where
    by : (v : Rvalue) → V v → (k : Option Kind) → Holds (Takes N) (index_by line v k)
    by v h (Some k) = h
    by v h None = tt

  pointed_takes : (line p i : ℕ) (operands : List t.Value) (size : Option ℕ) (to : Option (CoreType × Bool)) → AllTake N (t.values_of operands) → Holds Part (pointed_by line p i operands size to)
  pointed_takes line p i operands (Some size) (Some to) h = (h, tt)
  pointed_takes line p i operands (Some size) None h = tt
  pointed_takes line p i operands None to h = tt

  values_take : (sizes : List ℕ) (line : ℕ) (v w : Rvalue) → V v → V w → (j k : Option Kind) → Holds Part (indexed_values_by sizes line v w j k)
  values_take sizes line v w h g None (Some k) =
      pointed_takes line 0 1 (v.value ∷ w.value ∷ []) (stride sizes (t.type_of v.value)) (target_of (t.type_of v.value)) (h, (g, tt))
  values_take sizes line v w h g (Some j) None =
      pointed_takes line 1 0 (v.value ∷ w.value ∷ []) (stride sizes (t.type_of w.value)) (target_of (t.type_of w.value)) (h, (g, tt))
  values_take sizes line v w h g (Some j) (Some k) = tt
  values_take sizes line v w h g None None = tt

  element_takes : (sizes : List ℕ) (line n : ℕ) (x : Operand) (i : t.Value) → OperandTakes N x → Takes N i → Part (of_object x (λ p. element sizes line n p i))
  element_takes sizes line n (object p is_const) i h g = (more_takes p.operands i h g, part_more p.path.root p.path.steps _)
  element_takes sizes line n (value v is_constant) i h g = (h, tt)

  swapped_takes : (sizes : List ℕ) (line n : ℕ) (x : Operand) (i : t.Value) → OperandTakes N x → Takes N i → Part (of_object x (λ p. element_swapped sizes line n p i))
  swapped_takes sizes line n (object p is_const) i h g = ((g, h), part_more (root_behind p.path.root) (map step_behind p.path.steps) _)
  swapped_takes sizes line n (value v is_constant) i h g = (h, tt)

  indexed_by_takes : (sizes : List ℕ) (line : ℕ) (x y : Operand) → OperandTakes N x → OperandTakes N y → (first second : Option ℕ) → Holds Part (indexed_by sizes line x y first second)
  indexed_by_takes sizes line x y h g (Some n) second = after_holds (Takes N) Part (index_value line y) _ (index_takes line y g) (λ i k. element_takes sizes line n x i h k)
  indexed_by_takes sizes line x y h g None (Some n) = after_holds (Takes N) Part (index_value line x) _ (index_takes line x h) (λ i k. swapped_takes sizes line n y i g k)
  indexed_by_takes sizes line x y h g None None =
      after_holds V Part (valued line x) _ (valued_takes N line x h) (λ v k.
      after_holds V Part (valued line y) _ (valued_takes N line y g) (λ w l. values_take sizes line v w k l (kind_of_value v.value) (kind_of_value w.value)))

  pub indexed_takes : (sizes : List ℕ) (line : ℕ) (x y : Operand) → OperandTakes N x → OperandTakes N y → Holds Part (indexed sizes line x y)
  unfolding indexed
  indexed_takes sizes line x y h g = indexed_by_takes sizes line x y h g (array_count x) (array_count y)

  -- ---- `.`

  member_by_takes : (line : ℕ) (x : Operand) (f : Option Field) → OperandTakes N x → Holds Part (member_by line x f)
  member_by_takes line (object p is_const) None h = tt
  member_by_takes line (value v is_constant) None h = tt
  member_by_takes line (object p is_const) (Some f) h = (h, part_more p.path.root p.path.steps _)
  member_by_takes line (value v is_constant) (Some f) h = tt

  pub member_takes : (line : ℕ) (fields : ℕ → Option Field) (x : Operand) → OperandTakes N x → Holds Part (member line fields x)
  unfolding member
  member_takes line fields x h = by (dotted_struct x) where
    by : (n : Option ℕ) → Holds Part (member_in line fields x n)
    by None = tt
    by (Some n) = member_by_takes line x (fields n) h

  -- ---- what is changed

  modifiable_takes : (line : ℕ) (x : Operand) → OperandTakes N x → Holds (PlaceTakes N) (modifiable line x)
  unfolding modifiable
  modifiable_takes line (value v is_constant) h = tt
  modifiable_takes line (object p is_const) h = by is_const (is_scalar p.type) where
    by : (const scalar : Bool) → Holds (PlaceTakes N) (modifiable_by line p const scalar)
    by false true = h
    by false false = tt
    by true scalar = tt

  pub assigned_takes : (m : Machdep) (line : ℕ) (x y : Operand) → OperandTakes N x → OperandTakes N y → Made N (assigned m line x y)
  unfolding assigned
  assigned_takes m line x y h g =
      after_holds (PlaceTakes N) (Result N) (modifiable line x) _ (modifiable_takes line x h) (λ p k.
      after_holds V (Result N) (valued line y) _ (valued_takes N line y g) (λ v l.
      after_holds (Takes N) (Result N) (assignable m line p.type v.value) _ (assignable_takes N m line p.type v.value l) (λ w i. (i, k))))

  updated_takes : (m : Machdep) (sizes : List ℕ) (line : ℕ) (o : Arithmetic) (how : UpdateForm) (p : Place) (v : t.Value) → PlaceTakes N p → Takes N v → Made N (updated m sizes line o how p v)
  unfolding updated
  updated_takes m sizes line o how p v h g = by (kind_of p.type) (kind_of_value v) where
    pointer : (minus : Option Bool) (size : Option ℕ) → Made N (pointer_update_by line how p v minus size)
    pointer (Some minus) (Some size) = (g, h)
    pointer (Some minus) None = tt
    pointer None size = tt

    by : (of second : Option Kind) → Made N (updated_by m sizes line o how p v of second)
    by (Some j) (Some k) = (converted_takes N m (operand_in m (is_shift o) j k) v g, h)
    by None (Some k) = pointer (moves o) (stride sizes p.type)
    by (Some j) None = tt
    by None None = tt

  pub compound_takes : (m : Machdep) (sizes : List ℕ) (line : ℕ) (o : BinOp) (x y : Operand) → OperandTakes N x → OperandTakes N y → Made N (compound m sizes line o x y)
  unfolding compound
  compound_takes m sizes line o x y h g =
      after_holds (PlaceTakes N) (Result N) (modifiable line x) _ (modifiable_takes line x h) (λ p k.
      after_holds V (Result N) (valued line y) _ (valued_takes N line y g) (λ v l. by p v k l (arithmetic_of o))) where
        by : (p : Place) (v : Rvalue) → PlaceTakes N p → V v → (a : Option Arithmetic) → Made N (compound_by m sizes line a p v)
        by p v k l (Some a) = updated_takes m sizes line a _ p v.value k l
        by p v k l None = tt

  pub stepped_takes : (m : Machdep) (sizes : List ℕ) (line : ℕ) (up prefix : Bool) (x : Operand) → OperandTakes N x → Made N (stepped m sizes line up prefix x)
  unfolding stepped
  stepped_takes m sizes line up prefix x h =
      after_holds (PlaceTakes N) (Result N) (modifiable line x) _ (modifiable_takes line x h) (λ p k.
      updated_takes m sizes line (step_operator up) (step_form prefix) p (number kind.Int (pos 1) line) k (number_takes N kind.Int (pos 1) line))

  -- ---- casts

  cast_value_takes : (m : Machdep) (line : ℕ) (type : CoreType) (v : Rvalue) → V v → Made N (cast_value m line type v)
  cast_value_takes m line type v h = by (kind_of type) (is_pointer type) (is_void type) where
    kind_by : (k : Kind) (j : Option Kind) → Made N (to_kind_by m line k v j)
    kind_by k (Some j) = folded_takes N k line _ v.is_constant (known_by m k (constant_in v)) (tt, (h, tt))
    kind_by k None = tt

    null_by : (zero : Bool) → Made N (to_pointer_by line type zero)
    null_by true = tt
    null_by false = tt

    by : (k : Option Kind) (pointer none : Bool) → Made N (cast_by m line type v k pointer none)
    by (Some k) pointer none = kind_by k (kind_of_value v.value)
    by None true none = null_by (is_zero (number_of v.value))
    by None false true = (tt, (h, tt))
    by None false false = tt

  pub cast_takes : (m : Machdep) (line : ℕ) (type : CoreType) (x : Operand) → OperandTakes N x → Made N (cast m line type x)
  unfolding cast
  cast_takes m line type x h = after_valued N line x _ h (λ v k. cast_value_takes m line type v k)

-- What operators make: values, which are no objects, and objects that are no variables.
use Rattle.std.proofs.Common.{◌≡◌, ℕ, Bool, true, false, ◌&&◌, ◌||◌, if◌then◌else◌, List, Option, Some, None, Ok, Err, slice_get, refl, sym, ◌∙◌}
use Rattle.std.specs.Prelude.{position}
use Rattle.std.specs.Str.{bytes_eq}
use Rattle.std.proofs.lemmas.Bool.{false≢true}
use Rattle.wp_base.specs.declared.kinds.Kind.{Kind}
use Rattle.c_kinds.specs.declared.models.Machdep.{Machdep}
use Rattle.c_syntax.specs.declared.expr.UnOp.{UnOp}
use Rattle.c_syntax.specs.declared.expr.UnOp.TheVariants as un
use Rattle.c_syntax.specs.declared.expr.BinOp.{BinOp}
use Rattle.c_syntax.specs.declared.expr.BinOp.TheVariants as bin
use Rattle.c_answers.specs.Answers.{Answer, after, wrong}
use Rattle.typed_prog.specs.declared.types.CoreType.{CoreType}
use Rattle.typed_prog.specs.declared.operators.Arithmetic.{Arithmetic}
use Rattle.typed_prog.specs.declared.operators.Comparison.{Comparison}
use Rattle.typed_prog.specs.Types.{kind_of, is_void, is_pointer as is_pointer_type, target_of, struct_of}
use Rattle.name_table.specs.Names.{Names}
use Rattle.c_rules.specs.Pointers.{stride}
use Rattle.c_scopes.specs.declared.file.File.{File}
use Rattle.c_scopes.specs.declared.symbols.Field.{Field}
use Rattle.c_scopes.specs.declared.symbols.Structure.{Structure}
use Rattle.acsl_trees.specs.declared.heads.Content.{Content}
use Rattle.acsl_trees.specs.declared.heads.Content.TheVariants as content_of
use Rattle.acsl_trees.specs.declared.heads.Head.TheVariants as head
use Rattle.acsl_trees.specs.declared.heads.Label.{Label}
use Rattle.acsl_trees.specs.declared.operands.Sort.{Sort}
use Rattle.acsl_trees.specs.declared.operands.Sort.TheVariants as sort
use Rattle.acsl_trees.specs.Tree.{Tree, one}
use Rattle.acsl_trees.specs.Operands.{Operand, operand}
use Rattle.acsl_rules.specs.Sorts.{content, is_unknown, is_integer, is_pointer, is_null, is_untyped_null, is_zero, known_in, may_be_integer, stride_of, array_count, alike}
use Rattle.acsl_rules.specs.Values.{read_by, object_value, valued_by, valued, integer_value, beside}
use Rattle.acsl_rules.specs.Operators as o
use Rattle.acsl_rules.specs.Choices.{with_null, pointer_arms, arms, conditional_by, conditional}
use Rattle.acsl_rules.specs.Contexts as x
use Rattle.acsl_rules.specs.Objects as at
use Rattle.acsl_rules.specs.Laws.{Holds}
use Rattle.acsl_scoped.specs.Scoped.{IsPlace, pointed, field, element, elements, behind}

-- ---- answers

pub after_any : {X Y : Type 0} (Q : Y → Type 0) (o : Answer X) (f : X → Answer Y) → ((x : X) → Holds Q (f x)) → Holds Q (after o f)
after_any Q (Ok x) f more = more x
after_any Q (Err r) f more = tt

pub after_holds : {X Y : Type 0} (P : X → Type 0) (Q : Y → Type 0) (o : Answer X) (f : X → Answer Y) → Holds P o → ((x : X) → P x → Holds Q (f x)) → Holds Q (after o f)
after_holds P Q (Ok x) f h more = more x h
after_holds P Q (Err r) f h more = tt

pub holds_all : {X : Type 0} (P Q : X → Type 0) (o : Answer X) → ((x : X) → P x → Q x) → Holds P o → Holds Q o
holds_all P Q (Ok x) go f = go x f
holds_all P Q (Err r) go f = tt

pub if_holds : {X : Type 0} (P : X → Type 0) (b : Bool) (o p : Answer X) → Holds P o → Holds P p → Holds P (if b then o else p)
if_holds P true o p h k = h
if_holds P false o p h k = k

-- ---- values

-- the sort of an object in the state in force
abbrev pub is_here : Sort → Bool
is_here (sort.Object type None) = true
is_here (sort.Object type (Some l)) = false
is_here (sort.Integer known) = false
is_here (sort.Pointer type null) = false
is_here sort.Unknown = false

abbrev pub IsValue : Operand → Type 0
IsValue v = is_here v.sort ≡ false

read_is : (line : ℕ) (t : Tree) (type : CoreType) (l : Option Label) (c : Option Content) → Holds IsValue (read_by line t type l c)
read_is line t type l (Some (content_of.Integer k)) = refl
read_is line t type l (Some content_of.Pointer) = refl
read_is line t type l (Some (content_of.Struct n)) = tt
read_is line t type l None = tt

object_is : (line : ℕ) (t : Tree) (type : CoreType) (l : Option Label) (n : Option ℕ) → Holds IsValue (object_value line t type l n)
object_is line t type l (Some n) = refl
object_is line t type l None = read_is line t type l (content type)

valued_by_is : (line : ℕ) (t : Tree) (s : Sort) → Holds IsValue (valued_by line t s)
valued_by_is line t (sort.Object type l) = object_is line t type l type.count
valued_by_is line t (sort.Integer known) = refl
valued_by_is line t (sort.Pointer type null) = refl
valued_by_is line t sort.Unknown = refl

pub valued_is : (line : ℕ) (v : Operand) → Holds IsValue (valued line v)
unfolding valued
valued_is line v = valued_by_is line v.tree v.sort

-- ---- operators of two operands

offset_is : (line : ℕ) (minus : Bool) (p : Operand) (i : Tree) (n : Option ℕ) (s : Sort) → IsValue p → Holds IsValue (o.offset_by line minus p i n s)
offset_is line minus p i None s h = tt
offset_is line minus p i (Some size) (sort.Integer known) h = h
offset_is line minus p i (Some size) sort.Unknown h = refl
offset_is line minus p i (Some size) (sort.Object type l) h = tt
offset_is line minus p i (Some size) (sort.Pointer type null) h = tt

number_sort_is : (b : Bool) → is_here (o.number_sort b) ≡ false
number_sort_is true = refl
number_sort_is false = refl

numbers_are : (line : ℕ) (how : Arithmetic) (v w : Operand) → Holds IsValue (o.numbers line how v w)
numbers_are line how v w = if_holds IsValue (o.both_may_be_integers v w) _ (wrong line) (number_sort_is (is_integer v.sort && is_integer w.sort)) tt

arithmetic_is : (line : ℕ) (how : Arithmetic) (v w : Operand) → Holds IsValue (o.arithmetic line how v w)
arithmetic_is line how v w = if_holds IsValue (o.both_may_be_integers v w) _ (wrong line) refl tt

sum_by_is : (sizes : List ℕ) (line : ℕ) (v w : Operand) (first second : Bool) → IsValue v → IsValue w → Holds IsValue (o.sum_by sizes line v w first second)
sum_by_is sizes line v w true second h g = offset_is line false v w.tree (stride_of sizes v.sort) w.sort h
sum_by_is sizes line v w false true h g = offset_is line false w v.tree (stride_of sizes w.sort) v.sort g
sum_by_is sizes line v w false false h g = numbers_are line _ v w

sum_is : (sizes : List ℕ) (line : ℕ) (v w : Operand) → IsValue v → IsValue w → Holds IsValue (o.sum sizes line v w)
unfolding o.sum
sum_is sizes line v w h g = sum_by_is sizes line v w (is_pointer v.sort) (is_pointer w.sort) h g

apart_is : (line : ℕ) (v w : Operand) (a : Bool) (n : Option ℕ) → Holds IsValue (o.apart_by line v w a n)
apart_is line v w true (Some size) = refl
apart_is line v w true None = tt
apart_is line v w false n = tt

taken_is : (line : ℕ) (v w : Operand) (a : Bool) (n : Option ℕ) → Holds IsValue (o.taken_by line v w a n)
taken_is line v w true (Some size) = refl
taken_is line v w true None = tt
taken_is line v w false n = tt

difference_by_is : (sizes : List ℕ) (line : ℕ) (v w : Operand) (first second : Bool) → IsValue v → Holds IsValue (o.difference_by sizes line v w first second)
difference_by_is sizes line v w true true h = apart_is line v w (alike v.sort w.sort) (stride_of sizes v.sort)
difference_by_is sizes line v w true false h = offset_is line true v w.tree (stride_of sizes v.sort) w.sort h
difference_by_is sizes line v w false true h = taken_is line v w (is_unknown v.sort) (stride_of sizes w.sort)
difference_by_is sizes line v w false false h = numbers_are line _ v w

difference_is : (sizes : List ℕ) (line : ℕ) (v w : Operand) → IsValue v → Holds IsValue (o.difference sizes line v w)
unfolding o.difference
difference_is sizes line v w h = difference_by_is sizes line v w (is_pointer v.sort) (is_pointer w.sort) h

-- as numbers or as pointers, or not
compared_is : (line : ℕ) (how : Comparison) (t u : Tree) (n p : Bool) → Holds IsValue (o.compared line how t u (o.compare_by n p))
compared_is line how t u true p = refl
compared_is line how t u false true = refl
compared_is line how t u false false = tt

order_is : (line : ℕ) (how : Comparison) (v w : Operand) → Holds IsValue (o.order line how v w)
unfolding o.order o.ordered
order_is line how v w = compared_is line how v.tree w.tree (o.are_numbers v.sort w.sort) (alike v.sort w.sort)

equality_is : (line : ℕ) (how : Comparison) (v w : Operand) → Holds IsValue (o.equality line how v w)
unfolding o.equality o.equated
equality_is line how v w = compared_is line how (beside w.sort v) (beside v.sort w) (o.are_numbers v.sort w.sort) (o.are_equatable v.sort w.sort)

binary_by_is : (sizes : List ℕ) (line : ℕ) (b : BinOp) (v w : Operand) → IsValue v → IsValue w → Holds IsValue (o.binary_values sizes line b v w)
binary_by_is sizes line bin.Mul v w h g = arithmetic_is line _ v w
binary_by_is sizes line bin.Div v w h g = arithmetic_is line _ v w
binary_by_is sizes line bin.Rem v w h g = arithmetic_is line _ v w
binary_by_is sizes line bin.Add v w h g = sum_is sizes line v w h g
binary_by_is sizes line bin.Sub v w h g = difference_is sizes line v w h
binary_by_is sizes line bin.Shl v w h g = arithmetic_is line _ v w
binary_by_is sizes line bin.Shr v w h g = arithmetic_is line _ v w
binary_by_is sizes line bin.Less v w h g = order_is line _ v w
binary_by_is sizes line bin.AtMost v w h g = order_is line _ v w
binary_by_is sizes line bin.Greater v w h g = order_is line _ v w
binary_by_is sizes line bin.AtLeast v w h g = order_is line _ v w
binary_by_is sizes line bin.Equal v w h g = equality_is line _ v w
binary_by_is sizes line bin.NotEqual v w h g = equality_is line _ v w
binary_by_is sizes line bin.BitAnd v w h g = arithmetic_is line _ v w
binary_by_is sizes line bin.BitXor v w h g = arithmetic_is line _ v w
binary_by_is sizes line bin.BitOr v w h g = arithmetic_is line _ v w
binary_by_is sizes line bin.And v w h g = refl
binary_by_is sizes line bin.Or v w h g = refl

pub binary_is : (sizes : List ℕ) (line : ℕ) (b : BinOp) (x y : Operand) → Holds IsValue (o.binary sizes line b x y)
unfolding o.binary
binary_is sizes line b x y =
    after_holds IsValue IsValue (valued line x) _ (valued_is line x) (λ v h. after_holds IsValue IsValue (valued line y) _ (valued_is line y) (λ w g. binary_by_is sizes line b v w h g))

-- ---- choices

abbrev IfThere : Option Sort → Type 0
IfThere None = Unit {0}
IfThere (Some s) = is_here s ≡ false

if_there : (b : Bool) (o p : Option Sort) → IfThere o → IfThere p → IfThere (if b then o else p)
if_there true o p h k = h
if_there false o p h k = k

with_null_is : (b : Bool) (s : Sort) → is_here s ≡ false → is_here (with_null b s) ≡ false
with_null_is b (sort.Pointer type n) h = refl
with_null_is b (sort.Object type l) h = h
with_null_is b (sort.Integer known) h = refl
with_null_is b sort.Unknown h = refl

arms_are : (s t : Sort) → is_here s ≡ false → is_here t ≡ false → IfThere (arms s t)
arms_are s t h g =
    if_there (is_unknown s || is_unknown t) (Some sort.Unknown) (if is_integer s && is_integer t then Some (sort.Integer None) else pointer_arms s t) refl
    (if_there (is_integer s && is_integer t) (Some (sort.Integer None)) (pointer_arms s t) refl
    (if_there (alike s t) (Some (with_null (is_untyped_null s && is_untyped_null t) s)) (if is_pointer s && is_null t then Some s else if is_null s && is_pointer t then Some t else None)
    (with_null_is (is_untyped_null s && is_untyped_null t) s h)
    (if_there (is_pointer s && is_null t) (Some s) (if is_null s && is_pointer t then Some t else None) h (if_there (is_null s && is_pointer t) (Some t) None g tt))))

chosen_is : (line : ℕ) (b v w : Operand) (c : Option Sort) → IfThere c → Holds IsValue (conditional_by line b v w c)
chosen_is line b v w (Some s) h = h
chosen_is line b v w None h = tt

pub conditional_is : (line : ℕ) (b x y : Operand) → Holds IsValue (conditional line b x y)
unfolding conditional
conditional_is line b x y =
    after_any IsValue (valued line b) _ (λ u. after_holds IsValue IsValue (valued line x) _ (valued_is line x) (λ v h.
    after_holds IsValue IsValue (valued line y) _ (valued_is line y) (λ w g. chosen_is line u v w (arms v.sort w.sort) (arms_are v.sort w.sort h g))))

-- ---- casts and labels

cast_by_is : (m : Machdep) (line : ℕ) (type : CoreType) (null : Bool) (v : Operand) (k : Option Kind) (p : Bool) → Holds IsValue (x.cast_by m line type null v k p)
cast_by_is m line type null v (Some k) p = if_holds IsValue (may_be_integer v.sort) _ (wrong line) refl tt
cast_by_is m line type null v None true = if_holds IsValue (is_zero (known_in v.sort)) _ (wrong line) refl tt
cast_by_is m line type null v None false = tt

pub cast_is : (m : Machdep) (line : ℕ) (type : CoreType) (null : Bool) (v : Operand) → Holds IsValue (x.cast m line type null v)
unfolding x.cast
cast_is m line type null v = after_any IsValue (valued line v) _ (λ w. cast_by_is m line type null w (kind_of type) (is_pointer_type type))

whole_at_is : (l : Label) (t : Tree) (type : CoreType) (inner : Option Label) → IsValue (x.whole_at l t type inner)
whole_at_is l t type None = refl
whole_at_is l t type (Some k) = refl

object_at_is : (l : Label) (t : Tree) (type : CoreType) (inner : Option Label) (c : Option Content) → IsValue (x.object_at l t type inner c)
object_at_is l t type inner (Some (content_of.Integer k)) = refl
object_at_is l t type inner (Some content_of.Pointer) = refl
object_at_is l t type inner (Some (content_of.Struct n)) = whole_at_is l t type inner
object_at_is l t type inner None = whole_at_is l t type inner

labelled_by_is : (l : Label) (t : Tree) (s : Sort) → IsValue (x.labelled_by l t s)
labelled_by_is l t (sort.Object type inner) = object_at_is l t type inner (content type)
labelled_by_is l t (sort.Integer known) = refl
labelled_by_is l t (sort.Pointer type null) = refl
labelled_by_is l t sort.Unknown = refl

pub labelled_is : (l : Label) (v : Operand) → Holds IsValue (x.labelled l v)
unfolding x.labelled
labelled_is l v = labelled_by_is l v.tree v.sort

-- ---- objects that operators lead to

module _ (bs : List (Names ℕ)) where
  -- an object in the state in force is a place
  abbrev pub Here : Operand → Type 0
  Here v = is_here v.sort ≡ true → IsPlace bs v.tree

  pub value_here : (v : Operand) → IsValue v → Here v
  value_here v h e = absurd (false≢true (sym h ∙ e))

  pub values_here : (o : Answer Operand) → Holds IsValue o → Holds Here o
  values_here o h = holds_all IsValue Here o value_here h

  followed_here : (line : ℕ) (t : Tree) (r : Option (CoreType × Bool)) → Holds Here (o.followed_by line t r)
  followed_here line t None = tt
  followed_here line t (Some (type, is_const)) = if_holds Here (is_void type) (wrong line) (Ok (operand (one head.Pointed t) (sort.Object type None))) tt (λ e. pointed)

  led_here : (line : ℕ) (t : Tree) (s : Sort) → Holds Here (o.dereferenced_by line t s)
  led_here line t (sort.Pointer type null) = followed_here line t (target_of type)
  led_here line t sort.Unknown = λ e. absurd (false≢true e)
  led_here line t (sort.Object type l) = tt
  led_here line t (sort.Integer known) = tt

  dereferenced_here : (line : ℕ) (v : Operand) → Holds Here (o.dereferenced line v)
  unfolding o.dereferenced
  dereferenced_here line v = after_any Here (valued line v) _ (λ w. led_here line w.tree w.sort)

  address_of_is : (line : ℕ) (t : Tree) (type : CoreType) (n : Option ℕ) → Holds Here (o.address_of_object line t type n)
  address_of_is line t type (Some n) = tt
  address_of_is line t type None = λ e. absurd (false≢true e)

  address_is : (line : ℕ) (t : Tree) (s : Sort) → Holds Here (o.address_by_sort line t s)
  address_is line t (sort.Object type (Some l)) = tt
  address_is line t (sort.Object type None) = address_of_is line t type type.count
  address_is line t (sort.Integer known) = tt
  address_is line t (sort.Pointer type null) = tt
  address_is line t sort.Unknown = tt

  pub unary_here : (line : ℕ) (u : UnOp) (v : Operand) → Holds Here (o.unary line u v)
  unfolding o.unary o.address
  unary_here line un.Plus v = after_any Here (integer_value line v) _ (λ t e. absurd (false≢true e))
  unary_here line un.Minus v = after_any Here (integer_value line v) _ (λ t e. absurd (false≢true e))
  unary_here line un.BitNot v = after_any Here (integer_value line v) _ (λ t e. absurd (false≢true e))
  unary_here line un.Not v = after_any Here (valued line v) _ (λ t e. absurd (false≢true e))
  unary_here line un.Deref v = dereferenced_here line v
  unary_here line un.AddressOf v = address_is line v.tree v.sort

  -- ---- elements and fields

  indexed_by_here : (sizes : List ℕ) (line : ℕ) (x y : Operand) (m n : Option ℕ) → Holds Here (at.indexed_by sizes line x y m n)
  indexed_by_here sizes line x y (Some m) n = after_any Here (integer_value line y) _ (λ i e. element)
  indexed_by_here sizes line x y None (Some n) = after_any Here (integer_value line x) _ (λ i e. element)
  indexed_by_here sizes line x y None None =
      after_any Here (valued line x) _ (λ v. after_any Here (valued line y) _ (λ w. after_any Here (o.sum sizes line v w) _ (λ u. led_here line u.tree u.sort)))

  pub indexed_here : (sizes : List ℕ) (line : ℕ) (x y : Operand) → Holds Here (at.indexed sizes line x y)
  unfolding at.indexed
  indexed_here sizes line x y = indexed_by_here sizes line x y (array_count x.sort) (array_count y.sort)

  member_here : (line : ℕ) (t : Tree) (l : Option Label) (n : ℕ) (f : Option Field) (offset : Option ℕ) → Holds Here (at.member_by line t l (at.member_with n f offset))
  member_here line t l n (Some f) (Some offset) = λ e. field
  member_here line t l n (Some f) None = tt
  member_here line t l n None offset = tt

  member_at_here : (line : ℕ) (t : Tree) (l : Option Label) (s : Structure) (n : Option ℕ) → Holds Here (at.member_by line t l (at.member_at s n))
  member_at_here line t l s (Some i) = member_here line t l i (slice_get s.fields i) (slice_get s.layout.fields i)
  member_at_here line t l s None = tt

  member_in_here : (line : ℕ) (name : List ℕ) (t : Tree) (l : Option Label) (s : Option Structure) → Holds Here (at.member_by line t l (at.member_in name s))
  member_in_here line name t l (Some s) = member_at_here line t l s (position (λ f. bytes_eq name f.name) s.fields)
  member_in_here line name t l None = tt

  member_of_here : (file : File) (line : ℕ) (name : List ℕ) (t : Tree) (l : Option Label) (n : Option ℕ) → Holds Here (at.member_of file line name t l n)
  unfolding at.member_named
  member_of_here file line name t l (Some n) = member_in_here line name t l (slice_get file.structs n)
  member_of_here file line name t l None = tt

  dotted_here : (file : File) (line : ℕ) (name : List ℕ) (t : Tree) (s : Sort) → Holds Here (at.dotted_by file line name t s)
  dotted_here file line name t (sort.Object type l) = member_of_here file line name t l (struct_of type)
  dotted_here file line name t (sort.Integer known) = tt
  dotted_here file line name t (sort.Pointer type null) = tt
  dotted_here file line name t sort.Unknown = λ e. absurd (false≢true e)

  field_by_here : (file : File) (line : ℕ) (name : List ℕ) (arrow : Bool) (v : Operand) → Holds Here (at.field_by file line name arrow v)
  field_by_here file line name false v = dotted_here file line name v.tree v.sort
  field_by_here file line name true v = after_any Here (o.dereferenced line v) _ (λ w. dotted_here file line name w.tree w.sort)

  pub field_here : (file : File) (line : ℕ) (name : List ℕ) (arrow : Bool) (v : Operand) → Holds Here (at.field file line name arrow v)
  unfolding at.field
  field_here file line name arrow v = field_by_here file line name arrow v

  -- ---- ranges

  behind_by_here : (line : ℕ) (p i j : Tree) (n : Option ℕ) (r : Option (CoreType × Bool)) → Holds Here (at.behind_by line p i j n r)
  behind_by_here line p i j (Some size) (Some (type, is_const)) = λ e. behind
  behind_by_here line p i j (Some size) None = tt
  behind_by_here line p i j None r = tt

  behind_at_here : (sizes : List ℕ) (line : ℕ) (p : Tree) (s : Sort) (i j : Tree) → Holds Here (at.behind_at sizes line p s i j)
  behind_at_here sizes line p (sort.Pointer type null) i j = behind_by_here line p i j (stride sizes type) (target_of type)
  behind_at_here sizes line p sort.Unknown i j = λ e. absurd (false≢true e)
  behind_at_here sizes line p (sort.Object type l) i j = tt
  behind_at_here sizes line p (sort.Integer known) i j = tt

  behind_base_here : (sizes : List ℕ) (line : ℕ) (v : Operand) (i j : Tree) → Holds Here (at.behind_base sizes line v i j)
  unfolding at.behind_base
  behind_base_here sizes line v i j = after_any Here (valued line v) _ (λ w. behind_at_here sizes line w.tree w.sort i j)

  elements_by_here : (sizes : List ℕ) (line : ℕ) (v : Operand) (i j : Tree) (n : Option ℕ) → Holds Here (at.elements_by sizes line v i j n)
  elements_by_here sizes line v i j (Some n) = λ e. elements
  elements_by_here sizes line v i j None = behind_base_here sizes line v i j

  pub elements_here : (sizes : List ℕ) (line low_line high_line : ℕ) (v low high : Operand) → Holds Here (at.elements sizes line low_line high_line v low high)
  unfolding at.elements
  elements_here sizes line low_line high_line v low high =
      after_any Here (integer_value low_line low) _ (λ i. after_any Here (integer_value high_line high) _ (λ j. elements_by_here sizes line v i j (array_count v.sort)))

  pub behind_here : (sizes : List ℕ) (line low_line high_line : ℕ) (v low high : Operand) → Holds Here (at.behind sizes line low_line high_line v low high)
  unfolding at.behind
  behind_here sizes line low_line high_line v low high =
      after_any Here (integer_value low_line low) _ (λ i. after_any Here (integer_value high_line high) _ (λ j. behind_base_here sizes line v i j))

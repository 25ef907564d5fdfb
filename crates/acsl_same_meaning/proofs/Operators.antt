-- What operators make of operands that are well formed, is well formed.
use Rattle.std.proofs.Common.{◌≡◌, ℕ, Bool, true, false, ◌&&◌, if◌then◌else◌, List, Option, Some, None, Ok, refl}
use Rattle.std.proofs.lemmas.Bool.{and_parts}
use Rattle.c_answers.specs.Answers.{Answer, after, wrong}
use Rattle.c_syntax.specs.declared.expr.UnOp.{UnOp}
use Rattle.c_syntax.specs.declared.expr.UnOp.TheVariants as un
use Rattle.c_syntax.specs.declared.expr.BinOp.{BinOp}
use Rattle.c_syntax.specs.declared.expr.BinOp.TheVariants as bin
use Rattle.typed_prog.specs.declared.types.CoreType.{CoreType}
use Rattle.typed_prog.specs.declared.operators.Arithmetic.{Arithmetic}
use Rattle.typed_prog.specs.declared.operators.Arithmetic.TheVariants as ar
use Rattle.typed_prog.specs.declared.operators.Comparison.{Comparison}
use Rattle.typed_prog.specs.declared.operators.Comparison.TheVariants as cmp
use Rattle.typed_prog.specs.Types.{is_void, target_of}
use Rattle.acsl_trees.specs.declared.heads.Content.{Content}
use Rattle.acsl_trees.specs.declared.heads.Content.TheVariants as content_of
use Rattle.acsl_trees.specs.declared.heads.Head.TheVariants as head
use Rattle.acsl_trees.specs.declared.heads.Label.{Label}
use Rattle.acsl_trees.specs.declared.operands.Sort.{Sort}
use Rattle.acsl_trees.specs.declared.operands.Sort.TheVariants as sort
use Rattle.acsl_trees.specs.Tree.{Tree, node, stop, more, one, two, leaf}
use Rattle.acsl_trees.specs.Operands.{Operand, operand}
use Rattle.acsl_rules.specs.Sorts.{content, is_pointer, is_integer, is_null, is_unknown, may_be_integer, stride_of, alike}
use Rattle.acsl_rules.specs.Values.{valued, valued_by, object_value, read_by, integer_of, integer_value, integer, truth, beside}
use Rattle.acsl_rules.specs.Operators.{followed_by, dereferenced_by, dereferenced_value, dereferenced, address_of, address_of_object, address_by_label, address_by_sort, address, unary, arithmetic, both_may_be_integers, numbers, number_sort, offset_by, offset, sum_by, sum, apart_by, taken_by, difference_by, difference, compare_by, compared, are_numbers, are_equatable, ordered, order, equated, equality, binary_values, binary}
use Rattle.acsl_rules.specs.Choices.{arms, conditional_by, conditional_values, conditional}
use Rattle.acsl_rules.specs.Laws.{Holds}
use Rattle.c_runs.specs.TruthLaws.{Signatures, is_well_formed}
use Rattle.acsl_same_meaning.specs.Trees.{Fits, OperandFits, OperatorsKeep}
use Rattle.acsl_same_meaning.proofs.Answers.{after_holds, if_holds}

-- ---- kids

pub both : {a b : Bool} → a ≡ true → b ≡ true → (a && b) ≡ true
both {a = true} e d = d
both {a = false} e d = absurd cc

pub only : {a : Bool} → a ≡ true → (a && true) ≡ true
only e = both e refl

pub pair : {a b : Bool} → a ≡ true → b ≡ true → (a && (b && true)) ≡ true
pair e d = both e (only d)

pub triple : {a b c : Bool} → a ≡ true → b ≡ true → c ≡ true → (a && (b && (c && true))) ≡ true
triple e d f = both e (pair d f)

module _ (l u : Bool) (s : Signatures) (d : ℕ) where
  abbrev pub Good : Tree → Type 0
  Good t = Fits l u s d t

  abbrev pub IsGood : Operand → Type 0
  IsGood x = OperandFits l u s d x

  abbrev pub Made : Answer Operand → Type 0
  Made o = Holds IsGood o

  pub if_good : (b : Bool) (t v : Tree) → Good t → Good v → Good (if b then t else v)
  if_good true t v f g = f
  if_good false t v f g = g

  -- ---- values

  read_fits : (line : ℕ) (t : Tree) (type : CoreType) (label : Option Label) (c : Option Content) → Good t → Made (read_by line t type label c)
  read_fits line t type label (Some (content_of.Integer k)) f = only f
  read_fits line t type label (Some content_of.Pointer) f = only f
  read_fits line t type label (Some (content_of.Struct n)) f = tt
  read_fits line t type label None f = tt

  object_fits : (line : ℕ) (t : Tree) (type : CoreType) (label : Option Label) (count : Option ℕ) → Good t → Made (object_value line t type label count)
  object_fits line t type label (Some n) f = only f
  object_fits line t type label None f = read_fits line t type label (content type) f

  valued_by_fits : (line : ℕ) (t : Tree) (q : Sort) → Good t → Made (valued_by line t q)
  valued_by_fits line t (sort.Object type label) f = object_fits line t type label type.count f
  valued_by_fits line t (sort.Integer known) f = f
  valued_by_fits line t (sort.Pointer type null) f = f
  valued_by_fits line t sort.Unknown f = f

  pub valued_fits : (line : ℕ) (x : Operand) → IsGood x → Made (valued line x)
  unfolding valued
  valued_fits line x f = valued_by_fits line x.tree x.sort f

  -- what goes on from the value of an operand
  pub from_value : {Y : Type 0} (Q : Y → Type 0) (line : ℕ) (x : Operand) (f : Operand → Answer Y) → IsGood x → ((v : Operand) → IsGood v → Holds Q (f v))
      → Holds Q (after (valued line x) f)
  from_value Q line x f fits go = after_holds IsGood Q (valued line x) f (valued_fits line x fits) go

  pub integer_fits : (line : ℕ) (v : Operand) → IsGood v → Holds Good (integer_of line v)
  integer_fits line v f = if_holds Good (may_be_integer v.sort) (Ok v.tree) (wrong line) f tt

  pub integer_value_fits : (line : ℕ) (x : Operand) → IsGood x → Holds Good (integer_value line x)
  unfolding integer_value
  integer_value_fits line x f = from_value Good line x (integer_of line) f (integer_fits line)

  pub truth_fits : (v : Operand) → IsGood v → Good (truth v)
  truth_fits v f = if_good (is_pointer v.sort) (two (head.ComparePointers cmp.NotEqual) v.tree (leaf head.Null)) v.tree (only f) f

  beside_fits : (other : Sort) (v : Operand) → IsGood v → Good (beside other v)
  beside_fits other v f = if_good (is_pointer other && is_null v.sort) (leaf head.Null) v.tree refl f

  -- ---- `*` and `&`

  followed_fits : (line : ℕ) (t : Tree) (target : Option (CoreType × Bool)) → Good t → Made (followed_by line t target)
  followed_fits line t None f = tt
  followed_fits line t (Some (type, is_const)) f =
      if_holds IsGood (is_void type) (wrong line) (Ok (operand (one head.Pointed t) (sort.Object type None))) tt (only f)

  dereferenced_by_fits : (line : ℕ) (t : Tree) (q : Sort) → Good t → Made (dereferenced_by line t q)
  dereferenced_by_fits line t (sort.Pointer type null) f = followed_fits line t (target_of type) f
  dereferenced_by_fits line t sort.Unknown f = f
  dereferenced_by_fits line t (sort.Object type label) f = tt
  dereferenced_by_fits line t (sort.Integer known) f = tt

  pub dereferenced_value_fits : (line : ℕ) (v : Operand) → IsGood v → Made (dereferenced_value line v)
  dereferenced_value_fits line v f = dereferenced_by_fits line v.tree v.sort f

  pub dereferenced_fits : (line : ℕ) (x : Operand) → IsGood x → Made (dereferenced line x)
  unfolding dereferenced
  dereferenced_fits line x f = from_value IsGood line x (dereferenced_value line) f (dereferenced_value_fits line)

  address_of_fits : (t : Tree) → Good t → Good (address_of t)
  address_of_fits (node head.Pointed stop) f = only f
  address_of_fits (node head.Pointed (more p stop)) f = (and_parts (is_well_formed l u s d p) true f).0
  address_of_fits (node head.Pointed (more p (more q ts))) f = only f
  address_of_fits (node _ ks) f = only f

  address_object_fits : (line : ℕ) (t : Tree) (type : CoreType) (count : Option ℕ) → Good t → Made (address_of_object line t type count)
  address_object_fits line t type (Some n) f = tt
  address_object_fits line t type None f = address_of_fits t f

  address_label_fits : (line : ℕ) (t : Tree) (type : CoreType) (label : Option Label) → Good t → Made (address_by_label line t type label)
  address_label_fits line t type (Some label) f = tt
  address_label_fits line t type None f = address_object_fits line t type type.count f

  address_sort_fits : (line : ℕ) (t : Tree) (q : Sort) → Good t → Made (address_by_sort line t q)
  address_sort_fits line t (sort.Object type label) f = address_label_fits line t type label f
  address_sort_fits line t (sort.Integer known) f = tt
  address_sort_fits line t (sort.Pointer type null) f = tt
  address_sort_fits line t sort.Unknown f = tt

  address_fits : (line : ℕ) (x : Operand) → IsGood x → Made (address line x)
  unfolding address
  address_fits line x f = address_sort_fits line x.tree x.sort f

  -- ---- operators of one operand

  pub from_integer : (line : ℕ) (x : Operand) (f : Tree → Answer Operand) → IsGood x → ((t : Tree) → Good t → Made (f t))
      → Made (after (integer_value line x) f)
  from_integer line x f fits go = after_holds Good IsGood (integer_value line x) f (integer_value_fits line x fits) go

  pub unary_fits : (line : ℕ) (o : UnOp) (x : Operand) → IsGood x → Made (unary line o x)
  unfolding unary
  unary_fits line un.Plus x f = from_integer line x _ f (λ t ft. ft)
  unary_fits line un.Minus x f = from_integer line x _ f (λ t ft. only ft)
  unary_fits line un.BitNot x f = from_integer line x _ f (λ t ft. only ft)
  unary_fits line un.Not x f = from_value IsGood line x _ f (λ v fv. only (truth_fits v fv))
  unary_fits line un.Deref x f = dereferenced_fits line x f
  unary_fits line un.AddressOf x f = address_fits line x f

  -- ---- sums and differences

  arithmetic_fits : (line : ℕ) (o : Arithmetic) (v w : Operand) → IsGood v → IsGood w → Made (arithmetic line o v w)
  arithmetic_fits line o v w f g =
      if_holds IsGood (both_may_be_integers v w) (Ok (integer (two (head.Arithmetic o) v.tree w.tree))) (wrong line) (pair f g) tt

  numbers_fit : (line : ℕ) (o : Arithmetic) (v w : Operand) → IsGood v → IsGood w → Made (numbers line o v w)
  numbers_fit line o v w f g =
      if_holds IsGood (both_may_be_integers v w) (Ok (operand (two (head.Arithmetic o) v.tree w.tree) (number_sort (is_integer v.sort && is_integer w.sort))))
      (wrong line) (pair f g) tt

  offset_by_fits : (line : ℕ) (minus : Bool) (p : Operand) (i : Tree) (stride : Option ℕ) (q : Sort) → IsGood p → Good i
      → Made (offset_by line minus p i stride q)
  offset_by_fits line minus p i None q f g = tt
  offset_by_fits line minus p i (Some size) (sort.Integer known) f g = pair f g
  offset_by_fits line minus p i (Some size) sort.Unknown f g = pair f g
  offset_by_fits line minus p i (Some size) (sort.Object type label) f g = tt
  offset_by_fits line minus p i (Some size) (sort.Pointer type null) f g = tt

  offset_fits : (sizes : List ℕ) (line : ℕ) (minus : Bool) (p i : Operand) → IsGood p → IsGood i → Made (offset sizes line minus p i)
  offset_fits sizes line minus p i f g = offset_by_fits line minus p i.tree (stride_of sizes p.sort) i.sort f g

  sum_by_fits : (sizes : List ℕ) (line : ℕ) (v w : Operand) (first second : Bool) → IsGood v → IsGood w → Made (sum_by sizes line v w first second)
  sum_by_fits sizes line v w true second f g = offset_fits sizes line false v w f g
  sum_by_fits sizes line v w false true f g = offset_fits sizes line false w v g f
  sum_by_fits sizes line v w false false f g = numbers_fit line ar.Add v w f g

  pub sum_fits : (sizes : List ℕ) (line : ℕ) (v w : Operand) → IsGood v → IsGood w → Made (sum sizes line v w)
  unfolding sum
  sum_fits sizes line v w f g = sum_by_fits sizes line v w (is_pointer v.sort) (is_pointer w.sort) f g

  apart_by_fits : (line : ℕ) (v w : Operand) (b : Bool) (size : Option ℕ) → IsGood v → IsGood w → Made (apart_by line v w b size)
  apart_by_fits line v w true (Some size) f g = pair f g
  apart_by_fits line v w true None f g = tt
  apart_by_fits line v w false size f g = tt

  taken_by_fits : (line : ℕ) (v w : Operand) (b : Bool) (size : Option ℕ) → IsGood v → IsGood w → Made (taken_by line v w b size)
  taken_by_fits line v w true (Some size) f g = pair f g
  taken_by_fits line v w true None f g = tt
  taken_by_fits line v w false size f g = tt

  difference_by_fits : (sizes : List ℕ) (line : ℕ) (v w : Operand) (first second : Bool) → IsGood v → IsGood w
      → Made (difference_by sizes line v w first second)
  difference_by_fits sizes line v w true true f g = apart_by_fits line v w (alike v.sort w.sort) (stride_of sizes v.sort) f g
  difference_by_fits sizes line v w true false f g = offset_fits sizes line true v w f g
  difference_by_fits sizes line v w false true f g = taken_by_fits line v w (is_unknown v.sort) (stride_of sizes w.sort) f g
  difference_by_fits sizes line v w false false f g = numbers_fit line ar.Sub v w f g

  difference_fits : (sizes : List ℕ) (line : ℕ) (v w : Operand) → IsGood v → IsGood w → Made (difference sizes line v w)
  unfolding difference
  difference_fits sizes line v w f g = difference_by_fits sizes line v w (is_pointer v.sort) (is_pointer w.sort) f g

  -- ---- comparisons

  compared_fits : (line : ℕ) (how : Comparison) (t v : Tree) (n p : Bool) → Good t → Good v → Made (compared line how t v (compare_by n p))
  compared_fits line how t v true p f g = pair f g
  compared_fits line how t v false true f g = pair f g
  compared_fits line how t v false false f g = tt

  order_fits : (line : ℕ) (how : Comparison) (v w : Operand) → IsGood v → IsGood w → Made (order line how v w)
  unfolding order ordered
  order_fits line how v w f g = compared_fits line how v.tree w.tree (are_numbers v.sort w.sort) (alike v.sort w.sort) f g

  equality_fits : (line : ℕ) (how : Comparison) (v w : Operand) → IsGood v → IsGood w → Made (equality line how v w)
  unfolding equality equated
  equality_fits line how v w f g =
      compared_fits line how (beside w.sort v) (beside v.sort w) (are_numbers v.sort w.sort) (are_equatable v.sort w.sort) (beside_fits w.sort v f)
      (beside_fits v.sort w g)

  -- ---- all operators of two operands

  binary_values_fit : (sizes : List ℕ) (line : ℕ) (o : BinOp) (v w : Operand) → IsGood v → IsGood w → Made (binary_values sizes line o v w)
  binary_values_fit sizes line bin.Mul v w f g = arithmetic_fits line ar.Mul v w f g
  binary_values_fit sizes line bin.Div v w f g = arithmetic_fits line ar.Div v w f g
  binary_values_fit sizes line bin.Rem v w f g = arithmetic_fits line ar.Rem v w f g
  binary_values_fit sizes line bin.Add v w f g = sum_fits sizes line v w f g
  binary_values_fit sizes line bin.Sub v w f g = difference_fits sizes line v w f g
  binary_values_fit sizes line bin.Shl v w f g = arithmetic_fits line ar.Shl v w f g
  binary_values_fit sizes line bin.Shr v w f g = arithmetic_fits line ar.Shr v w f g
  binary_values_fit sizes line bin.Less v w f g = order_fits line cmp.Less v w f g
  binary_values_fit sizes line bin.AtMost v w f g = order_fits line cmp.AtMost v w f g
  binary_values_fit sizes line bin.Greater v w f g = order_fits line cmp.Greater v w f g
  binary_values_fit sizes line bin.AtLeast v w f g = order_fits line cmp.AtLeast v w f g
  binary_values_fit sizes line bin.Equal v w f g = equality_fits line cmp.Equal v w f g
  binary_values_fit sizes line bin.NotEqual v w f g = equality_fits line cmp.NotEqual v w f g
  binary_values_fit sizes line bin.BitAnd v w f g = arithmetic_fits line ar.And v w f g
  binary_values_fit sizes line bin.BitXor v w f g = arithmetic_fits line ar.Xor v w f g
  binary_values_fit sizes line bin.BitOr v w f g = arithmetic_fits line ar.Or v w f g
  binary_values_fit sizes line bin.And v w f g = pair (truth_fits v f) (truth_fits w g)
  binary_values_fit sizes line bin.Or v w f g = pair (truth_fits v f) (truth_fits w g)

  pub binary_fits : (sizes : List ℕ) (line : ℕ) (o : BinOp) (x y : Operand) → IsGood x → IsGood y → Made (binary sizes line o x y)
  unfolding binary
  binary_fits sizes line o x y f g =
      from_value IsGood line x _ f (λ v fv. from_value IsGood line y (binary_values sizes line o v) g (λ w fw. binary_values_fit sizes line o v w fv fw))

  -- ---- `?:`

  chosen_by_fits : (line : ℕ) (b v w : Operand) (o : Option Sort) → IsGood b → IsGood v → IsGood w → Made (conditional_by line b v w o)
  chosen_by_fits line b v w (Some q) e f g = triple (truth_fits b e) (beside_fits w.sort v f) (beside_fits v.sort w g)
  chosen_by_fits line b v w None e f g = tt

  pub conditional_fits : (line : ℕ) (b x y : Operand) → IsGood b → IsGood x → IsGood y → Made (conditional line b x y)
  unfolding conditional
  conditional_fits line b x y e f g =
      from_value IsGood line b _ e (λ c fc. from_value IsGood line x _ f (λ v fv. from_value IsGood line y (conditional_values line c v) g
      (λ w fw. chosen_by_fits line c v w (arms v.sort w.sort) fc fv fw)))

pub operators_keep : OperatorsKeep
operators_keep l u s d = record { of_one = unary_fits l u s d; of_two = binary_fits l u s d; of_three = conditional_fits l u s d }

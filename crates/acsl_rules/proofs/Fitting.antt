-- What is made of operands that fit, if it is made, fits: values, truths, and operators of one operand.
use Rattle.std.proofs.Common.{◌≡◌, ℕ, Bool, true, false, if◌then◌else◌, Option, Some, None, Ok, Err, sym, refl, subst}
use Rattle.c_answers.specs.Answers.{Answer, after, wrong}
use Rattle.c_syntax.specs.declared.expr.UnOp.{UnOp}
use Rattle.c_syntax.specs.declared.expr.UnOp.TheVariants as un
use Rattle.typed_prog.specs.declared.types.CoreType.{CoreType}
use Rattle.typed_prog.specs.declared.operators.Comparison.TheVariants as cmp
use Rattle.typed_prog.specs.Types.{is_void, target_of}
use Rattle.acsl_trees.specs.declared.heads.Content.{Content}
use Rattle.acsl_trees.specs.declared.heads.Content.TheVariants as content_of
use Rattle.acsl_trees.specs.declared.heads.Head.{Head}
use Rattle.acsl_trees.specs.declared.heads.Head.TheVariants as head
use Rattle.acsl_trees.specs.declared.heads.Label.{Label}
use Rattle.acsl_trees.specs.declared.operands.Sort.{Sort}
use Rattle.acsl_trees.specs.declared.operands.Sort.TheVariants as sort
use Rattle.acsl_trees.specs.Tree.{Tree, node, Trees, one, two, three, leaf}
use Rattle.acsl_trees.specs.Operands.{Operand, operand}
use Rattle.acsl_rules.specs.Sorts.{content, is_pointer, may_be_integer}
use Rattle.acsl_rules.specs.Values.{valued, valued_by, object_value, read_by, integer_of, integer_value, truth}
use Rattle.acsl_rules.specs.Operators.{followed_by, dereferenced_by, dereferenced_value, dereferenced, is_pointed, only_of, address_by, address_of, address_of_object, address_by_label, address_by_sort, address, unary}
use Rattle.acsl_rules.specs.Laws as l
use Rattle.acsl_rules.specs.Laws.{What, an_integer, a_pointer, an_object, Leaves, Makes, FitsSort, Fits, Holds, Made}

-- ---- answers

pub after_holds : {X Y : Type 0} (P : X → Type 0) (Q : Y → Type 0) (o : Answer X) (f : X → Answer Y) → Holds P o → ((x : X) → P x → Holds Q (f x))
    → Holds Q (after o f)
after_holds P Q (Ok x) f fits go = go x fits
after_holds P Q (Err r) f fits go = tt

-- ---- values

-- a value is no object
abbrev pub FitsValue : Leaves → Tree → Sort → Type 0
FitsValue g t (sort.Object type label) = ⊥
FitsValue g t (sort.Integer known) = Makes g an_integer t
FitsValue g t (sort.Pointer type null) = Makes g a_pointer t
FitsValue g t sort.Unknown = ⊥

abbrev pub IsValue : Leaves → Operand → Type 0
IsValue g v = FitsValue g v.tree v.sort

value_fits_by : (g : Leaves) (t : Tree) (s : Sort) → FitsValue g t s → FitsSort g t s
value_fits_by g t (sort.Object type label) f = absurd f
value_fits_by g t (sort.Integer known) f = f
value_fits_by g t (sort.Pointer type null) f = f
value_fits_by g t sort.Unknown f = absurd f

pub value_fits : (g : Leaves) (v : Operand) → IsValue g v → Fits g v
value_fits g v f = value_fits_by g v.tree v.sort f

read_fits : (g : Leaves) (line : ℕ) (t : Tree) (type : CoreType) (label : Option Label) (c : Option Content) → Makes g an_object t → Holds (IsValue g) (read_by line t type label c)
read_fits g line t type label (Some (content_of.Integer k)) f = l.reads_integer f
read_fits g line t type label (Some content_of.Pointer) f = l.reads_pointer f
read_fits g line t type label (Some (content_of.Struct n)) f = tt
read_fits g line t type label None f = tt

object_fits : (g : Leaves) (line : ℕ) (t : Tree) (type : CoreType) (label : Option Label) (count : Option ℕ) → Makes g an_object t → Holds (IsValue g) (object_value line t type label count)
object_fits g line t type label (Some n) f = l.address_taken f
object_fits g line t type label None f = read_fits g line t type label (content type) f

valued_by_fits : (g : Leaves) (line : ℕ) (t : Tree) (s : Sort) → FitsSort g t s → Holds (IsValue g) (valued_by line t s)
valued_by_fits g line t (sort.Object type label) f = object_fits g line t type label type.count f
valued_by_fits g line t (sort.Integer known) f = f
valued_by_fits g line t (sort.Pointer type null) f = f
valued_by_fits g line t sort.Unknown f = absurd f

pub valued_fits : (g : Leaves) (line : ℕ) (x : Operand) → Fits g x → Holds (IsValue g) (valued line x)
unfolding valued
valued_fits g line x f = valued_by_fits g line x.tree x.sort f

-- what goes on from the value of an operand
pub from_value : {Y : Type 0} (Q : Y → Type 0) (g : Leaves) (line : ℕ) (x : Operand) (f : Operand → Answer Y) → Fits g x → ((v : Operand) → IsValue g v → Holds Q (f v))
    → Holds Q (after (valued line x) f)
from_value Q g line x f fits go = after_holds (IsValue g) Q (valued line x) f (valued_fits g line x fits) go

-- ---- integers and pointers among values

pub integer_is : (g : Leaves) (t : Tree) (s : Sort) → FitsValue g t s → may_be_integer s ≡ true → Makes g an_integer t
integer_is g t (sort.Object type label) f e = absurd f
integer_is g t (sort.Integer known) f e = f
integer_is g t (sort.Pointer type null) f e = absurd cc
integer_is g t sort.Unknown f e = absurd f

pub no_pointer_is : (g : Leaves) (t : Tree) (s : Sort) → FitsValue g t s → is_pointer s ≡ false → Makes g an_integer t
no_pointer_is g t (sort.Object type label) f e = absurd f
no_pointer_is g t (sort.Integer known) f e = f
no_pointer_is g t (sort.Pointer type null) f e = absurd cc
no_pointer_is g t sort.Unknown f e = absurd f

pub pointer_is : (g : Leaves) (t : Tree) (s : Sort) → FitsValue g t s → is_pointer s ≡ true → Makes g a_pointer t
pointer_is g t (sort.Object type label) f e = absurd f
pointer_is g t (sort.Integer known) f e = absurd cc
pointer_is g t (sort.Pointer type null) f e = f
pointer_is g t sort.Unknown f e = absurd f

pub integer_by : (g : Leaves) (line : ℕ) (v : Operand) (b : Bool) → IsValue g v → may_be_integer v.sort ≡ b → Holds (Makes g an_integer) (if b then Ok v.tree else wrong line)
integer_by g line v true f e = integer_is g v.tree v.sort f e
integer_by g line v false f e = tt

pub integer_value_fits : (g : Leaves) (line : ℕ) (x : Operand) → Fits g x → Holds (Makes g an_integer) (integer_value line x)
unfolding integer_value
integer_value_fits g line x f = from_value (Makes g an_integer) g line x (integer_of line) f (λ v fv. integer_by g line v _ fv refl)

truth_by : (g : Leaves) (v : Operand) (b : Bool) → IsValue g v → is_pointer v.sort ≡ b → Makes g an_integer (if b then two (head.ComparePointers cmp.NotEqual) v.tree (leaf head.Null) else v.tree)
truth_by g v true f e = l.pointers_compared (pointer_is g v.tree v.sort f e) l.is_null
truth_by g v false f e = no_pointer_is g v.tree v.sort f e

pub truth_fits : (g : Leaves) (v : Operand) → IsValue g v → Makes g an_integer (truth v)
truth_fits g v f = truth_by g v _ f refl

-- ---- `*` and `&`

void_by : (g : Leaves) (line : ℕ) (t : Tree) (type : CoreType) (b : Bool) → Makes g a_pointer t
    → Made g (if b then wrong line else Ok (operand (one head.Pointed t) (sort.Object type None)))
void_by g line t type true f = tt
void_by g line t type false f = l.where_led f

followed_fits : (g : Leaves) (line : ℕ) (t : Tree) (target : Option (CoreType × Bool)) → Makes g a_pointer t → Made g (followed_by line t target)
followed_fits g line t None f = tt
followed_fits g line t (Some (type, is_const)) f = void_by g line t type (is_void type) f

dereferenced_by_fits : (g : Leaves) (line : ℕ) (t : Tree) (s : Sort) → FitsValue g t s → Made g (dereferenced_by line t s)
dereferenced_by_fits g line t (sort.Pointer type null) f = followed_fits g line t (target_of type) f
dereferenced_by_fits g line t sort.Unknown f = absurd f
dereferenced_by_fits g line t (sort.Object type label) f = absurd f
dereferenced_by_fits g line t (sort.Integer known) f = tt

pub dereferenced_value_fits : (g : Leaves) (line : ℕ) (v : Operand) → IsValue g v → Made g (dereferenced_value line v)
dereferenced_value_fits g line v f = dereferenced_by_fits g line v.tree v.sort f

pub dereferenced_fits : (g : Leaves) (line : ℕ) (x : Operand) → Fits g x → Made g (dereferenced line x)
unfolding dereferenced
dereferenced_fits g line x f = from_value (Fits g) g line x (dereferenced_value line) f (dereferenced_value_fits g line)

taken_by : (g : Leaves) (h : Head) (kids : Trees) (b : Bool) → is_pointed h ≡ false → is_pointed h ≡ b → Makes g an_object (node h kids)
    → Makes g a_pointer (if b then address_by (node h kids) (only_of kids) else address_by (node h kids) None)
taken_by g h kids true e e' f = absurd cc
taken_by g h kids false e e' f = l.address_taken f

address_fits_by : (g : Leaves) (w : What) (t : Tree) → w ≡ an_object → Makes g w t → Makes g a_pointer (address_of t)
address_fits_by g w t e (l.as_given {h = h} {kids = kids} n f) = taken_by g h kids _ n refl (subst (λ w. Makes g w (node h kids)) e (l.as_given n f))
address_fits_by g w t e (l.in_state {l = label} {t = u} f) = l.address_taken (subst (λ w. Makes g w (one (head.At label) u)) e (l.in_state f))
address_fits_by g w t e (l.where_led f) = f
address_fits_by g w t e (l.of_field f) = l.address_taken (l.of_field f)
address_fits_by g w t e (l.of_element f i) = l.address_taken (l.of_element f i)
address_fits_by g w t e (l.of_elements f i j) = l.address_taken (l.of_elements f i j)
address_fits_by g w t e (l.all_behind f i j) = l.address_taken (l.all_behind f i j)
address_fits_by g w t e l.is_null = absurd cc
address_fits_by g w t e (l.reads_pointer f) = absurd cc
address_fits_by g w t e (l.address_taken f) = absurd cc
address_fits_by g w t e (l.is_moved f i) = absurd cc
address_fits_by g w t e (l.reads_integer f) = absurd cc
address_fits_by g w t e (l.difference_of f i) = absurd cc
address_fits_by g w t e (l.negated f) = absurd cc
address_fits_by g w t e (l.complemented f) = absurd cc
address_fits_by g w t e (l.converted f) = absurd cc
address_fits_by g w t e (l.computed f i) = absurd cc
address_fits_by g w t e (l.integers_compared f i) = absurd cc
address_fits_by g w t e (l.pointers_compared f i) = absurd cc
address_fits_by g w t e (l.not_so f) = absurd cc
address_fits_by g w t e (l.both_so f i) = absurd cc
address_fits_by g w t e (l.either_so f i) = absurd cc
address_fits_by g w t e (l.chosen {b = c} {t = u} {u = v} fc f i) = l.address_taken (subst (λ w. Makes g w (three head.Choose c u v)) e (l.chosen fc f i))
address_fits_by g w t e l.no_terms = absurd cc
address_fits_by g w t e (l.in_chain f i) = absurd cc

label_fits : (g : Leaves) (line : ℕ) (t : Tree) (type : CoreType) (label : Option Label) (count : Option ℕ) → type.count ≡ count → Makes g an_object t → Made g (address_by_label line t type label)
label_fits g line t type (Some label) count e f = tt
label_fits g line t type None (Some n) e f = subst (λ count. Made g (address_of_object line t type count)) (sym e) tt
label_fits g line t type None None e f = subst (λ count. Made g (address_of_object line t type count)) (sym e) (address_fits_by g an_object t refl f)

address_sort_fits : (g : Leaves) (line : ℕ) (t : Tree) (s : Sort) → FitsSort g t s → Made g (address_by_sort line t s)
address_sort_fits g line t (sort.Object type label) f = label_fits g line t type label _ refl f
address_sort_fits g line t (sort.Integer known) f = tt
address_sort_fits g line t (sort.Pointer type null) f = tt
address_sort_fits g line t sort.Unknown f = tt

address_fits : (g : Leaves) (line : ℕ) (x : Operand) → Fits g x → Made g (address line x)
unfolding address
address_fits g line x f = address_sort_fits g line x.tree x.sort f

-- ---- operators of one operand

pub from_integer : (g : Leaves) (line : ℕ) (x : Operand) (f : Tree → Answer Operand) → Fits g x → ((t : Tree) → Makes g an_integer t → Made g (f t)) → Made g (after (integer_value line x) f)
from_integer g line x f fits go = after_holds (Makes g an_integer) (Fits g) (integer_value line x) f (integer_value_fits g line x fits) go

pub unary_fits : (g : Leaves) (line : ℕ) (o : UnOp) (x : Operand) → Fits g x → Made g (unary line o x)
unfolding unary
unary_fits g line un.Plus x f = from_integer g line x _ f (λ t ft. ft)
unary_fits g line un.Minus x f = from_integer g line x _ f (λ t ft. l.negated ft)
unary_fits g line un.BitNot x f = from_integer g line x _ f (λ t ft. l.complemented ft)
unary_fits g line un.Not x f = from_value (Fits g) g line x _ f (λ v fv. l.not_so (truth_fits g v fv))
unary_fits g line un.Deref x f = dereferenced_fits g line x f
unary_fits g line un.AddressOf x f = address_fits g line x f

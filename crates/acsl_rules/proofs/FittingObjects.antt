-- What names an object, a cast, a state and a region, made of operands that fit, fits.
use Rattle.std.proofs.Common.{◌≡◌, ℕ, Bool, true, false, if◌then◌else◌, List, Option, Some, None, Ok, refl}
use Rattle.std.specs.Option.{option_map}
use Rattle.wp_base.specs.declared.kinds.Kind.{Kind}
use Rattle.c_kinds.specs.declared.models.Machdep.{Machdep}
use Rattle.c_kinds.specs.Models.{convert}
use Rattle.c_answers.specs.Answers.{Answer, wrong}
use Rattle.c_rules.specs.Pointers.{stride}
use Rattle.c_scopes.specs.declared.file.File.{File}
use Rattle.typed_prog.specs.declared.types.CoreType.{CoreType}
use Rattle.typed_prog.specs.Types.{target_of, struct_of}
use Rattle.acsl_trees.specs.declared.heads.Content.{Content}
use Rattle.acsl_trees.specs.declared.heads.Content.TheVariants as content_of
use Rattle.acsl_trees.specs.declared.heads.Head.TheVariants as head
use Rattle.acsl_trees.specs.declared.heads.Label.{Label}
use Rattle.acsl_trees.specs.declared.operands.Sort.{Sort}
use Rattle.acsl_trees.specs.declared.operands.Sort.TheVariants as sort
use Rattle.acsl_trees.specs.Tree.{Tree, leaf, one, two, three}
use Rattle.acsl_trees.specs.Operands.{Operand, operand}
use Rattle.acsl_rules.specs.declared.fields.Member.{Member}
use Rattle.acsl_rules.specs.Sorts.{content, array_count, may_be_integer, known_in, is_zero}
use Rattle.acsl_rules.specs.Operators.{sum, dereferenced, dereferenced_value}
use Rattle.acsl_rules.specs.Objects.{element_sort, element_size, indexed_values, indexed_by, indexed, member_named, member_by, member_of, dotted_by, dotted, field, behind_by, behind_at, behind_base, elements_by, elements_base, bounded, elements, behind, region_by, region_at, region_of, target_content, pointed}
use Rattle.acsl_rules.specs.Contexts.{cast_by, cast_value, cast, whole_at, object_at, labelled_by, labelled}
use Rattle.acsl_rules.specs.Laws as l
use Rattle.acsl_rules.specs.Laws.{an_integer, a_pointer, an_object, Leaves, Makes, FitsSort, Fits, Holds, Made}
use Rattle.acsl_rules.proofs.Fitting.{after_holds, FitsValue, IsValue, from_value, integer_is, from_integer, dereferenced_fits, dereferenced_value_fits}
use Rattle.acsl_rules.proofs.FittingTwo.{sum_fits}

-- ---- `[ ]`

element_fits : (g : Leaves) (size n : ℕ) (t i : Tree) (s : Sort) → FitsSort g t s → array_count s ≡ Some n → Makes g an_integer i
    → FitsSort g (two (head.Element size n) t i) (element_sort s)
element_fits g size n t i (sort.Object type label) f e fi = l.of_element f fi
element_fits g size n t i (sort.Integer known) f e fi = absurd cc
element_fits g size n t i (sort.Pointer type null) f e fi = absurd cc
element_fits g size n t i sort.Unknown f e fi = absurd f

-- what a sum leads to: a sum of values is a value
indexed_values_fit : (g : Leaves) (sizes : List ℕ) (line : ℕ) (v w : Operand) → IsValue g v → IsValue g w → Made g (indexed_values sizes line v w)
indexed_values_fit g sizes line v w fv fw = after_holds (IsValue g) (Fits g) (sum sizes line v w) (dereferenced_value line) (sum_fits g sizes line v w fv fw) (dereferenced_value_fits g line)

indexed_by_fits : (g : Leaves) (sizes : List ℕ) (line : ℕ) (x y : Operand) (first second : Option ℕ) → Fits g x → Fits g y → array_count x.sort ≡ first → array_count y.sort ≡ second
    → Made g (indexed_by sizes line x y first second)
indexed_by_fits g sizes line x y (Some n) second f h e e' = from_integer g line y _ h (λ i fi. element_fits g (element_size sizes x.sort) n x.tree i x.sort f e fi)
indexed_by_fits g sizes line x y None (Some n) f h e e' = from_integer g line x _ f (λ i fi. element_fits g (element_size sizes y.sort) n y.tree i y.sort h e' fi)
indexed_by_fits g sizes line x y None None f h e e' =
    from_value (Fits g) g line x _ f (λ v fv. from_value (Fits g) g line y (indexed_values sizes line v) h
    (λ w fw. indexed_values_fit g sizes line v w fv fw))

pub indexed_fits : (g : Leaves) (sizes : List ℕ) (line : ℕ) (x y : Operand) → Fits g x → Fits g y → Made g (indexed sizes line x y)
unfolding indexed
indexed_fits g sizes line x y f h = indexed_by_fits g sizes line x y _ _ f h refl refl

-- ---- `.` and `->`

member_fits : (g : Leaves) (line : ℕ) (t : Tree) (label : Option Label) (f : Option Member) → Makes g an_object t → Made g (member_by line t label f)
member_fits g line t label (Some f) m = l.of_field m
member_fits g line t label None m = tt

struct_fits : (g : Leaves) (file : File) (line : ℕ) (name : List ℕ) (t : Tree) (label : Option Label) (n : Option ℕ) → Makes g an_object t → Made g (member_of file line name t label n)
struct_fits g file line name t label (Some n) m = member_fits g line t label (member_named file name n) m
struct_fits g file line name t label None m = tt

dotted_by_fits : (g : Leaves) (file : File) (line : ℕ) (name : List ℕ) (t : Tree) (s : Sort) → FitsSort g t s → Made g (dotted_by file line name t s)
dotted_by_fits g file line name t (sort.Object type label) f = struct_fits g file line name t label (struct_of type) f
dotted_by_fits g file line name t (sort.Integer known) f = tt
dotted_by_fits g file line name t (sort.Pointer type null) f = tt
dotted_by_fits g file line name t sort.Unknown f = absurd f

dotted_fits : (g : Leaves) (file : File) (line : ℕ) (name : List ℕ) (x : Operand) → Fits g x → Made g (dotted file line name x)
dotted_fits g file line name x f = dotted_by_fits g file line name x.tree x.sort f

pub field_fits : (g : Leaves) (file : File) (line : ℕ) (name : List ℕ) (arrow : Bool) (x : Operand) → Fits g x → Made g (field file line name arrow x)
unfolding field
field_fits g file line name false x f = dotted_fits g file line name x f
field_fits g file line name true x f = after_holds (Fits g) (Fits g) (dereferenced line x) (dotted file line name) (dereferenced_fits g line x f) (dotted_fits g file line name)

-- ---- `[low .. high]`

behind_by_fits : (g : Leaves) (line : ℕ) (p i j : Tree) (size : Option ℕ) (target : Option (CoreType × Bool)) → Makes g a_pointer p → Makes g an_integer i → Makes g an_integer j
    → Made g (behind_by line p i j size target)
behind_by_fits g line p i j (Some size) (Some (type, is_const)) fp fi fj = l.all_behind fp fi fj
behind_by_fits g line p i j (Some size) None fp fi fj = tt
behind_by_fits g line p i j None target fp fi fj = tt

behind_at_fits : (g : Leaves) (sizes : List ℕ) (line : ℕ) (p : Tree) (s : Sort) (i j : Tree) → FitsValue g p s → Makes g an_integer i → Makes g an_integer j → Made g (behind_at sizes line p s i j)
behind_at_fits g sizes line p (sort.Pointer type null) i j fp fi fj = behind_by_fits g line p i j (stride sizes type) (target_of type) fp fi fj
behind_at_fits g sizes line p sort.Unknown i j fp fi fj = absurd fp
behind_at_fits g sizes line p (sort.Object type label) i j fp fi fj = tt
behind_at_fits g sizes line p (sort.Integer known) i j fp fi fj = tt

behind_base_fits : (g : Leaves) (sizes : List ℕ) (line : ℕ) (x : Operand) (i j : Tree) → Fits g x → Makes g an_integer i → Makes g an_integer j → Made g (behind_base sizes line x i j)
unfolding behind_base
behind_base_fits g sizes line x i j f fi fj = from_value (Fits g) g line x _ f (λ v fv. behind_at_fits g sizes line v.tree v.sort i j fv fi fj)

all_elements_fit : (g : Leaves) (size n : ℕ) (t i j : Tree) (s : Sort) → FitsSort g t s → array_count s ≡ Some n → Makes g an_integer i → Makes g an_integer j
    → FitsSort g (three (head.Elements size n) t i j) (element_sort s)
all_elements_fit g size n t i j (sort.Object type label) f e fi fj = l.of_elements f fi fj
all_elements_fit g size n t i j (sort.Integer known) f e fi fj = absurd cc
all_elements_fit g size n t i j (sort.Pointer type null) f e fi fj = absurd cc
all_elements_fit g size n t i j sort.Unknown f e fi fj = absurd f

elements_by_fits : (g : Leaves) (sizes : List ℕ) (line : ℕ) (x : Operand) (i j : Tree) (count : Option ℕ) → Fits g x → Makes g an_integer i → Makes g an_integer j → array_count x.sort ≡ count
    → Made g (elements_by sizes line x i j count)
elements_by_fits g sizes line x i j (Some n) f fi fj e = all_elements_fit g (element_size sizes x.sort) n x.tree i j x.sort f e fi fj
elements_by_fits g sizes line x i j None f fi fj e = behind_base_fits g sizes line x i j f fi fj

bounded_fits : (g : Leaves) (low_line high_line : ℕ) (low high : Operand) (f : Tree → Tree → Answer Operand) → Fits g low → Fits g high
    → ((i j : Tree) → Makes g an_integer i → Makes g an_integer j → Made g (f i j)) → Made g (bounded low_line high_line low high f)
bounded_fits g low_line high_line low high f fl fh go =
    from_integer g low_line low _ fl (λ i fi. from_integer g high_line high (f i) fh (λ j fj. go i j fi fj))

pub elements_fit : (g : Leaves) (sizes : List ℕ) (line low_line high_line : ℕ) (x low high : Operand) → Fits g x → Fits g low → Fits g high
    → Made g (elements sizes line low_line high_line x low high)
unfolding elements
elements_fit g sizes line low_line high_line x low high f fl fh =
    bounded_fits g low_line high_line low high (elements_base sizes line x) fl fh (λ i j fi fj. elements_by_fits g sizes line x i j _ f fi fj refl)

pub behind_fits : (g : Leaves) (sizes : List ℕ) (line low_line high_line : ℕ) (x low high : Operand) → Fits g x → Fits g low → Fits g high
    → Made g (behind sizes line low_line high_line x low high)
unfolding behind
behind_fits g sizes line low_line high_line x low high f fl fh =
    bounded_fits g low_line high_line low high (behind_base sizes line x) fl fh (λ i j fi fj. behind_base_fits g sizes line x i j f fi fj)

-- ---- casts

kind_by : (g : Leaves) (m : Machdep) (line : ℕ) (k : Kind) (v : Operand) (b : Bool) → IsValue g v → may_be_integer v.sort ≡ b
    → Made g (if b then Ok (operand (one (head.Convert k) v.tree) (sort.Integer (option_map (convert m k) (known_in v.sort)))) else wrong line)
kind_by g m line k v true f e = l.converted (integer_is g v.tree v.sort f e)
kind_by g m line k v false f e = tt

null_by : (g : Leaves) (line : ℕ) (type : CoreType) (null b : Bool) → Made g (if b then Ok (operand (leaf head.Null) (sort.Pointer type null)) else wrong line)
null_by g line type null true = l.is_null
null_by g line type null false = tt

cast_by_fits : (g : Leaves) (m : Machdep) (line : ℕ) (type : CoreType) (null : Bool) (v : Operand) (k : Option Kind) (p : Bool) → IsValue g v → Made g (cast_by m line type null v k p)
cast_by_fits g m line type null v (Some k) p f = kind_by g m line k v _ f refl
cast_by_fits g m line type null v None true f = null_by g line type null (is_zero (known_in v.sort))
cast_by_fits g m line type null v None false f = tt

pub cast_fits : (g : Leaves) (m : Machdep) (line : ℕ) (type : CoreType) (null : Bool) (x : Operand) → Fits g x → Made g (cast m line type null x)
unfolding cast
cast_fits g m line type null x f = from_value (Fits g) g line x (cast_value m line type null) f (λ v fv. cast_by_fits g m line type null v _ _ fv)

-- ---- `\old` and `\at`

whole_fits : (g : Leaves) (label : Label) (t : Tree) (type : CoreType) (inner : Option Label) → Makes g an_object t → Fits g (whole_at label t type inner)
whole_fits g label t type None f = l.in_state f
whole_fits g label t type (Some inner) f = f

object_at_fits : (g : Leaves) (label : Label) (t : Tree) (type : CoreType) (inner : Option Label) (c : Option Content) → Makes g an_object t → Fits g (object_at label t type inner c)
object_at_fits g label t type inner (Some (content_of.Integer k)) f = l.in_state (l.reads_integer f)
object_at_fits g label t type inner (Some content_of.Pointer) f = l.in_state (l.reads_pointer f)
object_at_fits g label t type inner (Some (content_of.Struct n)) f = whole_fits g label t type inner f
object_at_fits g label t type inner None f = whole_fits g label t type inner f

labelled_by_fits : (g : Leaves) (label : Label) (t : Tree) (s : Sort) → FitsSort g t s → Fits g (labelled_by label t s)
labelled_by_fits g label t (sort.Object type inner) f = object_at_fits g label t type inner (content type) f
labelled_by_fits g label t (sort.Integer known) f = l.in_state f
labelled_by_fits g label t (sort.Pointer type null) f = l.in_state f
labelled_by_fits g label t sort.Unknown f = absurd f

pub labelled_fits : (g : Leaves) (label : Label) (x : Operand) → Fits g x → Made g (labelled label x)
unfolding labelled
labelled_fits g label x f = labelled_by_fits g label x.tree x.sort f

-- ---- regions

abbrev pub IsRegion : Leaves → Tree × Content → Type 0
IsRegion g r = Makes g an_object r.0

region_by_fits : (g : Leaves) (line : ℕ) (p : Tree) (c : Option Content) → Makes g a_pointer p → Holds (IsRegion g) (region_by line p c)
region_by_fits g line p (Some c) f = l.where_led f
region_by_fits g line p None f = tt

region_at_fits : (g : Leaves) (line : ℕ) (p : Tree) (s : Sort) → FitsValue g p s → Holds (IsRegion g) (region_at line p s)
region_at_fits g line p (sort.Pointer type null) f = region_by_fits g line p (target_content (target_of type)) f
region_at_fits g line p sort.Unknown f = absurd f
region_at_fits g line p (sort.Object type label) f = tt
region_at_fits g line p (sort.Integer known) f = tt

pub pointed_fits : (g : Leaves) (line : ℕ) (x : Operand) → Fits g x → Holds (IsRegion g) (pointed line x)
unfolding pointed
pointed_fits g line x f = from_value (IsRegion g) g line x (region_of line) f (λ v fv. region_at_fits g line v.tree v.sort fv)

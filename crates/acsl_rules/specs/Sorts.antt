-- What a term is by its sort, and what stands at an address (ACSL 2.2.3). Integers in annotations are unbounded, whatever kind they are read from, so no
-- operand is promoted or converted. A value without a type may be of any type that its operator wants.
use Rattle.std.specs.Prelude.{ℕ, ℤ, pos, Bool, true, false, ◌||◌, List, Option, Some, None}
use Rattle.std.specs.Ordering.{int_eq}
use Rattle.wp_base.specs.declared.kinds.Kind.{Kind}
use Rattle.typed_prog.specs.declared.types.CoreType.{CoreType}
use Rattle.typed_prog.specs.Types.{kind_of, struct_of, is_pointer as is_pointer_type}
use Rattle.c_rules.specs.Pointers.{stride, are_alike}
use Rattle.acsl_trees.specs.declared.heads.Content.{Content}
use Rattle.acsl_trees.specs.declared.heads.Content.TheVariants as content_of
use Rattle.acsl_trees.specs.declared.operands.Sort.{Sort}
use Rattle.acsl_trees.specs.declared.operands.Sort.TheVariants as sort

-- ---- what an object of a type holds

abbrev pub content_by : (is_pointer : Bool) → Option Kind → Option ℕ → Option Content
content_by true k n = Some content_of.Pointer
content_by false (Some k) n = Some (content_of.Integer k)
content_by false None (Some n) = Some (content_of.Struct n)
content_by false None None = None

-- none where it is an array, whose elements hold what they do, or `void`
abbrev pub content : CoreType → Option Content
content type = content_by (is_pointer_type type) (kind_of type) (struct_of type)

-- ---- sorts

abbrev pub is_unknown : Sort → Bool
is_unknown sort.Unknown = true
is_unknown (sort.Object type label) = false
is_unknown (sort.Integer known) = false
is_unknown (sort.Pointer type null) = false

abbrev pub is_integer : Sort → Bool
is_integer (sort.Integer known) = true
is_integer (sort.Object type label) = false
is_integer (sort.Pointer type null) = false
is_integer sort.Unknown = false

abbrev pub is_pointer : Sort → Bool
is_pointer (sort.Pointer type null) = true
is_pointer (sort.Object type label) = false
is_pointer (sort.Integer known) = false
is_pointer sort.Unknown = false

abbrev pub may_be_integer : Sort → Bool
may_be_integer s = is_integer s || is_unknown s

-- the number that an integer is spelled as
abbrev pub known_in : Sort → Option ℤ
known_in (sort.Integer known) = known
known_in (sort.Object type label) = None
known_in (sort.Pointer type null) = None
known_in sort.Unknown = None

abbrev pub is_zero : Option ℤ → Bool
is_zero None = false
is_zero (Some z) = int_eq z (pos 0)

abbrev pub is_untyped_null : Sort → Bool
is_untyped_null (sort.Pointer type null) = null
is_untyped_null (sort.Object type label) = false
is_untyped_null (sort.Integer known) = false
is_untyped_null sort.Unknown = false

-- a null pointer constant: `\null`, 0, or 0 cast to `void *` (C11 6.3.2.3p3)
abbrev pub is_null : Sort → Bool
is_null s = is_zero (known_in s) || is_untyped_null s

-- How many elements an array has; none where the term is none.
abbrev pub array_count : Sort → Option ℕ
array_count (sort.Object type label) = type.count
array_count (sort.Integer known) = None
array_count (sort.Pointer type null) = None
array_count sort.Unknown = None

-- How many cells the elements have that a pointer can be moved over; none where it is no pointer to an object. So none is moved that is null without a type.
abbrev pub stride_of : List ℕ → Sort → Option ℕ
stride_of sizes (sort.Pointer type null) = stride sizes type
stride_of sizes (sort.Object type label) = None
stride_of sizes (sort.Integer known) = None
stride_of sizes sort.Unknown = None

-- both are pointers to one type, constant or not
abbrev pub alike_to : CoreType → Sort → Bool
alike_to a (sort.Pointer b null) = are_alike a b
alike_to a (sort.Object type label) = false
alike_to a (sort.Integer known) = false
alike_to a sort.Unknown = false

abbrev pub alike : Sort → Sort → Bool
alike (sort.Pointer a null) s = alike_to a s
alike (sort.Object type label) s = false
alike (sort.Integer known) s = false
alike sort.Unknown s = false

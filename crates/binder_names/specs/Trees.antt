-- Whether two typed annotations are one tree: heads are compared by their rank and by three numbers of what stands in them, and kids one by one. Quantifiers
-- that are spelled alike are told apart by their places.
use Rattle.std.specs.Prelude.{ℕ, ◌+◌, ◌==◌, Bool, true, false, ◌&&◌, ℤ, pos, Option, Some, None}
use Rattle.std.specs.Ordering.{int_eq}
use Rattle.wp_base.specs.Kinds.{kind_place}
use Rattle.typed_prog.specs.declared.operators.Variable.{Variable}
use Rattle.typed_prog.specs.declared.operators.Variable.TheVariants as variables
use Rattle.typed_prog.specs.declared.operators.Arithmetic.{Arithmetic}
use Rattle.typed_prog.specs.declared.operators.Arithmetic.TheVariants as ar
use Rattle.typed_prog.specs.declared.operators.Comparison.{Comparison}
use Rattle.typed_prog.specs.declared.operators.Comparison.TheVariants as cmp
use Rattle.acsl_trees.specs.declared.heads.BinderPlace.{BinderPlace}
use Rattle.acsl_trees.specs.declared.heads.Content.{Content}
use Rattle.acsl_trees.specs.declared.heads.Content.TheVariants as content
use Rattle.acsl_trees.specs.declared.heads.Label.{Label}
use Rattle.acsl_trees.specs.declared.heads.Label.TheVariants as label
use Rattle.acsl_trees.specs.declared.heads.Range.{Range}
use Rattle.acsl_trees.specs.declared.heads.Range.TheVariants as range
use Rattle.acsl_trees.specs.declared.heads.Head.{Head}
use Rattle.acsl_trees.specs.declared.heads.Head.TheVariants as h
use Rattle.acsl_trees.specs.Tree.{Tree, Trees, node, stop, more}

-- ---- what stands in heads, as numbers

abbrev pub flag : Bool → ℕ
flag true = 1
flag false = 0

-- kinds have places below 12
abbrev pub content_number : Content → ℕ
content_number (content.Integer k) = kind_place k
content_number content.Pointer = 12
content_number (content.Struct n) = n + 13

abbrev pub label_number : Label → ℕ
label_number label.Here = 1
label_number label.Pre = 2
label_number label.Post = 3
label_number label.LoopEntry = 4

abbrev pub label_numbers : Option Label → ℕ
label_numbers None = 0
label_numbers (Some l) = label_number l

abbrev pub ends_number : (low_out high_out : Bool) → ℕ
ends_number true true = 12
ends_number true false = 13
ends_number false true = 14
ends_number false false = 15

abbrev pub range_number : Range → ℕ
range_number (range.Between a z place) = ends_number a z
range_number (range.Kind k place) = kind_place k

-- where the quantifier of a range stands
abbrev pub place_of : Range → BinderPlace
place_of (range.Between a z place) = place
place_of (range.Kind k place) = place

abbrev pub arithmetic_number : Arithmetic → ℕ
arithmetic_number ar.Mul = 0
arithmetic_number ar.Div = 1
arithmetic_number ar.Rem = 2
arithmetic_number ar.Add = 3
arithmetic_number ar.Sub = 4
arithmetic_number ar.Shl = 5
arithmetic_number ar.Shr = 6
arithmetic_number ar.And = 7
arithmetic_number ar.Xor = 8
arithmetic_number ar.Or = 9

abbrev pub comparison_number : Comparison → ℕ
comparison_number cmp.Less = 0
comparison_number cmp.AtMost = 1
comparison_number cmp.Greater = 2
comparison_number cmp.AtLeast = 3
comparison_number cmp.Equal = 4
comparison_number cmp.NotEqual = 5

-- ---- heads

-- a number of the head, and three of what stands in it
pub record Key : Type 0 where
  pub rank : ℕ
  pub first : ℕ
  pub second : ℕ
  pub third : ℕ

abbrev pub key : (rank first second : ℕ) → Key
key r a b = record { rank = r; first = a; second = b; third = 0 }

abbrev pub variable_key : Variable → Key
variable_key (variables.Global x) = key 6 0 x
variable_key (variables.Local x) = key 6 1 x

-- a quantifier's range, and its place
abbrev pub quantifier_key : (rank : ℕ) → Range → Key
quantifier_key r g = record { rank = r; first = range_number g; second = (place_of g).line; third = (place_of g).node }

-- beside the number that stands in it, if there is one
abbrev pub key_of : Head → Key
key_of (h.Number z) = key 0 0 0
key_of h.Null = key 1 0 0
key_of (h.Name x) = key 2 x 0
key_of (h.Call f) = key 3 f 0
key_of h.Result = key 4 0 0
key_of (h.At l) = key 5 (label_number l) 0
key_of (h.Variable x) = variable_key x
key_of h.Pointed = key 7 0 0
key_of (h.Field n o) = key 8 n o
key_of (h.Element n c) = key 9 n c
key_of (h.Elements n c) = key 10 n c
key_of (h.Behind n) = key 11 n 0
key_of (h.Read c l) = key 12 (content_number c) (label_numbers l)
key_of h.Address = key 13 0 0
key_of (h.Moved m n) = key 14 (flag m) n
key_of (h.Difference n) = key 15 n 0
key_of h.Negate = key 16 0 0
key_of h.Complement = key 17 0 0
key_of (h.Arithmetic o) = key 18 (arithmetic_number o) 0
key_of (h.Convert k) = key 19 (kind_place k) 0
key_of (h.Compare c) = key 20 (comparison_number c) 0
key_of (h.ComparePointers c) = key 21 (comparison_number c) 0
key_of h.Not = key 22 0 0
key_of h.And = key 23 0 0
key_of h.Or = key 24 0 0
key_of h.Xor = key 25 0 0
key_of h.Implies = key 26 0 0
key_of h.Iff = key 27 0 0
key_of h.Choose = key 28 0 0
key_of h.Chain = key 29 0 0
key_of (h.Link c) = key 30 (comparison_number c) 0
key_of (h.LinkPointers c) = key 31 (comparison_number c) 0
key_of h.Let = key 32 0 0
key_of (h.Every g) = quantifier_key 33 g
key_of (h.Some g) = quantifier_key 34 g
key_of (h.Valid c w) = key 35 (content_number c) (flag w)
key_of h.Separated = key 36 0 0
key_of (h.Region c) = key 37 (content_number c) 0

abbrev pub number_in : Head → ℤ
number_in (h.Number z) = z
number_in head = pos 0

abbrev pub same_key : Key → Key → Bool
same_key k l = k.rank == l.rank && (k.first == l.first && (k.second == l.second && k.third == l.third))

abbrev pub same_head : Head → Head → Bool
same_head f g = same_key (key_of f) (key_of g) && int_eq (number_in f) (number_in g)

-- ---- equal trees

abbrev mutual
  pub same_tree : Tree → Tree → Bool
  same_tree (node f ks) (node g ms) = same_head f g && same_trees ks ms

  pub same_trees : Trees → Trees → Bool
  same_trees stop stop = true
  same_trees stop (more u us) = false
  same_trees (more t ts) stop = false
  same_trees (more t ts) (more u us) = same_tree t u && same_trees ts us

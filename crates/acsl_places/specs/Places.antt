-- Sets of addresses (ACSL 2.3.4, 2.7): what `assigns` names, and what `\valid`, `\valid_read` and `\separated` speak of.
use Rattle.std.specs.Prelude.{ℕ, pos, ◌-ℤ◌, Bool, true, false, ◌&&◌, nat_lt, List, [], ◌∷◌, Option, Some, None, Ok, if◌then◌else◌}
use Rattle.std.specs.Option.{is_some}
use Rattle.c_syntax.specs.Term as t
use Rattle.c_syntax.specs.Lines.{term_line_of}
use Rattle.c_answers.specs.Answers.{Answer, after, wrong}
use Rattle.typed_prog.specs.declared.types.CoreType.{CoreType}
use Rattle.typed_prog.specs.Types.{kind_of, element_of}
use Rattle.c_rules.specs.Pointers.{element_cells}
use Rattle.acsl_trees.specs.declared.heads.Content.{Content}
use Rattle.acsl_trees.specs.declared.heads.Content.TheVariants as content_kind
use Rattle.acsl_trees.specs.declared.heads.Head.TheVariants as head
use Rattle.acsl_trees.specs.declared.operands.Sort.{Sort}
use Rattle.acsl_trees.specs.declared.operands.Sort.TheVariants as sort
use Rattle.acsl_trees.specs.Tree.{Tree, node, trees_of, leaf, one, three}
use Rattle.acsl_trees.specs.Operands.{Operand, view_operand}
use Rattle.acsl_rules.specs.Sorts.{content}
use Rattle.acsl_rules.specs.Objects.{elements, behind, pointed}
use Rattle.acsl_names.specs.declared.names.Bound.{Bound}
use Rattle.acsl_names.specs.declared.names.Reading.{Reading}
use Rattle.acsl_names.specs.declared.counting.Count.{Count}
use Rattle.acsl_names.specs.Names.{Around}
use Rattle.acsl_names.specs.Labels.{is_contract}
use Rattle.acsl_names.specs.Counting.{with_node}
use Rattle.acsl_terms.specs.Leaves.{closed, misshapen}
use Rattle.acsl_terms.specs.Steps.{local_of}
use Rattle.acsl_terms.specs.Terms.{typed}
use Rattle.acsl_places.specs.declared.aims.Aim.{Aim as Code}
use Rattle.acsl_places.specs.declared.aims.Aim.TheVariants as code
use Rattle.acsl_places.specs.Spans.{Span, Ranged, indexed_range, added_range, starred_range}

-- ---- ends of ranges

-- an end of a range is an integer, a fault of its own before the next one
abbrev pub may_end : Sort → Bool
may_end (sort.Integer known) = true
may_end sort.Unknown = true
may_end (sort.Object type label) = is_some (kind_of type)
may_end (sort.Pointer type null) = false

abbrev pub end_checked : (line : ℕ) → Operand → Answer Operand
end_checked line x = if may_end x.sort then Ok x else wrong line

abbrev pub end_typed : Around → Bound → Reading → Count → t.Term → Answer (Operand × Count)
end_typed c b r n a = after (typed c b r n a) (λ x. closed n.limit n.limit x.1 (end_checked (term_line_of a) x.0))

-- both ends, with the `..` between them
abbrev pub ends_typed : Around → Bound → Reading → Count → Span → Answer ((Operand × Operand) × Count)
ends_typed c b r n s = after (end_typed c b r n s.low) (λ x. after (end_typed c b r (with_node s.line x.1) s.high) (λ y. Ok ((x.0, y.0), y.1)))

-- what a range behind `[` or `+` makes of its base
abbrev pub reach : Around → (is_index : Bool) → Ranged → (base low high : Operand) → Answer Operand
reach c true g x low high = elements c.sizes g.line (term_line_of g.span.low) (term_line_of g.span.high) x low high
reach c false g x low high = behind c.sizes g.line (term_line_of g.span.low) (term_line_of g.span.high) x low high

abbrev pub range_typed : Around → Bound → Reading → Count → (is_index : Bool) → Ranged → Answer (Operand × Count)
range_typed c b r n is_index g =
    after (typed c b r n g.base)
    (λ x. after (ends_typed c b r (with_node g.line x.1) g.span)
    (λ s. closed x.1.limit (with_node g.line x.1).limit s.1 (reach c is_index g x.0 s.0.0 s.0.1)))

-- ---- entries of `assigns`

abbrev pub entry_by : Around → Bound → Reading → Count → t.Term → (indexed starred : Option Ranged) → Answer (Operand × Count)
entry_by c b r n a (Some g) starred = range_typed c b r n true g
entry_by c b r n a None (Some g) = range_typed c b r (with_node (term_line_of a) n) false g
entry_by c b r n a None None = typed c b r n a

-- a parameter by its very name is no entry of a contract
abbrev pub is_own_parameter : Around → Option ℕ → Bool
is_own_parameter c (Some i) = is_contract c.site && nat_lt i c.params
is_own_parameter c None = false

-- all elements of an array, or the object itself, with what stands at each address
abbrev pub region_with : (line : ℕ) → Tree → Option Content → Answer Tree
region_with line t (Some k) = Ok (one (head.Region k) t)
region_with line t None = misshapen line

abbrev pub whole_array : Around → CoreType → Tree → (count : ℕ) → Tree
whole_array c type t n = three (head.Elements (element_cells c.sizes type) n) t (leaf (head.Number (pos 0))) (leaf (head.Number (pos n -ℤ pos 1)))

abbrev pub region_by : Around → (line : ℕ) → CoreType → Tree → (count : Option ℕ) → Answer Tree
region_by c line type t (Some n) = region_with line (whole_array c type t n) (content (element_of type))
region_by c line type t None = region_with line t (content type)

abbrev pub named_object : Around → (line : ℕ) → CoreType → Tree → Answer Tree
named_object c line type t = if is_own_parameter c (local_of t) then misshapen line else region_by c line type t type.count

-- what names no object, or one in a state of its own, is no entry
abbrev pub entry_region : Around → (line : ℕ) → Tree → Sort → Answer Tree
entry_region c line t (sort.Object type None) = named_object c line type t
entry_region c line t (sort.Object type (Some l)) = misshapen line
entry_region c line t (sort.Integer known) = misshapen line
entry_region c line t (sort.Pointer type null) = misshapen line
entry_region c line t sort.Unknown = misshapen line

unfoldable pub entry : Around → Bound → Reading → Count → t.Term → Answer (Tree × Count)
entry c b r n a =
    after (entry_by c b r n a (indexed_range a) (starred_range a)) (λ x. closed n.limit n.limit x.1 (entry_region c (term_line_of a) x.0.tree x.0.sort))

-- ---- what `\valid` and `\separated` speak of

-- a pointer, or the addresses behind one
pub data Aim : Type 0 where
  pointer : (x : Operand) → Aim
  addresses : (x : Operand) → Aim

abbrev pub view_aim : Code → Aim
view_aim (code.Pointer x) = pointer (view_operand x)
view_aim (code.Addresses x) = addresses (view_operand x)

abbrev pub aimed_by : Around → Bound → Reading → Count → t.Term → Option Ranged → Answer (Aim × Count)
aimed_by c b r n a (Some g) = after (range_typed c b r n false g) (λ x. Ok (addresses x.0, x.1))
aimed_by c b r n a None = after (typed c b r n a) (λ x. Ok (pointer x.0, x.1))

unfoldable pub aimed : Around → Bound → Reading → Count → t.Term → Answer (Aim × Count)
aimed c b r n a = aimed_by c b r n a (added_range a)

abbrev pub all_aimed : Around → Bound → Reading → Count → List t.Term → Answer (List Aim × Count)
all_aimed c b r n [] = Ok ([], n)
all_aimed c b r n (a ∷ rest) = after (aimed c b r n a) (λ x. after (all_aimed c b r x.1 rest) (λ xs. Ok (x.0 ∷ xs.0, xs.1)))

abbrev pub content_by : (line : ℕ) → Tree → Option Content → Answer (Tree × Content)
content_by line t (Some k) = Ok (t, k)
content_by line t None = wrong line

abbrev pub content_of : (line : ℕ) → Tree → Sort → Answer (Tree × Content)
content_of line t (sort.Object type label) = content_by line t (content type)
content_of line t (sort.Integer known) = wrong line
content_of line t (sort.Pointer type null) = wrong line
content_of line t sort.Unknown = Ok (t, content_kind.Pointer)

-- the addresses, and what stands at each
abbrev pub region_of : (line : ℕ) → Aim → Answer (Tree × Content)
region_of line (addresses x) = content_of line x.tree x.sort
region_of line (pointer x) = pointed line x

unfoldable pub valid_at : (line : ℕ) → (writable : Bool) → Aim → Answer Tree
valid_at line writable x = after (region_of line x) (λ k. Ok (one (head.Valid k.1 writable) k.0))

abbrev pub region_tree : (line : ℕ) → Aim → Answer Tree
region_tree line x = after (region_of line x) (λ k. Ok (one (head.Region k.1) k.0))

abbrev pub region_trees : (line : ℕ) → List Aim → Answer (List Tree)
region_trees line [] = Ok []
region_trees line (x ∷ xs) = after (region_tree line x) (λ t. after (region_trees line xs) (λ ts. Ok (t ∷ ts)))

unfoldable pub separated_at : (line : ℕ) → List Aim → Answer Tree
separated_at line xs = after (region_trees line xs) (λ ts. Ok (node head.Separated (trees_of ts)))

-- `\valid` and `\valid_read`
unfoldable pub valid_typed : Around → Bound → Reading → Count → (line : ℕ) → (writable : Bool) → t.Term → Answer (Tree × Count)
valid_typed c b r n line writable a = after (aimed c b r (with_node line n) a) (λ x. closed n.limit (with_node line n).limit x.1 (valid_at line writable x.0))

-- `\separated`: the faults inside each of its terms come before those of what they are
unfoldable pub separated_typed : Around → Bound → Reading → Count → (line : ℕ) → List t.Term → Answer (Tree × Count)
separated_typed c b r n line terms = after (all_aimed c b r (with_node line n) terms) (λ xs. closed n.limit (with_node line n).limit xs.1 (separated_at line xs.0))

-- Which typed annotations are in order (ACSL 2.2, 2.6): a test by recursion on the tree, which tells what a tree gives from its head and what its kids give. No
-- term as spelled is looked at.
use Rattle.std.specs.Prelude.{Bool, true, false, ◌&&◌, List, [], ◌∷◌, ◌++◌, Option, Some, None, slice_get, if◌then◌else◌}
use Rattle.std.specs.Option.{option_map, option_and_then}
use Rattle.typed_prog.specs.declared.types.CoreType.{CoreType}
use Rattle.typed_prog.specs.Types.{is_void, is_pointer}
use Rattle.acsl_trees.specs.declared.heads.Content.TheVariants as holds
use Rattle.acsl_trees.specs.declared.heads.Range.TheVariants as range
use Rattle.acsl_trees.specs.declared.heads.Head.{Head}
use Rattle.acsl_trees.specs.declared.heads.Head.TheVariants as head
use Rattle.acsl_trees.specs.declared.operands.TermType.{TermType}
use Rattle.acsl_trees.specs.declared.operands.TermType.TheVariants as type
use Rattle.acsl_trees.specs.Tree.{Tree, node, Trees, stop, more}
use Rattle.acsl_names.specs.declared.names.Definition.{Definition}

-- An integer (a truth is one), a pointer, the address of an object or a set of these. The others are parts of one node alone: a region, and an integer or a
-- pointer that a chain compares with the term before.
pub data What : Type 0 where
  an_integer : What
  a_pointer : What
  an_object : What
  a_region : What
  a_linked_integer : What
  a_linked_pointer : What

-- What heads refer to: the definitions of the file, and the type of what the function gives; and whether the ends of ranges are looked at.
pub record Known : Type 0 where
  pub definitions : List Definition
  pub result : CoreType
  pub ends : Bool

-- what each name gives: the parameters of a definition, and then the binders from outside in
abbrev pub Names : Type 0
Names = List What

-- ---- types

abbrev pub type_gives : TermType → Option What
type_gives type.Integer = Some an_integer
type_gives (type.Pointer t) = Some a_pointer
type_gives type.Unknown = None

abbrev pub one_more : {X : Type 0} → Option X → Option (List X) → Option (List X)
one_more (Some x) (Some xs) = Some (x ∷ xs)
one_more (Some x) None = None
one_more None xs = None

-- none where one has no type
abbrev pub types_give : List TermType → Option Names
types_give [] = Some []
types_give (t ∷ ts) = one_more (type_gives t) (types_give ts)

-- ---- calls (2.6)

abbrev pub takes : TermType → What → Bool
takes type.Integer an_integer = true
takes (type.Pointer t) a_pointer = true
takes _ _ = false

-- as many arguments as parameters, each of its parameter's sort
abbrev pub all_taken : List TermType → List What → Bool
all_taken [] [] = true
all_taken (t ∷ ts) (w ∷ ws) = takes t w && all_taken ts ws
all_taken _ _ = false

-- a predicate gives a truth
abbrev pub result_gives : Option TermType → Option What
result_gives None = Some an_integer
result_gives (Some t) = type_gives t

abbrev pub called : Option Definition → (args : List What) → Option What
called (Some d) ws = if all_taken d.params ws then result_gives d.result else None
called None ws = None

-- ---- names and `\result`, which have no kids

abbrev pub alone : List What → Option What → Option What
alone [] o = o
alone (w ∷ ws) o = None

abbrev pub value_gives : (is_void is_pointer : Bool) → Option What
value_gives true p = None
value_gives false true = Some a_pointer
value_gives false false = Some an_integer

abbrev pub returned : CoreType → Option What
returned t = value_gives (is_void t) (is_pointer t)

-- ---- lists of regions and chains (2.2.1, 2.7)

abbrev pub are_regions : List What → Option What
are_regions [] = Some an_integer
are_regions (a_region ∷ ws) = are_regions ws
are_regions _ = None

abbrev pub integers_linked : List What → Option What
integers_linked [] = Some an_integer
integers_linked (a_linked_integer ∷ ws) = integers_linked ws
integers_linked _ = None

abbrev pub pointers_linked : List What → Option What
pointers_linked [] = Some an_integer
pointers_linked (a_linked_pointer ∷ ws) = pointers_linked ws
pointers_linked _ = None

-- a first term, and all that is compared is of its sort
abbrev pub chained : List What → Option What
chained [] = Some an_integer
chained (an_integer ∷ ws) = integers_linked ws
chained (a_pointer ∷ ws) = pointers_linked ws
chained (an_object ∷ []) = Some an_integer
chained _ = None

-- ---- heads

abbrev pub both_truths : List What → Option What
both_truths (an_integer ∷ an_integer ∷ []) = Some an_integer
both_truths _ = None

-- what a node gives, by its head and what its kids give
abbrev pub gives : Known → Names → Head → List What → Option What
gives k ns (head.Name i) ws = alone ws (slice_get ns i)
gives k ns (head.Call i) ws = called (slice_get k.definitions i) ws
gives k ns head.Result ws = alone ws (returned k.result)
gives k ns head.Chain ws = chained ws
gives k ns head.Separated ws = are_regions ws
gives k ns (head.Number z) [] = Some an_integer
gives k ns head.Null [] = Some a_pointer
-- a value or an object in a state of its own
gives k ns (head.At l) (an_integer ∷ []) = Some an_integer
gives k ns (head.At l) (a_pointer ∷ []) = Some a_pointer
gives k ns (head.At l) (an_object ∷ []) = Some an_object
-- addresses
gives k ns (head.Variable x) [] = Some an_object
gives k ns head.Pointed (a_pointer ∷ []) = Some an_object
gives k ns (head.Field n offset) (an_object ∷ []) = Some an_object
gives k ns (head.Element size count) (an_object ∷ an_integer ∷ []) = Some an_object
gives k ns (head.Elements size count) (an_object ∷ an_integer ∷ an_integer ∷ []) = Some an_object
gives k ns (head.Behind size) (a_pointer ∷ an_integer ∷ an_integer ∷ []) = Some an_object
-- pointers and integers
gives k ns (head.Read (holds.Integer kind) l) (an_object ∷ []) = Some an_integer
gives k ns (head.Read holds.Pointer l) (an_object ∷ []) = Some a_pointer
gives k ns head.Address (an_object ∷ []) = Some a_pointer
gives k ns (head.Moved minus size) (a_pointer ∷ an_integer ∷ []) = Some a_pointer
gives k ns (head.Difference size) (a_pointer ∷ a_pointer ∷ []) = Some an_integer
gives k ns head.Negate (an_integer ∷ []) = Some an_integer
gives k ns head.Complement (an_integer ∷ []) = Some an_integer
gives k ns (head.Arithmetic o) (an_integer ∷ an_integer ∷ []) = Some an_integer
gives k ns (head.Convert kind) (an_integer ∷ []) = Some an_integer
-- truths
gives k ns (head.Compare how) (an_integer ∷ an_integer ∷ []) = Some an_integer
gives k ns (head.ComparePointers how) (a_pointer ∷ a_pointer ∷ []) = Some an_integer
gives k ns head.Not (an_integer ∷ []) = Some an_integer
gives k ns head.And ws = both_truths ws
gives k ns head.Or ws = both_truths ws
gives k ns head.Xor ws = both_truths ws
gives k ns head.Implies ws = both_truths ws
gives k ns head.Iff ws = both_truths ws
gives k ns head.Choose (an_integer ∷ an_integer ∷ an_integer ∷ []) = Some an_integer
gives k ns head.Choose (an_integer ∷ a_pointer ∷ a_pointer ∷ []) = Some a_pointer
gives k ns head.Choose (an_integer ∷ an_object ∷ an_object ∷ []) = Some an_object
gives k ns (head.Link how) (an_integer ∷ []) = Some a_linked_integer
gives k ns (head.LinkPointers how) (a_pointer ∷ []) = Some a_linked_pointer
-- binders: the value of `\let` is no object
gives k ns head.Let (an_integer ∷ an_integer ∷ []) = Some an_integer
gives k ns head.Let (a_pointer ∷ an_integer ∷ []) = Some an_integer
gives k ns (head.Every (range.Kind kind place)) (an_integer ∷ []) = Some an_integer
gives k ns (head.Every (range.Between l h place)) (an_integer ∷ an_integer ∷ an_integer ∷ []) = Some an_integer
gives k ns (head.Some (range.Kind kind place)) (an_integer ∷ []) = Some an_integer
gives k ns (head.Some (range.Between l h place)) (an_integer ∷ an_integer ∷ an_integer ∷ []) = Some an_integer
-- sets of addresses
gives k ns (head.Valid content writable) (an_object ∷ []) = Some an_integer
gives k ns (head.Region content) (an_object ∷ []) = Some a_region
gives k ns _ _ = None

-- ---- names that a head binds

-- A head binds a name in its last kid, or none: `\let` one that gives what the kid before gives, a quantifier an integer.
pub data Binder : Type 0 where
  no_name : Binder
  a_value : Binder
  a_name : (w : What) → Binder
  a_number : Binder

abbrev pub binder_of : Head → Binder
binder_of head.Let = a_value
binder_of (head.Every r) = a_number
binder_of (head.Some r) = a_number
binder_of _ = no_name

-- the names in a kid that has these behind it
abbrev pub names_in : Binder → (rest : Trees) → Names → Names
names_in (a_name w) stop ns = ns ++ w ∷ []
names_in a_number stop ns = ns ++ an_integer ∷ []
names_in _ _ ns = ns

-- behind a kid that gives this
abbrev pub binder_behind : Binder → What → Binder
binder_behind a_value w = a_name w
binder_behind b w = b

-- Where they aren't looked at, the ends of a quantifier's range are taken for integers.
abbrev pub kid_gives : Binder → (rest : Trees) → (ends : Bool) → Option What → Option What
kid_gives a_number (more t ts) false o = Some an_integer
kid_gives _ _ _ o = o

-- ---- trees

abbrev mutual
  pub what_of : Known → Names → Tree → Option What
  what_of k ns (node h kids) = option_and_then (gives k ns h) (kids_give k ns (binder_of h) kids)

  pub kids_give : Known → Names → Binder → Trees → Option (List What)
  kids_give k ns b stop = Some []
  kids_give k ns b (more t rest) = option_and_then (λ w. option_map (λ ws. w ∷ ws) (kids_give k ns (binder_behind b w) rest))
      (kid_gives b rest k.ends (what_of k (names_in b rest ns) t))

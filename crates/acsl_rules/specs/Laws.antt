-- What is so of typed terms: each node has kids of the sorts that its head wants. So the head alone tells what a node gives, and no address is taken for a
-- value, nor a pointer for a number.
use Rattle.std.specs.Prelude.{◌≡◌, ℕ, Bool, true, false, List, [], ◌∷◌, Option, Ok, Err}
use Rattle.wp_base.specs.declared.kinds.Kind.{Kind}
use Rattle.c_syntax.specs.declared.expr.UnOp.{UnOp}
use Rattle.c_syntax.specs.declared.expr.BinOp.{BinOp}
use Rattle.c_kinds.specs.declared.models.Machdep.{Machdep}
use Rattle.c_answers.specs.Answers.{Answer}
use Rattle.c_scopes.specs.declared.file.File.{File}
use Rattle.typed_prog.specs.declared.types.CoreType.{CoreType}
use Rattle.typed_prog.specs.declared.operators.Arithmetic.{Arithmetic}
use Rattle.typed_prog.specs.declared.operators.Comparison.{Comparison}
use Rattle.acsl_trees.specs.declared.heads.Content.TheVariants as content_of
use Rattle.acsl_trees.specs.declared.heads.Head.{Head}
use Rattle.acsl_trees.specs.declared.heads.Head.TheVariants as head
use Rattle.acsl_trees.specs.declared.heads.Label.{Label}
use Rattle.acsl_trees.specs.declared.operands.Sort.{Sort}
use Rattle.acsl_trees.specs.declared.operands.Sort.TheVariants as sort
use Rattle.acsl_trees.specs.declared.operands.TermType.{TermType}
use Rattle.acsl_trees.specs.declared.operands.TermType.TheVariants as term_type
use Rattle.acsl_trees.specs.Tree.{Tree, node, Trees, trees_of, leaf, one, two, three}
use Rattle.acsl_trees.specs.Operands.{Operand}
use Rattle.acsl_rules.specs.Operators.{is_pointed, unary, binary}
use Rattle.acsl_rules.specs.Choices.{conditional}
use Rattle.acsl_rules.specs.Objects.{indexed, field, elements, behind, pointed}
use Rattle.acsl_rules.specs.Contexts.{cast, labelled, passed}
use Rattle.acsl_rules.specs.Chains.{chain}

-- what a tree gives: an integer, a pointer, or the address of an object (or a set of these)
pub data What : Type 0 where
  an_integer : What
  a_pointer : What
  an_object : What

-- which trees that no operator makes (names, calls, quantifiers) give what
abbrev pub Leaves : Type 0
Leaves = What → Tree → Bool

mutual
  pub data Makes (given : Leaves) : What → Tree → Type 0 where
    as_given : {w : What} {h : Head} {kids : Trees} → is_pointed h ≡ false → given w (node h kids) ≡ true → Makes given w (node h kids)
    in_state : {l : Label} {w : What} {t : Tree} → Makes given w t → Makes given w (one (head.At l) t)
    -- addresses
    where_led : {p : Tree} → Makes given a_pointer p → Makes given an_object (one head.Pointed p)
    of_field : {n offset : ℕ} {a : Tree} → Makes given an_object a → Makes given an_object (one (head.Field n offset) a)
    of_element : {size count : ℕ} {a i : Tree} → Makes given an_object a → Makes given an_integer i → Makes given an_object (two (head.Element size count) a i)
    of_elements : {size count : ℕ} {a i j : Tree} → Makes given an_object a → Makes given an_integer i → Makes given an_integer j
        → Makes given an_object (three (head.Elements size count) a i j)
    all_behind : {size : ℕ} {p i j : Tree} → Makes given a_pointer p → Makes given an_integer i → Makes given an_integer j
        → Makes given an_object (three (head.Behind size) p i j)
    -- pointers
    is_null : Makes given a_pointer (leaf head.Null)
    reads_pointer : {l : Option Label} {a : Tree} → Makes given an_object a → Makes given a_pointer (one (head.Read content_of.Pointer l) a)
    address_taken : {a : Tree} → Makes given an_object a → Makes given a_pointer (one head.Address a)
    is_moved : {minus : Bool} {size : ℕ} {p i : Tree} → Makes given a_pointer p → Makes given an_integer i → Makes given a_pointer (two (head.Moved minus size) p i)
    -- integers
    reads_integer : {k : Kind} {l : Option Label} {a : Tree} → Makes given an_object a → Makes given an_integer (one (head.Read (content_of.Integer k) l) a)
    difference_of : {size : ℕ} {p q : Tree} → Makes given a_pointer p → Makes given a_pointer q → Makes given an_integer (two (head.Difference size) p q)
    negated : {t : Tree} → Makes given an_integer t → Makes given an_integer (one head.Negate t)
    complemented : {t : Tree} → Makes given an_integer t → Makes given an_integer (one head.Complement t)
    converted : {k : Kind} {t : Tree} → Makes given an_integer t → Makes given an_integer (one (head.Convert k) t)
    computed : {o : Arithmetic} {t u : Tree} → Makes given an_integer t → Makes given an_integer u → Makes given an_integer (two (head.Arithmetic o) t u)
    -- truths
    integers_compared : {how : Comparison} {t u : Tree} → Makes given an_integer t → Makes given an_integer u → Makes given an_integer (two (head.Compare how) t u)
    pointers_compared : {how : Comparison} {p q : Tree} → Makes given a_pointer p → Makes given a_pointer q → Makes given an_integer (two (head.ComparePointers how) p q)
    not_so : {t : Tree} → Makes given an_integer t → Makes given an_integer (one head.Not t)
    both_so : {t u : Tree} → Makes given an_integer t → Makes given an_integer u → Makes given an_integer (two head.And t u)
    either_so : {t u : Tree} → Makes given an_integer t → Makes given an_integer u → Makes given an_integer (two head.Or t u)
    chosen : {w : What} {b t u : Tree} → Makes given an_integer b → Makes given w t → Makes given w u → Makes given w (three head.Choose b t u)
    no_terms : Makes given an_integer (leaf head.Chain)
    in_chain : {w : What} {t : Tree} {ts : List Tree} → Makes given w t → Links given w ts → Makes given an_integer (node head.Chain (trees_of (t ∷ ts)))

  -- all that is compared in a chain, behind a first term
  pub data Links (given : Leaves) : What → List Tree → Type 0 where
    no_link : {w : What} → Links given w []
    integer_linked : {how : Comparison} {t : Tree} {ts : List Tree} → Makes given an_integer t → Links given an_integer ts → Links given an_integer (one (head.Link how) t ∷ ts)
    pointer_linked : {how : Comparison} {p : Tree} {ts : List Tree} → Makes given a_pointer p → Links given a_pointer ts → Links given a_pointer (one (head.LinkPointers how) p ∷ ts)

-- the tree of a term is of its sort; a value without a type is none
abbrev pub FitsSort : Leaves → Tree → Sort → Type 0
FitsSort given t (sort.Object type label) = Makes given an_object t
FitsSort given t (sort.Integer known) = Makes given an_integer t
FitsSort given t (sort.Pointer type null) = Makes given a_pointer t
FitsSort given t sort.Unknown = ⊥

abbrev pub Fits : Leaves → Operand → Type 0
Fits given x = FitsSort given x.tree x.sort

-- what is answered, if it is no fault, has this
abbrev pub Holds : {X : Type 0} → (X → Type 0) → Answer X → Type 0
Holds P (Ok x) = P x
Holds P (Err r) = Unit {0}

abbrev pub Made : Leaves → Answer Operand → Type 0
Made given o = Holds (Fits given) o

-- where the operands fit, so does what an operator makes of them
pub record OperatorsFit (given : Leaves) : Type 0 where
  pub of_one : (line : ℕ) (o : UnOp) (x : Operand) → Fits given x → Made given (unary line o x)
  pub of_two : (sizes : List ℕ) (line : ℕ) (o : BinOp) (x y : Operand) → Fits given x → Fits given y → Made given (binary sizes line o x y)
  pub of_three : (line : ℕ) (b x y : Operand) → Fits given b → Fits given x → Fits given y → Made given (conditional line b x y)

pub record ObjectsFit (given : Leaves) : Type 0 where
  pub of_index : (sizes : List ℕ) (line : ℕ) (x y : Operand) → Fits given x → Fits given y → Made given (indexed sizes line x y)
  pub of_fields : (file : File) (line : ℕ) (name : List ℕ) (arrow : Bool) (x : Operand) → Fits given x → Made given (field file line name arrow x)
  pub of_range : (sizes : List ℕ) (line low_line high_line : ℕ) (x low high : Operand) → Fits given x → Fits given low → Fits given high
      → Made given (elements sizes line low_line high_line x low high)
  pub of_offsets : (sizes : List ℕ) (line low_line high_line : ℕ) (x low high : Operand) → Fits given x → Fits given low → Fits given high
      → Made given (behind sizes line low_line high_line x low high)
  pub of_cast : (m : Machdep) (line : ℕ) (type : CoreType) (is_void_pointer : Bool) (x : Operand) → Fits given x → Made given (cast m line type is_void_pointer x)
  pub of_state : (l : Label) (x : Operand) → Fits given x → Made given (labelled l x)
  pub of_region : (line : ℕ) (x : Operand) → Fits given x → Holds (λ r. Makes given an_object r.0) (pointed line x)

abbrev pub AllFit : Leaves → List Operand → Type 0
AllFit given [] = Unit {0}
AllFit given (x ∷ xs) = Fits given x × AllFit given xs

-- the tree of an argument is of the parameter's type; any value is where it has none
abbrev pub FitsType : Leaves → TermType → Tree → Type 0
FitsType given term_type.Integer t = Makes given an_integer t
FitsType given (term_type.Pointer type) t = Makes given a_pointer t
FitsType given term_type.Unknown t = (w : What) × Makes given w t

pub record ListsFit (given : Leaves) : Type 0 where
  pub of_argument : (line : ℕ) (to : TermType) (x : Operand) → Fits given x → Holds (FitsType given to) (passed line to x)
  pub of_terms : (line : ℕ) (xs : List Operand) (ops : List BinOp) → AllFit given xs → Holds (Makes given an_integer) (chain line xs ops)

abbrev pub TermsFit : Type 0
TermsFit = (given : Leaves) → OperatorsFit given × ObjectsFit given × ListsFit given

-- Calls of predicates and logic functions (ACSL 2.6).
use Rattle.std.specs.Prelude.{ℕ, ◌==◌, Bool, true, false, ◌&&◌, not, List, [], ◌∷◌, length, Option, Some, None, Ok, Err, if◌then◌else◌, slice_get}
use Rattle.std.specs.Option.{is_some}
use Rattle.wp_base.specs.declared.answers.Rule.TheVariants as rule
use Rattle.c_syntax.specs.Expr as e
use Rattle.c_syntax.specs.Term as t
use Rattle.c_answers.specs.Answers.{Answer, after, fault}
use Rattle.acsl_guards.specs.Recursive.{steps_down}
use Rattle.acsl_trees.specs.declared.heads.Head.TheVariants as head
use Rattle.acsl_trees.specs.declared.operands.TermType.{TermType}
use Rattle.acsl_trees.specs.declared.operands.Sort.{Sort}
use Rattle.acsl_trees.specs.declared.operands.Sort.TheVariants as sort
use Rattle.acsl_trees.specs.Tree.{Tree, node, trees_of}
use Rattle.acsl_trees.specs.Operands.{Operand, operand}
use Rattle.acsl_names.specs.declared.names.Bound.{Bound}
use Rattle.acsl_names.specs.declared.names.Definition.{Definition}
use Rattle.acsl_names.specs.declared.names.Definitions.{Definitions}
use Rattle.acsl_names.specs.declared.names.Meaning.{Meaning}
use Rattle.acsl_names.specs.declared.names.Meaning.TheVariants as meaning
use Rattle.acsl_names.specs.Names.{Around, meaning_at, definition_of}
use Rattle.acsl_terms.specs.declared.calls.Called.{Called}
use Rattle.acsl_terms.specs.declared.calls.Called.TheVariants as called
use Rattle.acsl_terms.specs.Leaves.{sort_of, misshapen}

-- ---- what is called

-- with as many arguments as it has parameters
abbrev pub counted_call : (number : ℕ) → (fits is_recursive : Bool) → Called
counted_call k false is_recursive = called.Wrong rule.Typing
counted_call k true true = called.Recursive k
counted_call k true false = called.Expanded k

-- a predicate is no term, and a logic function no predicate
abbrev pub sorted_call : (is_term : Bool) → (number count : ℕ) → Definition → Called
sorted_call true k n d = if is_some d.result then counted_call k (length d.params == n) d.is_recursive else called.Wrong rule.Shape
sorted_call false k n d = if is_some d.result then called.Wrong rule.Shape else counted_call k (length d.params == n) d.is_recursive

abbrev pub call_of : (is_term : Bool) → (number count : ℕ) → Option Definition → Called
call_of is_term k n (Some d) = sorted_call is_term k n d
call_of is_term k n None = called.Wrong rule.Shape

abbrev pub called_by : Definitions → (is_term : Bool) → (count : ℕ) → Meaning → Called
called_by ds is_term n (meaning.Definition k) = call_of is_term k n (slice_get ds.items k)
called_by ds is_term n meaning.Nothing = called.Unknown
called_by ds is_term n _ = called.Wrong rule.Shape

-- a definition of this name, whatever else has the name there
abbrev pub or_else : (definition otherwise : Meaning) → Meaning
or_else (meaning.Definition k) m = meaning.Definition k
or_else _ m = m

-- what a name is where it stands before arguments, or for a predicate
abbrev pub called_at : Around → Bound → (is_term : Bool) → (count : ℕ) → List ℕ → Called
called_at c b is_term n f = called_by c.definitions is_term n (or_else (definition_of c.definitions f) (meaning_at c b f))

-- ---- what a call is

abbrev pub call_tree : (number : ℕ) → List Tree → Tree
call_tree k args = node (head.Call k) (trees_of args)

abbrev pub result_sort : Option Definition → Sort
result_sort None = sort.Unknown
result_sort (Some d) = result_of d.result
  where
    result_of : Option TermType → Sort
    result_of (Some t) = sort_of t
    result_of None = sort.Unknown

abbrev pub sort_called : Definitions → Called → Sort
sort_called ds (called.Recursive k) = result_sort (slice_get ds.items k)
sort_called ds (called.Expanded k) = result_sort (slice_get ds.items k)
sort_called ds called.Unknown = sort.Unknown
sort_called ds (called.Wrong r) = sort.Unknown

-- ---- a definition that calls itself

abbrev pub goes_down : (down : Option (List e.VarDecl)) → t.Terms → Bool
goes_down None args = false
goes_down (Some params) args = steps_down params (t.list_of args)

abbrev pub is_itself : Option ℕ → ℕ → Bool
is_itself None k = false
is_itself (Some i) k = i == k

-- The definition that is read may call itself only where its last argument is one less than its last parameter, in the branch where that is possible.
unfoldable pub recursion : Around → (line number : ℕ) → t.Terms → List Tree → Answer Tree
recursion c line k args vs = if is_itself c.itself k && not (goes_down c.down args) then misshapen line else Ok (call_tree k vs)

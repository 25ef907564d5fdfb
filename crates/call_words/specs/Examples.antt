-- What stands in the words of small calls, worked out by hand.
use Rattle.std.specs.Prelude.{◌≡◌, ℕ, pos, negsuc, true, false, List, [], ◌∷◌, Option, Some, None}
use Rattle.wp_base.specs.declared.kinds.Kind.TheVariants as kind
use Rattle.wp_base.specs.declared.kinds.CellKind.TheVariants as cell
use Rattle.c_kinds.specs.declared.models.Machdep.TheVariants as machdep
use Rattle.typed_prog.specs.Tree as t
use Rattle.typed_prog.specs.declared.types.CoreType.{CoreType}
use Rattle.typed_prog.specs.declared.operators.Comparison.TheVariants as cmp
use Rattle.typed_prog.specs.declared.operators.Root.TheVariants as root
use Rattle.typed_prog.specs.declared.operators.Variable as code
use Rattle.typed_prog.specs.declared.operators.Variable.TheVariants as variables
use Rattle.acsl_trees.specs.Tree as acsl
use Rattle.acsl_trees.specs.declared.heads.Content.TheVariants as content
use Rattle.acsl_trees.specs.declared.heads.Head.TheVariants as head
use Rattle.qed_terms.specs.Meaning as sense
use Rattle.qed_terms.specs.Tree.{Tree, num, true_tree, false_tree, less, at_most, equal, and_of, or_of, imp_of}
use Rattle.c_runs.specs.Program.{Variable, Claim, Contract, Function, Facts}
use Rattle.c_runs.specs.Tree.{Goal, place, Steps, end}
use Rattle.plain_runs.specs.Fitting.{Shape}
use Rattle.walk_steps.specs.Forms.{Place}
use Rattle.walk_steps.specs.Step.{Change, keeps, places}
use Rattle.walk_words.specs.Changes.{ranged}
use Rattle.program_steps.specs.Leaves.{leaf}
use Rattle.program_steps.specs.Terms.{Texts}
use Rattle.program_steps.specs.Words.{Force, of_function, of_loop, Point}
use Rattle.call_words.specs.Sets.{inclusion_trees, file_changes}
use Rattle.call_words.specs.Words.{call_requires, lower_by, stay_trees, call_promises, call_word}

-- ---- a file with `int` variables g and h, and a function with a parameter x, a local y and a temporary; it calls one with a parameter a that gives an `int`

abbrev an_int : Variable
an_int = record { layout = record { count = 1; cells = cell.Of kind.Int ∷ []; writable = true }; is_plain = true; has_value = true }

abbrev file : Facts
file = record { model = machdep.X86_64; globals = an_int ∷ an_int ∷ []; structs = []; definitions = []; in_cluster = λ f g. true }

abbrev function : Shape
function = record { variables = an_int ∷ an_int ∷ []; temporaries = 1; temp_kind = λ n. kind.Int; result = None }

abbrev texts : Texts
texts = record { binders = λ a. []; called = λ n. None }

abbrev region_of : (number : ℕ) → acsl.Tree
region_of n = acsl.one (head.Region (content.Integer kind.Int)) (acsl.leaf (head.Variable (variables.Global n)))

abbrev read_of : code.Variable → acsl.Tree
read_of x = acsl.one (head.Read (content.Integer kind.Int) None) (acsl.leaf (head.Variable x))

-- `0 < x` or `0 < a`, and `0 < g`
abbrev above_zero : acsl.Tree
above_zero = acsl.two (head.Compare cmp.Less) (acsl.leaf (head.Number (pos 0))) (read_of (variables.Local 0))

abbrev g_above_zero : acsl.Tree
g_above_zero = acsl.two (head.Compare cmp.Less) (acsl.leaf (head.Number (pos 0))) (read_of (variables.Global 0))

-- `a < \result`
abbrev below_result : acsl.Tree
below_result = acsl.two (head.Compare cmp.Less) (read_of (variables.Local 0)) (acsl.leaf head.Result)

abbrev at_line : (line : ℕ) → acsl.Tree → Claim
at_line l a = record { what = a; line = l }

-- the sets outside behaviors, and that of one which assumes `0 < g`
abbrev clauses : (plain one : Option (List acsl.Tree)) → Contract
clauses plain one = record {
  plain = record { assumes = []; requires = at_line 1 above_zero ∷ []; ensures = at_line 2 below_result ∷ []; assigns = plain };
  decreases = Some (record { what = read_of (variables.Local 0); line = 3 });
  behaviors = record { assumes = g_above_zero ∷ []; requires = at_line 4 above_zero ∷ []; ensures = at_line 5 g_above_zero ∷ []; assigns = one } ∷ [];
  together = [];
}

abbrev callee : (plain one : Option (List acsl.Tree)) → Function Steps
callee plain one = record { params = 1; variables = an_int ∷ []; result = Some (cell.Of kind.Int); contract = clauses plain one; body = end; end = 9 }

-- its argument is the temporary
abbrev argument : CoreType → t.Values
argument type = t.more (t.typed (t.temporary 0) type 7) t.stop

-- the function's entry is the last state that is remembered
abbrev under : Force → Point
under w = record { self = 0; entry = 0; loop_entry = 0; outs = []; force = w }

-- Slots 0 to 3 are those of g and h, 4 to 7 those of x and y, 9 is that of the call's result, and 10 that of the temporary.
abbrev x_at : (level : ℕ) → Tree
x_at l = leaf l 4

abbrev a_at : (level : ℕ) → Tree
a_at l = leaf l 10

abbrev positive : Tree → Tree
positive u = less (num (pos 0)) u

abbrev any_int : Change
any_int = ranged (negsuc 2147483647) (pos 2147483647)

-- ---- what is asked

pub record Asked (type : CoreType) : Type 0 where
  pub requires : call_requires file function texts (callee None None) (argument type) ≡ positive (a_at 0) ∷ imp_of (positive (leaf 0 0)) (positive (a_at 0)) ∷ []
  pub decreases : lower_by file function texts (callee None None) (argument type) 1 true (clauses None None).decreases (clauses None None).decreases
      ≡ and_of (at_most (num (pos 0)) (x_at 1) ∷ less (a_at 0) (x_at 1) ∷ []) ∷ []
  pub in_no_cluster : lower_by file function texts (callee None None) (argument type) 1 false (clauses None None).decreases (clauses None None).decreases ≡ []

-- of a function with these sets, under those of the caller
abbrev inclusion : CoreType → (plain one own_plain own_one : Option (List acsl.Tree)) → Force → List Tree
inclusion type plain one own_plain own_one w = inclusion_trees file function texts (callee plain one) (argument type) (clauses own_plain own_one) (under w)

abbrev regions : (numbers : List ℕ) → List acsl.Tree
regions [] = []
regions (n ∷ ns) = region_of n ∷ regions ns

abbrev names : (numbers : List ℕ) → Option (List acsl.Tree)
names ns = Some (regions ns)

pub record Included (type : CoreType) : Type 0 where
  pub free : inclusion type None None None None of_function ≡ []
  pub nothing : inclusion type (names []) None (names (0 ∷ [])) None of_function ≡ []
  pub named : inclusion type (names (0 ∷ [])) None (names (1 ∷ 0 ∷ [])) None of_function ≡ true_tree ∷ []
  pub not_named : inclusion type (names (0 ∷ 1 ∷ [])) None (names (0 ∷ [])) None of_function ≡ false_tree ∷ []
  pub no_clause : inclusion type None None (names (0 ∷ 1 ∷ [])) None of_function ≡ false_tree ∷ []
  -- where the caller's set is that of a behavior, which assumes `0 < g` at its entry
  pub for_behavior : inclusion type None None None (names (0 ∷ [])) of_function ≡ imp_of (positive (leaf 1 0)) false_tree ∷ []
  pub for_both : inclusion type (names (0 ∷ [])) None (names (0 ∷ [])) (names (1 ∷ [])) of_function ≡ and_of (true_tree ∷ imp_of (positive (leaf 1 0)) false_tree ∷ []) ∷ []
  -- where the set of the function that is called is that of a behavior, which assumes `0 < g` now
  pub by_behavior : inclusion type None (names (0 ∷ [])) (names (0 ∷ [])) None of_function ≡ and_of (positive (leaf 0 0) ∷ true_tree ∷ []) ∷ []
  pub by_either : inclusion type (names (1 ∷ [])) (names (0 ∷ [])) (names (0 ∷ [])) None of_function
      ≡ or_of (false_tree ∷ and_of (positive (leaf 0 0) ∷ true_tree ∷ []) ∷ []) ∷ []
  pub in_loop : inclusion type (names (0 ∷ [])) None None None (of_loop (region_of 0 ∷ []) 1) ≡ true_tree ∷ []
  pub out_of_loop : inclusion type None None None None (of_loop (region_of 0 ∷ []) 1) ≡ false_tree ∷ []

-- ---- what it does

pub record Behind (type : CoreType) : Type 0 where
  pub one_changes : file_changes file (clauses (names (1 ∷ [])) None) 0 file.globals ≡ keeps ∷ keeps ∷ any_int ∷ keeps ∷ []
  pub all_change : file_changes file (clauses None (names (0 ∷ []))) 0 file.globals ≡ any_int ∷ keeps ∷ any_int ∷ keeps ∷ []
  pub stays : stay_trees file function texts (callee None (names (0 ∷ []))) (argument type)
      ≡ imp_of (positive (leaf 1 0)) (equal (leaf 0 2) (leaf 1 2)) ∷ []
  pub promises : call_promises file function texts (callee None None) (argument type) ≡ less (a_at 1) (leaf 0 9) ∷ imp_of (positive (leaf 1 0)) (positive (leaf 0 0)) ∷ []

-- ---- its checks, in order

abbrev at : (kind line : ℕ) → Place
at k l = record { kind = k; line = l }

-- the result goes to h
abbrev to_h : CoreType → Goal
to_h type = place [] type 13 (record { root = root.Variable (variables.Global 1); steps = []; line = 13 }) t.stop

-- each requirement, the measure, the sets, and then the write of the result
abbrev pub InOrder : CoreType → Type 0
InOrder type =
    (m : sense.World) → places (call_word m file function texts (clauses (names (0 ∷ [])) None) (λ n. Some (callee None None)) (under of_function) [] (to_h type) 0 12 (argument type))
    ≡ at 9 12 ∷ at 9 12 ∷ at 10 12 ∷ at 17 12 ∷ at 17 13 ∷ []

pub record AllHold (type : CoreType) : Type 0 where
  pub asked : Asked type
  pub included : Included type
  pub behind : Behind type
  pub order : InOrder type

abbrev pub ExamplesHold : Type 0
ExamplesHold = (type : CoreType) → AllHold type

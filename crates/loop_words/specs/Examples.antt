-- What stands in the words of small loops, worked out by hand.
use Rattle.std.specs.Prelude.{◌≡◌, ℕ, pos, negsuc, true, false, List, [], ◌∷◌, Option, Some, None}
use Rattle.wp_base.specs.declared.kinds.Kind.TheVariants as kind
use Rattle.wp_base.specs.declared.kinds.CellKind.TheVariants as cell
use Rattle.c_kinds.specs.declared.models.Machdep.TheVariants as machdep
use Rattle.typed_prog.specs.Tree as t
use Rattle.typed_prog.specs.declared.operators.Comparison.TheVariants as cmp
use Rattle.typed_prog.specs.declared.operators.Variable as code
use Rattle.typed_prog.specs.declared.operators.Variable.TheVariants as variables
use Rattle.acsl_trees.specs.Tree as acsl
use Rattle.acsl_trees.specs.declared.heads.Content.TheVariants as content
use Rattle.acsl_trees.specs.declared.heads.Head.TheVariants as head
use Rattle.qed_terms.specs.Meaning as sense
use Rattle.qed_terms.specs.Tree.{Tree, num, false_tree, less, equal, imp_of}
use Rattle.c_runs.specs.Program.{Variable, Contract, Loop, Facts}
use Rattle.c_runs.specs.Tree.{Steps, variable as to_variable, call, end, then_}
use Rattle.plain_runs.specs.Fitting.{Shape}
use Rattle.walk_steps.specs.Forms.{Place}
use Rattle.walk_steps.specs.Step.{Change, skip, keeps, raised, places}
use Rattle.walk_words.specs.Changes.{ranged}
use Rattle.program_steps.specs.Leaves.{leaf}
use Rattle.program_steps.specs.Terms.{Texts}
use Rattle.program_steps.specs.Words.{Force, of_function, of_loop, Point}
use Rattle.loop_words.specs.Sets.{inside_trees}
use Rattle.loop_words.specs.Words.{head_changes, stay_trees, loop_word}

-- ---- a file with `int` variables g and h, and a function with a parameter x and locals y and z, z being declared in the loop

abbrev an_int : Variable
an_int = record { layout = record { count = 1; cells = cell.Of kind.Int ∷ []; writable = true }; is_plain = true; has_value = true }

abbrev file : Facts
file = record { model = machdep.X86_64; globals = an_int ∷ an_int ∷ []; structs = []; definitions = []; in_cluster = λ f g. false }

abbrev function : Shape
function = record { variables = an_int ∷ an_int ∷ an_int ∷ []; temporaries = 1; temp_kind = λ n. kind.Int; result = None }

abbrev texts : Texts
texts = record { binders = λ a. []; called = λ n. None }

abbrev region_of : code.Variable → acsl.Tree
region_of x = acsl.one (head.Region (content.Integer kind.Int)) (acsl.leaf (head.Variable x))

abbrev g_region : acsl.Tree
g_region = region_of (variables.Global 0)

abbrev h_region : acsl.Tree
h_region = region_of (variables.Global 1)

abbrev x_region : acsl.Tree
x_region = region_of (variables.Local 0)

abbrev y_region : acsl.Tree
y_region = region_of (variables.Local 1)

-- `0 < x`
abbrev above_zero : acsl.Tree
above_zero = acsl.two (head.Compare cmp.Less) (acsl.leaf (head.Number (pos 0))) (acsl.one (head.Read (content.Integer kind.Int) None) (acsl.leaf (head.Variable (variables.Local 0))))

abbrev clauses : (plain one : Option (List acsl.Tree)) → Contract
clauses plain one = record {
  plain = record { assumes = []; requires = []; ensures = []; assigns = plain };
  decreases = None;
  behaviors = record { assumes = above_zero ∷ []; requires = []; ensures = []; assigns = one } ∷ [];
  together = [];
}

-- y is set in its text, and z
abbrev body : Steps
body = then_ (call [] (to_variable 1) 0 7 t.stop) (then_ (call [] (to_variable 2) 0 8 t.stop) end)

abbrev with_set : Option (List acsl.Tree) → Loop
with_set o = record {
  invariants = record { what = above_zero; line = 3 } ∷ record { what = above_zero; line = 4 } ∷ [];
  assigns = o;
  line = 5;
  variant = Some (record { what = above_zero; line = 6 });
  declared = 2;
}

-- the function's entry is the last state that is remembered
abbrev under : Force → Point
under w = record { self = 0; entry = 0; loop_entry = 0; outs = []; force = w }

abbrev any_int : Change
any_int = ranged (negsuc 2147483647) (pos 2147483647)

-- x at the level of the function's entry: slots 0 to 3 are those of g and h
abbrev positive : (level : ℕ) → Tree
positive l = less (num (pos 0)) (leaf l 4)

-- a loop with the set g, x
pub record OwnSet : Type 0 where
  pub changes : head_changes file function (clauses None None) (under of_function) (with_set (Some (g_region ∷ x_region ∷ []))) body
      ≡ any_int ∷ keeps ∷ keeps ∷ keeps ∷ any_int ∷ raised ∷ keeps ∷ keeps ∷ keeps ∷ keeps ∷ []
  pub nothing_stays : stay_trees file function texts (clauses None (Some [])) (under of_function) (with_set (Some (g_region ∷ []))) ≡ []

-- without one, in a function without one: all of the file, and the locals that its text sets
pub record NoSet : Type 0 where
  pub changes : head_changes file function (clauses None None) (under of_function) (with_set None) body
      ≡ any_int ∷ keeps ∷ any_int ∷ keeps ∷ keeps ∷ keeps ∷ any_int ∷ raised ∷ keeps ∷ keeps ∷ []
  -- in a loop with the set h, x
  pub around : head_changes file function (clauses None None) (under (of_loop (h_region ∷ x_region ∷ []) 1)) (with_set None) body
      ≡ keeps ∷ keeps ∷ any_int ∷ keeps ∷ keeps ∷ keeps ∷ any_int ∷ raised ∷ keeps ∷ keeps ∷ []
  -- of a behavior with the set g
  pub stays : stay_trees file function texts (clauses None (Some (g_region ∷ []))) (under of_function) (with_set None)
      ≡ imp_of (positive 2) (equal (leaf 0 2) (leaf 1 2)) ∷ []

-- what is asked of the set g, h, x
pub record Inside : Type 0 where
  pub free : inside_trees file function texts (clauses None None) (under of_function) (with_set (Some (g_region ∷ h_region ∷ x_region ∷ []))) ≡ []
  pub by_plain : inside_trees file function texts (clauses (Some (g_region ∷ [])) None) (under of_function) (with_set (Some (g_region ∷ h_region ∷ x_region ∷ []))) ≡ false_tree ∷ []
  pub by_behavior : inside_trees file function texts (clauses None (Some [])) (under of_function) (with_set (Some (g_region ∷ h_region ∷ x_region ∷ [])))
      ≡ imp_of (positive 1) false_tree ∷ []
  pub by_both : inside_trees file function texts (clauses (Some []) (Some [])) (under of_function) (with_set (Some (g_region ∷ []))) ≡ false_tree ∷ []
  -- in a loop that finds one variable declared, and names g
  pub in_loop : inside_trees file function texts (clauses None None) (under (of_loop (g_region ∷ []) 1)) (with_set (Some (g_region ∷ y_region ∷ []))) ≡ []
  pub out_of_loop : inside_trees file function texts (clauses None None) (under (of_loop (g_region ∷ []) 1)) (with_set (Some (g_region ∷ x_region ∷ []))) ≡ false_tree ∷ []

abbrev at : (kind line : ℕ) → Place
at k l = record { kind = k; line = l }

-- its set, the invariants where it is entered, and behind a pass the invariants, that the variant was at least 0, and that it is smaller
abbrev pub InOrder : Type 0
InOrder = (m : sense.World) → places (loop_word m file function texts (clauses (Some []) None) (under of_function) (with_set (Some (g_region ∷ []))) body skip)
    ≡ at 17 5 ∷ at 14 3 ∷ at 14 4 ∷ at 19 3 ∷ at 19 4 ∷ at 15 6 ∷ at 16 6 ∷ []

pub record ExamplesHold : Type 0 where
  pub own_set : OwnSet
  pub no_set : NoSet
  pub inside : Inside
  pub order : InOrder

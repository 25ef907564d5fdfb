-- What is asked before a write: that the set in force lets it (ACSL 2.3.2, 2.4.2).
use Rattle.std.specs.Prelude.{ℕ, suc, Bool, true, false, not, ◌||◌, ◌==◌, nat_le, if◌then◌else◌, List, [], ◌∷◌, ◌++◌, map, Option, Some, None}
use Rattle.std.specs.List.{list_any}
use Rattle.wp_base.specs.declared.kinds.CellKind.{CellKind}
use Rattle.typed_prog.specs.declared.operators.Variable.{Variable}
use Rattle.typed_prog.specs.declared.operators.Variable.TheVariants as variables
use Rattle.acsl_trees.specs.Tree as acsl
use Rattle.acsl_trees.specs.declared.heads.Head.TheVariants as head
use Rattle.acsl_encode.specs.Readings as annotation
use Rattle.acsl_encode.specs.Encode.{formula_of, all_of}
use Rattle.qed_terms.specs.Tree.{Tree, false_tree, imp_of}
use Rattle.c_runs.specs.Program.{Behavior, Contract, Facts}
use Rattle.memory_steps.specs.World.{count_of}
use Rattle.memory_words.specs.Leaves.{table_leaf}
use Rattle.memory_words.specs.Shapes.{FileCells, Shape}
use Rattle.memory_words.specs.Readings.{Texts, Standpoint, InScope, body_reading, entry_reading}
use Rattle.memory_words.specs.Points.{Force, of_function, of_loop, Point}
use Rattle.memory_words.specs.Regions.{RegionTree, regions_in, cell_inside}

-- ---- formulas of annotations

-- one without a formula counts as `false`
abbrev pub or_none : Option Tree → Tree
or_none (Some f) = f
or_none None = false_tree

abbrev pub claim_tree : (acsl.Tree → annotation.Reading) → acsl.Tree → Tree
claim_tree r a = or_none (formula_of (r a) a)

-- what a behavior assumes
abbrev pub assumed_tree : (acsl.Tree → annotation.Reading) → List acsl.Tree → Tree
assumed_tree r as_ = all_of (map (claim_tree r) as_)

-- where this is assumed
abbrev pub under : (is_plain : Bool) → (assumed f : Tree) → Tree
under true a f = f
under false a f = imp_of a f

-- several as one, if there are any
abbrev pub as_one : List Tree → List Tree
as_one [] = []
as_one (f ∷ fs) = all_of (f ∷ fs) ∷ []

-- `false` alone where the clause outside of behaviors refuses
abbrev pub as_one_unless : (refused : Bool) → List Tree → List Tree
as_one_unless true fs = false_tree ∷ []
as_one_unless false fs = as_one fs

-- ---- variables that no pointer leads to, which are named

abbrev pub same_variable : Variable → Variable → Bool
same_variable (variables.Global x) (variables.Global y) = x == y
same_variable (variables.Local x) (variables.Local y) = x == y
same_variable x y = false

-- a region that is a variable
abbrev pub is_region_of : Variable → acsl.Tree → Bool
is_region_of x (acsl.node (head.Region c) (acsl.more (acsl.node (head.Variable y) acsl.stop) acsl.stop)) = same_variable x y
is_region_of x _ = false

abbrev pub has_variable : List acsl.Tree → Variable → Bool
has_variable as_ x = list_any (is_region_of x) as_

-- a clause that doesn't name the variable, if it says what may change
abbrev pub lacks : Option (List acsl.Tree) → Variable → Bool
lacks None x = false
lacks (Some rs) x = not (has_variable rs x)

-- a loop says nothing of variables that are declared inside of it
abbrev pub is_inside : (declared : ℕ) → Variable → Bool
is_inside d (variables.Global x) = false
is_inside d (variables.Local x) = nat_le d x

-- how many blocks there were where a level was remembered
abbrev pub since : (level : ℕ) → Tree
since l = count_of (table_leaf l)

module _ (p : Facts) (s : Shape) (cells : FileCells) (texts : Texts) where
  -- how the clauses of a function read the state of its entry
  abbrev pub entry_at : Standpoint → acsl.Tree → annotation.Reading
  entry_at sp = entry_reading p s cells texts sp.entry sp.is_param

  abbrev pub assumed_at : Standpoint → Behavior → Tree
  assumed_at sp b = assumed_tree (entry_at sp) b.assumes

  abbrev pub missing_in : Standpoint → (is_plain : Bool) → Behavior → Variable → List Tree
  missing_in sp plain b x = if lacks b.assigns x then under plain (assumed_at sp b) false_tree ∷ [] else []

  abbrev pub missing_all : Standpoint → List Behavior → Variable → List Tree
  missing_all sp [] x = []
  missing_all sp (b ∷ bs) x = missing_in sp false b x ++ missing_all sp bs x

  -- a variable of the function needs no leave from the function's clauses
  abbrev pub missing : Standpoint → Contract → Variable → List Tree
  missing sp c (variables.Global x) =
      as_one_unless (lacks c.plain.assigns (variables.Global x)) (missing_in sp true c.plain (variables.Global x) ++ missing_all sp c.behaviors (variables.Global x))
  missing sp c (variables.Local x) = []

  abbrev pub variable_trees : Contract → Point → Variable → List Tree
  variable_trees c pt x = by pt.force where
    by : Force → List Tree
    by of_function = missing pt.stands c x
    by (of_loop sp rs d) = if has_variable rs x || is_inside d x then [] else false_tree ∷ []

  -- ---- cells

  abbrev pub set_tree : Standpoint → (acsl.Tree → annotation.Reading) → List acsl.Tree → (level : ℕ) → CellKind → (block offset : Tree) → Tree
  set_tree sp r as_ l k b o = cell_inside (since l) (regions_in r as_) k b o

  abbrev pub clause_trees : Standpoint → (is_plain : Bool) → Behavior → Option (List acsl.Tree) → CellKind → (block offset : Tree) → List Tree
  clause_trees sp plain b None k t u = []
  clause_trees sp plain b (Some as_) k t u = under plain (assumed_at sp b) (set_tree sp (entry_at sp) as_ sp.entry k t u) ∷ []

  abbrev pub all_clause_trees : Standpoint → List Behavior → CellKind → (block offset : Tree) → List Tree
  all_clause_trees sp [] k t u = []
  all_clause_trees sp (b ∷ bs) k t u = clause_trees sp false b b.assigns k t u ++ all_clause_trees sp bs k t u

  -- a cell of this kind at an address
  abbrev pub cell_trees : Contract → Point → CellKind → (block offset : Tree) → List Tree
  cell_trees c pt k t u = by pt.force where
    by : Force → List Tree
    by of_function = as_one (clause_trees pt.stands true c.plain c.plain.assigns k t u ++ all_clause_trees pt.stands c.behaviors k t u)
    by (of_loop sp rs d) = set_tree sp (body_reading p s cells texts sp) rs sp.here k t u ∷ []

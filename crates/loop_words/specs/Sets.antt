-- What a loop's own set asks for, and which variables its turns may change (ACSL 2.4.2). Sets name plain variables alone.
use Rattle.std.specs.Prelude.{ℕ, suc, nat_lt, Bool, true, false, not, ◌&&◌, ◌||◌, if◌then◌else◌, List, [], ◌∷◌, ◌++◌, Option, Some, None}
use Rattle.std.specs.List.{list_any}
use Rattle.typed_prog.specs.declared.operators.Variable.{Variable}
use Rattle.typed_prog.specs.declared.operators.Variable.TheVariants as variables
use Rattle.acsl_trees.specs.Tree as acsl
use Rattle.acsl_trees.specs.declared.heads.Head.TheVariants as head
use Rattle.qed_terms.specs.Tree.{Tree, false_tree}
use Rattle.c_runs.specs.Program.{Behavior, Contract, Loop, Facts}
use Rattle.c_runs.specs.Tree.{Steps}
use Rattle.plain_runs.specs.Fitting.{Shape}
use Rattle.plain_runs.specs.Kept.{some_sets}
use Rattle.program_steps.specs.Terms.{Texts, entry_reading, assumed_tree, has_variable}
use Rattle.program_steps.specs.Words.{Force, of_function, of_loop, Point, as_one_unless, under, lacks, is_inside}

-- ---- regions that are variables

abbrev pub region_variable : acsl.Tree → Option Variable
region_variable (acsl.node (head.Region c) (acsl.more (acsl.node (head.Variable x) acsl.stop) acsl.stop)) = Some x
region_variable _ = None

-- a variable of the file that the clause doesn't name
abbrev pub lacks_file : Option (List acsl.Tree) → Option Variable → Bool
lacks_file set (Some (variables.Global x)) = lacks set (variables.Global x)
lacks_file set o = false

abbrev pub lacks_some : Option (List acsl.Tree) → (regions : List acsl.Tree) → Bool
lacks_some set rs = list_any (λ a. lacks_file set (region_variable a)) rs

-- ---- that it lies inside the set in force

module _ (p : Facts) (s : Shape) (texts : Texts) where
  -- a variable that neither the loop's set names nor the loop declares
  abbrev pub is_outside : (names : List acsl.Tree) → (declared : ℕ) → Option Variable → Bool
  is_outside ws d (Some x) = not (has_variable ws x || is_inside p s texts d x)
  is_outside ws d None = false

  abbrev pub some_outside : (names : List acsl.Tree) → (declared : ℕ) → (regions : List acsl.Tree) → Bool
  some_outside ws d rs = list_any (λ a. is_outside ws d (region_variable a)) rs

  -- the function's entry is the state of this level; one formula for each clause
  abbrev pub lacking_in : (entry : ℕ) → (is_plain : Bool) → Behavior → (regions : List acsl.Tree) → List Tree
  lacking_in e plain b rs = if lacks_some b.assigns rs then under plain (assumed_tree p s texts (entry_reading p s texts e) b.assumes) false_tree ∷ [] else []

  abbrev pub lacking_all : (entry : ℕ) → List Behavior → (regions : List acsl.Tree) → List Tree
  lacking_all e [] rs = []
  lacking_all e (b ∷ bs) rs = lacking_in e false b rs ++ lacking_all e bs rs

  abbrev pub within : (entry : ℕ) → Contract → Force → (regions : List acsl.Tree) → List Tree
  within e c of_function rs = as_one_unless (lacks_some c.plain.assigns rs) (lacking_in e true c.plain rs ++ lacking_all e c.behaviors rs)
  within e c (of_loop ws d) rs = if some_outside ws d rs then false_tree ∷ [] else []

  -- a loop without a set of its own asks for nothing
  abbrev pub inside_trees : Contract → Point → Loop → List Tree
  inside_trees c pt l = by l.assigns where
    by : Option (List acsl.Tree) → List Tree
    by None = []
    by (Some rs) = within (suc pt.entry) c pt.force rs

-- ---- which variables change

-- the set in force inside of the loop, of the function's clauses the one outside behaviors; where it has none, all variables of the file change
abbrev pub file_set : Contract → Point → Loop → Option (List acsl.Tree)
file_set c pt l = by l.assigns where
  around : Force → Option (List acsl.Tree)
  around of_function = c.plain.assigns
  around (of_loop ws d) = Some ws

  by : Option (List acsl.Tree) → Option (List acsl.Tree)
  by None = around pt.force
  by (Some rs) = Some rs

abbrev pub file_changes : Contract → Point → Loop → (variable : ℕ) → Bool
file_changes c pt l x = not (lacks (file_set c pt l) (variables.Global x))

-- the locals that its set names, or, where it has none, the ones that its text sets
abbrev pub lets_local : Loop → Steps → (variable : ℕ) → Bool
lets_local l ss x = by l.assigns where
  by : Option (List acsl.Tree) → Bool
  by None = some_sets ss x
  by (Some rs) = has_variable rs (variables.Local x)

-- of those that are declared before the loop
abbrev pub local_changes : Loop → Steps → (variable : ℕ) → Bool
local_changes l ss x = nat_lt x l.declared && lets_local l ss x

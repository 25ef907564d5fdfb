-- Sets of a function that is called (ACSL 2.3.2): whether they lie in the set in force, and what a call changes.
use Rattle.std.specs.Prelude.{ℕ, Bool, true, false, not, ◌&&◌, ◌||◌, if◌then◌else◌, List, [], ◌∷◌, ◌++◌, Option, Some, None}
use Rattle.std.specs.List.{list_all, list_any}
use Rattle.wp_base.specs.declared.kinds.CellKind.{CellKind}
use Rattle.typed_prog.specs.Tree as t
use Rattle.typed_prog.specs.declared.operators.Variable.{Variable}
use Rattle.typed_prog.specs.declared.operators.Variable.TheVariants as variables
use Rattle.acsl_trees.specs.Tree as acsl
use Rattle.qed_terms.specs.Tree.{Tree, false_tree, and_of}
use Rattle.c_runs.specs.Program.{Behavior, Contract, Function, Facts}
use Rattle.c_runs.specs.Tree.{Steps}
use Rattle.memory_words.specs.Shapes.{FileCells, Shape}
use Rattle.memory_words.specs.Readings.{Texts, Standpoint, body_reading}
use Rattle.memory_words.specs.Points.{Force, of_function, of_loop, Point}
use Rattle.memory_words.specs.Regions.{RegionTree, has_kind, any_of, regions_in, regions_inside}
use Rattle.memory_words.specs.Renewal.{of_all, of_regions}
use Rattle.memory_words.specs.Sets.{assumed_tree, under, as_one_unless, has_variable, lacks, since, entry_at, assumed_at}
use Rattle.memory_words.specs.Typed.{is_plain_variable}
use Rattle.memory_calls.specs.LoopSets.{region_variable}
use Rattle.memory_calls.specs.Havoc.{Havoc}
use Rattle.memory_calls.specs.Callee.{entered_at}

-- only where this is assumed
abbrev pub only_under : (is_plain : Bool) → (assumed f : Tree) → Tree
only_under true a f = f
only_under false a f = and_of (a ∷ f ∷ [])

abbrev pub is_unset : Option (List acsl.Tree) → Bool
is_unset None = true
is_unset (Some rs) = false

module _ (p : Facts) (s : Shape) where
  -- a region that is a variable of the file which no pointer leads to is named
  abbrev pub is_named : (around : List acsl.Tree) → Option Variable → Bool
  is_named ws (Some (variables.Global x)) = not (is_plain_variable p s (variables.Global x)) || has_variable ws (variables.Global x)
  is_named ws o = true

  abbrev pub all_named : (around inner : List acsl.Tree) → Bool
  all_named ws rs = list_all (λ a. is_named ws (region_variable a)) rs

  -- no set, or one with a variable that isn't named
  abbrev pub lies_outside : (around : List acsl.Tree) → Option (List acsl.Tree) → Bool
  lies_outside ws None = true
  lies_outside ws (Some rs) = not (all_named ws rs)

  -- A clause of the caller refuses the function that is called where none of its clauses lies inside, whatever its behaviors assume and its regions are.
  abbrev pub refuses : (callee : Contract) → Option (List acsl.Tree) → Bool
  refuses callee None = false
  refuses callee (Some ws) = lies_outside ws callee.plain.assigns && list_all (λ b. is_unset b.assigns) callee.behaviors

-- a set in force: what it names, its regions, and how many blocks there were
pub record Around : Type 0 where
  pub names : List acsl.Tree
  pub regions : List RegionTree
  pub count : Tree

module _ (p : Facts) (s : Shape) (cells : FileCells) (texts : Texts) (g : Function Steps) (es : t.Values) where
  -- what a behavior of it assumes, where it is entered in the state of this level
  abbrev pub callee_assumes : (level : ℕ) → Behavior → Tree
  callee_assumes l b = assumed_tree (entered_at p s cells texts g es l) b.assumes

  abbrev pub callee_regions : (level : ℕ) → List acsl.Tree → List RegionTree
  callee_regions l rs = regions_in (entered_at p s cells texts g es l) rs

  abbrev pub set_inside : Around → List acsl.Tree → Tree
  set_inside w rs = if all_named p s w.names rs then regions_inside w.count w.regions (callee_regions 0 rs) else false_tree

  abbrev pub clause_in : Around → (is_plain : Bool) → Behavior → Option (List acsl.Tree) → List Tree
  clause_in w plain b None = []
  clause_in w plain b (Some rs) = only_under plain (callee_assumes 0 b) (set_inside w rs) ∷ []

  abbrev pub clauses_in : Around → List Behavior → List Tree
  clauses_in w [] = []
  clauses_in w (b ∷ bs) = clause_in w false b b.assigns ++ clauses_in w bs

  -- some clause of it that counts lies in this set
  abbrev pub included : Around → Tree
  included w = any_of (clause_in w true g.contract.plain g.contract.plain.assigns ++ clauses_in w g.contract.behaviors)

  -- in that of each clause of the caller which counts
  abbrev pub clause_set : Standpoint → List acsl.Tree → Around
  clause_set sp ws = record { names = ws; regions = regions_in (entry_at p s cells texts sp) ws; count = since sp.entry }

  abbrev pub included_in : Standpoint → (is_plain : Bool) → Behavior → Option (List acsl.Tree) → List Tree
  included_in sp plain b None = []
  included_in sp plain b (Some ws) = under plain (assumed_at p s cells texts sp b) (included (clause_set sp ws)) ∷ []

  abbrev pub included_in_all : Standpoint → List Behavior → List Tree
  included_in_all sp [] = []
  included_in_all sp (b ∷ bs) = included_in sp false b b.assigns ++ included_in_all sp bs

  abbrev pub included_by : Standpoint → (caller : Contract) → Force → List Tree
  included_by sp c of_function = as_one_unless (refuses p s g.contract c.plain.assigns) (included_in sp true c.plain c.plain.assigns ++ included_in_all sp c.behaviors)
  included_by sp c (of_loop at ws d) = included (record { names = ws; regions = regions_in (body_reading p s cells texts at) ws; count = since at.here }) ∷ []

  -- nothing is asked where the clause outside behaviors names nothing
  abbrev pub unless_nothing : Option (List acsl.Tree) → List Tree → List Tree
  unless_nothing (Some []) fs = []
  unless_nothing _ fs = fs

  abbrev pub inclusion_trees : (caller : Contract) → Point → List Tree
  inclusion_trees c pt = unless_nothing g.contract.plain.assigns (included_by pt.stands c pt.force)

  -- ---- what a call changes, by the clause outside behaviors; its facts stand three levels deeper than the call

  abbrev pub some_has : CellKind → List RegionTree → Bool
  some_has k gs = list_any (has_kind k) gs

  abbrev pub changed_variable : Variable → Bool
  changed_variable (variables.Global x) = not (lacks g.contract.plain.assigns (variables.Global x))
  changed_variable (variables.Local x) = false

  abbrev pub havoc_by : Option (List acsl.Tree) → Havoc
  havoc_by None = record { variables = changed_variable; kinds = λ k. true; leave = of_all }
  havoc_by (Some rs) = record {
    variables = changed_variable;
    kinds = λ k. some_has k (callee_regions 3 rs);
    leave = of_regions (since 3 ∷ []) (callee_regions 3 rs);
  }

  abbrev pub call_havoc : Havoc
  call_havoc = havoc_by g.contract.plain.assigns

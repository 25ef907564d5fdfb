-- Sets of a function that is called (ACSL 2.3.2): whether they lie in the set in force, and what a call changes. Only variables of the file count, since a
-- function's clauses name none of its own.
use Rattle.std.specs.Prelude.{ℕ, suc, Bool, true, false, not, ◌&&◌, if◌then◌else◌, List, [], ◌∷◌, ◌++◌, Option, Some, None}
use Rattle.std.specs.List.{list_all}
use Rattle.typed_prog.specs.Tree as t
use Rattle.typed_prog.specs.declared.operators.Variable.TheVariants as variables
use Rattle.acsl_trees.specs.Tree as acsl
use Rattle.acsl_trees.specs.declared.heads.Head.TheVariants as head
use Rattle.qed_terms.specs.Tree.{Tree, true_tree, false_tree, and_of}
use Rattle.c_kinds.specs.Models.{low, high}
use Rattle.c_runs.specs.Program as program
use Rattle.c_runs.specs.Program.{Behavior, Contract, Function, Facts}
use Rattle.c_runs.specs.Tree.{Steps}
use Rattle.plain_states.specs.Scopes.{kind_of}
use Rattle.plain_runs.specs.Fitting.{Shape}
use Rattle.walk_steps.specs.Step.{Change, keeps}
use Rattle.walk_words.specs.Changes.{ranged}
use Rattle.program_steps.specs.Terms.{Texts, entry_reading, assumed_tree, has_variable}
use Rattle.program_steps.specs.Words.{Force, of_function, of_loop, Point, as_one_unless, under, lacks}
use Rattle.program_steps.specs.Functions.{any_of}
use Rattle.call_words.specs.Callee.{entered_at}

-- ---- whether sets lie in others

-- a region that is a variable of the file is named
abbrev pub is_in : (around : List acsl.Tree) → acsl.Tree → Bool
is_in ws (acsl.node (head.Region c) (acsl.more (acsl.node (head.Variable (variables.Global x)) acsl.stop) acsl.stop)) = has_variable ws (variables.Global x)
is_in ws _ = true

abbrev pub truth_tree : Bool → Tree
truth_tree true = true_tree
truth_tree false = false_tree

-- only where this is assumed
abbrev pub only_under : (is_plain : Bool) → (assumed f : Tree) → Tree
only_under true a f = f
only_under false a f = and_of (a ∷ f ∷ [])

-- no set, or one that doesn't lie in this one
abbrev pub lies_outside : (around : List acsl.Tree) → Option (List acsl.Tree) → Bool
lies_outside ws None = true
lies_outside ws (Some rs) = not (list_all (is_in ws) rs)

abbrev pub is_unset : Option (List acsl.Tree) → Bool
is_unset None = true
is_unset (Some rs) = false

-- A clause of the caller refuses the function that is called where none of its clauses lies inside, whatever its behaviors assume.
abbrev pub refuses : (callee : Contract) → Option (List acsl.Tree) → Bool
refuses callee None = false
refuses callee (Some ws) = lies_outside ws callee.plain.assigns && list_all (λ b. is_unset b.assigns) callee.behaviors

module _ (p : Facts) (s : Shape) (texts : Texts) (g : Function Steps) (es : t.Values) where
  -- what a behavior of it assumes, where it is entered in the state of this level
  abbrev pub callee_assumes : (level : ℕ) → Behavior → Tree
  callee_assumes l b = assumed_tree p s texts (entered_at p s texts g es l) b.assumes

  abbrev pub clause_in : (around : List acsl.Tree) → (is_plain : Bool) → Behavior → Option (List acsl.Tree) → List Tree
  clause_in ws plain b None = []
  clause_in ws plain b (Some rs) = only_under plain (callee_assumes 0 b) (truth_tree (list_all (is_in ws) rs)) ∷ []

  abbrev pub clauses_in : (around : List acsl.Tree) → List Behavior → List Tree
  clauses_in ws [] = []
  clauses_in ws (b ∷ bs) = clause_in ws false b b.assigns ++ clauses_in ws bs

  -- some clause of it that counts lies in this set
  abbrev pub included : (around : List acsl.Tree) → Tree
  included ws = any_of (clause_in ws true g.contract.plain g.contract.plain.assigns ++ clauses_in ws g.contract.behaviors)

  -- in that of each clause of the caller which counts
  abbrev pub included_in : (entry : ℕ) → (is_plain : Bool) → Behavior → Option (List acsl.Tree) → List Tree
  included_in e plain b None = []
  included_in e plain b (Some ws) = under plain (assumed_tree p s texts (entry_reading p s texts e) b.assumes) (included ws) ∷ []

  abbrev pub included_in_all : (entry : ℕ) → List Behavior → List Tree
  included_in_all e [] = []
  included_in_all e (b ∷ bs) = included_in e false b b.assigns ++ included_in_all e bs

  abbrev pub included_by : (entry : ℕ) → (caller : Contract) → Force → List Tree
  included_by e c of_function = as_one_unless (refuses g.contract c.plain.assigns) (included_in e true c.plain c.plain.assigns ++ included_in_all e c.behaviors)
  included_by e c (of_loop ws d) = included ws ∷ []

  -- nothing is asked where the clause outside behaviors names nothing
  abbrev pub unless_nothing : Option (List acsl.Tree) → List Tree → List Tree
  unless_nothing (Some []) fs = []
  unless_nothing _ fs = fs

  abbrev pub inclusion_trees : (caller : Contract) → Point → List Tree
  inclusion_trees c pt = unless_nothing g.contract.plain.assigns (included_by (suc pt.entry) c pt.force)

-- ---- what a call changes

-- a variable of the file, by the clause outside behaviors
abbrev pub may_differ : Contract → (variable : ℕ) → Bool
may_differ c x = not (lacks c.plain.assigns (variables.Global x))

module _ (p : Facts) (c : Contract) where
  abbrev pub file_change : (number : ℕ) → program.Variable → Change
  file_change x v = if may_differ c x then ranged (low p.model (kind_of v)) (high p.model (kind_of v)) else keeps

  -- values may change, and flags stay
  abbrev pub file_changes : (number : ℕ) → List program.Variable → List Change
  file_changes x [] = []
  file_changes x (v ∷ vs) = file_change x v ∷ keeps ∷ file_changes (suc x) vs

-- Whether the sets of a function that is called lie in the set in force, as it is seen in memory (ACSL 2.3.2).
use Rattle.std.specs.Prelude.{Bool, true, false, List, [], ◌∷◌, ◌++◌, Option, Some, None}
use Rattle.std.specs.List.{list_all}
use Rattle.typed_prog.specs.declared.operators.Variable.TheVariants as variables
use Rattle.acsl_trees.specs.Tree as acsl
use Rattle.acsl_trees.specs.declared.heads.Head.{Head}
use Rattle.acsl_trees.specs.declared.heads.Head.TheVariants as head
use Rattle.qed_terms.specs.Tree.{Tree}
use Rattle.c_runs.specs.Program.{Behavior, Contract, Facts}
use Rattle.program_steps.specs.Terms.{Texts, has_variable}
use Rattle.program_steps.specs.Words.{Force, of_function, of_loop, as_one_unless, under}
use Rattle.program_steps.specs.Functions.{any_of}
use Rattle.call_words.specs.Sets.{is_in, truth_tree, only_under, refuses}
use Rattle.walk_frames.specs.declared.readings.Labels.{Labels}
use Rattle.walk_frames.specs.Labelled.{assumed_in}
use Rattle.call_walks.specs.Claimed.{joined}

-- a region's only kid, where it is a variable of the file, is named
abbrev pub head_is_in : (around : List acsl.Tree) → Head → List acsl.Tree → Bool
head_is_in ws (head.Variable (variables.Global x)) [] = has_variable ws (variables.Global x)
head_is_in ws h kids = true

-- nothing is asked where the clause outside behaviors names nothing
abbrev pub unless_empty : Option (List acsl.Tree) → List Tree → List Tree
unless_empty (Some []) fs = []
unless_empty _ fs = fs

module _ (p : Facts) (texts : Texts) (entered : Labels) where
  -- whether a set lies in another one, where a behavior is assumed
  abbrev pub inside_tree : (is_plain : Bool) → (assumes : List acsl.Tree) → (is_inside : Bool) → Tree
  inside_tree plain as_ so = only_under plain (assumed_in p texts entered as_) (truth_tree so)

  abbrev pub clause_within : (around : List acsl.Tree) → (is_plain : Bool) → (assumes : List acsl.Tree) → Option (List acsl.Tree) → List Tree
  clause_within ws plain as_ None = []
  clause_within ws plain as_ (Some rs) = inside_tree plain as_ (list_all (is_in ws) rs) ∷ []

  abbrev pub within_by : (around : List acsl.Tree) → (is_plain : Bool) → Behavior → List Tree
  within_by ws plain b = clause_within ws plain b.assumes b.assigns

  module _ (callee : Contract) where
    -- that of some clause which counts
    abbrev pub within : (around : List acsl.Tree) → Tree
    within ws = any_of (within_by ws true callee.plain ++ joined (within_by ws false) callee.behaviors)

    -- this is what assumptions of the caller come to
    module _ (assumed : List acsl.Tree → Tree) where
      abbrev pub inclusion_under : (is_plain : Bool) → (assumes : List acsl.Tree) → Option (List acsl.Tree) → List Tree
      inclusion_under plain as_ None = []
      inclusion_under plain as_ (Some ws) = under plain (assumed as_) (within ws) ∷ []

      abbrev pub inclusion_by : (is_plain : Bool) → Behavior → List Tree
      inclusion_by plain b = inclusion_under plain b.assumes b.assigns

      abbrev pub inclusions : Contract → Force → List Tree
      inclusions c of_function = as_one_unless (refuses callee c.plain.assigns) (inclusion_by true c.plain ++ joined (inclusion_by false) c.behaviors)
      inclusions c (of_loop ws d) = within ws ∷ []

      abbrev pub asked_inclusions : Contract → Force → List Tree
      asked_inclusions c f = unless_empty callee.plain.assigns (inclusions c f)

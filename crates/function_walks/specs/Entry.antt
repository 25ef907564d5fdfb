-- Where a function is entered, as it is held in memory.
use Rattle.std.specs.Prelude.{◌≡◌, ℕ, true, List, [], ◌++◌, map}
use Rattle.qed_terms.specs.Tree.{Tree}
use Rattle.qed_terms.specs.Fresh.{none_used}
use Rattle.qed_terms.specs.Meaning as sense
use Rattle.c_runs.specs.Program.{Contract, Facts}
use Rattle.plain_runs.specs.Fitting.{Shape}
use Rattle.walk_steps.specs.Forms.{Slots}
use Rattle.walk_steps.specs.Laws as walk
use Rattle.walk_steps.specs.Laws.{Start, start_world}
use Rattle.program_steps.specs.Leaves.{fill, form}
use Rattle.program_steps.specs.Terms.{Texts}
use Rattle.program_steps.specs.Starting.{origins_of, file_ranges, param_ranges, required_trees, all_required}
use Rattle.step_walks.specs.Walks.{Held}
use Rattle.function_walks.specs.declared.origins.Origin.{Origin}
use Rattle.function_walks.specs.declared.origins.Origin.TheVariants as origin

abbrev pub view_origin : Origin → walk.Origin
view_origin origin.Own = walk.own
view_origin (origin.Fixed z) = walk.fixed z

abbrev pub view_origins : List Origin → List walk.Origin
view_origins os = map view_origin os

module _ (m : sense.World) (p : Facts) (s : Shape) (texts : Texts) (params : ℕ) (c : Contract) where
  -- what is known where a function with these parameters and this contract is entered
  abbrev pub entry_trees : List Tree
  entry_trees =
      file_ranges m p s texts 0 p.globals ++ (param_ranges m p s texts params 0 s.variables ++ (required_trees m p s texts true c.plain ++ all_required m p s texts c.behaviors))

  abbrev pub entry_start : Start
  entry_start = record { origins = origins_of m p s texts params; facts = map (form m) entry_trees }

  -- nothing is remembered, no name was used, and there are no exits
  abbrev pub entered : (bases : List (List ℕ)) → Held
  entered bases = record { olds = []; used = none_used; world = start_world bases entry_start; left = λ k. [] }

-- formulas over slots, behind others
abbrev pub Behind : (ss : List Slots) → (before after trees : List Tree) → Type 0
Behind ss before after trees = after ≡ before ++ map (fill ss) trees

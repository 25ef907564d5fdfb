-- Where a statement of a function stands in a run, as its word knows it; and that runs of a statement and of its word go together.
use Rattle.std.specs.Prelude.{◌≡◌, ℕ, Bool, true, List, [], ◌∷◌, Some, slice_get}
use Rattle.std.specs.List.{list_all}
use Rattle.c_kinds.specs.Models.{long_bits}
use Rattle.typed_prog.specs.declared.operators.Variable.TheVariants as variables
use Rattle.qed_terms.specs.Meaning as sense
use Rattle.qed_terms.specs.Meaning.{truth}
use Rattle.qed_terms.specs.Tree.{Tree}
use Rattle.c_runs.specs.Program.{Variable, Contract, Facts}
use Rattle.c_runs.specs.States.{Here}
use Rattle.c_runs.specs.Claims.{may_change_local}
use Rattle.c_runs.specs.CoreRun.{Ending}
use Rattle.plain_states.specs.Slots.{State}
use Rattle.plain_states.specs.Scopes.{is_integer}
use Rattle.goal_segments.specs.Told.{Shape, may_change_global}
use Rattle.walk_steps.specs.State.{at_or}
use Rattle.walk_steps.specs.Step.{Step}
use Rattle.walk_steps.specs.Run.{End, Seg}
use Rattle.program_steps.specs.Leaves.{closed, leaves_of}
use Rattle.program_steps.specs.Terms.{Texts}
use Rattle.program_steps.specs.Words.{Point, write_trees}
use Rattle.program_steps.specs.Standing.{SeenAs}
use Rattle.program_steps.specs.Carried.{Carried}

-- all variables are integers, and formulas are read over the kinds of the file's data model
pub record InSetting (m : sense.World) (p : Facts) (s : Shape) : Type 0 where
  pub model : m.long_bits ≡ long_bits p.model
  pub globals : list_all is_integer p.globals ≡ true
  pub integers : list_all is_integer s.variables ≡ true

-- these formulas are true in the states
abbrev pub all_told : sense.World → List State → List Tree → Bool
all_told m sts fs = list_all (λ f. truth m (leaves_of sts) (closed f)) fs

-- The function's entry and that of the innermost loop are remembered, what is asked before a write says whether the sets in force let it, and the run carries
-- along what the word knows.
pub record Placed (m : sense.World) (p : Facts) (s : Shape) (texts : Texts) (contract : Contract) (pt : Point) (here : Here) (olds : List State) : Type 0 where
  pub entry : SeenAs p s here.entry (at_or [] olds pt.entry) (at_or [] olds pt.entry)
  pub loop_entry : SeenAs p s here.loop_entry (at_or [] olds pt.loop_entry) (at_or [] olds pt.loop_entry)
  pub locals : (x : ℕ) (v : Variable) → slice_get s.variables x ≡ Some v → (st : State)
      → all_told m (st ∷ olds) (write_trees p s texts contract pt (variables.Local x)) ≡ may_change_local p here.granted x
  pub globals : (x : ℕ) (v : Variable) → slice_get p.globals x ≡ Some v → (st : State)
      → all_told m (st ∷ olds) (write_trees p s texts contract pt (variables.Global x)) ≡ may_change_global here.granted x
  pub carried : Carried p contract here pt.self pt

-- Runs of one kind and those of a word, from slots: for each of the ones there is one of the others that ends so.
pub record BothWays (r : Ending → Type 0) (ends : Ending → End → Type 0) (olds : List State) (n : ℕ) (a : Step) (st : State) : Type 0 where
  pub forth : (o : Ending) → r o → (e : End) × Seg olds n a st e × ends o e
  pub back : (e : End) → Seg olds n a st e → (o : Ending) × r o × ends o e

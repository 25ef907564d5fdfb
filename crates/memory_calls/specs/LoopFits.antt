-- What is asked of a loop, so that its word does what it does: annotations that have formulas and terms, sets of regions that have terms too, and that what its
-- turns change is in scope and no temporary that is still used. Which states are remembered depends on where the loop stands, so all is asked of all levels.
use Rattle.std.specs.Prelude.{◌≡◌, ℕ, Bool, true, false, List, [], Option, Some, None}
use Rattle.wp_base.specs.declared.kinds.CellKind.{CellKind}
use Rattle.wp_base.specs.declared.kinds.CellKind.TheVariants as cell
use Rattle.typed_prog.specs.declared.operators.Variable as code
use Rattle.typed_prog.specs.declared.operators.Variable.TheVariants as variables
use Rattle.acsl_trees.specs.Tree as acsl
use Rattle.acsl_trees.specs.declared.heads.Content.{Content}
use Rattle.acsl_trees.specs.declared.heads.Content.TheVariants as content
use Rattle.acsl_trees.specs.declared.heads.Head.TheVariants as acsl_head
use Rattle.c_runs.specs.TruthStates as labelled
use Rattle.acsl_encode.specs.Readings as annotation
use Rattle.acsl_encode.specs.Meaning.{HasAddress, Stands}
use Rattle.qed_terms.specs.Meaning as sense
use Rattle.c_runs.specs.Program.{Claim, Measure, Behavior, Contract, Loop, Facts}
use Rattle.c_runs.specs.Claims.{parts_of}
use Rattle.c_runs.specs.Tree.{Steps}
use Rattle.plain_runs.specs.Kept.{some_temps}
use Rattle.program_steps.specs.Temporaries.{no_temporaries, all_live}
use Rattle.memory_steps.specs.State.{State}
use Rattle.memory_words.specs.Leaves.{leaves_of}
use Rattle.memory_words.specs.Shapes.{FileCells, Shape}
use Rattle.memory_words.specs.Readings.{InScope, Texts, Standpoint, body_reading, entry_reading}
use Rattle.memory_words.specs.Seen.{ClaimFits, MeasureFits}
use Rattle.memory_words.specs.Points.{Force, of_function, of_loop, Point, uses_of}
use Rattle.memory_words.specs.Words.{entered_loop}
use Rattle.memory_words.specs.Typed.{AllOf, is_plain_variable}
use Rattle.memory_statements.specs.Regions.{region, EndsFit}
use Rattle.memory_calls.specs.LoopSets.{region_variable, in_force, variable_changes}

-- ---- levels

-- with other levels
abbrev pub at_levels : Standpoint → (here entry : ℕ) → (loop_entry : Option ℕ) → Standpoint
at_levels sp h e g = record sp { here = h; entry = e; loop_entry = g }

abbrev pub has_level : Option ℕ → Bool
has_level (Some l) = true
has_level None = false

-- ---- regions

-- what stands in a cell of the kind
abbrev pub content_of : CellKind → Content
content_of (cell.Of k) = content.Integer k
content_of cell.Ptr = content.Pointer

-- a variable of the file, or one of these of the function
abbrev pub IsInSight : InScope → code.Variable → Type 0
IsInSight i (variables.Global x) = Unit {0}
IsInSight i (variables.Local x) = i x ≡ true

module _ (m : sense.World) (p : Facts) (s : Shape) (cells : FileCells) where
  -- A region names a variable that no pointer leads to, or has cells, of a block that pointers may lead to.
  pub data SetRegion (i : InScope) (r : acsl.Tree → annotation.Reading) (a : acsl.Tree) : Type 0 where
    names : (x : code.Variable) (k : CellKind) → is_plain_variable p s x ≡ true → IsInSight i x
        → a ≡ region (content_of k) (acsl.node (acsl_head.Variable x) acsl.stop) → SetRegion i r a
    has_cells : cells.has_blocks ≡ true → ((x : code.Variable) → region_variable a ≡ Some x → is_plain_variable p s x ≡ false) → (ends : EndsFit m p r a)
        → ((w : labelled.World) (sts : List State) → Stands m (r a) (leaves_of sts) w → HasAddress (sense.value m (leaves_of sts) ends.cells.block)) → SetRegion i r a

  -- the regions of a set, if it is one
  abbrev pub SetRegions : InScope → (acsl.Tree → annotation.Reading) → Option (List acsl.Tree) → Type 0
  SetRegions i r None = Unit {0}
  SetRegions i r (Some as_) = AllOf (SetRegion i r) as_

  module _ (texts : Texts) where
    -- a behavior of the function, as it is read at its entry
    pub record ClauseFits (is_param : InScope) (b : Behavior) : Type 0 where
      pub assumes : AllOf (λ a. (level : ℕ) → ClaimFits m p (entry_reading p s cells texts level is_param) a) b.assumes
      pub regions : (level : ℕ) → SetRegions is_param (entry_reading p s cells texts level is_param) b.assigns

    -- the set in force: nothing is assumed for the function's clause outside behaviors
    abbrev pub ForceFits : Contract → Point → Force → Type 0
    ForceFits c pt of_function = (c.plain.assumes ≡ []) × AllOf (ClauseFits pt.stands.is_param) (parts_of c)
    ForceFits c pt (of_loop sp rs d) =
        (h e : ℕ) (g : Option ℕ) → has_level g ≡ has_level sp.loop_entry → AllOf (SetRegion sp.in_scope (body_reading p s cells texts (at_levels sp h e g))) rs

    -- Before the loop, at its head, and at the end of a pass, where its entry is a state that is remembered.
    pub record LoopFits (contract : Contract) (pt : Point) (l : Loop) (ss : Steps) : Type 0 where
      pub invariants : AllOf (λ (c : Claim). (h e g : ℕ) → ClaimFits m p (body_reading p s cells texts (at_levels (entered_loop pt) h e (Some g))) c.what) l.invariants
      pub variant : (v : Measure) → l.variant ≡ Some v → (h e g : ℕ) → MeasureFits m p (body_reading p s cells texts (at_levels (entered_loop pt) h e (Some g))) v.what
      pub regions : (h e g : ℕ) → SetRegions pt.stands.in_scope (body_reading p s cells texts (at_levels (entered_loop pt) h e (Some g))) l.assigns
      pub force : ForceFits contract pt pt.force
      pub scoped : (x : ℕ) → variable_changes (in_force contract pt l) l ss (variables.Local x) ≡ true → pt.stands.in_scope x ≡ true
      pub temporaries : (n : ℕ) → all_live ss (uses_of pt.outs) no_temporaries n ≡ true → some_temps ss n ≡ false

-- What is asked of a call, so that its word does what it does: typed arguments with their own checks, annotations that have formulas and terms, sets of regions
-- that have terms too, and a place for its result. Annotations of the caller are asked of all levels, as which states are remembered depends on where it
-- stands.
use Rattle.std.specs.Prelude.{◌≡◌, ◌<◌, ℕ, zero, suc, true, false, List, [], Option, Some, None, slice_get}
use Rattle.wp_base.specs.declared.kinds.CellKind.{CellKind}
use Rattle.typed_prog.specs.Tree as t
use Rattle.typed_prog.specs.declared.types.CoreType.{CoreType}
use Rattle.typed_prog.specs.declared.operators.Path.{Path}
use Rattle.typed_prog.specs.declared.operators.Root.TheVariants as root
use Rattle.typed_prog.specs.declared.operators.Variable.TheVariants as variables
use Rattle.qed_terms.specs.Meaning as sense
use Rattle.c_runs.specs.Program.{Variable, Claim, Measure, Behavior, Contract, Function, Facts}
use Rattle.c_runs.specs.Objects.{cell_of}
use Rattle.c_runs.specs.Checks.{Check, all_checks}
use Rattle.c_runs.specs.Tree as core
use Rattle.c_runs.specs.Tree.{Goal, nowhere, temporary, place, variable, Steps}
use Rattle.value_terms.specs.Typed.{operand_kind}
use Rattle.program_steps.specs.Temporaries.{Temporaries, live}
use Rattle.memory_words.specs.Shapes.{FileCells, Shape, kind_of, is_pointer_cell}
use Rattle.memory_words.specs.Readings.{InScope, Texts, entry_reading}
use Rattle.memory_words.specs.Seen.{ClaimFits, MeasureFits}
use Rattle.memory_words.specs.Points.{Point, uses_of}
use Rattle.memory_words.specs.Typed.{AllOf, ValuesFit, Takes}
use Rattle.memory_statements.specs.Stored.{IsWay}
use Rattle.memory_calls.specs.LoopFits.{SetRegions, ForceFits}
use Rattle.memory_calls.specs.Callee.{entered_at, returned_from}

-- of the measure, if there is one
abbrev pub IfMeasured : (Measure → Type 0) → Option Measure → Type 0
IfMeasured f None = Unit {0}
IfMeasured f (Some a) = f a

-- a set names no variable of a function
abbrev pub no_local : InScope
no_local x = false

abbrev pub count_of : t.Values → ℕ
count_of t.stop = zero
count_of (t.more e es) = suc (count_of es)

-- ---- annotations of the function that is called

module _ (m : sense.World) (p : Facts) (s : Shape) (cells : FileCells) (texts : Texts) (g : Function Steps) (es : t.Values) where
  pub record CalleeBehaviorFits (b : Behavior) : Type 0 where
    pub assumes : AllOf (λ a. (level : ℕ) → ClaimFits m p (entered_at p s cells texts g es level) a) b.assumes
    pub requires : AllOf (λ (c : Claim). ClaimFits m p (entered_at p s cells texts g es 0) c.what) b.requires
    pub ensures : AllOf (λ (c : Claim). ClaimFits m p (returned_from p s cells texts g es) c.what) b.ensures
    pub assigns : (level : ℕ) → SetRegions m p s cells no_local (entered_at p s cells texts g es level) b.assigns

  -- nothing is assumed for what stands outside behaviors
  pub record CalleeFits : Type 0 where
    pub assumes : g.contract.plain.assumes ≡ []
    pub plain : CalleeBehaviorFits g.contract.plain
    pub behaviors : AllOf CalleeBehaviorFits g.contract.behaviors
    pub measure : IfMeasured (λ a. MeasureFits m p (entered_at p s cells texts g es 0) a.what) g.contract.decreases

-- ---- the result

module _ (p : Facts) (s : Shape) (cells : FileCells) (i : InScope) (used : Temporaries) where
  -- where a result of the kind goes, as these temporaries are used
  pub data Receives (k : CellKind) : Goal → Type 0 where
    by_nothing : Receives k nowhere
    by_temporary : {n : ℕ} → n < s.temporaries → s.temp_kind n ≡ k → Receives k (temporary n)
    by_local : {type : CoreType} {l : ℕ} {path : Path} (x : ℕ) (v : Variable) → path.root ≡ root.Variable (variables.Local x) → path.steps ≡ []
        → slice_get s.variables x ≡ Some v → v.is_plain ≡ true → kind_of v ≡ k → cell_of type ≡ k → i x ≡ true → Receives k (place [] type l path t.stop)
    by_global : {type : CoreType} {l : ℕ} {path : Path} (x : ℕ) (v : Variable) → path.root ≡ root.Variable (variables.Global x) → path.steps ≡ []
        → slice_get p.globals x ≡ Some v → v.is_plain ≡ true → kind_of v ≡ k → cell_of type ≡ k → Receives k (place [] type l path t.stop)
    by_cell : {cs : List Check} {type : CoreType} {l : ℕ} {path : Path} {es : t.Values} → cell_of type ≡ k → IsWay p s cells i used false cs type path es
        → Receives k (place cs type l path es)
    by_variable : {x : ℕ} → Takes s cells i x k → Receives k (variable x)

  -- a function without result gives what is of no use
  pub data ResultGoes : Option CellKind → Goal → Type 0 where
    none_nowhere : ResultGoes None nowhere
    none_to : {n : ℕ} → n < s.temporaries → is_pointer_cell (s.temp_kind n) ≡ false → ResultGoes None (temporary n)
    goes_to : {k : CellKind} {to : Goal} → Receives k to → ResultGoes (Some k) to

-- ---- the call

module _ (m : sense.World) (p : Facts) (s : Shape) (cells : FileCells) (texts : Texts) (contract : Contract) (functions : ℕ → Option (Function Steps)) where
  pub record CallFits (pt : Point) (after : Temporaries) (cs : List Check) (to : Goal) (n l : ℕ) (es : t.Values) : Type 0 where
    pub function : Function Steps
    pub found : functions n ≡ Some function
    pub checks : cs ≡ all_checks s.variables es
    pub values : ValuesFit p s cells pt.stands.in_scope (live (core.call cs to n l es) (uses_of pt.outs) after) es
    pub count : count_of es ≡ function.params
    pub kinds : (x : ℕ) (v : Variable) → slice_get function.variables x ≡ Some v → x < function.params → operand_kind es x ≡ kind_of v
    pub callee : CalleeFits m p s cells texts function es
    pub force : ForceFits m p s cells texts contract pt pt.force
    pub measure : IfMeasured (λ a. (level : ℕ) → MeasureFits m p (entry_reading p s cells texts level pt.stands.is_param) a.what) contract.decreases
    -- a file without blocks has no pointers
    pub integers : cells.has_blocks ≡ false → (k : CellKind) → function.result ≡ Some k → is_pointer_cell k ≡ false
    pub result : ResultGoes p s cells pt.stands.in_scope (live (core.call cs to n l es) (uses_of pt.outs) after) function.result to

-- Functions with memory: all that the laws on words ask of them comes from their typing, from that temporaries are set before they are used, from that all
-- that they speak of is known, and from their annotations.
use Rattle.std.specs.Prelude.{◌≡◌, ℕ, Bool, false, Option, Some, None}
use Rattle.wp_base.specs.declared.kinds.CellKind.{CellKind}
use Rattle.qed_terms.specs.Meaning as sense
use Rattle.c_runs.specs.Program.{Function, Program}
use Rattle.c_runs.specs.Core.{Cores}
use Rattle.c_runs.specs.Tree.{Steps}
use Rattle.c_runs.specs.Adding.{steps_of, function_of, add_checks}
use Rattle.program_steps.specs.Temporaries.{no_temporaries}
use Rattle.typed_normal.specs.Typed.{FunctionIsTyped}
use Rattle.typed_normal.specs.Order.{SetsFirst}
use Rattle.memory_words.specs.Shapes.{FileCells, Shape, is_pointer_cell}
use Rattle.memory_words.specs.Readings.{Texts}
use Rattle.memory_functions.specs.Words.{Written, shape_in}
use Rattle.memory_functions.specs.GoalFunctions.{is_param, body_point}
use Rattle.memory_functions.specs.FunctionFunctions.{FunctionFits}
use Rattle.memory_functions.specs.Fitting.{StartFits}
use Rattle.typed_annotations.specs.Behaviors.{OwnContractFits}
use Rattle.program_cells.specs.Parts.{AreKnown}
use Rattle.program_cells.specs.Trees.{Declared}
use Rattle.program_cells.specs.Programs.{function_parts}
use Rattle.temporary_kinds.specs.Kinds.{steps_kind, steps_count, results_of}
use Rattle.memory_fitting.specs.Annotated.{fits_of, AllAnnotated, CalleesAre, AreThere}
use Rattle.memory_fitting.specs.Statements.{with_checks}

-- It is written with the temporaries that are mentioned in it, of the kinds that are told of them; others hold numbers.
pub record HasTemporaries (results : ℕ → Option CellKind) (f : Function Steps) (w : Written) : Type 0 where
  pub kinds : (n : ℕ) (l : CellKind) → steps_kind results f.body n ≡ Some l → w.temp_kind n ≡ l
  pub others : (n : ℕ) → steps_kind results f.body n ≡ None → is_pointer_cell (w.temp_kind n) ≡ false
  pub count : AreThere (shape_in f w) (steps_count f.body)

-- what is known of a function of a program, besides its typing
module _ (m : sense.World) (q : Program Cores) (cells : FileCells) (texts : Texts) (own : ℕ) (g : Function Cores) (w : Written) where
  abbrev pub shape_of : Shape
  shape_of = shape_in (function_of g) w

  pub record IsReady (d : Declared) : Type 0 where
    pub temporaries : HasTemporaries (results_of (add_checks q)) (function_of g) w
    pub known : AreKnown cells (function_parts q.facts d (function_of g))
    pub callees : CalleesAre m q.facts shape_of cells texts (with_checks q.functions)
    pub contract : OwnContractFits m q.facts shape_of cells texts (is_param g.params) g.contract
    pub body : AllAnnotated m q.facts shape_of cells texts g.contract (body_point m q.facts shape_of cells texts g.params own) no_temporaries (steps_of g.variables g.body)

  pub record FunctionIsFit : Type 0 where
    pub fits : FunctionFits m q.facts shape_of cells texts (fits_of m q.facts shape_of cells texts g.contract (with_checks q.functions)) own (function_of g)
    pub starts : StartFits m q.facts shape_of cells texts (function_of g)

abbrev pub TypedFunctionsFit : Type 0
TypedFunctionsFit =
    (m : sense.World) (q : Program Cores) (cells : FileCells) (texts : Texts) (own : ℕ) (g : Function Cores) (w : Written) (d : Declared) (b : Bool) (h : CellKind → Bool)
    → FunctionIsTyped q b h g → SetsFirst (function_of g).body → IsReady m q cells texts own g w d → FunctionIsFit m q cells texts own g w

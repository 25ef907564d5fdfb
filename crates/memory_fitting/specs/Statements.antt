-- Statements of a core function with memory: all that the laws on words ask of them comes from their typing, from that temporaries are set before they are
-- used, and from their annotations.
use Rattle.std.specs.Prelude.{◌≡◌, ℕ, Bool, Option, Some, option_map}
use Rattle.wp_base.specs.declared.kinds.CellKind.{CellKind}
use Rattle.qed_terms.specs.Meaning as sense
use Rattle.c_runs.specs.Program.{Contract, Function, Facts}
use Rattle.c_runs.specs.Core.{Cores}
use Rattle.c_runs.specs.Tree.{Steps}
use Rattle.c_runs.specs.Adding.{steps_of, function_of}
use Rattle.program_steps.specs.Temporaries.{Temporaries}
use Rattle.typed_normal.specs.Typed.{CoresAreTyped}
use Rattle.typed_normal.specs.Order.{KeepOrder}
use Rattle.memory_words.specs.Shapes.{FileCells, Shape}
use Rattle.memory_words.specs.Readings.{Texts}
use Rattle.memory_words.specs.Points.{Point, uses_of}
use Rattle.memory_words.specs.Typed.{AllFit}
use Rattle.memory_calls.specs.LoopFits.{ForceFits}
use Rattle.typed_annotations.specs.Behaviors.{OwnContractFits}
use Rattle.program_cells.specs.Parts.{AreKnown}
use Rattle.program_cells.specs.Trees.{Declared}
use Rattle.program_cells.specs.Programs.{variables_parts, steps_parts}
use Rattle.temporary_kinds.specs.Kinds.{steps_kind, steps_count}
use Rattle.memory_fitting.specs.Expressions.{typed_shape, Agrees}
use Rattle.memory_fitting.specs.Annotated.{fits_of, AllAnnotated, CalleesAre, NumbersAre, AreThere}

abbrev pub with_checks : (ℕ → Option (Function Cores)) → (n : ℕ) → Option (Function Steps)
with_checks functions n = option_map function_of (functions n)

-- what functions give
abbrev pub AreGiven : (functions : ℕ → Option (Function Cores)) → (results : ℕ → Option CellKind) → Type 0
AreGiven functions results = (n : ℕ) (g : Function Cores) → functions n ≡ Some g → results n ≡ g.result

abbrev pub TypedStatementsFit : Type 0
TypedStatementsFit =
    (m : sense.World) (p : Facts) (s : Shape) (n : ℕ) (k : ℕ → CellKind) (b : Bool) (h : CellKind → Bool) (cells : FileCells) (texts : Texts) (contract : Contract)
    (functions : ℕ → Option (Function Cores)) (results : ℕ → Option CellKind) (d : Declared) → AreGiven functions results → NumbersAre s k
    → AreKnown cells (variables_parts s.variables) → CalleesAre m p s cells texts (with_checks functions) → (pt : Point) (f : Temporaries) (low : ℕ) (ss : Cores)
    → CoresAreTyped p (typed_shape s n k b h) functions pt.stands.in_scope low ss → AreKnown cells (steps_parts p s.variables d (steps_of s.variables ss))
    → Agrees s k (steps_kind results (steps_of s.variables ss)) → AreThere s (steps_count (steps_of s.variables ss))
    → KeepOrder (uses_of pt.outs) f (steps_of s.variables ss) → OwnContractFits m p s cells texts pt.stands.is_param contract → ForceFits m p s cells texts contract pt pt.force
    → AllAnnotated m p s cells texts contract pt f (steps_of s.variables ss)
    → AllFit m p s cells texts (fits_of m p s cells texts contract (with_checks functions)) pt f (steps_of s.variables ss)

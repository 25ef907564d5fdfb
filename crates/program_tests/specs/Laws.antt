-- Programs that pass the tests are what the laws on goals ask for.
use Rattle.std.specs.Prelude.{◌≡◌, ℕ, Bool, true, false, List, length, Some, slice_get}
use Rattle.wp_base.specs.declared.kinds.CellKind.{CellKind}
use Rattle.c_kinds.specs.Models.{long_bits}
use Rattle.typed_prog.specs.declared.types.CoreType.{CoreType}
use Rattle.typed_prog.specs.declared.operators.Variable as code
use Rattle.typed_unit.specs.Unit as u
use Rattle.acsl_trees.specs.Tree as acsl
use Rattle.acsl_names.specs.declared.names.Definition.{Definition}
use Rattle.acsl_well_typed.specs.WellTyped.{Known}
use Rattle.acsl_well_typed.specs.Definitions.{known_with}
use Rattle.annotations_encoded.specs.Sights.{Sights}
use Rattle.qed_terms.specs.Meaning as sense
use Rattle.qed_terms.specs.Setting.{Setting, world_of}
use Rattle.c_runs.specs.Program.{Contract, Loop, Function, Facts, Program}
use Rattle.c_runs.specs.Core.{Cores}
use Rattle.c_runs.specs.Tree.{Steps}
use Rattle.c_runs.specs.Adding.{function_of, add_checks}
use Rattle.program_steps.specs.Temporaries.{Temporaries}
use Rattle.typed_runs.specs.Fitting.{FitsProgram}
use Rattle.typed_modular.specs.Solid.{SetsFit}
use Rattle.typed_normal.specs.Typed.{ProgramIsTyped}
use Rattle.typed_normal.specs.Order.{AllSetFirst}
use Rattle.memory_steps.specs.World.{AreBases}
use Rattle.memory_words.specs.Places.{Place}
use Rattle.memory_words.specs.Shapes.{FileCells, Shape}
use Rattle.memory_words.specs.Readings.{Texts}
use Rattle.memory_words.specs.Points.{Point}
use Rattle.memory_calls.specs.LoopFits.{has_level}
use Rattle.memory_functions.specs.Words.{shape_in, bases_in}
use Rattle.memory_exact.specs.Programs.{OwnDiffer}
use Rattle.memory_programs.specs.Programs.{others_in, ProgramFits}
use Rattle.typed_annotations.specs.Claims.{TextsFit, IsClaim, IsRegionIn}
use Rattle.typed_annotations.specs.Behaviors.{ContractIs, LoopIs}
use Rattle.program_cells.specs.Parts.{AreKnown}
use Rattle.program_cells.specs.Trees.{Declared}
use Rattle.program_cells.specs.Programs.{given_parts, variables_parts, function_parts, program_cells}
use Rattle.program_cells.specs.Laws.{KnowsItsCells}
use Rattle.memory_fitting.specs.Annotated.{AllAnnotated}
use Rattle.memory_fitting.specs.Functions.{IsReady}
use Rattle.program_tests.specs.Tests.{tree_passes, region_passes, loop_passes, contract_passes, Where, steps_pass, function_passes}
use Rattle.program_tests.specs.Written.{all_written}

-- ---- annotations that pass are what is asked of them

pub record AnnotationsPass (k : Known) (g : Sights) : Type 0 where
  pub claim : (a : acsl.Tree) → tree_passes k g a ≡ true → IsClaim k g a
  pub region : (may : code.Variable → Bool) (a : acsl.Tree) → region_passes k g may a ≡ true → IsRegionIn may k g a
  pub loop : (may : code.Variable → Bool) (l : Loop) → loop_passes k g may l ≡ true → LoopIs may k g l
  pub contract : (p : Facts) (back : Sights) (c : Contract) → contract_passes p k g back c ≡ true → ContractIs p k g back c

abbrev pub PassingAnnotationsAre : Type 0
PassingAnnotationsAre = (k : Known) (g : Sights) → AnnotationsPass k g

-- ---- statements

-- where a statement stands, told by what its word knows
abbrev pub where_of : Point → Where
where_of pt = record { outs = length pt.outs; in_scope = pt.stands.in_scope; loop_scope = pt.stands.loop_scope; in_loop = has_level pt.stands.loop_entry }

abbrev pub PassingBodiesAreAnnotated : Type 0
PassingBodiesAreAnnotated =
    (m : sense.World) (p : Facts) (s : Shape) (cells : FileCells) (texts : Texts) → TextsFit m p s cells texts → (ds : List Definition) (result : CoreType) (c : Contract)
    (pt : Point) (f : Temporaries) (ss : Steps) → steps_pass p cells texts (known_with true ds result) s.variables pt.stands.is_param (where_of pt) ss ≡ true
    → AllAnnotated m p s cells texts c pt f ss

-- ---- functions of a program, of which each has a type of its result

module _ (q : Program Cores) (cells : FileCells) (texts : Texts) (ds : List Definition) (types : (function : ℕ) → CoreType) where
  abbrev pub AllPass : Type 0
  AllPass = (n : ℕ) (g : Function Cores) → q.functions n ≡ Some g → function_passes q.facts cells texts ds (types n) (function_of g) ≡ true

  -- what they give is known
  abbrev pub ResultsAreKnown : Type 0
  ResultsAreKnown = (n : ℕ) (g : Function Cores) → q.functions n ≡ Some g → AreKnown cells (given_parts g.result)

abbrev pub PassingFunctionsAreReady : Type 0
PassingFunctionsAreReady =
    (m : sense.World) (q : Program Cores) (cells : FileCells) (texts : Texts) (ds : List Definition) (types : ℕ → CoreType) (name : ℕ → Place → List ℕ)
    → AllPass q cells texts ds types → ResultsAreKnown q cells texts ds types → (n : ℕ) (g : Function Cores) (d : Declared) → q.functions n ≡ Some g
    → AreKnown cells (function_parts q.facts d (function_of g))
    → TextsFit m q.facts (shape_in (function_of g) (all_written (add_checks q) name n)) cells texts
    → IsReady m q cells texts n g (all_written (add_checks q) name n) d

-- ---- sets of regions: they have no gaps, and let no variable change that isn't in scope

abbrev pub PassingSetsFit : Type 0
PassingSetsFit =
    (q : Program Cores) (cells : FileCells) (texts : Texts) (ds : List Definition) (types : ℕ → CoreType) → AllPass q cells texts ds types
    → (fits : FitsProgram (add_checks q)) → SetsFit (add_checks q) fits

-- ---- whole programs

-- All that a program speaks of is among its cells: its variables, and each function, where this is declared; without blocks it has no kinds of cells.
pub record KnowsCells (q : Program Cores) (cells : FileCells) : Type 0 where
  pub no_kinds : cells.has_blocks ≡ false → (k : CellKind) → cells.has_kind k ≡ false
  pub globals : AreKnown cells (variables_parts q.facts.globals)
  pub declared : (n : ℕ) (g : Function Cores) → q.functions n ≡ Some g → Declared
  pub functions : (n : ℕ) (g : Function Cores) (is : q.functions n ≡ Some g) → AreKnown cells (function_parts q.facts (declared n g is) (function_of g))

-- each function has a body in the typed file
abbrev pub HaveBodies : u.Typed → Program Cores → Type 0
HaveBodies t q = (n : ℕ) (g : Function Cores) → q.functions n ≡ Some g → (i : ℕ) × (b : u.Body) × (slice_get t.bodies i ≡ Some b) × (b.function ≡ n)

abbrev pub ProgramsKnowCells : Type 0
ProgramsKnowCells =
    (t : u.Typed) (q : Program Cores) → HaveBodies t q → KnowsItsCells t (add_checks q) → KnowsCells q (program_cells t (add_checks q))

module _ (setting : Setting) (q : Program Cores) (cells : FileCells) (texts : Texts) (ds : List Definition) (types : ℕ → CoreType) (name : ℕ → Place → List ℕ) where
  pub record IsTested : Type 0 where
    -- its statements are typed, temporaries are set before they are used, and annotations pass
    pub typed : ProgramIsTyped q
    pub order : AllSetFirst (add_checks q)
    pub passes : AllPass q cells texts ds types
    -- cells that it speaks of are those of the file
    pub known : KnowsCells q cells
    -- formulas are read over the kinds of its data model, and logic functions have the values of their definitions in them
    pub model : (world_of setting).long_bits ≡ long_bits q.facts.model
    pub texts_fit : (n : ℕ) (g : Function Cores) → q.functions n ≡ Some g
        → TextsFit (world_of setting) q.facts (shape_in (function_of g) (all_written (add_checks q) name n)) cells texts
    -- bases of slots are names, and those of slots whose values are given at the start differ
    pub names : (n : ℕ) (g : Function Cores) → q.functions n ≡ Some g
        → AreBases (bases_in (world_of setting) (add_checks q) cells texts n (function_of g) (all_written (add_checks q) name n))
    pub differ : (n : ℕ) (g : Function Cores) → q.functions n ≡ Some g
        → OwnDiffer setting (add_checks q) cells texts (others_in setting (add_checks q) cells texts n (function_of g) (all_written (add_checks q) name n)) n (function_of g)
        (all_written (add_checks q) name n)

abbrev pub TestedProgramsFit : Type 0
TestedProgramsFit =
    (setting : Setting) (q : Program Cores) (cells : FileCells) (texts : Texts) (ds : List Definition) (types : ℕ → CoreType) (name : ℕ → Place → List ℕ)
    → IsTested setting q cells texts ds types name → ProgramFits setting (add_checks q) cells texts (all_written (add_checks q) name)

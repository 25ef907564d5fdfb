-- All that a program speaks of is among its cells.
use Rattle.std.specs.Prelude.{◌≡◌, ℕ, true, [], Some, slice_get}
use Rattle.typed_unit.specs.Unit as u
use Rattle.c_runs.specs.Program.{Function, Program}
use Rattle.c_runs.specs.Tree.{Steps}
use Rattle.acsl_expand.specs.Expansion.{Definition}
use Rattle.program_cells.specs.Parts.{AreKnown}
use Rattle.program_cells.specs.Trees.{tree_parts}
use Rattle.program_cells.specs.Programs.{variables_parts, function_parts, declared_in, declared_alone, program_cells}

pub record KnowsItsCells (t : u.Typed) (q : Program Steps) : Type 0 where
  pub globals : AreKnown (program_cells t q) (variables_parts q.facts.globals)
  pub bodies : (n : ℕ) (b : u.Body) (f : Function Steps) → slice_get t.bodies n ≡ Some b → q.functions b.function ≡ Some f
      → AreKnown (program_cells t q) (function_parts q.facts (declared_in t q b) f)
  pub definitions : (n : ℕ) (d : Definition) → slice_get q.facts.definitions n ≡ Some d → d.is_recursive ≡ true
      → AreKnown (program_cells t q) (tree_parts q.facts [] (declared_alone t q) d.body)

abbrev pub ProgramsKnowTheirCells : Type 0
ProgramsKnowTheirCells = (t : u.Typed) (q : Program Steps) → KnowsItsCells t q

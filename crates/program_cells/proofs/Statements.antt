-- Statements, in the words of the code.
use Rattle.std.proofs.Common.{◌≡◌, ◌++◌, List, [], ◌∷◌, flat_map, refl, sym, ap, subst}
use Rattle.checked_trees.specs.declared.steps.Step.{Step as Code}
use Rattle.checked_trees.specs.View.{view_step, view_steps}
use Rattle.wp_base.specs.declared.kinds.CellKind.{CellKind}
use Rattle.typed_prog.specs.declared.types.CoreType.{CoreType}
use Rattle.typed_prog.specs.declared.operators.Path.{Path}
use Rattle.typed_prog.specs.Tree as t
use Rattle.c_runs.specs.Program.{Variable, Loop, Facts}
use Rattle.c_runs.specs.Objects.{cell_of}
use Rattle.c_runs.specs.Checks.{Check}
use Rattle.c_runs.specs.Tree as core
use Rattle.program_cells.specs.Parts.{Part}
use Rattle.program_cells.specs.Trees.{Declared}
use Rattle.program_cells.specs.Programs.{place_parts, value_parts, values_parts, written_parts, loop_parts, step_parts, steps_parts}
use Rattle.program_cells.specs.declared.cells.Cells.{Cells}
use Rattle.program_cells.specs.View.{Adds}
use Rattle.program_cells.proofs.Adding.{then}

module _ (p : Facts) (xs : List Variable) where
  pub written_added : (type : CoreType) (path : Path) (es : t.Values) (k : CellKind) (a b c : Cells) → k ≡ cell_of type → Adds a b (place_parts p xs path k)
      → Adds b c (values_parts p xs es) → Adds a c (written_parts p xs type path es)
  written_added type path es k a b c is h i =
      then a b c (place_parts p xs path (cell_of type)) (values_parts p xs es) (subst (λ l. Adds a b (place_parts p xs path l)) is h) i

module _ (p : Facts) (xs : List Variable) (d : Declared) where
  pub branch_added : (s : core.Step) (cs : List Check) (e : t.Value) (first second : core.Steps) (a b c d' : Cells) → s ≡ core.branch cs e first second
      → Adds a b (value_parts p xs e) → Adds b c (steps_parts p xs d first) → Adds c d' (steps_parts p xs d second) → Adds a d' (step_parts p xs d s)
  branch_added s cs e first second a b c d' is h i j =
      subst (λ u. Adds a d' (step_parts p xs d u)) (sym is) (then a b d' (value_parts p xs e) (steps_parts p xs d first ++ steps_parts p xs d second) h
      (then b c d' (steps_parts p xs d first) (steps_parts p xs d second) i j))

  pub loop_added : (s : core.Step) (l : Loop) (ss : core.Steps) (a b c : Cells) → s ≡ core.repeat l ss → Adds a b (loop_parts p xs d l)
      → Adds b c (steps_parts p xs d ss) → Adds a c (step_parts p xs d s)
  loop_added s l ss a b c is h i =
      subst (λ u. Adds a c (step_parts p xs d u)) (sym is) (then a b c (loop_parts p xs d l) (steps_parts p xs d ss) h i)

  abbrev pub code_step : Code → List Part
  code_step s = step_parts p xs d (view_step s)

  pub parts_of_steps : (ss : List Code) → steps_parts p xs d (view_steps ss) ≡ flat_map code_step ss
  parts_of_steps [] = refl
  parts_of_steps (s ∷ ss) = ap (λ ps. code_step s ++ ps) (parts_of_steps ss)

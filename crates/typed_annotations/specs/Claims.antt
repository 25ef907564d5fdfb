-- What is asked of the annotations of a function with memory: that they are typed, and that readings give what they need.
use Rattle.std.specs.Prelude.{◌≡◌, Bool, true, [], Some}
use Rattle.typed_prog.specs.declared.operators.Variable as code
use Rattle.wp_base.specs.declared.kinds.CellKind.{CellKind}
use Rattle.acsl_trees.specs.Tree as acsl
use Rattle.acsl_trees.specs.declared.heads.Head.TheVariants as head
use Rattle.c_runs.specs.Truth.{calls_of}
use Rattle.qed_terms.specs.Meaning as sense
use Rattle.c_runs.specs.Program.{Facts}
use Rattle.acsl_encode.specs.Readings.{Reading}
use Rattle.acsl_encode.specs.Binders.{AllLack}
use Rattle.acsl_encode.specs.Calls.{CallsStand}
use Rattle.acsl_well_typed.specs.WellTyped.{an_integer, a_region, Known, what_of}
use Rattle.annotations_encoded.specs.Sights.{Sights, sights_of}
use Rattle.annotations_encoded.specs.Serving.{serves}
use Rattle.memory_words.specs.Shapes.{FileCells, Shape}
use Rattle.memory_words.specs.Readings.{Texts, common_of}
use Rattle.leaf_annotations.specs.Laws.{IsOverLeaves}
use Rattle.memory_statements.specs.Regions.{region}
use Rattle.memory_calls.specs.LoopFits.{content_of}

-- what isn't known of a program without its texts: no name of a binder as it is spelled has a `!`, and logic functions have the values of their definitions
pub record TextsFit (m : sense.World) (p : Facts) (s : Shape) (cells : FileCells) (texts : Texts) : Type 0 where
  pub binders : (a : acsl.Tree) → AllLack (texts.binders a)
  pub calls : (a : acsl.Tree) → CallsStand m.apps (calls_of p.definitions) (common_of p s cells texts a) texts.called

-- a truth or an integer
pub record IsClaim (k : Known) (g : Sights) (a : acsl.Tree) : Type 0 where
  pub typed : what_of k [] a ≡ Some an_integer
  pub serves : serves k g a ≡ true

-- A region names one of these variables, or has cells, in a file with blocks.
pub data IsRegionIn (may : code.Variable → Bool) (k : Known) (g : Sights) (a : acsl.Tree) : Type 0 where
  names : (x : code.Variable) (l : CellKind) → may x ≡ true → a ≡ region (content_of l) (acsl.node (head.Variable x) acsl.stop) → IsRegionIn may k g a
  has_cells : what_of k [] a ≡ Some a_region → serves k g a ≡ true → g.here.has_table ≡ true → IsRegionIn may k g a

-- A reading of an annotation over leaves, that gives this.
pub record Reads (m : sense.World) (p : Facts) (texts : Texts) (g : Sights) (r : acsl.Tree → Reading) (a : acsl.Tree) : Type 0 where
  pub sights : sights_of (r a) ≡ g
  pub over : IsOverLeaves (texts.binders a) (r a)
  pub calls : CallsStand m.apps (calls_of p.definitions) (r a).common (r a).called

-- Annotations that are typed, and given what they need, are what the words of functions with memory ask for.
use Rattle.std.specs.Prelude.{◌≡◌, ℕ, Bool, true, false, List}
use Rattle.typed_prog.specs.declared.types.CoreType.{CoreType}
use Rattle.typed_prog.specs.declared.operators.Variable as code
use Rattle.typed_prog.specs.Tree as t
use Rattle.acsl_trees.specs.Tree as acsl
use Rattle.acsl_names.specs.declared.names.Definition.{Definition}
use Rattle.qed_terms.specs.Meaning as sense
use Rattle.c_runs.specs.Program.{Function, Facts}
use Rattle.c_runs.specs.Tree.{Steps}
use Rattle.acsl_encode.specs.Readings.{Reading}
use Rattle.acsl_well_typed.specs.Definitions.{known_with}
use Rattle.annotations_encoded.specs.Sights.{has_block, Sights}
use Rattle.memory_words.specs.Shapes.{FileCells, Shape}
use Rattle.memory_words.specs.Readings.{InScope, Texts, Standpoint, body_reading, entry_reading, return_reading}
use Rattle.memory_words.specs.Seen.{ClaimFits, MeasureFits}
use Rattle.memory_words.specs.Typed.{is_plain_variable, RegionFits}
use Rattle.memory_calls.specs.LoopFits.{has_level, IsInSight, SetRegion}
use Rattle.memory_calls.specs.Callee.{entered_at, returned_from}
use Rattle.typed_annotations.specs.Sights.{params_of, body_sights, entry_sights, return_sights}
use Rattle.typed_annotations.specs.Claims.{TextsFit, IsClaim, IsRegionIn, Reads}

-- ---- single annotations, by whatever reading

-- They have closed formulas and terms, which mean them.
abbrev pub AnnotationsFit : Type 0
AnnotationsFit =
    (m : sense.World) (p : Facts) (texts : Texts) (ds : List Definition) (result : CoreType) (g : Sights) (r : acsl.Tree → Reading) (a : acsl.Tree)
    → Reads m p texts g r a → IsClaim (known_with true ds result) g a → ClaimFits m p r a × MeasureFits m p r a

-- what is so of the variables of a state that is seen so, and that may be named
pub record IsSeen (p : Facts) (s : Shape) (cells : FileCells) (i : InScope) (may : code.Variable → Bool) (g : Sights) : Type 0 where
  pub blocks : (x : code.Variable) → g.here.site x ≡ has_block → is_plain_variable p s x ≡ false
  pub table : g.here.has_table ≡ cells.has_blocks
  pub plain : (x : code.Variable) → may x ≡ true → is_plain_variable p s x ≡ true
  pub in_sight : (x : code.Variable) → may x ≡ true → IsInSight i x

-- Regions have cells with closed terms, whose ends they are, of a block that pointers may lead to, or name variables.
abbrev pub RegionsFit : Type 0
RegionsFit =
    (m : sense.World) (p : Facts) (s : Shape) (cells : FileCells) (texts : Texts) (ds : List Definition) (result : CoreType) (i : InScope) (may : code.Variable → Bool)
    (g : Sights) (r : acsl.Tree → Reading) (a : acsl.Tree) → Reads m p texts g r a → IsSeen p s cells i may g → IsRegionIn may (known_with true ds result) g a
    → SetRegion m p s cells i r a × RegionFits m p s r a

-- ---- readings

module _ (m : sense.World) (p : Facts) (s : Shape) (cells : FileCells) (texts : Texts) where
  -- those of a function read its annotations, and give what its variables tell
  pub record OwnReadings (a : acsl.Tree) : Type 0 where
    pub body : (sp : Standpoint) → Reads m p texts (body_sights p cells texts s.variables sp.in_scope sp.is_param sp.loop_scope (has_level sp.loop_entry))
        (body_reading p s cells texts sp) a
    pub entry : (level : ℕ) (i : InScope) → Reads m p texts (entry_sights p cells texts s.variables i) (entry_reading p s cells texts level i) a
    pub back : (entry : ℕ) (i : InScope) → Reads m p texts (return_sights p cells texts s.variables i s.result) (return_reading p s cells texts entry i) a

  -- and so do those of a function that is called, by whatever terms of its arguments
  pub record CalleeReadings (g : Function Steps) (es : t.Values) (a : acsl.Tree) : Type 0 where
    pub entered : (level : ℕ) → Reads m p texts (entry_sights p cells texts g.variables (params_of g)) (entered_at p s cells texts g es level) a
    pub returned : Reads m p texts (return_sights p cells texts g.variables (params_of g) g.result) (returned_from p s cells texts g es) a

abbrev pub FunctionsRead : Type 0
FunctionsRead =
    (m : sense.World) (p : Facts) (s : Shape) (cells : FileCells) (texts : Texts) → TextsFit m p s cells texts → (a : acsl.Tree) → OwnReadings m p s cells texts a

abbrev pub CalleesRead : Type 0
CalleesRead =
    (m : sense.World) (p : Facts) (s : Shape) (cells : FileCells) (texts : Texts) → TextsFit m p s cells texts → (g : Function Steps) (es : t.Values) (a : acsl.Tree)
    → CalleeReadings m p s cells texts g es a

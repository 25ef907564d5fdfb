-- Expressions, places and variables of a core function with memory: what the laws on words ask of them comes from their typing, where all that they speak of is
-- known.
use Rattle.std.specs.Prelude.{◌≡◌, ℕ, Bool, true, List}
use Rattle.std.specs.List.{list_all}
use Rattle.wp_base.specs.declared.kinds.CellKind.{CellKind}
use Rattle.typed_prog.specs.declared.types.CoreType.{CoreType}
use Rattle.typed_prog.specs.declared.operators.Path.{Path}
use Rattle.typed_prog.specs.Tree as t
use Rattle.c_runs.specs.Program.{Facts}
use Rattle.value_terms.specs.Readings.{Term}
use Rattle.value_terms.specs.Typed.{AreTyped}
use Rattle.c_runs.specs.Adding.{place_checks}
use Rattle.program_steps.specs.Temporaries.{Temporaries, uses, some_use}
use Rattle.typed_runs.specs.Fitting as typed
use Rattle.typed_normal.specs.Typed.{all_temporaries, core_scope, IsOfKind, IsStored}
use Rattle.memory_words.specs.Shapes.{FileCells, Shape}
use Rattle.memory_words.specs.Readings.{InScope}
use Rattle.memory_words.specs.Seen.{is_closed_term, ValueFits}
use Rattle.memory_words.specs.Typed.{ValuesFit, LeadsTo, StoreFits, Declares, Takes}
use Rattle.program_cells.specs.Parts.{AreKnown}
use Rattle.program_cells.specs.Programs.{value_parts, values_parts, written_parts, variables_parts}
use Rattle.temporary_kinds.specs.Kinds.{value_kind, values_kind}
use Rattle.memory_fitting.specs.Expressions.{typed_shape, Agrees, Among}

-- of a function, whose typing knows so many temporaries, of these kinds, and these cells
module _ (p : Facts) (s : Shape) (n : ℕ) (k : ℕ → CellKind) (b : Bool) (h : CellKind → Bool) (cells : FileCells) (i : InScope) where
  abbrev pub own_shape : typed.Shape
  own_shape = typed_shape s n k b h

  pub record ExpressionsFit : Type 0 where
    pub value : (f : Temporaries) (e : t.Value) (l : CellKind) → IsOfKind p own_shape i e l → AreKnown cells (value_parts p s.variables e) → Agrees s k (value_kind e)
        → Among (uses e) f → ValueFits p s cells i f e l
    pub operands : (f : Temporaries) (es : t.Values) → AreTyped p s.variables (core_scope p own_shape i) es → AreKnown cells (values_parts p s.variables es)
        → Agrees s k (values_kind es) → Among (some_use es) f → ValuesFit p s cells i f es
    -- a way, by whatever closed terms of its operands
    pub way : (f : Temporaries) (type : CoreType) (path : Path) (es : t.Values) (ts : List Term) → typed.LeadsTo p own_shape i all_temporaries type path
        → AreKnown cells (written_parts p s.variables type path es) → list_all is_closed_term ts ≡ true → LeadsTo p s cells i f type path ts
    pub stored : (f : Temporaries) (type : CoreType) (path : Path) (es : t.Values) → IsStored p own_shape i type path es → AreKnown cells (written_parts p s.variables type path es)
        → Agrees s k (values_kind es) → Among (some_use es) f → StoreFits p s cells i f (place_checks s.variables path es) type path es

  -- variables of the function that are declared, and those that are declared with a value
  pub record VariablesFit : Type 0 where
    pub declared : (low : ℕ) (ys : List ℕ) → typed.Declares p own_shape i low ys → Declares s cells i ys
    pub takes : (low x : ℕ) (l : CellKind) → typed.Takes p own_shape i low x l → Takes s cells i x l

abbrev pub TypedExpressionsFit : Type 0
TypedExpressionsFit =
    (p : Facts) (s : Shape) (n : ℕ) (k : ℕ → CellKind) (b : Bool) (h : CellKind → Bool) (cells : FileCells) (i : InScope) → ExpressionsFit p s n k b h cells i

abbrev pub TypedVariablesFit : Type 0
TypedVariablesFit =
    (p : Facts) (s : Shape) (n : ℕ) (k : ℕ → CellKind) (b : Bool) (h : CellKind → Bool) (cells : FileCells) (i : InScope)
    → AreKnown cells (variables_parts s.variables) → VariablesFit p s n k b h cells i

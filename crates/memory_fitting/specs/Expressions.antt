-- Expressions of a core function with memory: typed where no more cells are known than those of the file, and each temporary has the kind that is told of it.
use Rattle.std.specs.Prelude.{◌≡◌, ◌<◌, ℕ, Bool, true, Option, Some}
use Rattle.wp_base.specs.declared.kinds.CellKind.{CellKind}
use Rattle.typed_prog.specs.Tree as t
use Rattle.c_runs.specs.Program.{Facts}
use Rattle.value_terms.specs.Typed.{IsTyped, AreTyped}
use Rattle.program_steps.specs.Temporaries.{Temporaries, uses, some_use}
use Rattle.typed_runs.specs.Fitting as typed
use Rattle.typed_normal.specs.Typed.{core_scope}
use Rattle.memory_words.specs.Shapes.{FileCells, Shape}
use Rattle.memory_words.specs.Readings.{InScope}
use Rattle.memory_words.specs.Seen.{scope_at}
use Rattle.program_cells.specs.Parts.{AreKnown}
use Rattle.program_cells.specs.Programs.{value_parts, values_parts}
use Rattle.temporary_kinds.specs.Kinds.{value_kind, values_kind}

-- The function as its typing knows it: with kinds of its temporaries and cells of its own.
abbrev pub typed_shape : Shape → (temporaries : ℕ) (temp_kind : ℕ → CellKind) (has_blocks : Bool) (has_kind : CellKind → Bool) → typed.Shape
typed_shape s n k b h =
    record { variables = s.variables; temporaries = n; temp_kind = k; result = s.result; has_blocks = b; has_kind = h }

-- Temporaries of which something is told are those of the function, with the kinds that its typing knows.
abbrev pub Agrees : Shape → (temp_kind : ℕ → CellKind) → (told : (number : ℕ) → Option CellKind) → Type 0
Agrees s k told = (n : ℕ) (l : CellKind) → told n ≡ Some l → (s.temp_kind n ≡ k n) × (n < s.temporaries)

abbrev pub Among : (used all : Temporaries) → Type 0
Among f g = (n : ℕ) → f n ≡ true → g n ≡ true

abbrev pub ExpressionsStayTyped : Type 0
ExpressionsStayTyped =
    (p : Facts) (s : Shape) (n : ℕ) (k : ℕ → CellKind) (b : Bool) (h : CellKind → Bool) (cells : FileCells) (i : InScope) (f : Temporaries) (e : t.Value)
    → IsTyped p s.variables (core_scope p (typed_shape s n k b h) i) e → AreKnown cells (value_parts p s.variables e) → Agrees s k (value_kind e) → Among (uses e) f
    → IsTyped p s.variables (scope_at s cells i f) e

abbrev pub OperandsStayTyped : Type 0
OperandsStayTyped =
    (p : Facts) (s : Shape) (n : ℕ) (k : ℕ → CellKind) (b : Bool) (h : CellKind → Bool) (cells : FileCells) (i : InScope) (f : Temporaries) (es : t.Values)
    → AreTyped p s.variables (core_scope p (typed_shape s n k b h) i) es → AreKnown cells (values_parts p s.variables es) → Agrees s k (values_kind es) → Among (some_use es) f
    → AreTyped p s.variables (scope_at s cells i f) es

-- The modular law for programs with blocks and pointers.
use Rattle.std.specs.Prelude.{◌≡◌, ℕ, Bool, true, ℤ, pos, List, length, Some}
use Rattle.wp_base.specs.declared.kinds.CellKind.{CellKind}
use Rattle.c_runs.specs.TruthStates.{Value, Span, region, one_address, span_of}
use Rattle.acsl_encode.specs.Meaning.{IsStretch}
use Rattle.c_runs.specs.Program.{Stmts, Function, Program}
use Rattle.c_runs.specs.States.{Memory}
use Rattle.c_runs.specs.Entry.{Enters}
use Rattle.c_runs.specs.Run as spelled
use Rattle.c_runs.specs.CheckedTold.{normal}
use Rattle.c_runs.specs.Adding.{add_checks}
use Rattle.c_runs.specs.Tree.{Steps}
use Rattle.c_runs.specs.CheckedRun.{run_function}
use Rattle.goal_segments.specs.Sets.{first_cell, last_end}
use Rattle.goal_segments.specs.Laws.{IsClosed, NoneFails, GoesWell}
use Rattle.typed_runs.specs.Fitting.{FitsProgram}
use Rattle.typed_runs.specs.Examples.{small}
use Rattle.typed_modular.specs.Solid.{IsSolid, SetsFit}

-- Regions without gaps: a stretch between the ends of its span, elements that are as long as their cells, and one object.
pub record RegionsAreSolid : Type 0 where
  pub stretches : (ks : List CellKind) (v : Value) → IsStretch ks (span_of v).block (first_cell v) (last_end v) v → IsSolid v
  pub ranges : (ks : List CellKind) (s : Span) → s.size ≡ pos (length ks) → IsSolid (region ks s)
  pub objects : (ks : List CellKind) (b o : ℤ) → IsSolid (region ks (one_address b o))

-- Where no segment run of a function, and of those that it reaches, goes wrong, no run of it does, however often its loops turn and however deep its calls are.
abbrev pub Modular : Type 0
Modular =
    (q : Program Steps) (fits : FitsProgram q) → SetsFit q fits → (reached : ℕ → Bool) → IsClosed q reached → NoneFails q reached
    → (n : ℕ) (f : Function Steps) → reached n ≡ true → q.functions n ≡ Some f → (vs : List Value) (m : Memory) → Enters q f vs m
    → (turns : ℕ) (contents : List Value) → GoesWell (run_function q n vs m turns contents)

-- The same of a program as it is spelled, whose core program with its checks fits.
abbrev pub ModularAsSpelled : Type 0
ModularAsSpelled =
    (p : Program Stmts) (fits : FitsProgram (add_checks (normal p))) → SetsFit (add_checks (normal p)) fits → (reached : ℕ → Bool) → IsClosed (add_checks (normal p)) reached
    → NoneFails (add_checks (normal p)) reached
    → (n : ℕ) (f : Function Stmts) → reached n ≡ true → p.functions n ≡ Some f → (vs : List Value) (m : Memory) → Enters p f vs m
    → (turns : ℕ) (contents : List Value) → GoesWell (spelled.run_function p n vs m turns contents)

-- What is asked of sets can be met.
abbrev pub SmallSetsFit : Type 0
SmallSetsFit = (fits : FitsProgram small) → SetsFit small fits

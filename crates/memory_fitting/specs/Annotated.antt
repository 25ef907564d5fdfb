-- Statements of a function with memory, whose annotations are what the laws on words ask for where they stand.
use Rattle.std.specs.Prelude.{◌≡◌, ◌<◌, ℕ, true, false, length, Option, Some}
use Rattle.wp_base.specs.declared.kinds.Kind.{Kind}
use Rattle.wp_base.specs.declared.kinds.CellKind.{CellKind}
use Rattle.wp_base.specs.declared.kinds.CellKind.TheVariants as cell
use Rattle.typed_prog.specs.declared.operators.Variable.TheVariants as variables
use Rattle.typed_prog.specs.Tree as t
use Rattle.qed_terms.specs.Meaning as sense
use Rattle.c_runs.specs.Program.{Contract, Loop, Function, Facts}
use Rattle.c_runs.specs.Tree as core
use Rattle.c_runs.specs.Tree.{Goal, Steps}
use Rattle.program_steps.specs.Temporaries.{Temporaries, no_temporaries, all_live}
use Rattle.memory_words.specs.Shapes.{FileCells, Shape, is_pointer_cell}
use Rattle.memory_words.specs.Readings.{Texts, body_reading}
use Rattle.memory_words.specs.Seen.{ClaimFits}
use Rattle.memory_words.specs.Points.{Point, in_block, uses_of}
use Rattle.memory_words.specs.Words.{has_home, in_scope_of, in_pass}
use Rattle.memory_words.specs.Typed.{OtherFits}
use Rattle.memory_calls.specs.LoopSets.{in_force, variable_changes}
use Rattle.memory_calls.specs.LoopFits.{LoopFits}
use Rattle.memory_calls.specs.CallFits.{CalleeFits, CallFits}
use Rattle.typed_annotations.specs.Behaviors.{LoopAnnotationsFit}
use Rattle.program_cells.specs.Parts.{AreKnown}
use Rattle.program_cells.specs.Programs.{is_plain_root, given_parts}

-- what is asked of loops and calls
abbrev pub fits_of : sense.World → Facts → Shape → FileCells → Texts → Contract → (ℕ → Option (Function Steps)) → OtherFits
fits_of m p s cells texts contract functions = record {
  loop_fits = LoopFits m p s cells texts contract;
  call_fits = CallFits m p s cells texts contract functions;
}

-- a variable that no pointer leads to has no operands
abbrev pub HasNoWay : Facts → Shape → Goal → Type 0
HasNoWay p s (core.place cs type l path es) = is_plain_root p s.variables path.root ≡ true → es ≡ t.stop
HasNoWay p s to = Unit {0}

module _ (m : sense.World) (p : Facts) (s : Shape) (cells : FileCells) (texts : Texts) (contract : Contract) where
  -- the variables that its turns may change are in scope
  abbrev pub IsScoped : Point → Loop → Steps → Type 0
  IsScoped pt l ss = (x : ℕ) → variable_changes (in_force contract pt l) l ss (variables.Local x) ≡ true → pt.stands.in_scope x ≡ true

  -- behind which these temporaries are used; exits lead out of blocks that stand around
  abbrev mutual
    pub Annotated : Point → (after : Temporaries) → core.Step → Type 0
    Annotated pt f (core.set cs n e) = Unit {0}
    Annotated pt f (core.store cs type l path es) = Unit {0}
    Annotated pt f (core.start cs x e) = Unit {0}
    Annotated pt f (core.call cs to n l es) = HasNoWay p s to
    Annotated pt f (core.branch cs e a b) = AllAnnotated pt f a × AllAnnotated pt f b
    Annotated pt f (core.repeat l ss) = LoopAnnotationsFit m p s cells texts pt l × IsScoped pt l ss × AllAnnotated (in_pass l pt) no_temporaries ss
    Annotated pt f (core.around ss) = AllAnnotated (in_block f pt) f ss
    Annotated pt f (core.exit k) = k < length pt.outs
    Annotated pt f (core.give cs e) = Unit {0}
    Annotated pt f (core.claim c) = ClaimFits m p (body_reading p s cells texts pt.stands) c.what
    Annotated pt f (core.scope ys ss) = AllAnnotated (in_scope_of s cells (has_home s.variables ys) pt ys) f ss

    pub AllAnnotated : Point → (after : Temporaries) → Steps → Type 0
    AllAnnotated pt f core.end = Unit {0}
    AllAnnotated pt f (core.then_ a ss) = Annotated pt (all_live ss (uses_of pt.outs) f) a × AllAnnotated pt f ss

-- Functions that are called: their contracts are what a call asks for, and what they give is known.
pub record CalleesAre (m : sense.World) (p : Facts) (s : Shape) (cells : FileCells) (texts : Texts) (functions : ℕ → Option (Function Steps)) : Type 0 where
  pub fit : (n : ℕ) (g : Function Steps) → functions n ≡ Some g → (es : t.Values) → CalleeFits m p s cells texts g es
  pub results : (n : ℕ) (g : Function Steps) → functions n ≡ Some g → AreKnown cells (given_parts g.result)

-- a temporary that holds a number by the typing holds no pointer
abbrev pub NumbersAre : Shape → (temp_kind : ℕ → CellKind) → Type 0
NumbersAre s k = (n : ℕ) (l : Kind) → k n ≡ cell.Of l → is_pointer_cell (s.temp_kind n) ≡ false

-- so many temporaries are those of the function
abbrev pub AreThere : Shape → (count : ℕ) → Type 0
AreThere s c = (n : ℕ) → n < c → n < s.temporaries

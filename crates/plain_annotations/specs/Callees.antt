-- Contracts of functions that are called (ACSL 2.3.1): the variables of the file stand for their slots in states of the caller, and each parameter for the
-- term of its argument.
use Rattle.std.specs.Prelude.{◌≡◌, ℕ, ℤ, pos, negsuc, Bool, true, List, [], Some, None, slice_get}
use Rattle.c_kinds.specs.Models.{holds as holds_value}
use Rattle.typed_prog.specs.declared.operators.Variable.TheVariants as variables
use Rattle.acsl_trees.specs.Tree as acsl
use Rattle.c_runs.specs.TruthStates.{number}
use Rattle.c_runs.specs.TruthStates as labelled
use Rattle.qed_terms.specs.Tree.{Tree}
use Rattle.qed_terms.specs.Meaning as sense
use Rattle.qed_terms.specs.Meaning.{Values, value, truth}
use Rattle.c_runs.specs.Program as program
use Rattle.c_runs.specs.Program.{Facts}
use Rattle.c_runs.specs.States.{hidden}
use Rattle.c_runs.specs.Claims.{holds, number_at, struct_cells}
use Rattle.plain_states.specs.Slots.{State, at, value_slot}
use Rattle.plain_states.specs.Scopes.{kind_of}
use Rattle.program_steps.specs.Told.{Shape}
use Rattle.acsl_encode.specs.Readings.{Terms, whole, absent, Seen, Reading}
use Rattle.acsl_encode.specs.Encode.{formula_of, term_of}
use Rattle.acsl_encode.specs.Meaning.{Means}
use Rattle.acsl_encode.specs.WellFormed.{IsInt, TermsFit}
use Rattle.acsl_encode.specs.Binders.{IsUnmarked}
use Rattle.acsl_encode.specs.Laws.{TermsUnmarked}
use Rattle.walk_steps.specs.State.{at_or}
use Rattle.program_steps.specs.Leaves.{leaves_of}
use Rattle.program_steps.specs.Terms.{Texts, global_slot, common_of}
use Rattle.program_steps.specs.Placed.{InSetting}
use Rattle.plain_annotations.specs.Views.{IsInteger, IsClosed, TermsAreClosed}
use Rattle.plain_annotations.specs.Places.{TextsFit}
use Rattle.plain_annotations.specs.Claims.{is_claim}

-- ---- readings

-- a closed term for an integer without names of binders
pub record IsOpen (t : Tree) : Type 0 where
  pub closed : IsClosed t
  pub int : IsInt t
  pub unmarked : IsUnmarked t

-- the function's variables are these, of which the first ones have arguments
module _ (p : Facts) (s : Shape) (own : List program.Variable) where
  -- the variables of the file are read in the state of this level
  pub record IsView (level : ℕ) (args : ℕ → Tree) (seen : Seen) : Type 0 where
    pub globals : (x : ℕ) → seen.variable (variables.Global x) ≡ global_slot p s level x (slice_get p.globals x)
    pub params : (x : ℕ) (v : program.Variable) → slice_get own x ≡ Some v → seen.variable (variables.Local x) ≡ whole (kind_of v) (args x)
    pub others : (x : ℕ) → slice_get own x ≡ None → seen.variable (variables.Local x) ≡ absent
    pub table : seen.table ≡ None
    pub numbers : (k : _) → seen.numbers k ≡ None
    pub pointers : seen.pointers ≡ None

  -- the slots of the file's variables are those of this state; each of the function's variables has a number
  pub record Sees (q : labelled.State) (file : State) (numbers : ℕ → ℤ) : Type 0 where
    pub file_homes : (x : ℕ) (v : program.Variable) → slice_get p.globals x ≡ Some v → q.home (variables.Global x) ≡ negsuc x
    pub globals : (x : ℕ) (v : program.Variable) → slice_get p.globals x ≡ Some v → q.cells (negsuc x) (pos 0) ≡ number (at file (value_slot x))
    pub file_fits : (x : ℕ) (v : program.Variable) → slice_get p.globals x ≡ Some v → holds_value p.model (kind_of v) (at file (value_slot x)) ≡ true
    pub homes : (x : ℕ) (v : program.Variable) → slice_get own x ≡ Some v → q.home (variables.Local x) ≡ hidden p x
    pub locals : (x : ℕ) (v : program.Variable) → slice_get own x ≡ Some v → q.cells (hidden p x) (pos 0) ≡ number (numbers x)
    pub fits : (x : ℕ) (v : program.Variable) → slice_get own x ≡ Some v → holds_value p.model (kind_of v) (numbers x) ≡ true

  module _ (texts : Texts) where
    -- one state for `Here` and `Post`, and one for the entry
    abbrev pub reading_over : (here entry : Seen) → (result : Terms) → acsl.Tree → Reading
    reading_over h e result a =
        record { here = h; pre = e; post = h; loop_entry = e; result = result; common = common_of p s texts a; called = texts.called }

    -- What stands for `\result`, and is there where it may be named; another one is given for where it isn't.
    pub record IsResult (named : Bool) (given result : Terms) : Type 0 where
      pub integer : named ≡ true → IsInteger result
      pub same : named ≡ true → result ≡ given
      pub closed : TermsAreClosed [] result
      pub fits : TermsFit result
      pub unmarked : TermsUnmarked result
      pub given_fits : TermsFit given
      pub given_unmarked : TermsUnmarked given

-- ---- the law

module _ (m : sense.World) (p : Facts) (s : Shape) (own : List program.Variable) (texts : Texts) (here entry : ℕ) (args : ℕ → Tree) (given : Terms) (a : acsl.Tree) where
  -- how a world sees the states of these levels
  pub record SeesCall (w : labelled.World) (sts : List State) : Type 0 where
    pub here_is : Sees p s own w.here (at_or [] sts here) (λ x. value m (leaves_of sts) (args x))
    pub pre_is : Sees p s own w.pre (at_or [] sts entry) (λ x. value m (leaves_of sts) (args x))
    pub post_is : Sees p s own w.post (at_or [] sts here) (λ x. value m (leaves_of sts) (args x))
    pub loop_entry_is : Sees p s own w.loop_entry (at_or [] sts entry) (λ x. value m (leaves_of sts) (args x))
    pub result : Means m (common_of p s texts a) (leaves_of sts) given w.result
    pub model : p.model ≡ w.model
    pub structs : (n : ℕ) → struct_cells p n ≡ w.structs n

  pub record CalleeClaim (r : Reading) : Type 0 where
    pub formula : Tree
    pub is : formula_of r a ≡ Some formula
    pub closed : IsClosed formula
    pub means : (w : labelled.World) (sts : List State) → SeesCall w sts → truth m (leaves_of sts) formula ≡ holds p w a

  pub record CalleeMeasure (r : Reading) : Type 0 where
    pub term : Tree
    pub is : term_of r a ≡ Some term
    pub closed : IsClosed term
    pub means : (w : labelled.World) (sts : List State) → SeesCall w sts → value m (leaves_of sts) term ≡ number_at p w a

-- Annotations that pass the tests of the function's own contract have closed formulas and terms for its callers too.
abbrev pub CalleesFit : Type 0
CalleesFit =
    (m : sense.World) (p : Facts) (s : Shape) (own : List program.Variable) (texts : Texts) → InSetting m p s → TextsFit m p s texts
    → (here entry : ℕ) (args : ℕ → Tree) → ((x : ℕ) → IsOpen (args x)) → (seen before : Seen) → IsView p s own here args seen → IsView p s own entry args before
    → (named : Bool) (given result : Terms) → IsResult p s own texts named given result → (a : acsl.Tree) → is_claim p texts own named a ≡ true
    → CalleeClaim m p s own texts here entry args given a (reading_over p s own texts seen before result a)
    × CalleeMeasure m p s own texts here entry args given a (reading_over p s own texts seen before result a)

-- What is asked of the statements of a function over plain integers, so that their words do what they do: typed expressions with their own checks, variables in
-- scope, and annotations that have formulas. What is asked of loops and calls is a parameter, as their words are.
use Rattle.std.specs.Prelude.{◌≡◌, ◌<◌, ℕ, nat_lt, Bool, true, false, ◌&&◌, if◌then◌else◌, List, [], ◌∷◌, length, Option, Some, None, slice_get}
use Rattle.std.specs.List.{list_all}
use Rattle.wp_base.specs.declared.kinds.CellKind.{CellKind}
use Rattle.wp_base.specs.declared.kinds.CellKind.TheVariants as cell
use Rattle.wp_base.specs.declared.kinds.Kind.{Kind}
use Rattle.typed_prog.specs.Tree as t
use Rattle.acsl_trees.specs.Tree as acsl
use Rattle.c_runs.specs.TruthStates as labelled
use Rattle.qed_terms.specs.Meaning as sense
use Rattle.qed_terms.specs.Meaning.{truth, value}
use Rattle.qed_terms.specs.Tree.{Tree}
use Rattle.c_runs.specs.Program.{Variable, Loop, Facts}
use Rattle.c_runs.specs.Claims.{holds, number_at}
use Rattle.c_runs.specs.Checks.{Check, checks_of, all_checks}
use Rattle.c_runs.specs.Tree as core
use Rattle.c_runs.specs.Tree.{Goal}
use Rattle.plain_states.specs.Slots.{State}
use Rattle.plain_states.specs.Scopes.{kind_of}
use Rattle.goal_segments.specs.Told.{Shape, LeadsTo, with_name, with_names}
use Rattle.value_terms.specs.Readings.{number_term, condition}
use Rattle.value_terms.specs.Terms.{term_of}
use Rattle.value_terms.specs.Words.{Item, formula_of, word_of}
use Rattle.value_terms.specs.Typed.{Scope, kind_given, IsTyped}
use Rattle.acsl_encode.specs.Encode as encode
use Rattle.program_steps.specs.Leaves.{is_closed, leaves_of}
use Rattle.program_steps.specs.Temporaries.{Temporaries, no_temporaries, live, all_live}
use Rattle.program_steps.specs.Terms.{Texts, reading, body_reading}
use Rattle.program_steps.specs.Standing.{SeenBy}

-- ---- expressions

abbrev pub temporary_kind : Shape → Temporaries → ℕ → Option CellKind
temporary_kind s f n = if nat_lt n s.temporaries && f n then Some (cell.Of (s.temp_kind n)) else None

-- where these temporaries are used
abbrev pub scope_at : Shape → Temporaries → Scope
scope_at s f = record { has_blocks = false; has_kind = λ k. false; is_declared = λ x. true; temporaries = temporary_kind s f }

abbrev pub is_closed_item : Item → Bool
is_closed_item i = is_closed [] (formula_of i)

-- an expression of the kind, whose terms and formulas are closed
pub record ValueFits (p : Facts) (s : Shape) (f : Temporaries) (e : t.Value) (k : Kind) : Type 0 where
  pub typed : IsTyped p s.variables (scope_at s f) e
  pub kind : kind_given (t.type_of e) ≡ cell.Of k
  pub items : list_all is_closed_item (word_of p s.variables (reading p s) e) ≡ true
  pub term : is_closed [] (number_term (term_of p s.variables (reading p s) e)) ≡ true
  pub condition : is_closed [] (condition (term_of p s.variables (reading p s) e)) ≡ true

-- ---- annotations

-- It has a formula, which is closed and means it where the variables that were set hold values of their kinds. One that is never set may hold any integer; what
-- stands for it has no kind.
pub record ClaimFits (m : sense.World) (p : Facts) (s : Shape) (texts : Texts) (a : acsl.Tree) (here entry loop_entry : ℕ) : Type 0 where
  pub formula : Tree
  pub is : encode.formula_of (body_reading p s texts here entry loop_entry a) a ≡ Some formula
  pub closed : is_closed [] formula ≡ true
  pub means : (w : labelled.World) (sts : List State) → SeenBy p s w sts here entry loop_entry → truth m (leaves_of sts) formula ≡ holds p w a

-- A measure has a closed term, which means it where the variables are so.
pub record MeasureFits (m : sense.World) (p : Facts) (s : Shape) (texts : Texts) (a : acsl.Tree) (here entry loop_entry : ℕ) : Type 0 where
  pub term : Tree
  pub is : encode.term_of (body_reading p s texts here entry loop_entry a) a ≡ Some term
  pub closed : is_closed [] term ≡ true
  pub means : (w : labelled.World) (sts : List State) → SeenBy p s w sts here entry loop_entry → value m (leaves_of sts) term ≡ number_at p w a

-- ---- statements

module _ (s : Shape) where
  -- a variable of the function that is declared with a value
  abbrev pub Takes : (in_scope : ℕ → Bool) → (x : ℕ) → Kind → Type 0
  Takes f x k = (v : Variable) × (slice_get s.variables x ≡ Some v) × (kind_of v ≡ k) × (f x ≡ true)

  -- a block declares variables that aren't in scope yet, each once
  abbrev pub Declares : (in_scope : ℕ → Bool) → List ℕ → Type 0
  Declares f [] = Unit {0}
  Declares f (y ∷ ys) = (f y ≡ false) × (y < length s.variables) × Declares (with_name y f) ys

-- What is asked of a loop, where these variables are in scope and these temporaries are used behind the blocks around; and of a call, behind which these are.
pub record OtherFits : Type 1 where
  pub loop_fits : (in_scope : ℕ → Bool) (outs : List Temporaries) → Loop → core.Steps → Type 0
  pub call_fits : (in_scope : ℕ → Bool) (outs : List Temporaries) (after : Temporaries) → List Check → Goal → (function line : ℕ) → t.Values → Type 0

module _ (m : sense.World) (p : Facts) (s : Shape) (texts : Texts) (fits : OtherFits) where
  abbrev mutual
    pub WordFits : (in_scope : ℕ → Bool) → (outs : List Temporaries) → (after : Temporaries) → core.Step → Type 0
    WordFits i os f (core.set cs n e) =
        (n < s.temporaries) × ValueFits p s (live (core.set cs n e) os f) e (s.temp_kind n) × (cs ≡ checks_of s.variables e)
    WordFits i os f (core.store cs type l path (t.more e t.stop)) =
        (k : Kind) × LeadsTo p s i path k × ValueFits p s (live (core.store cs type l path (t.more e t.stop)) os f) e k × (cs ≡ all_checks s.variables (t.more e t.stop))
    WordFits i os f (core.store cs type l path es) = ⊥
    WordFits i os f (core.start cs x e) =
        (k : Kind) × Takes s i x k × ValueFits p s (live (core.start cs x e) os f) e k × (cs ≡ checks_of s.variables e)
    WordFits i os f (core.call cs to n l es) = fits.call_fits i os f cs to n l es
    WordFits i os f (core.branch cs e a b) =
        (k : Kind) × ValueFits p s (live (core.branch cs e a b) os f) e k × (cs ≡ checks_of s.variables e) × AllFit i os f a × AllFit i os f b
    WordFits i os f (core.repeat l ss) = fits.loop_fits i os l ss × AllFit i os no_temporaries ss
    WordFits i os f (core.around ss) = AllFit i (f ∷ os) f ss
    WordFits i os f (core.exit k) = k < length os
    WordFits i os f (core.give cs None) = s.result ≡ None
    WordFits i os f (core.give cs (Some e)) =
        (k : Kind) × (s.result ≡ Some (cell.Of k)) × ValueFits p s (live (core.give cs (Some e)) os f) e k × (cs ≡ checks_of s.variables e)
    WordFits i os f (core.claim c) = (here entry loop_entry : ℕ) → ClaimFits m p s texts c.what here entry loop_entry
    WordFits i os f (core.scope ys ss) = Declares s i ys × AllFit (with_names ys i) os f ss

    pub AllFit : (in_scope : ℕ → Bool) → (outs : List Temporaries) → (after : Temporaries) → core.Steps → Type 0
    AllFit i os f core.end = Unit {0}
    AllFit i os f (core.then_ a ss) = WordFits i os (all_live ss os f) a × AllFit i os f ss

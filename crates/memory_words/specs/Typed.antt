-- What is asked of the statements of a function with memory, so that their words do what they do: typed expressions with their own checks, variables in scope,
-- and annotations that have formulas. What is asked of loops and calls is a parameter, as their words are.
use Rattle.std.specs.Prelude.{◌≡◌, ◌<◌, ℕ, Bool, true, false, List, [], ◌∷◌, ◌++◌, length, Option, Some, None, slice_get}
use Rattle.std.specs.List.{list_all}
use Rattle.wp_base.specs.declared.kinds.CellKind.{CellKind}
use Rattle.wp_base.specs.Blocks.{cells_of}
use Rattle.typed_prog.specs.declared.types.CoreType.{CoreType}
use Rattle.typed_prog.specs.declared.operators.Path.{Path}
use Rattle.typed_prog.specs.declared.operators.Root.TheVariants as root
use Rattle.typed_prog.specs.declared.operators.Variable as declared
use Rattle.typed_prog.specs.declared.operators.Variable.TheVariants as variable
use Rattle.typed_prog.specs.Tree as t
use Rattle.acsl_trees.specs.Tree as acsl
use Rattle.acsl_trees.specs.declared.heads.Content.{Content}
use Rattle.acsl_trees.specs.declared.heads.Content.TheVariants as content
use Rattle.acsl_trees.specs.declared.heads.Head.TheVariants as head
use Rattle.c_runs.specs.TruthStates as labelled
use Rattle.acsl_encode.specs.Readings as annotation
use Rattle.acsl_encode.specs.Meaning.{HasAddress, Stands}
use Rattle.qed_terms.specs.Meaning as sense
use Rattle.qed_terms.specs.Meaning.{value}
use Rattle.c_runs.specs.Program.{Variable, Loop, Facts}
use Rattle.c_runs.specs.Operators.{access}
use Rattle.c_runs.specs.Objects.{is_plain_in, plain_root, cell_of, is_pointed}
use Rattle.c_runs.specs.Checks.{Check, checks_of, all_checks, index_checks, one_if}
use Rattle.c_runs.specs.Tree as core
use Rattle.c_runs.specs.Tree.{Goal}
use Rattle.goal_segments.specs.Told.{with_name, with_names}
use Rattle.value_terms.specs.Readings.{Term, plain_global}
use Rattle.value_terms.specs.Terms.{terms_of, address_term}
use Rattle.value_terms.specs.Words.{words}
use Rattle.value_terms.specs.Places.{way_items}
use Rattle.value_terms.specs.Typed.{AreTyped, operand_kind, ObjectIsTyped}
use Rattle.program_steps.specs.Temporaries.{Temporaries, no_temporaries, live, all_live}
use Rattle.memory_steps.specs.State.{State}
use Rattle.memory_words.specs.Leaves.{leaves_of}
use Rattle.memory_words.specs.Shapes.{FileCells, Shape, kind_of}
use Rattle.memory_words.specs.Readings.{InScope, Texts, reading, body_reading}
use Rattle.memory_words.specs.Seen.{scope_at, is_closed_item, is_closed_term, ValueFits, ClaimFits, CellsFit}
use Rattle.memory_words.specs.Points.{Point, in_block, uses_of}
use Rattle.memory_words.specs.Words.{has_cell_of, has_home, in_scope_of, in_pass, rest_of}

abbrev pub AllOf : {X : Type 0} → (X → Type 0) → List X → Type 0
AllOf f [] = Unit {0}
AllOf f (x ∷ xs) = f x × AllOf f xs

-- ---- objects

module _ (p : Facts) (s : Shape) (cells : FileCells) (i : InScope) (f : Temporaries) where
  -- operands one after the other, whose terms and formulas are closed
  pub record ValuesFit (es : t.Values) : Type 0 where
    pub typed : AreTyped p s.variables (scope_at s cells i f) es
    pub items : list_all is_closed_item (words p s.variables (reading p s cells) es) ≡ true
    pub terms : list_all is_closed_term (terms_of p s.variables (reading p s cells) es) ≡ true

  -- The way leads to a variable that no pointer leads to, which is in scope, or to a cell.
  pub data LeadsTo (type : CoreType) (path : Path) (ts : List Term) : Type 0 where
    to_local : (x : ℕ) (v : Variable) → path.root ≡ root.Variable (variable.Local x) → path.steps ≡ [] → slice_get s.variables x ≡ Some v → v.is_plain ≡ true
        → kind_of v ≡ cell_of type → i x ≡ true → LeadsTo type path ts
    to_global : (x : ℕ) (v : Variable) → path.root ≡ root.Variable (variable.Global x) → path.steps ≡ [] → slice_get p.globals x ≡ Some v → v.is_plain ≡ true
        → kind_of v ≡ cell_of type → LeadsTo type path ts
    to_cell : plain_root s.variables path.root ≡ None → plain_global p.globals path.root ≡ None → cells.has_blocks ≡ true → cells.has_kind (cell_of type) ≡ true
        → ObjectIsTyped p s.variables (scope_at s cells i f) path.root path.steps (cell_of type)
        → list_all is_closed_item (way_items p (reading p s cells) type path ts) ≡ true → is_closed_term (address_term p (reading p s cells) path ts) ≡ true
        → LeadsTo type path ts

  -- what is asked of a way, where it leads to a cell
  abbrev pub way_checks : Option ℕ → Option ℕ → Path → List Check
  way_checks None None path = index_checks 0 path.steps ++ one_if (is_pointed path.root) access path.line
  way_checks x g path = []

  -- the first operand is stored
  pub record StoreFits (cs : List Check) (type : CoreType) (path : Path) (es : t.Values) : Type 0 where
    pub values : ValuesFit es
    pub stored : operand_kind es 0 ≡ cell_of type
    pub some : (t.stop ≡ es → ⊥)
    pub way : LeadsTo type path (rest_of (terms_of p s.variables (reading p s cells) es))
    pub checks : cs ≡ all_checks s.variables es ++ way_checks (plain_root s.variables path.root) (plain_global p.globals path.root) path

-- ---- variables

-- a block declares variables that aren't in scope yet, each once; all kinds of their cells are kinds of the file
module _ (s : Shape) (cells : FileCells) where
  pub record DeclaredFits (v : Variable) : Type 0 where
    pub blocks : v.is_plain ≡ false → cells.has_blocks ≡ true
    pub kinds : v.is_plain ≡ false → (k : CellKind) → has_cell_of v.layout k ≡ true → cells.has_kind k ≡ true

  abbrev pub Declares : InScope → List ℕ → Type 0
  Declares f [] = Unit {0}
  Declares f (y ∷ ys) = (f y ≡ false) × ((v : Variable) × (slice_get s.variables y ≡ Some v) × DeclaredFits v) × Declares (with_name y f) ys

  -- a variable of the function that is declared with a value; one with a block has one cell
  pub record Takes (i : InScope) (x : ℕ) (k : CellKind) : Type 0 where
    pub variable : Variable
    pub found : slice_get s.variables x ≡ Some variable
    pub scoped : i x ≡ true
    pub kind : kind_of variable ≡ k
    pub one_cell : variable.is_plain ≡ false → (cells_of variable.layout ≡ k ∷ []) × (cells.has_blocks ≡ true) × (cells.has_kind k ≡ true)

-- ---- sets

-- a variable that no pointer leads to
abbrev pub is_plain_variable : Facts → Shape → declared.Variable → Bool
is_plain_variable p s (variable.Global x) = is_plain_in (slice_get p.globals x)
is_plain_variable p s (variable.Local x) = is_plain_in (slice_get s.variables x)

-- what a variable holds that no pointer leads to
abbrev pub is_scalar : Content → Bool
is_scalar (content.Struct n) = false
is_scalar c = true

module _ (m : sense.World) (p : Facts) (s : Shape) where
  -- A region names such a variable, or has cells of a block that pointers may lead to.
  pub data RegionFits (r : acsl.Tree → annotation.Reading) (a : acsl.Tree) : Type 0 where
    names : (x : declared.Variable) (c : Content) → is_scalar c ≡ true → is_plain_variable p s x ≡ true
        → a ≡ acsl.node (head.Region c) (acsl.more (acsl.node (head.Variable x) acsl.stop) acsl.stop) → RegionFits r a
    has_cells : (fits : CellsFit m p r a)
        → ((w : labelled.World) (sts : List State) → Stands m (r a) (leaves_of sts) w → HasAddress (value m (leaves_of sts) fits.block)) → RegionFits r a

  abbrev pub SetFits : (acsl.Tree → annotation.Reading) → Option (List acsl.Tree) → Type 0
  SetFits r None = Unit {0}
  SetFits r (Some as_) = AllOf (RegionFits r) as_

-- ---- statements

-- What is asked of a loop, and of a call, behind which these temporaries are used.
pub record OtherFits : Type 1 where
  pub loop_fits : (pt : Point) → Loop → core.Steps → Type 0
  pub call_fits : (pt : Point) (after : Temporaries) → List Check → Goal → (function line : ℕ) → t.Values → Type 0

module _ (m : sense.World) (p : Facts) (s : Shape) (cells : FileCells) (texts : Texts) (fits : OtherFits) where
  -- where these temporaries are used
  abbrev pub Fits : Point → Temporaries → t.Value → CellKind → Type 0
  Fits pt f e k = ValueFits p s cells pt.stands.in_scope f e k

  abbrev mutual
    pub WordFits : (pt : Point) → (after : Temporaries) → core.Step → Type 0
    WordFits pt f (core.set cs n e) =
        (n < s.temporaries) × Fits pt (live (core.set cs n e) (uses_of pt.outs) f) e (s.temp_kind n) × (cs ≡ checks_of s.variables e)
    WordFits pt f (core.store cs type l path es) = StoreFits p s cells pt.stands.in_scope (live (core.store cs type l path es) (uses_of pt.outs) f) cs type path es
    WordFits pt f (core.start cs x e) =
        (k : CellKind) × Takes s cells pt.stands.in_scope x k × Fits pt (live (core.start cs x e) (uses_of pt.outs) f) e k × (cs ≡ checks_of s.variables e)
    WordFits pt f (core.call cs to n l es) = fits.call_fits pt f cs to n l es
    WordFits pt f (core.branch cs e a b) =
        (k : CellKind) × Fits pt (live (core.branch cs e a b) (uses_of pt.outs) f) e k × (cs ≡ checks_of s.variables e) × AllFit pt f a × AllFit pt f b
    WordFits pt f (core.repeat l ss) = fits.loop_fits pt l ss × AllFit (in_pass l pt) no_temporaries ss
    WordFits pt f (core.around ss) = AllFit (in_block f pt) f ss
    WordFits pt f (core.exit k) = k < length pt.outs
    WordFits pt f (core.give cs None) = s.result ≡ None
    WordFits pt f (core.give cs (Some e)) =
        (k : CellKind) × (s.result ≡ Some k) × Fits pt (live (core.give cs (Some e)) (uses_of pt.outs) f) e k × (cs ≡ checks_of s.variables e)
    WordFits pt f (core.claim c) = ClaimFits m p (body_reading p s cells texts pt.stands) c.what
    WordFits pt f (core.scope ys ss) = Declares s cells pt.stands.in_scope ys × AllFit (in_scope_of s cells (has_home s.variables ys) pt ys) f ss

    pub AllFit : (pt : Point) → (after : Temporaries) → core.Steps → Type 0
    AllFit pt f core.end = Unit {0}
    AllFit pt f (core.then_ a ss) = WordFits pt (all_live ss (uses_of pt.outs) f) a × AllFit pt f ss

-- Core programs with blocks and pointers: what is asked of their statements, so that each variable, temporary and cell holds a value of its kind (C11
-- 6.2.6.1p5, 6.5.16.1p2), and is used where it is in scope (C11 6.2.1p4).
use Rattle.std.specs.Prelude.{◌≡◌, ◌<◌, ◌≤◌, ◌⊎◌, ℕ, zero, suc, nat_lt, Bool, true, false, ◌&&◌, if◌then◌else◌, List, [], ◌∷◌, ◌++◌, length, Option, Some, None, slice_get}
use Rattle.std.specs.List.{list_all}
use Rattle.wp_base.specs.declared.kinds.CellKind.{CellKind}
use Rattle.wp_base.specs.declared.kinds.CellKind.TheVariants as cell
use Rattle.wp_base.specs.declared.kinds.Kind.{Kind}
use Rattle.wp_base.specs.Blocks.{cells_of}
use Rattle.typed_prog.specs.declared.types.CoreType.{CoreType}
use Rattle.typed_prog.specs.declared.operators.Path.{Path}
use Rattle.typed_prog.specs.declared.operators.Root.TheVariants as root
use Rattle.typed_prog.specs.declared.operators.Variable.TheVariants as variable
use Rattle.typed_prog.specs.Tree as tree
use Rattle.c_runs.specs.Program.{Variable, Loop, Function, Facts, Program}
use Rattle.c_runs.specs.Scopes.{scalar_of}
use Rattle.c_runs.specs.Operators.{access}
use Rattle.c_runs.specs.Objects.{plain_root, cell_of, is_pointed}
use Rattle.c_runs.specs.Checks.{Check, checks_of, all_checks, index_checks, one_if}
use Rattle.c_runs.specs.Tree.{Goal, nowhere, temporary, place, variable as to_variable, Step, set, store, start, call, branch, repeat, around, exit, give, claim, scope, Steps, end, then_}
use Rattle.goal_segments.specs.Told.{with_name, with_names, is_param}
use Rattle.plain_runs.specs.Kept.{some_sets, some_temps}
use Rattle.run_blocks.specs.Ends.{is_short}
use Rattle.value_terms.specs.Readings.{plain_global}
use Rattle.value_terms.specs.Typed.{Scope, kind_given, operand_kind, IsTyped, AreTyped, ObjectIsTyped}
use Rattle.program_steps.specs.Temporaries.{Temporaries, no_temporaries, live, all_live}

-- What a function is made of: its variables, how many temporaries it has and of which kinds, and the kind of its result. Of its file, whether there are blocks,
-- and of which kinds their cells are.
pub record Shape : Type 0 where
  pub variables : List Variable
  pub temporaries : ℕ
  pub temp_kind : ℕ → CellKind
  pub result : Option CellKind
  pub has_blocks : Bool
  pub has_kind : CellKind → Bool

-- which variables of the function are in scope
abbrev pub InScope : Type 0
InScope = (variable : ℕ) → Bool

-- the kind of what a variable holds that no pointer leads to
abbrev pub kind_of : Variable → CellKind
kind_of v = scalar_of v.layout.cells

module _ (p : Facts) (s : Shape) where
  abbrev pub temporary_kind : Temporaries → (number : ℕ) → Option CellKind
  temporary_kind t n = if nat_lt n s.temporaries && t n then Some (s.temp_kind n) else None

  -- where these variables are in scope, and these temporaries are used from there on
  abbrev pub scope_at : InScope → Temporaries → Scope
  scope_at f t = record { has_blocks = s.has_blocks; has_kind = s.has_kind; is_declared = f; temporaries = temporary_kind t }

  -- ---- expressions

  -- a typed expression of the kind, behind its own checks
  pub record ValueFits (f : InScope) (t : Temporaries) (cs : List Check) (e : tree.Value) (k : CellKind) : Type 0 where
    pub typed : IsTyped p s.variables (scope_at f t) e
    pub kind : kind_given (tree.type_of e) ≡ k
    pub checks : cs ≡ checks_of s.variables e

  -- for each parameter an argument of its kind
  abbrev pub ArgumentsAre : (params : ℕ) → List Variable → tree.Values → Type 0
  ArgumentsAre zero xs tree.stop = Unit {0}
  ArgumentsAre (suc n) (x ∷ xs) (tree.more e es) = (kind_given (tree.type_of e) ≡ kind_of x) × ArgumentsAre n xs es
  ArgumentsAre n xs es = ⊥

  pub record ArgumentsFit (f : InScope) (t : Temporaries) (cs : List Check) (es : tree.Values) (g : Function Steps) : Type 0 where
    pub typed : AreTyped p s.variables (scope_at f t) es
    pub kinds : ArgumentsAre g.params g.variables es
    pub checks : cs ≡ all_checks s.variables es

  -- ---- objects

  -- The way leads to a variable that no pointer leads to, which is in scope, or to a cell.
  pub data LeadsTo (f : InScope) (t : Temporaries) (type : CoreType) (path : Path) : Type 0 where
    to_local : (x : ℕ) (v : Variable) → path.root ≡ root.Variable (variable.Local x) → path.steps ≡ [] → slice_get s.variables x ≡ Some v → v.is_plain ≡ true
        → kind_of v ≡ cell_of type → f x ≡ true → LeadsTo f t type path
    to_global : (x : ℕ) (v : Variable) → path.root ≡ root.Variable (variable.Global x) → path.steps ≡ [] → slice_get p.globals x ≡ Some v → v.is_plain ≡ true
        → kind_of v ≡ cell_of type → LeadsTo f t type path
    to_cell : plain_root s.variables path.root ≡ None → plain_global p.globals path.root ≡ None
        → ObjectIsTyped p s.variables (scope_at f t) path.root path.steps (cell_of type) → LeadsTo f t type path

  -- what is asked of a way, where it leads to a cell
  abbrev pub way_checks : Option ℕ → Option ℕ → Path → List Check
  way_checks None None path = index_checks 0 path.steps ++ one_if (is_pointed path.root) access path.line
  way_checks x g path = []

  abbrev pub place_checks : Path → tree.Values → List Check
  place_checks path es = all_checks s.variables es ++ way_checks (plain_root s.variables path.root) (plain_global p.globals path.root) path

  -- the first operand is stored
  pub record StoreFits (f : InScope) (t : Temporaries) (cs : List Check) (type : CoreType) (path : Path) (es : tree.Values) : Type 0 where
    pub typed : AreTyped p s.variables (scope_at f t) es
    pub some : (es ≡ tree.stop → ⊥)
    pub stored : operand_kind es 0 ≡ cell_of type
    pub way : LeadsTo f t type path
    pub checks : cs ≡ place_checks path es

  -- ---- variables in scope

  -- a block declares variables that aren't in scope yet, each once, from this number on
  abbrev pub Declares : InScope → (low : ℕ) → List ℕ → Type 0
  Declares f low [] = Unit {0}
  Declares f low (y ∷ ys) = (f y ≡ false) × (low ≤ y) × ((v : Variable) × (slice_get s.variables y ≡ Some v)) × Declares (with_name y f) low ys

  -- a variable of the function that is declared with a value; one with a block has one cell
  pub record Takes (f : InScope) (low x : ℕ) (k : CellKind) : Type 0 where
    pub variable : Variable
    pub found : slice_get s.variables x ≡ Some variable
    pub scoped : f x ≡ true
    pub inside : low ≤ x
    pub kind : kind_of variable ≡ k
    pub one_cell : variable.is_plain ≡ false → cells_of variable.layout ≡ k ∷ []

  -- ---- statements

  -- Where the result of a call goes, before which the first of these temporaries are used, and behind which the others. A function without result gives what is
  -- of no use.
  pub data Receives (f : InScope) (low : ℕ) (used t : Temporaries) : (result : Option CellKind) → Goal → Type 0 where
    by_none : {r : Option CellKind} → Receives f low used t r nowhere
    by_unused : {n : ℕ} → (t n ≡ false) ⊎ ((k : Kind) × (s.temp_kind n ≡ cell.Of k)) → Receives f low used t None (temporary n)
    by_temporary : {k : CellKind} {n : ℕ} → s.temp_kind n ≡ k → Receives f low used t (Some k) (temporary n)
    by_place : {cs : List Check} {type : CoreType} {l : ℕ} {path : Path} {es : tree.Values} → AreTyped p s.variables (scope_at f used) es → LeadsTo f used type path
        → cs ≡ place_checks path es → Receives f low used t (Some (cell_of type)) (place cs type l path es)
    by_variable : {k : CellKind} {x : ℕ} → Takes f low x k → Receives f low used t (Some k) (to_variable x)

  -- A loop: it sets what is declared before it or in it, and no temporary that is used at its head.
  pub record LoopFits (f : InScope) (low : ℕ) (os : List Temporaries) (l : Loop) (ss : Steps) : Type 0 where
    pub inside : low ≤ l.declared
    pub inner : (x : ℕ) → l.declared ≤ x → (f x ≡ false) ⊎ (some_sets ss x ≡ false)
    pub temporaries : (n : ℕ) → all_live ss os no_temporaries n ≡ true → some_temps ss n ≡ false

  module _ (functions : ℕ → Option (Function Steps)) where
    -- `low`: variables from this number on are declared in the loops around. A block makes its variables where it is entered, so one that is declared
    -- behind a loop may be there in it; it isn't set there. `os`: the temporaries that are used behind the blocks around; `t`: behind the statement.
    abbrev mutual
      pub FitsStep : InScope → (low : ℕ) → (os : List Temporaries) → (t : Temporaries) → Step → Type 0
      FitsStep f low os t (set cs n e) = ValueFits f (live (set cs n e) os t) cs e (s.temp_kind n)
      FitsStep f low os t (store cs type l path es) = StoreFits f (live (store cs type l path es) os t) cs type path es
      FitsStep f low os t (start cs x e) = (k : CellKind) × Takes f low x k × ValueFits f (live (start cs x e) os t) cs e k
      FitsStep f low os t (call cs to n l es) =
          (g : Function Steps) × (functions n ≡ Some g) × ArgumentsFit f (live (call cs to n l es) os t) cs es g × Receives f low (live (call cs to n l es) os t) t g.result to
      FitsStep f low os t (branch cs e a b) = FitsSteps f low os t a × FitsSteps f low os t b
      FitsStep f low os t (repeat l ss) = LoopFits f low os l ss × FitsSteps f l.declared os no_temporaries ss
      FitsStep f low os t (around ss) = FitsSteps f low (t ∷ os) t ss
      FitsStep f low os t (exit k) = Unit {0}
      FitsStep f low os t (give cs None) = s.result ≡ None
      FitsStep f low os t (give cs (Some e)) = (k : CellKind) × (s.result ≡ Some k) × ValueFits f (live (give cs (Some e)) os t) cs e k
      FitsStep f low os t (claim c) = Unit {0}
      FitsStep f low os t (scope ys ss) = Declares f low ys × FitsSteps (with_names ys f) low os t ss

      pub FitsSteps : InScope → (low : ℕ) → (os : List Temporaries) → (t : Temporaries) → Steps → Type 0
      FitsSteps f low os t end = Unit {0}
      FitsSteps f low os t (then_ a ss) = FitsStep f low os (all_live ss os t) a × FitsSteps f low os t ss

-- ---- functions and programs

pub record FitsFunction (q : Program Steps) (has_blocks : Bool) (has_kind : CellKind → Bool) (g : Function Steps) : Type 0 where
  pub temporaries : ℕ
  pub temp_kind : ℕ → CellKind
  -- two pointers into the block of a variable have a difference (C11 6.5.6p9)
  pub short : list_all (is_short q.facts) g.variables ≡ true
  pub params : g.params ≤ length g.variables
  pub one_cell : (x : ℕ) (v : Variable) → x < g.params → slice_get g.variables x ≡ Some v → v.is_plain ≡ false → cells_of v.layout ≡ kind_of v ∷ []
  -- a temporary that is used before it is set holds 0, which is no pointer
  pub unset : (n : ℕ) → all_live g.body [] no_temporaries n ≡ true → (k : Kind) × (temp_kind n ≡ cell.Of k)
  pub body : FitsSteps q.facts
      (record { variables = g.variables; temporaries = temporaries; temp_kind = temp_kind; result = g.result; has_blocks = has_blocks; has_kind = has_kind })
      q.functions (is_param g.params) 0 [] no_temporaries g.body

-- a program whose statements keep to the kinds
pub record FitsProgram (q : Program Steps) : Type 0 where
  pub has_blocks : Bool
  pub has_kind : CellKind → Bool
  pub functions : (n : ℕ) (g : Function Steps) → q.functions n ≡ Some g → FitsFunction q has_blocks has_kind g

abbrev pub shape : (q : Program Steps) (fits : FitsProgram q) (g : Function Steps) → FitsFunction q fits.has_blocks fits.has_kind g → Shape
shape q fits g h = record {
  variables = g.variables;
  temporaries = h.temporaries;
  temp_kind = h.temp_kind;
  result = g.result;
  has_blocks = fits.has_blocks;
  has_kind = fits.has_kind;
}

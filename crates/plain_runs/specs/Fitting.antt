-- Core programs over integers that no pointer leads to: what is asked of their statements, so that each variable and each temporary holds a number of its kind
-- (C11 6.2.6.1p5, 6.5.16.1p2), and is used where it is in scope (C11 6.2.1p4).
use Rattle.std.specs.Prelude.{◌≡◌, ◌<◌, ◌≤◌, ◌⊎◌, ℕ, ◌+◌, nat_lt, ◌==◌, ℤ, pos, Bool, true, false, ◌||◌, List, [], ◌∷◌, map, length, Option, Some, None, slice_get}
use Rattle.std.specs.List.{list_all}
use Rattle.wp_base.specs.declared.kinds.CellKind.{CellKind}
use Rattle.wp_base.specs.declared.kinds.CellKind.TheVariants as cell
use Rattle.wp_base.specs.declared.kinds.Kind.{Kind}
use Rattle.c_kinds.specs.Models.{holds}
use Rattle.typed_prog.specs.declared.types.CoreType.{CoreType}
use Rattle.typed_prog.specs.declared.operators.Path.{Path}
use Rattle.typed_prog.specs.declared.operators.Root.TheVariants as root
use Rattle.typed_prog.specs.declared.operators.Variable.TheVariants as variable
use Rattle.typed_prog.specs.Tree as t
use Rattle.c_runs.specs.TruthStates.{Value, number}
use Rattle.c_runs.specs.Program.{Variable, Function, Facts, Program}
use Rattle.c_runs.specs.States.{Memory}
use Rattle.c_runs.specs.Entry.{leads_well, IsWellFormed}
use Rattle.c_runs.specs.CheckedTold.{Check, total, totals, is_met}
use Rattle.c_runs.specs.Tree.{Goal, nowhere, temporary, place, variable as to_variable, Step, set, store, start, call, branch, repeat, around, exit, give, claim, scope, Steps, end, then_}
use Rattle.c_runs.specs.CheckedRun.{is_met_in, place_test, way_values, stored_value}
use Rattle.plain_runs.specs.Touched.{some_sets}
use Rattle.plain_states.specs.Slots.{State, Sizes, sizes_of, at, value_slot, flag_slot, local_value, temp_slot, temps_in, world_in}
use Rattle.plain_states.specs.Scopes.{is_integer, kind_of}

-- what a function is made of: its variables, how many temporaries it has and of which kinds, and the kind of its result
pub record Shape : Type 0 where
  pub variables : List Variable
  pub temporaries : ℕ
  pub temp_kind : ℕ → Kind
  pub result : Option CellKind

-- ---- variables in scope

abbrev pub with_name : ℕ → (ℕ → Bool) → ℕ → Bool
with_name y f x = (y == x) || f x

abbrev pub with_names : List ℕ → (ℕ → Bool) → ℕ → Bool
with_names [] f = f
with_names (y ∷ ys) f = with_names ys (with_name y f)

-- numbers of the kinds of the first variables of a function
abbrev pub AreOf : Facts → List Variable → (count : ℕ) → List ℤ → Type 0
AreOf p xs n zs = (length zs ≡ n) × ((x : ℕ) (v : Variable) (z : ℤ) → slice_get xs x ≡ Some v → slice_get zs x ≡ Some z → holds p.model (kind_of v) z ≡ true)

-- ---- memories

-- well formed, and no pointer leads to a variable of the file whose address is never taken
pub record IsGood (p : Facts) (m : Memory) : Type 0 where
  pub well : IsWellFormed p m
  pub pointers : (b o : ℤ) → leads_well (m.cells b o) ≡ true

-- ---- states that fit

abbrev pub IsFlag : ℤ → Type 0
IsFlag z = (z ≡ pos 0) ⊎ (z ≡ pos 1)

module _ (p : Facts) (s : Shape) where
  abbrev pub sizes : Sizes
  sizes = sizes_of p s.variables

  -- each slot holds a number of its kind
  pub record Fit (st : State) : Type 0 where
    pub size : length st ≡ temp_slot sizes s.temporaries
    pub globals : (x : ℕ) (v : Variable) → slice_get p.globals x ≡ Some v → holds p.model (kind_of v) (at st (value_slot x)) ≡ true
    pub locals : (x : ℕ) (v : Variable) → slice_get s.variables x ≡ Some v → holds p.model (kind_of v) (at st (local_value sizes x)) ≡ true
    pub temps : (n : ℕ) → n < s.temporaries → holds p.model (s.temp_kind n) (at st (temp_slot sizes n)) ≡ true
    pub flags : (x : ℕ) → x < sizes.globals + sizes.locals → IsFlag (at st (flag_slot x))

  -- ---- expressions that fit

  -- the value is a number of the kind
  abbrev pub IsOf : Kind → Value → Type 0
  IsOf k v = (z : ℤ) × (v ≡ number z) × (holds p.model k z ≡ true)

  abbrev pub test_at : Memory → (turns : ℕ) → (contents : List Value) → State → t.Value → Check → Bool
  test_at m n vs st e = is_met p s.variables (temps_in sizes st) (world_in sizes m n vs st) e

  abbrev pub total_at : Memory → (turns : ℕ) → (contents : List Value) → State → t.Value → Value
  total_at m n vs st e = total p s.variables (temps_in sizes st) (world_in sizes m n vs st) e

  abbrev pub totals_at : Memory → (turns : ℕ) → (contents : List Value) → State → t.Values → List Value
  totals_at m n vs st es = totals p s.variables (temps_in sizes st) (world_in sizes m n vs st) es

  -- where its checks are met, in every state that fits
  abbrev pub Gives : List Check → t.Value → Kind → Type 0
  Gives cs e k = (m : Memory) → IsGood p m → (n : ℕ) (vs : List Value) (st : State) → Fit st → list_all (test_at m n vs st e) cs ≡ true → IsOf k (total_at m n vs st e)

  abbrev pub GiveAll : List Check → t.Values → List Variable → (count : ℕ) → Type 0
  GiveAll cs es xs k = (m : Memory) → IsGood p m → (n : ℕ) (vs : List Value) (st : State) → Fit st
      → list_all (is_met_in p s.variables (temps_in sizes st) (world_in sizes m n vs st) es) cs ≡ true
      → (zs : List ℤ) × (totals_at m n vs st es ≡ map number zs) × AreOf p xs k zs

  -- ---- objects

  -- the way leads to a variable of the kind, which is in scope
  pub data LeadsTo (in_scope : ℕ → Bool) (path : Path) (k : Kind) : Type 0 where
    to_local : (x : ℕ) (v : Variable) → path.root ≡ root.Variable (variable.Local x) → path.steps ≡ [] → slice_get s.variables x ≡ Some v → kind_of v ≡ k
        → in_scope x ≡ true → LeadsTo in_scope path k
    to_global : (x : ℕ) (v : Variable) → path.root ≡ root.Variable (variable.Global x) → path.steps ≡ [] → slice_get p.globals x ≡ Some v → kind_of v ≡ k
        → LeadsTo in_scope path k

  -- what an assignment stores is of the object's kind
  abbrev pub Stores : List Check → CoreType → Path → t.Values → Kind → Type 0
  Stores cs type path es k = (m : Memory) → IsGood p m → (n : ℕ) (vs : List Value) (st : State) → Fit st
      → list_all (place_test p s.variables (temps_in sizes st) (world_in sizes m n vs st) type path (way_values (totals_at m n vs st es)) es) cs ≡ true
      → IsOf k (stored_value (totals_at m n vs st es))

  -- ---- variables in scope

  -- a block declares variables that aren't in scope yet, each once, from this number on
  abbrev pub Declares : (in_scope : ℕ → Bool) → (low : ℕ) → List ℕ → Type 0
  Declares f low [] = Unit {0}
  Declares f low (y ∷ ys) = (f y ≡ false) × (low ≤ y) × (y < length s.variables) × Declares (with_name y f) low ys

  -- a variable of the function that is declared with a value
  abbrev pub Takes : (in_scope : ℕ → Bool) → (low x : ℕ) → Kind → Type 0
  Takes f low x k = (v : Variable) × (slice_get s.variables x ≡ Some v) × (kind_of v ≡ k) × (f x ≡ true) × (low ≤ x)

  -- ---- statements

  -- where the result of a call goes
  pub data Receives (in_scope : ℕ → Bool) (low : ℕ) (k : Kind) : Goal → Type 0 where
    by_temporary : {n : ℕ} → n < s.temporaries → s.temp_kind n ≡ k → Receives in_scope low k (temporary n)
    by_place : {cs : List Check} {type : CoreType} {l : ℕ} {path : Path} → LeadsTo in_scope path k → Receives in_scope low k (place cs type l path t.stop)
    by_variable : {x : ℕ} → Takes in_scope low x k → Receives in_scope low k (to_variable x)

  module _ (functions : ℕ → Option (Function Steps)) where
    pub data Calls (in_scope : ℕ → Bool) (low : ℕ) (cs : List Check) (es : t.Values) (f : Function Steps) : Goal → Type 0 where
      -- a function without result gives what is of no use
      for_none : {n : ℕ} → GiveAll cs es f.variables f.params → f.result ≡ None → n < s.temporaries → Calls in_scope low cs es f (temporary n)
      for_nothing : GiveAll cs es f.variables f.params → Calls in_scope low cs es f nowhere
      for_result : {to : Goal} {k : Kind} → GiveAll cs es f.variables f.params → f.result ≡ Some (cell.Of k) → Receives in_scope low k to
          → Calls in_scope low cs es f to

    -- `low`: variables from this number on are declared in the loops around. A block makes its variables where it is entered, so one that is declared
    -- behind a loop may be there in it; it isn't set there.
    abbrev mutual
      pub FitsStep : (in_scope : ℕ → Bool) → (low : ℕ) → Step → Type 0
      FitsStep f low (set cs n e) = (n < s.temporaries) × Gives cs e (s.temp_kind n)
      FitsStep f low (store cs type l path es) = (k : Kind) × LeadsTo f path k × Stores cs type path es k
      FitsStep f low (start cs x e) = (k : Kind) × Takes f low x k × Gives cs e k
      FitsStep f low (call cs to n l es) = (g : Function Steps) × (functions n ≡ Some g) × Calls f low cs es g to
      FitsStep f low (branch cs e a b) = FitsSteps f low a × FitsSteps f low b
      FitsStep f low (repeat l ss) = (low ≤ l.declared) × ((x : ℕ) → l.declared ≤ x → (f x ≡ false) ⊎ (some_sets ss x ≡ false)) × FitsSteps f l.declared ss
      FitsStep f low (around ss) = FitsSteps f low ss
      FitsStep f low (exit k) = Unit {0}
      FitsStep f low (give cs None) = s.result ≡ None
      FitsStep f low (give cs (Some e)) = (k : Kind) × (s.result ≡ Some (cell.Of k)) × Gives cs e k
      FitsStep f low (claim c) = Unit {0}
      FitsStep f low (scope ys ss) = Declares f low ys × FitsSteps (with_names ys f) low ss

      pub FitsSteps : (in_scope : ℕ → Bool) → (low : ℕ) → Steps → Type 0
      FitsSteps f low end = Unit {0}
      FitsSteps f low (then_ a ss) = FitsStep f low a × FitsSteps f low ss

-- ---- functions and programs

abbrev pub shape_of : Function Steps → (temporaries : ℕ) → (temp_kind : ℕ → Kind) → Shape
shape_of f n k = record { variables = f.variables; temporaries = n; temp_kind = k; result = f.result }

abbrev pub is_param : (params x : ℕ) → Bool
is_param n x = nat_lt x n

pub record FitsFunction (q : Program Steps) (f : Function Steps) : Type 0 where
  pub temporaries : ℕ
  pub temp_kind : ℕ → Kind
  pub integers : list_all is_integer f.variables ≡ true
  pub params : f.params ≤ length f.variables
  pub body : FitsSteps q.facts (shape_of f temporaries temp_kind) q.functions (is_param f.params) 0 f.body

-- a program over integers that no pointer leads to
pub record FitsProgram (q : Program Steps) : Type 0 where
  pub globals : list_all is_integer q.facts.globals ≡ true
  pub functions : (n : ℕ) (f : Function Steps) → q.functions n ≡ Some f → FitsFunction q f

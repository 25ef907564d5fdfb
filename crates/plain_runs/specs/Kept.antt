-- What a run of a statement leaves alone, in a program over plain integers (ACSL 2.3.2, 2.4.2).
use Rattle.std.specs.Prelude.{◌≡◌, ◌<◌, ◌≤◌, ℕ, ◌==◌, ℤ, pos, negsuc, Bool, true, false, ◌||◌, List, [], ◌∷◌, Option, Some, None, slice_get}
use Rattle.wp_base.specs.declared.kinds.CellKind.{CellKind}
use Rattle.wp_base.specs.declared.kinds.CellKind.TheVariants as cell
use Rattle.c_kinds.specs.Models.{holds}
use Rattle.typed_prog.specs.declared.operators.Root.{Root}
use Rattle.typed_prog.specs.declared.operators.Root.TheVariants as root
use Rattle.typed_prog.specs.declared.operators.Variable.TheVariants as variable
use Rattle.c_runs.specs.TruthStates.{Value, number}
use Rattle.c_runs.specs.Program.{Variable, Facts}
use Rattle.c_runs.specs.States.{Memory, Granted}
use Rattle.c_runs.specs.Claims.{may_change, may_change_local}
use Rattle.c_runs.specs.Calls.{nought}
use Rattle.plain_states.specs.Told.{CoreWorld, Ending, goes_on, exits, returns, stopped}
use Rattle.c_runs.specs.Tree.{Goal, nowhere, temporary, place, variable as to_variable, Step, set, store, start, call, branch, repeat, around, exit, give, claim, scope, Steps, end, then_}
use Rattle.plain_states.specs.Slots.{State, at, value_slot, flag_slot, local_value, local_flag, temp_slot, core_in}
use Rattle.plain_states.specs.Scopes.{kind_of}
pub use Rattle.plain_runs.specs.Touched.{is_local, goal_sets, sets, some_sets}
use Rattle.plain_runs.specs.Fitting.{Shape, sizes, IsFlag, Fit}

-- ---- temporaries that a text sets

abbrev pub goal_temp : Goal → (temporary : ℕ) → Bool
goal_temp (temporary m) n = m == n
goal_temp to n = false

abbrev mutual
  pub temps : Step → (temporary : ℕ) → Bool
  temps (set cs m e) n = m == n
  temps (call cs to f l es) n = goal_temp to n
  temps (branch cs e a b) n = some_temps a n || some_temps b n
  temps (repeat l ss) n = some_temps ss n
  temps (around ss) n = some_temps ss n
  temps (scope ys ss) n = some_temps ss n
  temps (store cs type l path es) n = false
  temps (start cs x e) n = false
  temps (exit k) n = false
  temps (give cs e) n = false
  temps (claim c) n = false

  pub some_temps : Steps → (temporary : ℕ) → Bool
  some_temps end n = false
  some_temps (then_ s ss) n = temps s n || some_temps ss n

-- ---- what stays

-- a variable of the file by its number
abbrev pub may_change_global : List Granted → (variable : ℕ) → Bool
may_change_global gs x = may_change gs cell.Ptr (negsuc x) (pos 0)

-- a result of the kind; a function without result gives what is of no use
abbrev pub IsResult : Facts → Option CellKind → Value → Type 0
IsResult p (Some (cell.Of k)) v = (z : ℤ) × (v ≡ number z) × (holds p.model k z ≡ true)
IsResult p (Some cell.Ptr) v = ⊥
IsResult p None v = v ≡ nought

-- sets of loops speak of variables below this number
abbrev pub AllBelow : (low : ℕ) → List Granted → Type 0
AllBelow low [] = Unit {0}
AllBelow low (g ∷ gs) = (g.declared ≤ low) × AllBelow low gs

module _ (p : Facts) (s : Shape) where
  -- what isn't in scope holds nothing
  abbrev pub IsScoped : (in_scope : ℕ → Bool) → State → Type 0
  IsScoped f st = (x : ℕ) → x < (sizes p s).locals → f x ≡ false → (at st (local_value (sizes p s) x) ≡ pos 0) × (at st (local_flag (sizes p s) x) ≡ pos 0)

  -- variables of the file, which hold numbers of their kinds
  pub record KeptFile (gs : List Granted) (st after : State) : Type 0 where
    pub fit : (x : ℕ) (v : Variable) → slice_get p.globals x ≡ Some v → holds p.model (kind_of v) (at after (value_slot x)) ≡ true
    pub flags : (x : ℕ) → x < (sizes p s).globals → IsFlag (at after (flag_slot x))
    pub same : (x : ℕ) → x < (sizes p s).globals → may_change_global gs x ≡ false → at after (value_slot x) ≡ at st (value_slot x)

  abbrev pub Unchanged : State → State → (variable : ℕ) → Type 0
  Unchanged st after x = (at after (local_value (sizes p s) x) ≡ at st (local_value (sizes p s) x)) × (at after (local_flag (sizes p s) x) ≡ at st (local_flag (sizes p s) x))

  -- under the sets in force, where a text sets these variables and these temporaries
  pub record Kept (gs : List Granted) (touched temped f : ℕ → Bool) (st after : State) : Type 0 where
    pub fit : Fit p s after
    pub globals : (x : ℕ) → x < (sizes p s).globals → may_change_global gs x ≡ false → at after (value_slot x) ≡ at st (value_slot x)
    pub allowed : (x : ℕ) → x < (sizes p s).locals → may_change_local p gs x ≡ false → Unchanged st after x
    pub untouched : (x : ℕ) → x < (sizes p s).locals → touched x ≡ false → Unchanged st after x
    pub rises : (x : ℕ) → x < (sizes p s).locals → at st (local_flag (sizes p s) x) ≡ pos 1 → at after (local_flag (sizes p s) x) ≡ pos 1
    pub scoped : IsScoped f after
    pub temporaries : (n : ℕ) → temped n ≡ false → at after (temp_slot (sizes p s) n) ≡ at st (temp_slot (sizes p s) n)

  -- ---- how a statement ends

  module _ (m : Memory) where
    -- slots tell the world, of which this is so
    pub record IsAt (K : State → Type 0) (c : CoreWorld) : Type 0 where
      pub turns : ℕ
      pub contents : List Value
      pub state : State
      pub same : c ≡ core_in (sizes p s) m turns contents state
      pub so : K state

    abbrev pub Comes : (State → Type 0) → (Value → State → Type 0) → Ending → Type 0
    Comes K R (goes_on c) = IsAt K c
    Comes K R (exits k c) = IsAt K c
    Comes K R (returns v c) = IsAt (R v) c
    Comes K R (stopped e) = Unit {0}

  -- a value that the function returns, in a state that fits
  pub record Returned (gs : List Granted) (v : Value) (st after : State) : Type 0 where
    pub result : IsResult p s.result v
    pub fit : Fit p s after
    pub file : KeptFile gs st after

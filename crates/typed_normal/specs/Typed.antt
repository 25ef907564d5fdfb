-- Core programs told by how their expressions are written: each is typed, with a kind for each temporary that is set.
use Rattle.std.specs.Prelude.{◌≡◌, ◌⊎◌, ◌≤◌, ◌<◌, ℕ, Bool, true, false, [], ◌∷◌, length, Option, Some, None, slice_get}
use Rattle.std.specs.List.{list_all}
use Rattle.wp_base.specs.declared.kinds.CellKind.{CellKind}
use Rattle.wp_base.specs.declared.kinds.CellKind.TheVariants as cell
use Rattle.wp_base.specs.declared.kinds.Kind.{Kind}
use Rattle.wp_base.specs.Blocks.{cells_of}
use Rattle.typed_prog.specs.declared.types.CoreType.{CoreType}
use Rattle.typed_prog.specs.declared.operators.Path.{Path}
use Rattle.typed_prog.specs.Tree as t
use Rattle.c_runs.specs.Program.{Variable, Function, Facts, Program}
use Rattle.c_runs.specs.Objects.{cell_of}
use Rattle.c_runs.specs.Core.{Target, nowhere, temporary, place, variable as to_variable, Core, set, store, start, call, branch, repeat, around, exit, give, claim, scope, Cores, end, then_}
use Rattle.c_runs.specs.Adding.{steps_of}
use Rattle.goal_segments.specs.Told.{with_names, is_param}
use Rattle.plain_runs.specs.Kept.{some_sets}
use Rattle.run_blocks.specs.Ends.{is_short}
use Rattle.value_terms.specs.Typed.{Scope, kind_given, operand_kind, IsTyped, AreTyped}
use Rattle.program_steps.specs.Temporaries.{Temporaries}
use Rattle.typed_runs.specs.Fitting.{Shape, InScope, kind_of, scope_at, ArgumentsAre, LeadsTo, Declares, Takes}

abbrev pub all_temporaries : Temporaries
all_temporaries n = true

module _ (p : Facts) (s : Shape) where
  -- where these variables are in scope, and each temporary may be used
  abbrev pub core_scope : InScope → Scope
  core_scope f = scope_at p s f all_temporaries

  -- ---- expressions

  -- a typed expression of the kind
  abbrev pub IsOfKind : InScope → t.Value → CellKind → Type 0
  IsOfKind f e k = IsTyped p s.variables (core_scope f) e × (kind_given (t.type_of e) ≡ k)

  -- arguments of the kinds of parameters (C11 6.5.2.2p7)
  pub record ArePassed (f : InScope) (es : t.Values) (g : Function Cores) : Type 0 where
    pub typed : AreTyped p s.variables (core_scope f) es
    pub kinds : ArgumentsAre p s g.params g.variables es

  -- the first operand is stored (C11 6.5.16.1p2)
  pub record IsStored (f : InScope) (type : CoreType) (path : Path) (es : t.Values) : Type 0 where
    pub typed : AreTyped p s.variables (core_scope f) es
    pub some : (es ≡ t.stop → ⊥)
    pub kind : operand_kind es 0 ≡ cell_of type
    pub way : LeadsTo p s f all_temporaries type path

  -- where the result of a function goes; one without result gives what is of no use
  pub data IsReceived (f : InScope) (low : ℕ) : (result : Option CellKind) → Target → Type 0 where
    dropped : {r : Option CellKind} → IsReceived f low r nowhere
    none_received : {n : ℕ} {k : Kind} → s.temp_kind n ≡ cell.Of k → IsReceived f low None (temporary n)
    temporary_gets : {k : CellKind} {n : ℕ} → s.temp_kind n ≡ k → IsReceived f low (Some k) (temporary n)
    place_gets : {type : CoreType} {l : ℕ} {path : Path} {es : t.Values} → AreTyped p s.variables (core_scope f) es → LeadsTo p s f all_temporaries type path
        → IsReceived f low (Some (cell_of type)) (place type l path es)
    variable_gets : {k : CellKind} {x : ℕ} → Takes p s f low x k → IsReceived f low (Some k) (to_variable x)

  -- ---- statements

  module _ (functions : ℕ → Option (Function Cores)) where
    -- `low`: variables from this number on are declared in the loops around
    abbrev mutual
      pub CoreIsTyped : InScope → (low : ℕ) → Core → Type 0
      CoreIsTyped f low (set n e) = IsOfKind f e (s.temp_kind n)
      CoreIsTyped f low (store type l path es) = IsStored f type path es
      CoreIsTyped f low (start x e) = (k : CellKind) × Takes p s f low x k × IsOfKind f e k
      CoreIsTyped f low (call to n l es) = (g : Function Cores) × (functions n ≡ Some g) × ArePassed f es g × IsReceived f low g.result to
      CoreIsTyped f low (branch e a b) = IsTyped p s.variables (core_scope f) e × CoresAreTyped f low a × CoresAreTyped f low b
      CoreIsTyped f low (repeat l ss) =
          (low ≤ l.declared) × ((x : ℕ) → l.declared ≤ x → (f x ≡ false) ⊎ (some_sets (steps_of s.variables ss) x ≡ false)) × CoresAreTyped f l.declared ss
      CoreIsTyped f low (around ss) = CoresAreTyped f low ss
      CoreIsTyped f low (exit k) = Unit {0}
      CoreIsTyped f low (give None) = s.result ≡ None
      CoreIsTyped f low (give (Some e)) = (k : CellKind) × (s.result ≡ Some k) × IsOfKind f e k
      CoreIsTyped f low (claim c) = Unit {0}
      CoreIsTyped f low (scope ys ss) = Declares p s f low ys × CoresAreTyped (with_names ys f) low ss

      pub CoresAreTyped : InScope → (low : ℕ) → Cores → Type 0
      CoresAreTyped f low end = Unit {0}
      CoresAreTyped f low (then_ a ss) = CoreIsTyped f low a × CoresAreTyped f low ss

-- ---- functions and programs

pub record FunctionIsTyped (q : Program Cores) (has_blocks : Bool) (has_kind : CellKind → Bool) (g : Function Cores) : Type 0 where
  pub temporaries : ℕ
  pub temp_kind : ℕ → CellKind
  pub short : list_all (is_short q.facts) g.variables ≡ true
  pub params : g.params ≤ length g.variables
  pub one_cell : (x : ℕ) (v : Variable) → x < g.params → slice_get g.variables x ≡ Some v → v.is_plain ≡ false → cells_of v.layout ≡ kind_of v ∷ []
  pub body : CoresAreTyped q.facts
      (record { variables = g.variables; temporaries = temporaries; temp_kind = temp_kind; result = g.result; has_blocks = has_blocks; has_kind = has_kind })
      q.functions (is_param g.params) 0 g.body

pub record ProgramIsTyped (q : Program Cores) : Type 0 where
  pub has_blocks : Bool
  pub has_kind : CellKind → Bool
  pub functions : (n : ℕ) (g : Function Cores) → q.functions n ≡ Some g → FunctionIsTyped q has_blocks has_kind g

-- Core programs over plain integers, told by how their expressions are written: each is typed, with a kind for each temporary that is set.
use Rattle.std.specs.Prelude.{◌≡◌, ◌⊎◌, ◌<◌, ◌≤◌, ℕ, Bool, true, false, List, [], ◌∷◌, length, Option, Some, None, slice_get}
use Rattle.std.specs.List.{list_all}
use Rattle.wp_base.specs.declared.kinds.CellKind.TheVariants as cell
use Rattle.wp_base.specs.declared.kinds.Kind.{Kind}
use Rattle.typed_prog.specs.Tree as t
use Rattle.c_runs.specs.Program.{Variable, Function, Facts, Program}
use Rattle.c_runs.specs.Core.{Target, nowhere, temporary, Core, set, store, start, call, branch, repeat, around, exit, give, claim, scope, Cores, end, then_}
use Rattle.c_runs.specs.Adding.{goal_of, steps_of}
use Rattle.plain_states.specs.Scopes.{is_integer, kind_of}
use Rattle.plain_runs.specs.Touched.{some_sets}
use Rattle.plain_runs.specs.Fitting.{Shape, LeadsTo, Takes, Declares, Receives, with_names, is_param}
use Rattle.plain_typing.specs.Laws.{scope_of, count_of}
use Rattle.value_terms.specs.Typed.{kind_given, operand_kind, IsTyped, AreTyped}

module _ (p : Facts) (s : Shape) where
  -- ---- expressions

  -- a typed expression of the kind
  abbrev pub IsOfKind : t.Value → Kind → Type 0
  IsOfKind e k = IsTyped p s.variables (scope_of s) e × (kind_given (t.type_of e) ≡ cell.Of k)

  -- one value, and no operand of a way beside it
  abbrev pub OneOfKind : t.Values → Kind → Type 0
  OneOfKind (t.more e t.stop) k = IsOfKind e k
  OneOfKind es k = ⊥

  -- arguments of the kinds of parameters (C11 6.5.2.2p7)
  pub record ArePassed (es : t.Values) (g : Function Cores) : Type 0 where
    pub typed : AreTyped p s.variables (scope_of s) es
    pub count : count_of es ≡ g.params
    pub enough : g.params ≤ length g.variables
    pub kinds : (i : ℕ) (v : Variable) → i < count_of es → slice_get g.variables i ≡ Some v → operand_kind es i ≡ cell.Of (kind_of v)

  -- where the result of the function goes; one without result gives what is of no use
  pub data IsReceived (in_scope : ℕ → Bool) (low : ℕ) (g : Function Cores) : Target → Type 0 where
    none_received : {n : ℕ} → g.result ≡ None → n < s.temporaries → IsReceived in_scope low g (temporary n)
    dropped : IsReceived in_scope low g nowhere
    received : {to : Target} {k : Kind} → g.result ≡ Some (cell.Of k) → Receives p s in_scope low k (goal_of s.variables to) → IsReceived in_scope low g to

  -- ---- statements

  module _ (functions : ℕ → Option (Function Cores)) where
    abbrev mutual
      pub CoreIsTyped : (in_scope : ℕ → Bool) → (low : ℕ) → Core → Type 0
      CoreIsTyped f low (set n e) = (n < s.temporaries) × IsOfKind e (s.temp_kind n)
      CoreIsTyped f low (store type l path es) = (k : Kind) × LeadsTo p s f path k × OneOfKind es k
      CoreIsTyped f low (start x e) = (k : Kind) × Takes p s f low x k × IsOfKind e k
      CoreIsTyped f low (call to n l es) = (g : Function Cores) × (functions n ≡ Some g) × ArePassed es g × IsReceived f low g to
      CoreIsTyped f low (branch e a b) = (k : Kind) × IsOfKind e k × CoresAreTyped f low a × CoresAreTyped f low b
      CoreIsTyped f low (repeat l ss) =
          (low ≤ l.declared) × ((x : ℕ) → l.declared ≤ x → (f x ≡ false) ⊎ (some_sets (steps_of s.variables ss) x ≡ false)) × CoresAreTyped f l.declared ss
      CoreIsTyped f low (around ss) = CoresAreTyped f low ss
      CoreIsTyped f low (exit k) = Unit {0}
      CoreIsTyped f low (give None) = s.result ≡ None
      CoreIsTyped f low (give (Some e)) = (k : Kind) × (s.result ≡ Some (cell.Of k)) × IsOfKind e k
      CoreIsTyped f low (claim c) = Unit {0}
      CoreIsTyped f low (scope ys ss) = Declares p s f low ys × CoresAreTyped (with_names ys f) low ss

      pub CoresAreTyped : (in_scope : ℕ → Bool) → (low : ℕ) → Cores → Type 0
      CoresAreTyped f low end = Unit {0}
      CoresAreTyped f low (then_ a ss) = CoreIsTyped f low a × CoresAreTyped f low ss

-- ---- functions and programs

abbrev pub shape_with : Function Cores → (temporaries : ℕ) → (temp_kind : ℕ → Kind) → Shape
shape_with f n k = record { variables = f.variables; temporaries = n; temp_kind = k; result = f.result }

pub record FunctionIsTyped (q : Program Cores) (f : Function Cores) : Type 0 where
  pub temporaries : ℕ
  pub temp_kind : ℕ → Kind
  pub integers : list_all is_integer f.variables ≡ true
  pub params : f.params ≤ length f.variables
  pub body : CoresAreTyped q.facts (shape_with f temporaries temp_kind) q.functions (is_param f.params) 0 f.body

pub record ProgramIsTyped (q : Program Cores) : Type 0 where
  pub globals : list_all is_integer q.facts.globals ≡ true
  pub functions : (n : ℕ) (f : Function Cores) → q.functions n ≡ Some f → FunctionIsTyped q f

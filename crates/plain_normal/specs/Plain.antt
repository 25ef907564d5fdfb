-- Programs as spelled over integers that no pointer leads to: which types and which variables stand in their expressions and statements (C11 6.5, 6.8).
use Rattle.std.specs.Prelude.{◌≡◌, ◌⊎◌, ◌<◌, ◌≤◌, ℕ, nat_lt, Bool, true, false, ◌&&◌, List, [], ◌∷◌, length, Option, Some, None, slice_get}
use Rattle.std.specs.List.{list_all}
use Rattle.wp_base.specs.declared.kinds.CellKind.{CellKind}
use Rattle.wp_base.specs.declared.kinds.CellKind.TheVariants as cell
use Rattle.wp_base.specs.declared.kinds.Kind.{Kind}
use Rattle.wp_base.specs.declared.kinds.Kind.TheVariants as kind
use Rattle.c_kinds.specs.Models.{holds}
use Rattle.typed_prog.specs.declared.types.CoreType.{CoreType}
use Rattle.typed_prog.specs.declared.operators.Change.{Change}
use Rattle.typed_prog.specs.declared.operators.Change.TheVariants as change
use Rattle.typed_prog.specs.declared.operators.Effect.{Effect}
use Rattle.typed_prog.specs.declared.operators.Effect.TheVariants as effect
use Rattle.typed_prog.specs.declared.operators.Path.{Path}
use Rattle.typed_prog.specs.declared.operators.Root.TheVariants as root
use Rattle.typed_prog.specs.declared.operators.Variable.TheVariants as variable
use Rattle.typed_prog.specs.Types.{of_kind, void, is_pointer}
use Rattle.typed_prog.specs.Tree as t
use Rattle.c_runs.specs.Program.{Variable, Stmt, evaluate, block, initial, choose, loop, switch, case_of, default, break, continue, return_of, assert, Stmts, stop, more, Function, Facts, Program}
use Rattle.c_runs.specs.Values.{kind_at}
use Rattle.plain_states.specs.Scopes.{is_integer, kind_of}
use Rattle.plain_runs.specs.Fitting.{with_name, with_names, is_param}
use Rattle.plain_typing.specs.Laws.{count_of}
use Rattle.value_terms.specs.Typed.{Scope, kind_given, operand_kind, second_is, OpIsTyped}
use Rattle.plain_normal.specs.Single.{is_single}

-- any variable may be read; that a value was set is checked
abbrev pub anywhere : Scope
anywhere = record { has_blocks = false; has_kind = λ k. false; is_declared = λ x. true; temporaries = λ n. None }

-- one operand, of which this is so
abbrev pub Only : t.Values → (t.Value → Type 0) → Type 0
Only (t.more e t.stop) P = P e
Only es P = ⊥

-- an update computes in a promoted kind, which the other operand has too, but that of a shift (C11 6.5.16.2p3)
abbrev pub ChangeIsPlain : Change → (by : CoreType) → Type 0
ChangeIsPlain (change.Integer o k) u = (k ≡ kind.Bool → ⊥) × second_is o (cell.Of k) (kind_given u)
ChangeIsPlain (change.Pointer minus size) u = ⊥

-- each argument has the kind of its parameter (C11 6.5.2.2p7)
pub record Passes (es : t.Values) (g : Function Stmts) : Type 0 where
  pub count : count_of es ≡ g.params
  pub enough : g.params ≤ length g.variables
  pub kinds : (i : ℕ) (v : Variable) → i < count_of es → slice_get g.variables i ≡ Some v → operand_kind es i ≡ cell.Of (kind_of v)

-- a function with a body is called
pub record IsCalled (functions : ℕ → Option (Function Stmts)) (number : ℕ) (es : t.Values) : Type 0 where
  pub function : Function Stmts
  pub found : functions number ≡ Some function
  pub passes : Passes es function

-- what a function with this result gives: a number of the kind, or nothing (C11 6.5.2.2p5)
abbrev pub ResultIsPlain : CoreType → Option CellKind → Type 0
ResultIsPlain type result = ((k : Kind) × (type ≡ of_kind k) × (result ≡ Some (cell.Of k))) ⊎ ((type ≡ void) × (result ≡ None))

-- a variable of the kind, which is in scope
pub data Names (p : Facts) (xs : List Variable) (in_scope : ℕ → Bool) (path : Path) (k : Kind) : Type 0 where
  local : (x : ℕ) (v : Variable) → path.root ≡ root.Variable (variable.Local x) → path.steps ≡ [] → slice_get xs x ≡ Some v → kind_of v ≡ k → in_scope x ≡ true
      → Names p xs in_scope path k
  global : (x : ℕ) (v : Variable) → path.root ≡ root.Variable (variable.Global x) → path.steps ≡ [] → slice_get p.globals x ≡ Some v → kind_of v ≡ k
      → Names p xs in_scope path k

-- what is in scope of what is declared before this number
abbrev pub up_to : (declared : ℕ) → (named : ℕ → Bool) → ℕ → Bool
up_to n g x = nat_lt x n && g x

module _ (p : Facts) (xs : List Variable) (functions : ℕ → Option (Function Stmts)) where
  module _ (in_scope : ℕ → Bool) where
    -- ---- expressions

    abbrev pub EffectIsPlain : CoreType → Effect → t.Values → Type 0
    EffectIsPlain type (effect.Assign path) es = (k : Kind) × (type ≡ of_kind k) × Names p xs in_scope path k × Only es (λ e. t.type_of e ≡ type)
    EffectIsPlain type (effect.Update path by form) es =
        (k : Kind) × (type ≡ of_kind k) × Names p xs in_scope path k × Only es (λ e. ChangeIsPlain by (t.type_of e))
    EffectIsPlain type (effect.Call n) es = (c : IsCalled functions n es) × ResultIsPlain type c.function.result

    abbrev mutual
      pub NodeIsPlain : CoreType → t.ValueNode → Type 0
      NodeIsPlain type (t.constant z) = holds p.model (kind_at type) z ≡ true
      NodeIsPlain type t.null = ⊥
      NodeIsPlain type (t.temporary n) = ⊥
      NodeIsPlain type (t.apply o es) = AreAllPlain es × OpIsTyped p xs anywhere type o es
      NodeIsPlain type (t.logic c a b) = IsPlain a × IsPlain b × (type ≡ of_kind kind.Int)
      NodeIsPlain type (t.choose c a b) = IsPlain c × IsPlain a × IsPlain b × (t.type_of a ≡ type) × (t.type_of b ≡ type)
      NodeIsPlain type (t.effect e es) = AreAllPlain es × EffectIsPlain type e es

      -- no pointer, and each node has the type that its parts give it
      pub IsPlain : t.Value → Type 0
      IsPlain (t.typed node type line) = (is_pointer type ≡ false) × NodeIsPlain type node

      pub AreAllPlain : t.Values → Type 0
      AreAllPlain t.stop = Unit {0}
      AreAllPlain (t.more e es) = IsPlain e × AreAllPlain es

    -- a full expression
    abbrev pub IsWanted : t.Value → Type 0
    IsWanted e = IsPlain e × (is_single e ≡ true)

    abbrev pub IfWanted : Option t.Value → Type 0
    IfWanted None = Unit {0}
    IfWanted (Some e) = IsWanted e

    -- a variable that is declared with a value of its kind
    pub record Begins (low x : ℕ) (e : t.Value) : Type 0 where
      pub variable : Variable
      pub found : slice_get xs x ≡ Some variable
      pub type : t.type_of e ≡ of_kind (kind_of variable)
      pub in_its_scope : in_scope x ≡ true
      pub own : low ≤ x
      pub wanted : IsWanted e

  -- ---- statements

  -- a block declares variables that aren't in scope yet, each once, from this number on
  abbrev pub AreNew : (in_scope : ℕ → Bool) → (low : ℕ) → List ℕ → Type 0
  AreNew f low [] = Unit {0}
  AreNew f low (y ∷ ys) = (f y ≡ false) × (low ≤ y) × (y < length xs) × AreNew (with_name y f) low ys

  -- a label is a number of the kind of what is switched over (C11 6.8.4.2p5)
  abbrev pub LabelFits : CoreType → Stmt → Type 0
  LabelFits type (case_of z) = holds p.model (kind_at type) z ≡ true
  LabelFits type s = Unit {0}

  abbrev pub LabelsFit : CoreType → Stmts → Type 0
  LabelsFit type stop = Unit {0}
  LabelsFit type (more s ss) = LabelFits type s × LabelsFit type ss

  module _ (result : Option CellKind) where
    -- `there`: what blocks have made; `named`: what is in scope, in a loop only what is declared before it or in it. `low`: variables from this number on are
    -- declared in the loops around
    abbrev mutual
      pub StmtIsPlain : (there named : ℕ → Bool) → (low : ℕ) → Stmt → Type 0
      StmtIsPlain f g low (evaluate e) = IsWanted g e
      StmtIsPlain f g low (block ys ss) = AreNew f low ys × StmtsArePlain (with_names ys f) (with_names ys g) low ss
      StmtIsPlain f g low (initial x line e) = Begins g low x e
      StmtIsPlain f g low (choose e a b) = IsWanted g e × StmtIsPlain f g low a × StmtIsPlain f g low b
      StmtIsPlain f g low (loop l before s step behind) =
          (low ≤ l.declared) × IfWanted (up_to l.declared g) before × StmtIsPlain f (up_to l.declared g) l.declared s × IfWanted (up_to l.declared g) step × IfWanted (up_to l.declared g) behind
      StmtIsPlain f g low (switch e ss) = IsWanted g e × LabelsFit (t.type_of e) ss × StmtsArePlain f g low ss
      StmtIsPlain f g low (case_of z) = Unit {0}
      StmtIsPlain f g low default = Unit {0}
      StmtIsPlain f g low break = Unit {0}
      StmtIsPlain f g low continue = Unit {0}
      StmtIsPlain f g low (return_of None) = result ≡ None
      StmtIsPlain f g low (return_of (Some e)) = (k : Kind) × (result ≡ Some (cell.Of k)) × (t.type_of e ≡ of_kind k) × IsWanted g e
      StmtIsPlain f g low (assert c) = Unit {0}

      pub StmtsArePlain : (there named : ℕ → Bool) → (low : ℕ) → Stmts → Type 0
      StmtsArePlain f g low stop = Unit {0}
      StmtsArePlain f g low (more s ss) = StmtIsPlain f g low s × StmtsArePlain f g low ss

-- ---- functions and programs

pub record IsPlainFunction (q : Program Stmts) (g : Function Stmts) : Type 0 where
  pub integers : list_all is_integer g.variables ≡ true
  pub params : g.params ≤ length g.variables
  pub body : StmtsArePlain q.facts g.variables q.functions g.result (is_param g.params) (is_param g.params) 0 g.body

pub record IsPlainProgram (q : Program Stmts) : Type 0 where
  pub globals : list_all is_integer q.facts.globals ≡ true
  pub functions : (n : ℕ) (g : Function Stmts) → q.functions n ≡ Some g → IsPlainFunction q g

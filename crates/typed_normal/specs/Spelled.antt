-- Programs as spelled with blocks and pointers: of which kinds their expressions are, and which variables stand in their expressions and statements
-- (C11 6.5, 6.8).
use Rattle.std.specs.Prelude.{◌≡◌, ◌≤◌, ◌<◌, ℕ, Bool, true, false, [], ◌∷◌, length, Option, Some, None, slice_get}
use Rattle.std.specs.List.{list_all}
use Rattle.wp_base.specs.declared.kinds.CellKind.{CellKind}
use Rattle.wp_base.specs.declared.kinds.CellKind.TheVariants as cell
use Rattle.wp_base.specs.declared.kinds.Kind.TheVariants as kind
use Rattle.wp_base.specs.Blocks.{cells_of}
use Rattle.c_kinds.specs.Models.{holds}
use Rattle.typed_prog.specs.declared.types.CoreType.{CoreType}
use Rattle.typed_prog.specs.declared.operators.Change.{Change}
use Rattle.typed_prog.specs.declared.operators.Change.TheVariants as change
use Rattle.typed_prog.specs.declared.operators.Effect.{Effect}
use Rattle.typed_prog.specs.declared.operators.Effect.TheVariants as effect
use Rattle.typed_prog.specs.declared.operators.Op.TheVariants as op
use Rattle.typed_prog.specs.declared.operators.Path.{Path}
use Rattle.typed_prog.specs.Types.{of_kind, void, is_pointer, is_void}
use Rattle.typed_prog.specs.Tree as t
use Rattle.c_runs.specs.Program.{Variable, Stmt, evaluate, block, initial, choose, loop, switch, case_of, default, break, continue, return_of, assert, Stmts, stop, more, Function, Facts, Program}
use Rattle.c_runs.specs.Objects.{cell_of}
use Rattle.c_runs.specs.Values.{kind_at}
use Rattle.goal_segments.specs.Told.{with_names, is_param}
use Rattle.run_blocks.specs.Ends.{is_short}
use Rattle.value_terms.specs.Typed.{Scope, kind_given, second_is, OpIsTyped}
use Rattle.program_steps.specs.Temporaries.{no_temporaries}
use Rattle.plain_normal.specs.Single.{is_single}
use Rattle.plain_normal.specs.Plain.{up_to}
use Rattle.typed_runs.specs.Fitting.{Shape, InScope, kind_of, scope_at, ArgumentsAre, LeadsTo, Declares, Takes}

-- what a function with this result gives: a value of the kind, or nothing (C11 6.5.2.2p5)
abbrev pub GivesKind : CoreType → (result : Option CellKind) → Type 0
GivesKind type (Some k) = kind_given type ≡ k
GivesKind type None = type ≡ void

module _ (p : Facts) (s : Shape) where
  -- where these variables are in scope; a spelled expression has no temporaries
  abbrev pub spelled_scope : InScope → Scope
  spelled_scope f = scope_at p s f no_temporaries

  -- An update computes in a promoted kind, which the other operand has too, but that of a shift (C11 6.5.16.2p3); or it moves a pointer (C11 6.5.16.2p2).
  abbrev pub ChangeIsKinded : CoreType → Change → (by : CoreType) → Type 0
  ChangeIsKinded type (change.Integer o k) u = (k ≡ kind.Bool → ⊥) × second_is o (cell.Of k) (kind_given u) × (is_pointer type ≡ false)
  ChangeIsKinded type (change.Pointer minus size) u = (is_pointer type ≡ true) × (s.has_blocks ≡ true)

  -- the first operand goes to the object, and has its type (C11 6.5.16.1p2); the others are those of the way
  abbrev pub AssignIsKinded : InScope → CoreType → Path → t.Values → Type 0
  AssignIsKinded f type path t.stop = ⊥
  AssignIsKinded f type path (t.more e es) =
      (cell_of type ≡ kind_given type) × LeadsTo p s f no_temporaries type path × (t.type_of e ≡ type) × (is_void type ≡ false)

  -- the object is read too
  abbrev pub UpdateIsKinded : InScope → CoreType → Path → Change → t.Values → Type 0
  UpdateIsKinded f type path by t.stop = ⊥
  UpdateIsKinded f type path by (t.more e es) =
      (cell_of type ≡ kind_given type) × LeadsTo p s f no_temporaries type path × OpIsTyped p s.variables (spelled_scope f) type (op.Read path) es
      × ChangeIsKinded type by (t.type_of e)

  module _ (functions : ℕ → Option (Function Stmts)) where
    -- a function with a body is called, with an argument of its kind for each parameter (C11 6.5.2.2p7)
    pub record IsCalled (number : ℕ) (type : CoreType) (es : t.Values) : Type 0 where
      pub function : Function Stmts
      pub found : functions number ≡ Some function
      pub arguments : ArgumentsAre p s function.params function.variables es
      pub gives : GivesKind type function.result

    module _ (f : InScope) where
      -- ---- expressions

      abbrev pub EffectIsKinded : CoreType → Effect → t.Values → Type 0
      EffectIsKinded type (effect.Assign path) es = AssignIsKinded f type path es
      EffectIsKinded type (effect.Update path by form) es = UpdateIsKinded f type path by es
      EffectIsKinded type (effect.Call n) es = IsCalled n type es

      abbrev mutual
        pub NodeIsKinded : CoreType → t.ValueNode → Type 0
        NodeIsKinded type (t.constant z) = (is_pointer type ≡ false) × (holds p.model (kind_at type) z ≡ true)
        NodeIsKinded type t.null = is_pointer type ≡ true
        NodeIsKinded type (t.temporary n) = ⊥
        NodeIsKinded type (t.apply o es) = AllAreKinded es × OpIsTyped p s.variables (spelled_scope f) type o es
        NodeIsKinded type (t.logic c a b) = IsKinded a × IsKinded b × (type ≡ of_kind kind.Int)
        NodeIsKinded type (t.choose c a b) =
            IsKinded c × IsKinded a × IsKinded b × (kind_given (t.type_of a) ≡ kind_given type) × (kind_given (t.type_of b) ≡ kind_given type)
        NodeIsKinded type (t.effect e es) = AllAreKinded es × EffectIsKinded type e es

        -- each node has the kind that its parts give it
        pub IsKinded : t.Value → Type 0
        IsKinded (t.typed node type line) = NodeIsKinded type node

        pub AllAreKinded : t.Values → Type 0
        AllAreKinded t.stop = Unit {0}
        AllAreKinded (t.more e es) = IsKinded e × AllAreKinded es

      -- a full expression
      abbrev pub IsWanted : t.Value → Type 0
      IsWanted e = IsKinded e × (is_single e ≡ true)

      abbrev pub IfWanted : Option t.Value → Type 0
      IfWanted None = Unit {0}
      IfWanted (Some e) = IsWanted e

      -- a variable that is declared with a value of its kind
      pub record Begins (low x : ℕ) (e : t.Value) : Type 0 where
        pub takes : Takes p s f low x (kind_given (t.type_of e))
        pub valued : is_void (t.type_of e) ≡ false
        pub wanted : IsWanted e

    -- ---- statements

    -- a label is a number of the kind of what is switched over (C11 6.8.4.2p5)
    abbrev pub LabelFits : CoreType → Stmt → Type 0
    LabelFits type (case_of z) = holds p.model (kind_at type) z ≡ true
    LabelFits type a = Unit {0}

    abbrev pub LabelsFit : CoreType → Stmts → Type 0
    LabelsFit type stop = Unit {0}
    LabelsFit type (more a ss) = LabelFits type a × LabelsFit type ss

    -- `f`: what blocks have made; `g`: what is in scope, in a loop only what is declared before it or in it. `low`: variables from this number on are
    -- declared in the loops around
    abbrev mutual
      pub StmtIsKinded : (f g : InScope) → (low : ℕ) → Stmt → Type 0
      StmtIsKinded f g low (evaluate e) = IsWanted g e
      StmtIsKinded f g low (block ys ss) = Declares p s f low ys × StmtsAreKinded (with_names ys f) (with_names ys g) low ss
      StmtIsKinded f g low (initial x line e) = Begins g low x e
      StmtIsKinded f g low (choose e a b) = IsWanted g e × StmtIsKinded f g low a × StmtIsKinded f g low b
      StmtIsKinded f g low (loop l before a step behind) =
          (low ≤ l.declared) × IfWanted (up_to l.declared g) before × StmtIsKinded f (up_to l.declared g) l.declared a × IfWanted (up_to l.declared g) step
          × IfWanted (up_to l.declared g) behind
      StmtIsKinded f g low (switch e ss) = IsWanted g e × (is_pointer (t.type_of e) ≡ false) × LabelsFit (t.type_of e) ss × StmtsAreKinded f g low ss
      StmtIsKinded f g low (case_of z) = Unit {0}
      StmtIsKinded f g low default = Unit {0}
      StmtIsKinded f g low break = Unit {0}
      StmtIsKinded f g low continue = Unit {0}
      StmtIsKinded f g low (return_of None) = s.result ≡ None
      StmtIsKinded f g low (return_of (Some e)) = (s.result ≡ Some (kind_given (t.type_of e))) × IsWanted g e
      StmtIsKinded f g low (assert c) = Unit {0}

      pub StmtsAreKinded : (f g : InScope) → (low : ℕ) → Stmts → Type 0
      StmtsAreKinded f g low stop = Unit {0}
      StmtsAreKinded f g low (more a ss) = StmtIsKinded f g low a × StmtsAreKinded f g low ss

-- ---- functions and programs

-- a function as spelled has no temporaries
abbrev pub spelled_shape : (has_blocks : Bool) (has_kind : CellKind → Bool) → Function Stmts → Shape
spelled_shape b k g = record { variables = g.variables; temporaries = 0; temp_kind = λ n. cell.Of kind.Int; result = g.result; has_blocks = b; has_kind = k }

pub record IsKindedFunction (q : Program Stmts) (has_blocks : Bool) (has_kind : CellKind → Bool) (g : Function Stmts) : Type 0 where
  -- two pointers into the block of a variable have a difference (C11 6.5.6p9)
  pub short : list_all (is_short q.facts) g.variables ≡ true
  pub params : g.params ≤ length g.variables
  pub one_cell : (x : ℕ) (v : Variable) → x < g.params → slice_get g.variables x ≡ Some v → v.is_plain ≡ false → cells_of v.layout ≡ kind_of v ∷ []
  pub body : StmtsAreKinded q.facts (spelled_shape has_blocks has_kind g) q.functions (is_param g.params) (is_param g.params) 0 g.body

-- whether blocks are spoken of, and of which kinds their cells are
pub record IsKindedProgram (q : Program Stmts) : Type 0 where
  pub has_blocks : Bool
  pub has_kind : CellKind → Bool
  pub functions : (n : ℕ) (g : Function Stmts) → q.functions n ≡ Some g → IsKindedFunction q has_blocks has_kind g

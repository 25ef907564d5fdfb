-- What is so of each node of an expression, and of each full expression of a statement.
use Rattle.std.specs.Prelude.{Option, Some, None}
use Rattle.typed_prog.specs.declared.types.CoreType.{CoreType}
use Rattle.typed_prog.specs.Tree as t
use Rattle.c_runs.specs.Program.{Stmt, evaluate, block, initial, choose, loop, switch, case_of, default, break, continue, return_of, assert, Stmts, stop, more}
use Rattle.goal_segments.specs.Told.{with_names}
use Rattle.plain_normal.specs.Plain.{up_to}
use Rattle.typed_runs.specs.Fitting.{InScope}

-- ---- expressions

-- this is so of each node, which is told with its type
module _ (N : CoreType → t.ValueNode → Type 0) where
  abbrev mutual
    pub EachNode : t.Value → Type 0
    EachNode (t.typed node type line) = N type node × EachPart node

    pub EachPart : t.ValueNode → Type 0
    EachPart (t.constant z) = Unit {0}
    EachPart t.null = Unit {0}
    EachPart (t.temporary n) = Unit {0}
    EachPart (t.apply o es) = EachOperand es
    EachPart (t.logic c a b) = EachNode a × EachNode b
    EachPart (t.choose c a b) = EachNode c × EachNode a × EachNode b
    EachPart (t.effect e es) = EachOperand es

    pub EachOperand : t.Values → Type 0
    EachOperand t.stop = Unit {0}
    EachOperand (t.more e es) = EachNode e × EachOperand es

-- ---- statements

-- this is so of each full expression (C11 6.8p4), by what is in scope where it stands
module _ (Q : InScope → t.Value → Type 0) where
  abbrev pub IfValue : InScope → Option t.Value → Type 0
  IfValue g None = Unit {0}
  IfValue g (Some e) = Q g e

  -- in a loop only what is declared before it or in it is in scope
  abbrev mutual
    pub EachValue : InScope → Stmt → Type 0
    EachValue g (evaluate e) = Q g e
    EachValue g (block ys ss) = AllValues (with_names ys g) ss
    EachValue g (initial x line e) = Q g e
    EachValue g (choose e a b) = Q g e × EachValue g a × EachValue g b
    EachValue g (loop l before a step behind) =
        IfValue (up_to l.declared g) before × EachValue (up_to l.declared g) a × IfValue (up_to l.declared g) step × IfValue (up_to l.declared g) behind
    EachValue g (switch e ss) = Q g e × AllValues g ss
    EachValue g (case_of z) = Unit {0}
    EachValue g default = Unit {0}
    EachValue g break = Unit {0}
    EachValue g continue = Unit {0}
    EachValue g (return_of e) = IfValue g e
    EachValue g (assert c) = Unit {0}

    pub AllValues : InScope → Stmts → Type 0
    AllValues g stop = Unit {0}
    AllValues g (more a ss) = EachValue g a × AllValues g ss

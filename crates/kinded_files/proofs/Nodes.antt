-- What is so of each node and of each full expression: joined, and of typed statements in their program.
use Rattle.std.proofs.Common.{ℕ, List, [], ◌∷◌, Option, Some, None}
use Rattle.typed_prog.specs.declared.types.CoreType.{CoreType}
use Rattle.typed_prog.specs.Tree as t
use Rattle.typed_unit.specs.Stmt as unit
use Rattle.acsl_notes.specs.Notes.{Note}
use Rattle.c_runs.specs.Program.{Stmt, evaluate, block, initial, choose, loop, switch, case_of, default, break, continue, return_of, assert, Stmts, stop, more}
use Rattle.plain_programs.specs.Told.{then_, whole, initials, initial_of, variables_in, placed, all_placed, behind}
use Rattle.plain_normal.specs.Plain.{up_to}
use Rattle.goal_segments.specs.Told.{with_names}
use Rattle.typed_runs.specs.Fitting.{InScope}
use Rattle.kinded_programs.specs.Nodes.{EachNode, EachPart, EachOperand, IfValue, EachValue, AllValues}

-- ---- two facts make a third one

module _ (N M K : CoreType → t.ValueNode → Type 0) (join : (type : CoreType) (node : t.ValueNode) → N type node → M type node → K type node) where
  mutual
    pub each_two : (v : t.Value) → EachNode N v → EachNode M v → EachNode K v
    each_two (t.typed node type line) h k = (join type node h.0 k.0, each_part node h.1 k.1)

    each_part : (node : t.ValueNode) → EachPart N node → EachPart M node → EachPart K node
    each_part (t.constant z) h k = tt
    each_part t.null h k = tt
    each_part (t.temporary n) h k = tt
    each_part (t.apply o es) h k = each_operand es h k
    each_part (t.logic c a b) h k = (each_two a h.0 k.0, each_two b h.1 k.1)
    each_part (t.choose c a b) h k = (each_two c h.0 k.0, each_two a h.1 k.1, each_two b h.2 k.2)
    each_part (t.effect e es) h k = each_operand es h k

    each_operand : (es : t.Values) → EachOperand N es → EachOperand M es → EachOperand K es
    each_operand t.stop h k = tt
    each_operand (t.more e es) h k = (each_two e h.0 k.0, each_operand es h.1 k.1)

module _ (Q R T : InScope → t.Value → Type 0) (join : (g : InScope) (v : t.Value) → Q g v → R g v → T g v) where
  if_two : (g : InScope) (v : Option t.Value) → IfValue Q g v → IfValue R g v → IfValue T g v
  if_two g None h k = tt
  if_two g (Some v) h k = join g v h k

  mutual
    value_two : (g : InScope) (a : Stmt) → EachValue Q g a → EachValue R g a → EachValue T g a
    value_two g (evaluate e) h k = join g e h k
    value_two g (block ys ss) h k = all_two (with_names ys g) ss h k
    value_two g (initial x line e) h k = join g e h k
    value_two g (choose e a b) h k = (join g e h.0 k.0, value_two g a h.1 k.1, value_two g b h.2 k.2)
    value_two g (loop l before a step behind) h k =
        let g' = up_to l.declared g in (if_two g' before h.0 k.0, value_two g' a h.1 k.1, if_two g' step h.2 k.2, if_two g' behind h.3 k.3)
    value_two g (switch e ss) h k = (join g e h.0 k.0, all_two g ss h.1 k.1)
    value_two g (case_of z) h k = tt
    value_two g default h k = tt
    value_two g break h k = tt
    value_two g continue h k = tt
    value_two g (return_of e) h k = if_two g e h k
    value_two g (assert c) h k = tt

    pub all_two : (g : InScope) (ss : Stmts) → AllValues Q g ss → AllValues R g ss → AllValues T g ss
    all_two g stop h k = tt
    all_two g (more a ss) h k = (value_two g a h.0 k.0, all_two g ss h.1 k.1)

-- ---- statements in the program

module _ (Q : InScope → t.Value → Type 0) where
  pub then_values : (g : InScope) (xs ys : Stmts) → AllValues Q g xs → AllValues Q g ys → AllValues Q g (then_ xs ys)
  then_values g stop ys h k = k
  then_values g (more x xs) ys h k = (h.0, then_values g xs ys h.1 k)

  pub whole_values : (g : InScope) (xs : Stmts) → AllValues Q g xs → EachValue Q g (whole xs)
  whole_values g stop h = tt
  whole_values g (more x stop) h = h.0
  whole_values g (more x (more y ys)) h = h

-- ---- what is so of each full expression of a typed statement, wherever it stands

module _ (Q : t.Value → Type 0) where
  abbrev pub IfIn : Option t.Value → Type 0
  IfIn None = Unit {0}
  IfIn (Some v) = Q v

  abbrev pub InitsIn : List unit.Declared → Type 0
  InitsIn [] = Unit {0}
  InitsIn (d ∷ ds) = IfIn d.init × InitsIn ds

  abbrev mutual
    pub EachIn : unit.Stmt → Type 0
    EachIn (unit.empty line) = Unit {0}
    EachIn (unit.expr line v) = Q v
    EachIn (unit.block line body) = AllIn body
    EachIn (unit.locals line ds) = InitsIn ds
    EachIn (unit.if_else line v a b) = Q v × EachIn a × EachIn b
    EachIn (unit.loop_of line annot turns body) = IfIn turns.before × IfIn turns.step × IfIn turns.behind × EachIn body
    EachIn (unit.switch line v body) = Q v × AllIn body
    EachIn (unit.case_of line z) = Unit {0}
    EachIn (unit.default line) = Unit {0}
    EachIn (unit.break line) = Unit {0}
    EachIn (unit.continue line) = Unit {0}
    EachIn (unit.return_of line v) = IfIn v
    EachIn (unit.assert line q) = Unit {0}

    pub AllIn : unit.Stmts → Type 0
    AllIn unit.stop = Unit {0}
    AllIn (unit.more x xs) = EachIn x × AllIn xs

  abbrev Everywhere : InScope → t.Value → Type 0
  Everywhere g v = Q v

  if_placed : (g : InScope) (v : Option t.Value) → IfIn v → IfValue Everywhere g v
  if_placed g None h = tt
  if_placed g (Some v) h = h

  inits_placed : (g : InScope) (ds : List unit.Declared) → InitsIn ds → AllValues Everywhere g (initials ds)
  inits_placed g [] h = tt
  inits_placed g (d ∷ ds) h = then_values Everywhere g (initial_of d.local d.line d.init) (initials ds) (by d.init h.0) (inits_placed g ds h.1) where
    by : (v : Option t.Value) → IfIn v → AllValues Everywhere g (initial_of d.local d.line v)
    by None k = tt
    by (Some v) k = (k, tt)

  mutual
    pub each_placed : (y : unit.Stmt) → EachIn y → (g : InScope) (ns : List Note) (n : ℕ) → AllValues Everywhere g (placed y ns n).stmts
    each_placed (unit.empty line) h g ns n = tt
    each_placed (unit.expr line v) h g ns n = (h, tt)
    each_placed (unit.block line body) h g ns n = (all_in_placed body h (with_names (variables_in body) g) ns n, tt)
    each_placed (unit.locals line ds) h g ns n = inits_placed g ds h
    each_placed (unit.if_else line v a b) h g ns n =
        let first = placed a ns n in
        let second = placed b first.notes first.declared in (
          (h.0, whole_values Everywhere g first.stmts (each_placed a h.1 g ns n), whole_values Everywhere g second.stmts (each_placed b h.2 g first.notes first.declared)),
          tt,
        )
    each_placed (unit.loop_of line annot turns body) h g ns n =
        let g' = up_to n g in (
          (
            if_placed g' turns.before h.0,
            whole_values Everywhere g' (placed body (behind ns) n).stmts (each_placed body h.3 g' (behind ns) n),
            if_placed g' turns.step h.1,
            if_placed g' turns.behind h.2,
          ),
          tt,
        )
    each_placed (unit.switch line v body) h g ns n = ((h.0, all_in_placed body h.1 g ns n), tt)
    each_placed (unit.case_of line z) h g ns n = (tt, tt)
    each_placed (unit.default line) h g ns n = (tt, tt)
    each_placed (unit.break line) h g ns n = (tt, tt)
    each_placed (unit.continue line) h g ns n = (tt, tt)
    each_placed (unit.return_of line v) h g ns n = (if_placed g v h, tt)
    each_placed (unit.assert line q) h g ns n = (tt, tt)

    pub all_in_placed : (ys : unit.Stmts) → AllIn ys → (g : InScope) (ns : List Note) (n : ℕ) → AllValues Everywhere g (all_placed ys ns n).stmts
    all_in_placed unit.stop h g ns n = tt
    all_in_placed (unit.more x xs) h g ns n =
        let first = placed x ns n in
        then_values Everywhere g first.stmts (all_placed xs first.notes first.declared).stmts (each_placed x h.0 g ns n) (all_in_placed xs h.1 g first.notes first.declared)

-- what follows is so of each too
module _ (Q R : t.Value → Type 0) (f : (v : t.Value) → Q v → R v) where
  if_map : (v : Option t.Value) → IfIn Q v → IfIn R v
  if_map None h = tt
  if_map (Some v) h = f v h

  inits_map : (ds : List unit.Declared) → InitsIn Q ds → InitsIn R ds
  inits_map [] h = tt
  inits_map (d ∷ ds) h = (if_map d.init h.0, inits_map ds h.1)

  mutual
    pub in_map : (y : unit.Stmt) → EachIn Q y → EachIn R y
    in_map (unit.empty line) h = tt
    in_map (unit.expr line v) h = f v h
    in_map (unit.block line body) h = all_in_map body h
    in_map (unit.locals line ds) h = inits_map ds h
    in_map (unit.if_else line v a b) h = (f v h.0, in_map a h.1, in_map b h.2)
    in_map (unit.loop_of line annot turns body) h = (if_map turns.before h.0, if_map turns.step h.1, if_map turns.behind h.2, in_map body h.3)
    in_map (unit.switch line v body) h = (f v h.0, all_in_map body h.1)
    in_map (unit.case_of line z) h = tt
    in_map (unit.default line) h = tt
    in_map (unit.break line) h = tt
    in_map (unit.continue line) h = tt
    in_map (unit.return_of line v) h = if_map v h
    in_map (unit.assert line q) h = tt

    all_in_map : (ys : unit.Stmts) → AllIn Q ys → AllIn R ys
    all_in_map unit.stop h = tt
    all_in_map (unit.more x xs) h = (in_map x h.0, all_in_map xs h.1)

-- What a test of a typed file has to show of its values: constants are numbers of their kinds (C11 6.4.4.1p5, 6.4.4.4p2).
use Rattle.std.specs.Prelude.{Bool, true, ◌&&◌, List, [], ◌∷◌, Option, Some, None}
use Rattle.std.specs.List.{list_all}
use Rattle.c_kinds.specs.declared.models.Machdep.{Machdep}
use Rattle.c_kinds.specs.Models.{holds}
use Rattle.typed_prog.specs.declared.types.CoreType.{CoreType}
use Rattle.typed_prog.specs.Tree as t
use Rattle.c_runs.specs.Values.{kind_at}
use Rattle.typed_unit.specs.Stmt as s
use Rattle.typed_unit.specs.Unit as u

module _ (m : Machdep) where
  -- ---- expressions

  abbrev mutual
    pub node_holds : CoreType → t.ValueNode → Bool
    node_holds type (t.constant z) = holds m (kind_at type) z
    node_holds type t.null = true
    node_holds type (t.temporary n) = true
    node_holds type (t.apply o es) = all_hold es
    node_holds type (t.logic c a b) = value_holds a && value_holds b
    node_holds type (t.choose c a b) = value_holds c && (value_holds a && value_holds b)
    node_holds type (t.effect e es) = all_hold es

    pub value_holds : t.Value → Bool
    value_holds (t.typed node type line) = node_holds type node

    pub all_hold : t.Values → Bool
    all_hold t.stop = true
    all_hold (t.more e es) = value_holds e && all_hold es

  abbrev pub if_holds : Option t.Value → Bool
  if_holds None = true
  if_holds (Some e) = value_holds e

  -- ---- statements

  abbrev pub inits_hold : List s.Declared → Bool
  inits_hold [] = true
  inits_hold (d ∷ ds) = if_holds d.init && inits_hold ds

  abbrev mutual
    pub stmt_holds : s.Stmt → Bool
    stmt_holds (s.empty line) = true
    stmt_holds (s.expr line e) = value_holds e
    stmt_holds (s.block line body) = stmts_hold body
    stmt_holds (s.locals line ds) = inits_hold ds
    stmt_holds (s.if_else line e a b) = value_holds e && (stmt_holds a && stmt_holds b)
    stmt_holds (s.loop_of line annot turns body) = if_holds turns.before && (if_holds turns.step && (if_holds turns.behind && stmt_holds body))
    stmt_holds (s.switch line e body) = value_holds e && stmts_hold body
    stmt_holds (s.case_of line z) = true
    stmt_holds (s.default line) = true
    stmt_holds (s.break line) = true
    stmt_holds (s.continue line) = true
    stmt_holds (s.return_of line e) = if_holds e
    stmt_holds (s.assert line q) = true

    pub stmts_hold : s.Stmts → Bool
    stmts_hold s.stop = true
    stmts_hold (s.more x xs) = stmt_holds x && stmts_hold xs

-- ---- files

abbrev pub body_holds : Machdep → u.Body → Bool
body_holds m b = stmt_holds m b.stmt

unfoldable pub constants_hold : u.Typed → Bool
constants_hold t = list_all (body_holds t.model) t.bodies

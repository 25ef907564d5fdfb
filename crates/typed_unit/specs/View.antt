-- The plain trees of statements and files in memory.
use Rattle.std.specs.Prelude.{ℕ, List, map, Option}
use Rattle.std.specs.Option.{option_map}
use Rattle.c_syntax.specs.View.{view_pred, view_loop, view_contract, view_logic}
use Rattle.typed_prog.specs.declared.tree.Value.{Value}
use Rattle.typed_prog.specs.Tree as t
use Rattle.typed_prog.specs.View.{view_value}
use Rattle.typed_unit.specs.declared.stmt.Turns.{Turns}
use Rattle.typed_unit.specs.declared.stmt.Declared.{Declared}
use Rattle.typed_unit.specs.declared.stmt.StmtNode.{StmtNode, StmtNode-F, fold-StmtNode}
use Rattle.typed_unit.specs.declared.stmt.Stmt.{Stmt, Stmt-F}
use Rattle.typed_unit.specs.declared.unit.Body.{Body}
use Rattle.typed_unit.specs.declared.unit.Annotated.{Annotated}
use Rattle.typed_unit.specs.declared.unit.Annotated.TheVariants as annotated
use Rattle.typed_unit.specs.declared.unit.Part.{Part}
use Rattle.typed_unit.specs.declared.unit.Typed.{Typed}
use Rattle.typed_unit.specs.Stmt as s
use Rattle.typed_unit.specs.Unit as u

abbrev pub view_turns : Turns → s.Turns
view_turns x = record { before = option_map view_value x.before; behind = option_map view_value x.after; step = option_map view_value x.step }

abbrev pub view_declared : Declared → s.Declared
view_declared x = record { local = x.local; init = option_map view_value x.init; line = x.line }

abbrev pub stmt_node_layer : StmtNode-F (ℕ → s.Stmt) s.Stmt → ℕ → s.Stmt
stmt_node_layer StmtNode-F.Empty line = s.empty line
stmt_node_layer (StmtNode-F.Expr v) line = s.expr line (view_value v)
stmt_node_layer (StmtNode-F.Block body) line = s.block line (s.stmts_of body)
stmt_node_layer (StmtNode-F.Locals vars) line = s.locals line (map view_declared vars)
stmt_node_layer (StmtNode-F.If test a b) line = s.if_else line (view_value test) a b
stmt_node_layer (StmtNode-F.Loop annot turns a) line = s.loop_of line (view_loop annot.now) (view_turns turns) a
stmt_node_layer (StmtNode-F.Switch v body) line = s.switch line (view_value v) (s.stmts_of body)
stmt_node_layer (StmtNode-F.Case z) line = s.case_of line z
stmt_node_layer StmtNode-F.Default line = s.default line
stmt_node_layer StmtNode-F.Break line = s.break line
stmt_node_layer StmtNode-F.Continue line = s.continue line
stmt_node_layer (StmtNode-F.Return v) line = s.return_of line (option_map view_value v)
stmt_node_layer (StmtNode-F.Assert p) line = s.assert line (view_pred p.now)

abbrev pub stmt_layer : Stmt-F (ℕ → s.Stmt) s.Stmt → s.Stmt
stmt_layer x = x.node x.line

unfoldable pub view_stmt_node : StmtNode → ℕ → s.Stmt
view_stmt_node = fold-StmtNode (ℕ → s.Stmt) s.Stmt stmt_node_layer stmt_layer

abbrev pub view_stmt : Stmt → s.Stmt
view_stmt x = view_stmt_node x.node x.line

-- the statements of a block in memory
abbrev pub view_stmts : List Stmt → s.Stmts
view_stmts xs = s.stmts_of (map view_stmt xs)

-- ---- files

abbrev pub view_body : Body → u.Body
view_body x = record { function = x.function; locals = x.locals; plain = x.plain; stmt = view_stmt x.stmt; line = x.line; end = x.end }

abbrev pub view_annotated : Annotated → u.Annotated
view_annotated (annotated.Function number params contract has_body) = u.of_function number params (view_contract contract.now) has_body
view_annotated (annotated.Logic d) = u.of_logic (view_logic d.now)

abbrev pub view_part : Part → u.Part
view_part x = record { names = x.names; tags = x.tags; decl = view_annotated x.decl }

abbrev pub view_inits : List (Option Value) → List (Option t.Value)
view_inits xs = map (option_map view_value) xs

abbrev pub view_typed : Typed → u.Typed
view_typed x =
    record { model = x.model; file = x.file; plain = x.plain; inits = view_inits x.inits; bodies = map view_body x.bodies; parts = map view_part x.parts }

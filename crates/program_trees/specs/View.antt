-- The plain programs of those in memory.
use Rattle.std.specs.Prelude.{ℕ, List, [], ◌∷◌, map, Option}
use Rattle.std.specs.Option.{option_map}
use Rattle.std.specs.Borrow.{Bor}
use Rattle.acsl_trees.specs.Tree.{view_tree, view_trees}
use Rattle.acsl_expand.specs.Expansion.{view_all}
use Rattle.typed_prog.specs.declared.tree.Value.{Value}
use Rattle.typed_prog.specs.Tree as t
use Rattle.typed_prog.specs.View.{view_value}
use Rattle.c_runs.specs.Program as p
use Rattle.c_runs.specs.Core as c
use Rattle.core_trees.specs.View.{view_claim, view_measure, view_loop, view_variables, view_cores}
use Rattle.program_trees.specs.declared.contracts.Behavior.{Behavior}
use Rattle.program_trees.specs.declared.contracts.Together.{Together}
use Rattle.program_trees.specs.declared.contracts.Contract.{Contract}
use Rattle.program_trees.specs.declared.stmts.Stmt.{Stmt, Stmt-F, fold-Stmt}
use Rattle.program_trees.specs.declared.files.Function.{Function}
use Rattle.program_trees.specs.declared.files.Facts.{Facts}
use Rattle.program_trees.specs.declared.files.Program.{Program}
use Rattle.program_trees.specs.declared.files.CoreFunction.{CoreFunction}
use Rattle.program_trees.specs.declared.files.CoreProgram.{CoreProgram}
use Rattle.program_trees.specs.Files.{at, in_cluster_of}

-- ---- contracts

abbrev pub view_behavior : Behavior → p.Behavior
view_behavior x = record {
  assumes = view_trees x.assumes;
  requires = map view_claim x.requires_;
  ensures = map view_claim x.ensures_;
  assigns = option_map view_trees x.assigns;
}

abbrev pub view_together : Together → p.Together
view_together x = record { is_complete = x.is_complete; numbers = x.numbers; line = x.line }

abbrev pub view_contract : Contract → p.Contract
view_contract x = record {
  plain = view_behavior x.plain;
  decreases = option_map view_measure x.decreases;
  behaviors = map view_behavior x.behaviors;
  together = map view_together x.together;
}

-- ---- statements

abbrev pub lent_value : Bor Value → t.Value
lent_value e = view_value e.now

abbrev pub view_option : Option (Bor Value) → Option t.Value
view_option e = option_map lent_value e

abbrev pub stmts_of : List p.Stmt → p.Stmts
stmts_of [] = p.stop
stmts_of (s ∷ ss) = p.more s (stmts_of ss)

abbrev pub stmt_layer : Stmt-F p.Stmt → p.Stmt
stmt_layer (Stmt-F.Evaluate e) = p.evaluate (view_value e.now)
stmt_layer (Stmt-F.Block variables ss) = p.block variables (stmts_of ss)
stmt_layer (Stmt-F.Initial x line e) = p.initial x line (view_value e.now)
stmt_layer (Stmt-F.Choose test first second) = p.choose (view_value test.now) first second
stmt_layer (Stmt-F.Loop l turns body) = p.loop (view_loop l) (view_option turns.before) body (view_option turns.step) (view_option turns.behind)
stmt_layer (Stmt-F.Switch e ss) = p.switch (view_value e.now) (stmts_of ss)
stmt_layer (Stmt-F.Case z) = p.case_of z
stmt_layer Stmt-F.Default = p.default
stmt_layer Stmt-F.Break = p.break
stmt_layer Stmt-F.Continue = p.continue
stmt_layer (Stmt-F.Return e) = p.return_of (view_option e)
stmt_layer (Stmt-F.Assert x) = p.assert (view_claim x)

unfoldable pub view_stmt : Stmt → p.Stmt
view_stmt = fold-Stmt p.Stmt stmt_layer

abbrev pub view_stmts : List Stmt → p.Stmts
view_stmts ss = stmts_of (map view_stmt ss)

-- ---- functions and files

abbrev pub view_function : Function → p.Function p.Stmts
view_function x = record {
  params = x.params;
  variables = view_variables x.variables;
  result = x.result;
  contract = view_contract x.contract;
  body = view_stmts x.body;
  end = x.end;
}

abbrev pub view_facts : Facts → p.Facts
view_facts x = record {
  model = x.model;
  globals = view_variables x.globals;
  structs = x.structs;
  definitions = view_all x.definitions;
  in_cluster = in_cluster_of x.clusters;
}

abbrev pub view_program : Program → p.Program p.Stmts
view_program x = record { facts = view_facts x.facts; functions = at (map (option_map view_function) x.functions) }

abbrev pub view_core_function : CoreFunction → p.Function c.Cores
view_core_function x = record {
  params = x.params;
  variables = view_variables x.variables.now;
  result = x.result;
  contract = view_contract x.contract.now;
  body = view_cores x.body;
  end = x.end;
}

abbrev pub view_core_program : CoreProgram → p.Program c.Cores
view_core_program x = record { facts = view_facts x.facts.now; functions = at (map (option_map view_core_function) x.functions) }

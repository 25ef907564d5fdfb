use Rattle.program_trees.specs.View.{view_facts}
use Rattle.program_cells.specs.View.{view_declared}
use Rattle.program_cells.proofs.Functions.{function_added, none_added, missing_added}
use Rattle.program_cells.proofs.programs.add_function_at.Goals as goal

pub returns-then-at-functions : goal.returns-then-at-functions
returns-then-at-functions c =
    missing_added (view_facts c.args.facts.now) (view_declared c.args.declared) c.args.functions.now c.args.number c.args.cells.now c.if-at-functions.true

pub returns-in-None : goal.returns-in-None
returns-in-None c =
    none_added (view_facts c.args.facts.now) (view_declared c.args.declared) c.args.functions.now c.args.number c.index-functions-at.result c.args.cells.now
    c.if-at-functions.false c.index-functions-at.is c.in-None.is

pub returns-in_ok-add_function-in-Some : goal.returns-in_ok-add_function-in-Some
returns-in_ok-add_function-in-Some c =
    function_added (view_facts c.args.facts.now) (view_declared c.args.declared) c.args.functions.now c.args.number c.index-functions-at.result c.in-Some.function
    c.args.cells.now c.add_function.new.cells c.if-at-functions.false c.index-functions-at.is c.in-Some.is c.in_ok-add_function-in-Some.ensures

use Rattle.std.proofs.Common.{rules}
use Rattle.typed_unit.specs.View.{view_stmt as view_typed, view_stmts as view_all_typed}
use Rattle.c_programs.specs.Bodies.{all_placed}
use Rattle.program_trees.proofs.Equations.{view_stmt-Choose}
use Rattle.placed_bodies.specs.Into.{notes_left}
use Rattle.placed_bodies.proofs.Placing.{choice_placed, following_turn}
use Rattle.placed_bodies.proofs.bodies.+placing.Goals as goal

pub choice_into-returns : goal.choice_into-returns
choice_into-returns t c =
    choice_placed _ _ _ _ _ _ (view_typed c.args.first.now) (view_typed c.args.second.now) (notes_left c.args.left) c.args.left.declared _ _ c.in_ok-one.ensures c.in_ok-other.ensures
    c.in_ok-push.ensures.ok (view_stmt-Choose _ _ _)

pub stmts_into-loop-i-preserved : goal.stmts_into-loop-i-preserved
stmts_into-loop-i-preserved t c =
    following_turn c.args.out.now c.loop-i.out c.stmt_into.new.out (all_placed (view_all_typed c.args.stmts.now) (notes_left c.args.left) c.args.left.declared) c.args.stmts.now c.loop-i.i
    c.index-stmts-i.result c.loop-i.now c.in_ok-now.now (search rules) (search rules) c.in_ok-now.ensures c.loop-i.invariant

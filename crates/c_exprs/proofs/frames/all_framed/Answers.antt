use Rattle.std.proofs.Common.{rules, Ok, ◌≡◌, ◌++◌, ◌∷◌, []}
use Rattle.std.proofs.lemmas.Result.{err_from_is_err_and}
use Rattle.c_operands.specs.Operands.{view_operand}
use Rattle.c_exprs.specs.Typing.{around}
use Rattle.c_exprs.proofs.Framing.{frame_turn, frame_fault}
use Rattle.c_exprs.proofs.frames.all_framed.Goals as goal

pub returns-in_err-whole : goal.returns-in_err-whole
returns-in_err-whole c =
    let fault = err_from_is_err_and c.from_residual.result c.from_residual.ensures.1 in
    let split : c.loop-frame.frames.items ≡ c.pop.new.self.items ++ c.in-Some.frame ∷ [] = search rules in
    rw (fault.1, fault.2)
    (frame_fault view_operand (around c.args.model c.args.sizes.now c.args.scope.now) c.loop-frame.frames.items c.pop.new.self.items c.in-Some.frame (Ok (view_operand c.loop-frame.whole)) _ _ split
    c.in_err-whole.ensures c.loop-frame.invariant)

pub loop-frame-preserved : goal.loop-frame-preserved
loop-frame-preserved c =
    frame_turn (around c.args.model c.args.sizes.now c.args.scope.now) c.loop-frame.frames.items c.pop.new.self.items c.in-Some.frame (Ok (view_operand c.loop-frame.whole)) (view_operand c.in_ok-whole.whole) _
    (search rules) c.in_ok-whole.ensures c.loop-frame.invariant

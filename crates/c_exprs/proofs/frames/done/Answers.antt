use Rattle.std.proofs.Common.{subst}
use Rattle.c_answers.specs.Answers.{Gives}
use Rattle.c_operands.specs.Operands.{view_operand}
use Rattle.c_exprs.specs.Typing.{around}
use Rattle.c_exprs.proofs.Framing.{fault_inside}
use Rattle.c_exprs.proofs.frames.done.Goals as goal

pub returns-in-Err : goal.returns-in-Err
returns-in-Err c = λ given h.
    fault_inside view_operand (around c.args.model c.args.sizes.now c.args.scope.now) c.args.frames.items given c.in-Err.stop (subst (λ r. Gives view_operand r given) c.in-Err.is h)

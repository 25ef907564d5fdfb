use Rattle.normal_steps.proofs.Jumping.{flag_done}
use Rattle.normal_steps.proofs.tests.push_flag.Goals as goal

pub returns : goal.returns
returns c =
    flag_done c.args.out.now c.push-3.new.out c.args.tests c.set_constant.new.out c.push.new.out c.new-outer.result c.push-2.new.out c.set_constant-2.new.out c.args.like.now.ty c.args.like.now.line c.args.slot
    c.in_ok-last.last c.in_ok-flag.flag c.in_ok-set_constant.ensures c.in_ok-push.ensures c.new-outer.ensures c.in_ok-push-2.ensures c.in_ok-set_constant-2.ensures c.in_ok-push-3.ensures c.in_ok-flag.ensures
    c.in_ok-last.ensures

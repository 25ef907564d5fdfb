use Rattle.std.proofs.Common.{subst, sym, drop, map}
use Rattle.linear_chains.specs.Sums.{Adding}
use Rattle.linear_chains.proofs.Forms.{adding_none, adding_more}
use Rattle.linear_chains.proofs.sums.opposite.Goals as goal

pub loop-class-init : goal.loop-class-init
loop-class-init c = subst (λ z. Adding c.args.left.now c.args.right.now z c.args.left.now c.args.right.now) (sym c.new-form.ensures.items) (adding_none c.args.left.now c.args.right.now c.requires.left c.requires.right)

pub loop-class-preserved : goal.loop-class-preserved
loop-class-preserved c =
    let f = drop c.loop-class.i c.args.left.now in
    let g = drop c.loop-class.j c.args.right.now in
    let f' = drop c.take_class-from_left.result.next c.args.left.now in
    let g' = drop c.take_class-from_right.result.next c.args.right.now in
    adding_more c.args.left.now c.args.right.now c.loop-class.form.items f g f' g' c.put_lacking.new.form.items c.in-Some.class c.take_class-from_left.result.times c.take_class-from_right.result.times c.in_ok-put_lacking.ensures c.loop-class.invariant c.in-Some.ensures c.take_class-from_left.ensures c.take_class-from_right.ensures

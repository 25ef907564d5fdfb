use Rattle.std.proofs.Common.{◌+◌, take, sym, subst}
use Rattle.branch_links.specs.Numbered.{At}
use Rattle.linear_prover.proofs.Deciding.{at_more}
use Rattle.linear_prover.proofs.prove.taken_at.Goals as goal

pub loop-i-preserved : goal.loop-i-preserved
loop-i-preserved c =
    let literals = c.args.literals.now in
    let places = c.args.places.now in
    let i = c.loop-i.i in
    subst (At literals (take (i + 1) places)) (sym c.in_ok-push.ensures.items) (at_more literals places c.loop-i.taken.items i c.loop-i-test.true c.if-place-literals.false c.loop-i.invariant)

use Rattle.std.proofs.Common.{◌≡◌, ◌<◌, ◌∙◌, ap, arith, length}
use Rattle.core_trees.specs.View.{view_loop}
use Rattle.loop_words.specs.Sets as spec
use Rattle.plain_runs.specs.Kept.{some_sets}
use Rattle.walk_live.specs.Bits.{bits}
use Rattle.walk_live.proofs.Bitwise.{bits_length}
use Rattle.loop_walks.proofs.Changing.{next_bit}
use Rattle.loop_walks.proofs.sets.local_changes.Goals as goal

pub loop-at-preserved : goal.loop-at-preserved
loop-at-preserved c k ss h =
    let f = spec.local_changes (view_loop c.args.l.now) ss in
    let within : c.loop-at.at < length c.args.text.now = c.loop-at-test.true in
    let is : c.in_ok-number.number ≡ c.loop-at.at = c.in_ok-number.ensures in
    let lt : c.in_ok-number.number < k = (let e = ap length h in let b = bits_length k (some_sets ss) in omega (arith, within, is, e, b)) in
    next_bit f c.loop-at.at c.loop-at.made.items c.push.new.self.items c.changes_local-bit.result (c.loop-at.invariant k ss h) (c.changes_local-bit.ensures k ss h lt ∙ ap f is) c.in_ok-push.ensures.items

pub returns : goal.returns
returns c k ss h =
    let is : c.loop-at.at ≡ k =
    (let e = ap length h in let b = bits_length k (some_sets ss) in omega (arith, c.loop-at-test.false, c.loop-at.auto.at-end, e, b)) in
    c.loop-at.invariant k ss h ∙ ap (λ n. bits n (spec.local_changes (view_loop c.args.l.now) ss)) is

use Rattle.std.proofs.Common.{◌≡◌, ◌||◌, length, ap, ◌∙◌, arith}
use Rattle.walk_live.specs.Bits.{bits}
use Rattle.walk_live.proofs.Bitwise.{next_bit, bits_length}
use Rattle.walk_live.proofs.sets.union.Goals as goal

pub loop-at-preserved : goal.loop-at-preserved
loop-at-preserved c k f g hf hg =
    next_bit (λ a b. a || b) k c.loop-at.at f g c.args.first.now c.args.second.now hf hg c.loop-at.made.items c.push.new.self.items c.is_any-bit.result _ _
    (let e = c.min-at-end.ensures in let l = c.loop-at-test.true in omega (arith, e, l)) c.is_any-bit.ensures (c.loop-at.invariant k f g hf hg) c.in_ok-push.ensures.items

pub returns : goal.returns
returns c k f g hf hg =
    let is : c.loop-at.at ≡ k =
    (let a = ap length hf in let b = ap length hg in let d = bits_length k f in let d' = bits_length k g in
    omega (arith, a, b, d, d', c.min-at-end.ensures, c.loop-at-test.false, c.loop-at.auto.at-end)) in
    c.loop-at.invariant k f g hf hg ∙ ap (λ m. bits m (λ n. f n || g n)) is

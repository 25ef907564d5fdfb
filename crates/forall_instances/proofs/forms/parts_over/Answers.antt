use Rattle.std.proofs.Common.{length, ap, arith}
use Rattle.std.specs.Int.{w128}
use Rattle.std.proofs.lemmas.Int.{to_z-of_z}
use Rattle.forall_instances.proofs.Parts.{over_more, over_fails, fit_more}
use Rattle.forall_instances.proofs.forms.parts_over.Goals as goal

pub loop-part-preserved : goal.loop-part-preserved
loop-part-preserved c =
    let b = to_z-of_z w128 c.args.by c.ranges.by in
    let q = c.in-Some-part_over.part in
    let p = c.in-Some.part in
    let made = c.loop-part.made.items in
    let made' = c.push.new.self.items in
    let over = rw b at c.in-Some-part_over.ensures in
    let so_far = rw b at c.loop-part.invariant.so_far in
    rw b (record {
      count = omega (arith, c.loop-part.invariant.count, ap length c.in-Some.ensures.steps.0);
      so_far = over_more c.args.by c.args.parts.items made c.loop-part.part-iterator.rest.items c.next.new.self.rest.items p so_far c.in-Some.ensures.steps.0 made' q c.in_ok-push-in-Some-part_over.ensures.items over.0;
      fit = fit_more c.args.by made made' q c.in_ok-push-in-Some-part_over.ensures.items c.loop-part.invariant.fit over.1;
    })

pub returns-in-None-part_over : goal.returns-in-None-part_over
returns-in-None-part_over c =
    let b = to_z-of_z w128 c.args.by c.ranges.by in
    let fails = rw b at c.in-None-part_over.ensures in
    let so_far = rw b at c.loop-part.invariant.so_far in
    over_fails c.args.by c.args.parts.items c.loop-part.made.items c.loop-part.part-iterator.rest.items c.next.new.self.rest.items c.in-Some.part so_far c.in-Some.ensures.steps.0 fails

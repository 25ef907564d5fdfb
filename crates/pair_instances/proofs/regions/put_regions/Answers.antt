use Rattle.std.proofs.Common.{◌≡◌, ◌<◌, ◌≤◌, ◌+◌, ◌-◌, get_or, length, arith, ap}
use Rattle.qed_terms.specs.declared.head.Shape.TheVariants as shape
use Rattle.term_sketches.specs.Sketches.{slots}
use Rattle.pair_instances.specs.Regions.{terms_of}
use Rattle.pair_instances.proofs.RegionLaws.{own, regions_more, regions_end}
use Rattle.pair_instances.proofs.regions.put_regions.Goals as goal

pub returns-then-count-at : goal.returns-then-count-at
returns-then-count-at c = λ us e.
    let shapes = c.args.shapes.now in
    let i = c.loop-shape.shape-index in
    let s = get_or shapes i shape.Cells in
    let n : c.terms_of-terms.result ≡ terms_of s = c.terms_of-terms.ensures in
    let few : length us - c.loop-shape.at < terms_of s = omega (arith, c.if-count-at.true, n, e) in
    regions_end us shapes i s c.loop-shape.at c.loop-shape.parts _ c.loop-shape-test.true (own shapes i c.loop-shape-test.true) few (c.loop-shape.invariant.rest us e)

pub loop-shape-preserved : goal.loop-shape-preserved
loop-shape-preserved c =
    let shapes = c.args.shapes.now in
    let i = c.loop-shape.shape-index in
    let s = get_or shapes i shape.Cells in
    let at = c.loop-shape.at in
    let n : c.terms_of-terms.result ≡ terms_of s = c.terms_of-terms.ensures in
    let within : at ≤ c.args.count = c.loop-shape.invariant.within in
    let there : at + c.terms_of-terms.result ≤ c.args.count = omega (arith, c.if-count-at.false, within) in
    record {
      within = there;
      rest = λ us e.
          let room : at + terms_of s ≤ length us = omega (arith, there, n, e) in
          regions_more us shapes i s at (at + c.terms_of-terms.result) c.loop-shape.parts c.push.new.self c.in_ok-part.part _ c.loop-shape-test.true (own shapes i c.loop-shape-test.true)
          room (ap (λ m. at + m) n) (c.in_ok-part.ensures (slots us)).drawn c.in_ok-push.ensures.ok (c.loop-shape.invariant.rest us e);
    }

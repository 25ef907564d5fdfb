use Rattle.std.proofs.Common.{◌≡◌, ◌<◌, map, length, get_or, sym, ◌∙◌, ap, arith}
use Rattle.std.proofs.lemmas.List.{get_or-map, length-map}
use Rattle.qed_terms.specs.Counts.{row_of}
use Rattle.qed_terms.proofs.Counting.{is_here, not_here, nowhere, further-zero}
use Rattle.qed_terms.proofs.fresh.place.Goals as goal

pub loop-at-init : goal.loop-at-init
loop-at-init c = further-zero _

pub returns-then-is_same : goal.returns-then-is_same
returns-then-is_same c =
    let counts = c.args.counts.now in
    let row = row_of c.index-counts-at.result in
    let k : c.loop-at.at < length (map row_of counts) = omega (arith, c.loop-at-test.true, length-map counts row_of) in
    let e : row ≡ get_or (map row_of counts) c.loop-at.at row = ap row_of c.index-counts-at.is ∙ sym (get_or-map row_of counts c.loop-at.at c.index-counts-at.result row c.loop-at-test.true) in
    sym (c.loop-at.invariant ∙ is_here (map row_of counts) c.loop-at.at c.args.base.now row k e (ap (λ n. n.base) c.index-counts-at.is ∙ c.is_same.ensures.0 c.if-is_same.true))

pub loop-at-preserved : goal.loop-at-preserved
loop-at-preserved c =
    let counts = c.args.counts.now in
    let row = row_of c.index-counts-at.result in
    let k : c.loop-at.at < length (map row_of counts) = omega (arith, c.loop-at-test.true, length-map counts row_of) in
    let e : row ≡ get_or (map row_of counts) c.loop-at.at row = ap row_of c.index-counts-at.is ∙ sym (get_or-map row_of counts c.loop-at.at c.index-counts-at.result row c.loop-at-test.true) in
    c.loop-at.invariant ∙ not_here (map row_of counts) c.loop-at.at c.args.base.now row k e (λ p. let z = c.is_same.ensures.1 (sym (ap (λ n. n.base) c.index-counts-at.is) ∙ p) in absurd cc)

pub returns : goal.returns
returns c = sym (c.loop-at.invariant ∙ nowhere (map row_of c.args.counts.now) c.loop-at.at c.args.base.now (omega (arith, c.loop-at-test.false, length-map c.args.counts.now row_of)))

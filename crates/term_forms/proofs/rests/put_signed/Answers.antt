use Rattle.term_forms.specs.Forms.{tree_of, count_of}
use Rattle.term_forms.proofs.Signed.{unfit_at, put_more, fit_more, within_more}
use Rattle.term_forms.proofs.rests.put_signed.Goals as goal

pub returns-in-None : goal.returns-in-None
returns-in-None c = unfit_at (tree_of c.args.table.now) c.args.plus c.args.parts.now c.loop-part.part-index c.loop-part-test.true c.in-None.ensures

pub loop-part-preserved : goal.loop-part-preserved
loop-part-preserved c =
    let tree = tree_of c.args.table.now in
    let told = c.in-Some.ensures in
    let push = c.in_ok-push-in-Some.ensures.items in
    record {
      put = put_more tree c.args.plus (count_of c.args.table.now) c.args.parts.now c.args.into.now.items c.loop-part.into.items c.push.new.self.items c.loop-part.part-index c.in-Some.part c.loop-part-test.true push c.loop-part.invariant.put told.0;
      within = λ w. within_more (count_of c.args.table.now) c.loop-part.into.items c.push.new.self.items c.in-Some.part push told.1 (c.loop-part.invariant.within w);
      fit = fit_more tree c.args.plus c.args.parts.now c.loop-part.part-index c.in-Some.part c.loop-part-test.true c.loop-part.invariant.fit told.0 told.2;
    }

use Rattle.std.proofs.Common.{arith}
use Rattle.formula_sets.proofs.Firsts.{one_more_there, one_more_first}
use Rattle.formula_sets.proofs.sets.first_ones.Goals as goal

pub loop-formula-preserved : goal.loop-formula-preserved
loop-formula-preserved c =
    let old = c.loop-formula.set.keys.keys in
    let fs = c.args.formulas.now in
    let i = c.loop-formula.formula-index in
    let f = c.formula-item.result in
    record {
      there = one_more_there old c.insert.new.self.keys.keys fs i f (omega arith) c.formula-item.is c.loop-formula.invariant.there c.in_ok-is_new.ensures.has;
      firsts = one_more_first old c.loop-formula.firsts.items c.push.new.self.items fs i f c.in_ok-is_new.is_new (omega arith) c.formula-item.is c.loop-formula.invariant.there c.loop-formula.invariant.firsts
          c.in_ok-is_new.ensures.new c.in_ok-push.ensures.items;
    }

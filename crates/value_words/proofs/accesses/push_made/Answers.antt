use Rattle.value_words.proofs.Adding.{one_before}
use Rattle.value_words.proofs.accesses.push_made.Goals as goal

pub returns : goal.returns
returns c = λ xs ts.
    one_before _ _ _ _ _ _ _ (c.in_ok-push_known.ensures _ (c.at_most-low.ensures _ _ c.number.ensures (c.load.ensures xs ts))) (c.push_known-2.ensures _ (c.less-high.ensures _ _ (c.load-2.ensures xs ts) c.count.ensures))

use Rattle.qed_terms.specs.View.{term_tree}
use Rattle.value_words.specs.View.{view_sizes}
use Rattle.walk_frames.proofs.Moving.{one_set}
use Rattle.walk_frames.proofs.drops.drop_one.Goals as goal

pub returns-in_ok-set : goal.returns-in_ok-set
returns-in_ok-set c m bases gs =
    one_set m (view_sizes c.args.sizes) c.args.temporary c.in_ok-slot.slot c.args.is_unused (term_tree c.number.result) c.if-is_unused.true c.in_ok-slot.ensures c.number.ensures c.in_ok-set.ensures

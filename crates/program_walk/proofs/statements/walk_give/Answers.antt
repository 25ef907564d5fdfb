use Rattle.qed_terms.specs.View.{term_tree}
use Rattle.value_words.specs.View.{view_sizes}
use Rattle.program_walk.proofs.Single.{give_after}
use Rattle.program_walk.proofs.statements.walk_give.Goals as goal

pub returns : goal.returns
returns g c first m k closed =
    give_after (c.in_ok-made.ensures first m k closed) (view_sizes c.sizes_in-sizes.result) c.sizes_in-sizes.ensures (term_tree c.in_ok-term.term) c.in_ok-term.ensures c.args.frame.temporaries c.args.blocks c.in_ok-slot.slot c.in_ok-slot.ensures c.in_ok-set.ensures
    (λ gs. c.in_ok-drop_all.ensures m c.args.frame.bases.now gs) c.in_ok-leave.ensures

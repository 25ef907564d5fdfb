use Rattle.qed_terms.specs.View.{term_tree}
use Rattle.std.proofs.Common.{refl}
use Rattle.plain_states.specs.Slots.{sizes_of}
use Rattle.walk_frames.specs.View.{facts_in, variables_in}
use Rattle.program_walk.proofs.Single.{start_after}
use Rattle.program_walk.proofs.statements.walk_start.Goals as goal

pub returns : goal.returns
returns g c first m k closed =
    start_after (c.in_ok-made.ensures first m k closed) (sizes_of (facts_in c.args.frame) (variables_in c.args.frame)) refl (term_tree c.in_ok-term.term) c.in_ok-term.ensures c.args.variable c.in_ok-number.number c.in_ok-number.ensures
    (λ u is gs. c.in_ok-set_to.ensures m c.args.frame.bases.now u gs is)

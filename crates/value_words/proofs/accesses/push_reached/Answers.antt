use Rattle.program_trees.specs.View.{view_facts}
use Rattle.value_words.specs.OverSlots.{reading_of}
use Rattle.value_words.proofs.Adding.{three_push}
use Rattle.value_words.proofs.accesses.push_reached.Goals as goal

pub returns : goal.returns
returns c = λ xs ys ts.
    three_push _ _ _ _ _ _ _ _ _ _ (c.in_ok-push_indices.ensures (view_facts c.args.facts.now) (reading_of (view_facts c.args.facts.now) xs ts)) (c.in_ok-push_access.ensures xs ts) (c.push_facts.ensures xs ts)

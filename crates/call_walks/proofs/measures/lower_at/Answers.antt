use Rattle.std.proofs.Common.{◌≡◌, ◌∙◌}
use Rattle.call_walks.specs.Claimed.{lower_tree}
use Rattle.call_walks.proofs.measures.lower_at.Goals as goal

pub returns : goal.returns
returns g c k = c.in_ok-made.ensures ∙ (λ i. lower_tree (c.in_ok-old.ensures k i) (c.in_ok-now.ensures i))

use Rattle.std.proofs.Common.{◌||◌}
use Rattle.walk_live.proofs.singles.before_branch.Goals as goal

pub returns : goal.returns
returns c k f g hf hg = c.with_use.ensures k (λ n. f n || g n) (c.in_ok-set.ensures k f g hf hg)

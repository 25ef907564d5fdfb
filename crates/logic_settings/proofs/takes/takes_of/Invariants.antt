use Rattle.std.proofs.Common.{◌≡◌, ◌++◌}
use Rattle.program_trees.specs.View.{view_facts}
use Rattle.logic_settings.specs.Found as spec
use Rattle.logic_settings.proofs.Taking_all.{TakesFrom}
use Rattle.logic_settings.proofs.takes.takes_of.Given as goal

-- those so far, and those to come
abbrev pub invariant-loop-at : goal.invariant-loop-at
invariant-loop-at l = l.made ++ TakesFrom (view_facts l.facts) l.known l.at ≡ spec.takes_of (view_facts l.facts) l.known

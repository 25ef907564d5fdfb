use Rattle.std.proofs.Common.{◌≡◌, drop}
use Rattle.checked_trees.specs.View.{view_steps}
use Rattle.plain_words.specs.Temporaries.{greater, temporaries_in}
use Rattle.plain_sources.proofs.temporaries.+temporaries.Given as goal

abbrev pub invariant-raise_by_all-loop-step : goal.invariant-raise_by_all-loop-step
invariant-raise_by_all-loop-step l = greater l.greatest (temporaries_in (view_steps (drop l.step-index l.steps))) ≡ greater l.fn.most (temporaries_in (view_steps l.steps))

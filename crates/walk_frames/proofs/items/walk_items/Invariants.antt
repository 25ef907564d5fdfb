use Rattle.std.proofs.Common.{◌≡◌, ℕ, List, length}
use Rattle.value_words.specs.View.{view_items}
use Rattle.step_walks.specs.View.{view_state}
use Rattle.step_walks.proofs.Along.{Along}
use Rattle.walk_frames.specs.Evaluated.{made_step}
use Rattle.walk_frames.proofs.items.walk_items.Given as goal

abbrev pub invariant-loop-item : goal.invariant-loop-item
invariant-loop-item g l = record {
  count : l.item-iterator.rest.len ≡ length l.item-iterator.rest.items;
  along : (first : g.row.S.Denot) (bases : List (List ℕ)) → Along bases (view_state l.initial.state) (view_state l.state) (g.S.GoalSink.fits first l.initial.sink) (g.S.GoalSink.fits first l.sink) (made_step (view_items l.item-iterator.rest.items)) (made_step (view_items l.fn.items.items));
}

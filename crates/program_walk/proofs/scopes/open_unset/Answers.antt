use Rattle.std.proofs.Common.{rules, ◌≡◌, map, ◌∙◌}
use Rattle.qed_terms.specs.View.{term_tree}
use Rattle.walk_words.specs.View.{view_change}
use Rattle.step_walks.specs.View.{view_state}
use Rattle.step_walks.specs.Walks.{now_changed}
use Rattle.program_walk.proofs.Opening.{unset_walks}
use Rattle.program_walk.proofs.scopes.open_unset.Goals as goal

pub returns : goal.returns
returns c m gs =
    let bases : c.as_slice.result.now ≡ c.args.frame.bases.now = search (rules, c.as_slice.ensures) in
    let changes : c.as_slice-2.result.now ≡ c.in_ok-changes.changes.items = search (rules, c.as_slice-2.ensures.value) in
    let changed = c.in_ok-change.ensures ∙ (λ i. now_changed (bases i) (view_state c.args.state.now) (map view_change (changes i))) in
    unset_walks m c.args.variable c.in_ok-value.value c.in_ok-flag.flag (map view_change c.in_ok-changes.changes.items) (term_tree c.number.result) c.in_ok-value.ensures c.in_ok-flag.ensures c.in_ok-changes.ensures
    c.number.ensures changed c.in_ok-set.ensures

use Rattle.std.proofs.Common.{rules, ◌≡◌, List, map, ap, ◌∙◌}
use Rattle.walk_words.specs.View.{view_change}
use Rattle.step_walks.specs.View.{view_state}
use Rattle.step_walks.specs.Walks.{now_changed}
use Rattle.call_walks.proofs.Calling.{changed_by}
use Rattle.call_walks.proofs.behind.apply.Goals as goal

pub returns : goal.returns
returns c cs gs e =
    let names : c.as_slice-bases.result.now ≡ c.args.frame.bases.now = search (rules, c.as_slice-bases.ensures) in
    let items : c.as_slice-changes.result.now ≡ c.args.changes.items = search (rules, c.as_slice-changes.ensures.value) in
    changed_by cs (ap (map view_change) items ∙ e)
    (c.in_ok-change.ensures ∙ ap (λ bases. now_changed bases (view_state c.args.state.now) (map view_change c.as_slice-changes.result.now)) names)

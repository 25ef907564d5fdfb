use Rattle.std.proofs.Common.{rules, ◌≡◌, ◌∙◌}
use Rattle.checked_trees.specs.View.{view_steps}
use Rattle.program_steps.specs.Temporaries.{all_live}
use Rattle.walk_live.proofs.behind.in_arms.Goals as goal

pub returns-clause-first : goal.returns-clause-first
returns-clause-first c k os f ho ha =
    let one : c.in_ok-copy_set.field-0.items ≡ c.args.after.now = search (rules, c.in_ok-copy_set.ensures) in
    let two : c.in_ok-copy_set-2.field-0.items ≡ c.args.after.now = search (rules, c.in_ok-copy_set-2.ensures) in
    let first = c.in_ok-in_first.ensures k os f ho (one ∙ ha) in
    let second = c.in_ok-in_second.ensures k os f ho (two ∙ ha) in
    let other : c.as_slice.result.now ≡ c.in_ok-in_second.in_second.items = search (rules, c.as_slice.ensures.value) in
    let own : c.as_slice-2.result.now ≡ c.in_ok-in_first.in_first.items = search (rules, c.as_slice-2.ensures.value) in
    c.in_ok-first.ensures k (all_live (view_steps c.args.second.now) os f) (all_live (view_steps c.args.first.now) os f) (other ∙ second) (own ∙ first)

pub returns-clause-second : goal.returns-clause-second
returns-clause-second c k os f ho ha =
    let one : c.in_ok-copy_set.field-0.items ≡ c.args.after.now = search (rules, c.in_ok-copy_set.ensures) in
    let two : c.in_ok-copy_set-2.field-0.items ≡ c.args.after.now = search (rules, c.in_ok-copy_set-2.ensures) in
    let first = c.in_ok-in_first.ensures k os f ho (one ∙ ha) in
    let second = c.in_ok-in_second.ensures k os f ho (two ∙ ha) in
    let other : c.as_slice-3.result.now ≡ c.in_ok-in_first.in_first.items = search (rules, c.as_slice-3.ensures.value) in
    let own : c.as_slice-4.result.now ≡ c.in_ok-in_second.in_second.items = search (rules, c.as_slice-4.ensures.value) in
    c.in_ok-second.ensures k (all_live (view_steps c.args.first.now) os f) (all_live (view_steps c.args.second.now) os f) (other ∙ first) (own ∙ second)

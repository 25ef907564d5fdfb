use Rattle.std.proofs.Common.{rules, ◌≡◌, ◌||◌, ◌∙◌}
use Rattle.typed_prog.specs.View.{view_value}
use Rattle.program_steps.specs.Temporaries.{uses}
use Rattle.walk_live.proofs.behind.unused_in_arm.Goals as goal

pub returns : goal.returns
returns c k f g hf hg =
    let copied : c.in_ok-copy_set.field-0.items ≡ c.args.other.now = search (rules, c.in_ok-copy_set.ensures) in
    let used = c.with_use-used.ensures k f (copied ∙ hf) in
    let seen : c.as_slice.result.now ≡ c.with_use-used.result.items = search (rules, c.as_slice.ensures.value) in
    let made : c.from_vec.result ≡ c.in_ok-made.made.items = search (rules, c.from_vec.ensures) in
    made ∙ c.in_ok-made.ensures k (λ n. uses (view_value c.args.test.now) n || f n) g (seen ∙ used) hg

use Rattle.std.proofs.Common.{sym, ◌∙◌}
use Rattle.goal_text.specs.Views.{known_of, check_of}
use Rattle.goal_text.proofs.laws.through_text.Goals as goal

pub returns-in-Ok : goal.returns-in-Ok
returns-in-Ok c =
    let g = c.args.goal.now in
    c.in-Ok.ensures.only (known_of g) (check_of g) c.requires c.in_ok-text.ensures.held (sym (c.bytes.ensures ∙ c.in_ok-text.ensures.text))

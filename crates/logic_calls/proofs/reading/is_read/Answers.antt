use Rattle.std.proofs.Common.{◌≡◌, ◌+◌, suc, ap, ◌∙◌, arith}
use Rattle.acsl_encode.specs.Told as told
use Rattle.acsl_expand.specs.Expansion.{view_all}
use Rattle.logic_trees.specs.Asking.{asks, told_in}
use Rattle.logic_calls.proofs.reading.is_read.Goals as goal

pub returns : goal.returns
returns c =
    let more : c.args.function + 1 ≡ suc c.args.function = omega arith in
    c.told_at.ensures ∙ ap (λ xs. told_in xs c.args.function) c.as_slice.ensures.value ∙ c.in_ok-told.ensures c.args.function
    ∙ ap (λ n. told.reads_first (asks c.args.globals c.args.asked) (view_all c.args.definitions.now) n c.args.function) more

use Rattle.std.proofs.Common.{ap, ◌∙◌, take, drop}
use Rattle.std.proofs.lemmas.List.{take_rest}
use Rattle.goal_words.specs.Bytes.{front, after}
use Rattle.goal_words.proofs.bytes.word.Goals as goal

pub returns-clause-front : goal.returns-clause-front
unfolding front
returns-clause-front c = ap (λ n. take n c.args.bytes.now) c.word_len-len.ensures.value

pub returns-clause-after : goal.returns-clause-after
unfolding after
returns-clause-after c = take_rest c.args.bytes.now c.word_len-len.result ∙ ap (λ n. drop n c.args.bytes.now) c.word_len-len.ensures.value

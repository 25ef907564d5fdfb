use Rattle.value_words.proofs.accesses.push_comparing.Goals as goal

pub returns : goal.returns
returns c = λ p xs ts. c.push_asked.ensures _ (c.are_comparable.ensures p xs ts)

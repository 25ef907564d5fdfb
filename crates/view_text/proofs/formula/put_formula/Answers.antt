use Rattle.view_text.specs.Text.{formula_text}
use Rattle.view_text.proofs.Words.{word_more, word_last}
use Rattle.view_text.proofs.formula.put_formula.Goals as goal

pub loop-word-preserved : goal.loop-word-preserved
loop-word-preserved c =
    word_more c.loop-word.rest.now c.in-Some.word.now c.in-Some.behind.now _ _ _ c.loop-word.column c.in_ok-column.column c.in-Some.ensures c.in_ok-column.ensures.put c.in_ok-column.ensures.column c.loop-word.invariant

pub returns : goal.returns
unfolding formula_text
returns c = word_last c.loop-word.rest.now _ _ _ c.loop-word.column c.in_default.ensures c.in_ok-put_word.ensures.put c.loop-word.invariant

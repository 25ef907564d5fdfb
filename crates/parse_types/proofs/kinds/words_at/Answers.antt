use Rattle.std.proofs.Common.{sym}
use Rattle.parse_types.proofs.Reading.{words_none, words_stop, words_take, words_end, words_turn}
use Rattle.parse_types.proofs.kinds.words_at.Goals as goal

pub returns-in_default-kind_word-clause-words : goal.returns-in_default-kind_word-clause-words
returns-in_default-kind_word-clause-words c =
    (words_end _ _ _ c.loop-first.invariant.0 c.loop-first.invariant.1
    (words_stop _ _ _ c.in-Some.ensures.cases.0 (sym c.in_default-kind_word.ensures))).0

pub returns-in_default-kind_word-clause-rest : goal.returns-in_default-kind_word-clause-rest
returns-in_default-kind_word-clause-rest c =
    (words_end _ _ _ c.loop-first.invariant.0 c.loop-first.invariant.1
    (words_stop _ _ _ c.in-Some.ensures.cases.0 (sym c.in_default-kind_word.ensures))).1

pub loop-first-preserved : goal.loop-first-preserved
loop-first-preserved c =
    words_turn _ _ _ _ _ c.in-Some-kind_word.word c.loop-first.invariant.0 c.loop-first.invariant.1
    (words_take _ _ _ c.in-Some-kind_word.word c.in-Some.ensures.cases.0 (sym c.in-Some-kind_word.ensures)) c.in_ok-push.ensures.items

pub returns-clause-words : goal.returns-clause-words
returns-clause-words c =
    (words_end _ _ _ c.loop-first.invariant.0 c.loop-first.invariant.1 (words_none _ c.in_default.ensures.cases)).0

pub returns-clause-rest : goal.returns-clause-rest
returns-clause-rest c =
    (words_end _ _ _ c.loop-first.invariant.0 c.loop-first.invariant.1 (words_none _ c.in_default.ensures.cases)).1

use Rattle.std.proofs.Common.{◌≡◌, ◌++◌, length}
use Rattle.view_text.specs.Text.{filled, words}
use Rattle.view_text.proofs.formula.put_formula.Given as goal

-- what is put, and the words to come, are the formula
abbrev pub invariant-loop-word : goal.invariant-loop-word
invariant-loop-word l = l.text.items ++ filled l.column (words l.rest) ≡ l.initial.text.items ++ filled 100 (words l.formula)

abbrev pub decreases-loop-word : goal.decreases-loop-word
decreases-loop-word l = length l.rest

use Rattle.std.proofs.Common.{◌≡◌, ◌-◌, []}
use Rattle.goal_words.specs.Kinds.{cell_word}
use Rattle.goal_text.specs.Reader.{repeat, one_more}
use Rattle.goal_text.proofs.layout.cells.Given as goal

-- from here on the same is read
abbrev pub invariant-loop-turn : goal.invariant-loop-turn
invariant-loop-turn l = repeat (one_more cell_word) (l.turn-end - l.turn) l.cells l.rest ≡ repeat (one_more cell_word) l.turn-end [] l.bytes

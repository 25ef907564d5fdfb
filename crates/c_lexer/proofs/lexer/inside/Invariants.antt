use Rattle.std.proofs.Common.{◌≡◌, ◌≤◌, ◌<◌, ◌+◌, ◌++◌, ◌^◌, false, true, List, length}
use Rattle.c_lexer.specs.Tokens.{Item, most_tokens}
use Rattle.c_lexer.specs.Steps.{all_items, answer_behind}
use Rattle.c_lexer.proofs.lexer.inside.Given as goal

-- the tokens so far and the items from here on give what the whole gives
abbrev pub invariant-loop-rest : goal.invariant-loop-rest
invariant-loop-rest l = record {
  lines : l.line + length l.rest < 2 ^ 32;
  few : length l.tokens ≤ most_tokens;
  all : (more : List Item) → answer_behind l.tokens (all_items true l.line l.fresh l.rest ++ more) ≡ answer_behind l.fn.tokens (all_items true l.start false l.bytes ++ more);
}

abbrev pub decreases-loop-rest : goal.decreases-loop-rest
decreases-loop-rest l = length l.rest

use Rattle.std.proofs.Common.{◌≡◌, ◌≤◌, ◌<◌, ◌+◌, ◌^◌, false, length}
use Rattle.c_lexer.specs.Tokens.{most_tokens, tokens_of}
use Rattle.c_lexer.specs.Steps.{all_items, answer_behind}
use Rattle.c_lexer.proofs.lexer.lex.Given as goal

-- the tokens so far and the items from here on give the answer
abbrev pub invariant-loop-rest : goal.invariant-loop-rest
invariant-loop-rest l = record {
  lines : l.line + length l.rest < 2 ^ 32;
  few : length l.tokens ≤ most_tokens;
  all : answer_behind l.tokens (all_items false l.line l.fresh l.rest) ≡ tokens_of l.text;
}

abbrev pub decreases-loop-rest : goal.decreases-loop-rest
decreases-loop-rest l = length l.rest

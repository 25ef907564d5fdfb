use Rattle.std.proofs.Common.{◌≡◌, ◌<◌, ◌+◌, ◌^◌, length}
use Rattle.c_lexer.specs.Tokens.{line_after, fresh_after}
use Rattle.c_lexer.proofs.lexer.past.Given as goal

abbrev pub invariant-loop-rest : goal.invariant-loop-rest
invariant-loop-rest l = record {
  few : l.line + length l.rest < 2 ^ 32;
  lines : line_after l.line l.rest ≡ line_after l.fn.line l.bytes;
  freshness : fresh_after l.fresh l.rest ≡ fresh_after l.fn.fresh l.bytes;
}

abbrev pub decreases-loop-rest : goal.decreases-loop-rest
decreases-loop-rest l = length l.rest

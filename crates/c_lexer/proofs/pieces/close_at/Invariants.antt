use Rattle.std.proofs.Common.{◌≡◌, ◌+◌, length}
use Rattle.std.specs.Option.{option_map}
use Rattle.c_lexer.specs.Pieces.{close_at}
use Rattle.c_lexer.proofs.pieces.close_at.Given as goal

-- what is found from here on comes behind the bytes that are past
abbrev pub invariant-loop-rest : goal.invariant-loop-rest
invariant-loop-rest l = record {
  long : l.len + length l.rest ≡ length l.bytes;
  same : option_map (λ n. l.len + n) (close_at l.rest) ≡ close_at l.bytes;
}

abbrev pub decreases-loop-rest : goal.decreases-loop-rest
decreases-loop-rest l = length l.rest

use Rattle.std.proofs.Common.{◌≡◌, length}
use Rattle.c_lexer.specs.Pieces.{digit_follows}
use Rattle.c_lexer.proofs.pieces.digit_follows.Given as goal

abbrev pub invariant-loop-rest : goal.invariant-loop-rest
invariant-loop-rest l = digit_follows l.annotated l.left l.rest ≡ digit_follows l.annotated 0 l.bytes

abbrev pub decreases-loop-rest : goal.decreases-loop-rest
decreases-loop-rest l = length l.rest

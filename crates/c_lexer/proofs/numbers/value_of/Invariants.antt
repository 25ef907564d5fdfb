use Rattle.std.proofs.Common.{◌≡◌, ◌<◌, ◌^◌, true, length}
use Rattle.std.specs.List.{list_all}
use Rattle.c_lexer.specs.Bytes.{is_hex}
use Rattle.c_lexer.specs.Lexemes.{value, value_from}
use Rattle.c_lexer.proofs.numbers.value_of.Given as goal

abbrev pub invariant-loop-rest : goal.invariant-loop-rest
invariant-loop-rest l = record {
  digits : list_all is_hex l.rest ≡ true;
  fits : l.value < 2 ^ 128;
  same : value_from l.radix l.value l.rest ≡ value l.radix l.digits;
}

abbrev pub decreases-loop-rest : goal.decreases-loop-rest
decreases-loop-rest l = length l.rest

use Rattle.std.proofs.Common.{◌-◌, length, arith}
use Rattle.parse_stmts.proofs.Laws.{block_sound, block_there}
use Rattle.parse_stmts.proofs.exact.block_is_exact.Goals as goal

pub returns : goal.returns
returns c = λ types end. record {
  sound = λ ts b rest le h. block_sound types end (end - length ts) ts b rest (omega (arith, le)) h;
  complete = λ ts le xs b rest is s follows. block_there types end ts le xs b rest is s;
}
